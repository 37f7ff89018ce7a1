use Rattle.std.proofs.Common.{refl}
use Rattle.tl_midway.proofs.KnownLaws.{starts}
use Rattle.tl_midway.proofs.known_link.KnownLink.new.Goals as goal

pub returns : goal.returns
returns c = starts c.args.link.now c.args.exponent
    (record {
      exponent = c.args.exponent;
      sources = c.args.link.now.sources;
      requests = c.new.result;
      releases = c.new-2.result;
      sinks = c.new-3.result;
      granted = c.new-4.result;
      probes = c.new-5.result;
      bounds = c.new-6.result;
    })
    refl refl c.new.ensures.entries c.new-2.ensures.entries c.new-3.ensures c.new-4.ensures.entries c.new-5.ensures c.new-6.ensures
    c.new.ensures.counted c.new-2.ensures.counted c.new-4.ensures.counted
