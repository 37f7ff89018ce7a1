use Rattle.std.proofs.Common.{sym, ◌∙◌}
use Rattle.tl_midway.proofs.HeadRowLaws.{found_stands}
use Rattle.tl_midway.proofs.known_pasts.KnownPasts.past.Goals as goal

pub returns : goal.returns
returns c m start before stands =
    found_stands m start before c.args.self.now stands c.args.at.now c.unwrap-place.result c.index.result.now (sym c.place.ensures ∙ c.unwrap-place.ensures) c.requires.own c.index.ensures
