-- Streams of some managers' fragments, beside one of all.
use Rattle.std.proofs.Common.{[], refl}
use Rattle.tl_stream.proofs.LawLemmas.{streams_tell_the_report}
use Rattle.tl_formats.specs.Parts.{own_fragments}
use Rattle.tl_formats.proofs.PartLaws.{parts_are_apart}
use Rattle.tl_commands.specs.Streams.{StreamsAreApart}

pub streams_are_apart : StreamsAreApart
streams_are_apart topo fs regions share whole part is other =
    parts_are_apart topo fs regions [] share whole part (streams_tell_the_report topo regions fs whole is.present is.rises is.members)
    (record {
      areas = regions;
      same = λ manager t. refl;
      report = streams_tell_the_report topo regions (own_fragments topo share fs) part other.present other.rises other.members;
    })
