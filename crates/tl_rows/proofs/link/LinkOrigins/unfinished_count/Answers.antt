use Rattle.std.proofs.Common.{◌≡◌, ap, ◌∙◌}
use Rattle.tl_definitions.specs.OpenTables.{one_if}
use Rattle.tl_rows.proofs.CountLaws.{five}
use Rattle.tl_rows.proofs.link.LinkOrigins.unfinished_count.Goals as goal

pub returns : goal.returns
returns c exponent links before is at =
    five _ _ _ _ _ _ _ _ _ _ (c.one_if.ensures.exact ∙ ap one_if (c.is_unfinished-requests.ensures exponent links before is at))
    (c.one_if-2.ensures.exact ∙ ap one_if (c.is_unfinished-probes.ensures exponent links before is at))
    (c.one_if-3.ensures.exact ∙ ap one_if (c.is_unfinished-releases.ensures exponent links before is at))
    (c.one_if-4.ensures.exact ∙ ap one_if (c.is_unfinished-replies.ensures exponent links before is at))
    (c.one_if-5.ensures.exact ∙ ap one_if (c.is_unfinished-acks.ensures exponent links before is at))
