use Rattle.std.proofs.Common.{sym, ap, ◌∙◌}
use Rattle.std.specs.Prelude.{not}
use Rattle.tl_definitions.specs.Heads.{before_on, is_head}
use Rattle.tl_rows.proofs.link.LinkOrigins.is_unfinished.Goals as goal

pub returns : goal.returns
returns c exponent links before is at =
    ap not (c.is_head.ensures exponent links before is at ∙ ap (λ d. is_head d (before_on c.args.link c.args.chan before)) (sym is))
