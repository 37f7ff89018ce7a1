use Rattle.std.proofs.Common.{sym, ap, ◌∙◌}
use Rattle.std.specs.Option.{option_copied}
use Rattle.tl_show.specs.Lines.{IsSoundTold}
use Rattle.tl_show.specs.Shown.{is_row}
use Rattle.tl_show.proofs.KeptLaws.{all_rec, found_kept}
use Rattle.tl_show.proofs.shown.lines.Goals as goal

pub told_lines-requires : goal.told_lines-requires
told_lines-requires c =
    found_kept (IsSoundTold c.args.topo.now) (is_row c.args.row.now) c.args.told.now c.in-Some.own.now (all_rec (IsSoundTold c.args.topo.now) c.args.told.now c.requires)
    (sym c.told_of.ensures ∙ ap option_copied c.in-Some.is)
