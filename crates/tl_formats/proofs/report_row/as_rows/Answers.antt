use Rattle.std.proofs.Common.{◌≡◌, ◌<◌, map, sym, ap, subst, ◌∙◌}
use Rattle.std.specs.List.{All}
use Rattle.std.proofs.lemmas.List.{take_all}
use Rattle.std.proofs.lemmas.List.Elements.{All-map}
use Rattle.tl_beats.specs.declared.Row.{Row}
use Rattle.tl_formats.specs.Merging.{as_row}
use Rattle.tl_formats.proofs.report_row.as_rows.Goals as goal

pub returns-clause-links : goal.returns-clause-links
returns-clause-links c count all =
    let is : c.loop-row.made.items ≡ map as_row c.args.rows.now = c.loop-row.invariant ∙ ap (map as_row) (take_all c.loop-row.row-index c.args.rows.now c.loop-row-test.false) in
    subst (All (λ (row : Row). row.link < count)) (sym is) (All-map (λ (row : Row). row.link < count) as_row c.args.rows.now all)
