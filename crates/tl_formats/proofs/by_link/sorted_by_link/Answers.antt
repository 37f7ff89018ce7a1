use Rattle.std.proofs.Common.{◌≡◌, ◌<◌, rules}
use Rattle.std.proofs.lemmas.Fn.{always_returns_same}
use Rattle.std.proofs.lemmas.List.Sorted.{All-permutation, IsNonDecreasingBy-from_sort_by_key}
use Rattle.tl_formats.proofs.MergeLaws.{sorted_by_link}
use Rattle.tl_formats.proofs.by_link.sorted_by_link.Goals as goal

pub returns-clause-sorted : goal.returns-clause-sorted
returns-clause-sorted g c =
    sorted_by_link g.T.ReportLine.row_link c.args.rows.items c.sort_by_key.new.self.items
    (IsNonDecreasingBy-from_sort_by_key g.T.ReportLine.row_link _ c.in_ok-sort_by_key.ensures.sorted (λ a r q k. search rules))
    (c.sort_by_key.ensures.stable g.T.ReportLine.row_link (always_returns_same _ (λ a r. r ≡ g.T.ReportLine.row_link a.0.now) _ (λ a r q k. search rules)))

pub returns-clause-links : goal.returns-clause-links
returns-clause-links g c =
    λ count all. All-permutation (λ row. g.T.ReportLine.row_link row < count) c.args.rows.items c.sort_by_key.new.self.items c.sort_by_key.ensures.permutation all
