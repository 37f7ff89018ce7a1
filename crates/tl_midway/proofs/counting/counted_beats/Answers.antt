use Rattle.std.proofs.Common.{◌≡◌, ◌≤◌, ◌+◌, ◌++◌, ℕ, List, [], Some, length, take, take_all, get_or, sym, ap, subst, ◌∙◌, arith}
use Rattle.std.specs.Prelude.{slice_get}
use Rattle.std.specs.List.{All, Contains}
use Rattle.std.specs.List.Sorted.{IsStrictlySortedBy}
use Rattle.std.specs.Ordering.{nat_cmp}
use Rattle.std.proofs.lemmas.List.Elements.{Contains-get_or}
use Rattle.std.proofs.lemmas.Option.{slice_get-get_or}
use Rattle.tl_topology.specs.Regions.{areas_of}
use Rattle.tl_beats.specs.declared.Placed.{Placed}
use Rattle.tl_definitions.specs.Captures.{manager_beats}
use Rattle.tl_definitions.specs.Managers.{declared_links, manager_at}
use Rattle.tl_definitions.specs.Positions.{beats_of_all, clients_of}
use Rattle.tl_client_rules.proofs.ClientsLaws.{clients_rise}
use Rattle.tl_check.specs.LinkByLink.{of_each, one_after_other}
use Rattle.tl_check.specs.Managers.{IsPlain}
use Rattle.tl_check.proofs.LinkByLink.{link_more}
use Rattle.tl_midway.specs.Counts.{counted}
use Rattle.tl_midway.specs.Counted.{HasCounts, asked_of}
use Rattle.tl_midway.specs.Judged.{HasJudged}
use Rattle.tl_midway.proofs.CountsLaws.{none_yet}
use Rattle.tl_midway.proofs.JudgedLaws.{gone_over, counted_on, of_one_link, own_beats, whole_rows, plain_rows, plain_counts}
use Rattle.tl_midway.proofs.Results.{on_ok}
use Rattle.tl_midway.proofs.counting.counted_beats.Goals as goal

-- ---- all links together

pub walk-requires : goal.walk-requires
walk-requires c = subst (IsStrictlySortedBy nat_cmp) (sym (c.deref-then-not-are_plain.ensures.value ∙ c.in_ok-links.ensures)) (clients_rise c.args.judged.now.manager (declared_links c.args.topo.now))

pub counted_walk-requires-clause-linked : goal.counted_walk-requires-clause-linked
counted_walk-requires-clause-linked c =
    subst (λ ls. All (λ (p : Placed). Contains ls p.link) c.in_ok-walk.walk) (c.deref-then-not-are_plain.ensures.value ∙ c.in_ok-links.ensures) c.in_ok-walk.ensures.kept.linked

pub returns-then-not-are_plain-clause-rows : goal.returns-then-not-are_plain-clause-rows
returns-then-not-are_plain-clause-rows c =
    let topo = c.args.topo.now in
    let fs = c.args.present.now in
    let areas = areas_of c.args.regions.now in
    let manager : ℕ = c.args.judged.now.manager in
    let law = c.args.counts.now.law in
    let whole : c.in_ok-walk.walk ≡ manager_beats topo fs manager =
    c.in_ok-walk.ensures.exact ∙ ap (λ (ls : List ℕ). beats_of_all ls fs) (c.deref-then-not-are_plain.ensures.value ∙ c.in_ok-links.ensures) in
    on_ok c.counted_walk.result
    (λ over. whole_rows topo areas fs manager law c.counted_walk.new.judged (subst (λ beats. HasJudged (manager_at topo manager areas) law beats c.counted_walk.new.judged) whole (over law [] c.requires)))
    c.counted_walk.ensures.judged

pub returns-then-not-are_plain-clause-counts : goal.returns-then-not-are_plain-clause-counts
returns-then-not-are_plain-clause-counts c =
    let topo = c.args.topo.now in
    let fs = c.args.present.now in
    let areas = areas_of c.args.regions.now in
    let manager : ℕ = c.args.judged.now.manager in
    let law = c.args.counts.now.law in
    let whole : c.in_ok-walk.walk ≡ manager_beats topo fs manager =
    c.in_ok-walk.ensures.exact ∙ ap (λ (ls : List ℕ). beats_of_all ls fs) (c.deref-then-not-are_plain.ensures.value ∙ c.in_ok-links.ensures) in
    on_ok c.counted_walk.result
    (λ on n has. subst (λ beats. HasCounts c.counted_walk.new.counts (λ asked. n asked + counted (asked_of asked) law (manager_at topo manager areas) beats)) whole (on law [] n c.requires (none_yet c.args.counts.now n has)))
    c.counted_walk.ensures.counts

-- ---- one link after the other

pub loop-link-init : goal.loop-link-init
loop-link-init c = record {
  links = c.deref-link-items.ensures.value ∙ c.in_ok-links.ensures;
  has = c.requires;
  count = λ n has. none_yet c.args.counts.now n has;
  manager = λ i. c.args.judged.now.manager;
  law = λ i. c.args.counts.now.law;
  by_rule = λ i. c.args.counts.now.by_rule;
}

pub walk-requires-in-loop-link : goal.walk-requires-in-loop-link
unfolding IsStrictlySortedBy
walk-requires-in-loop-link c = (tt, tt)

pub counted_walk-requires-in-loop-link-clause-linked : goal.counted_walk-requires-in-loop-link-clause-linked
counted_walk-requires-in-loop-link-clause-linked c =
    let topo = c.args.topo.now in
    let items : List ℕ = c.deref-link-items.result.now in
    let link : ℕ = get_or items c.loop-link.link-index 0 in
    let has : Contains (clients_of c.args.judged.now.manager (declared_links topo)) link =
    subst (λ ls. Contains ls link) c.loop-link.invariant.links (Contains-get_or items c.loop-link.link-index 0 c.loop-link-test.true) in
    subst (λ n. All (λ (p : Placed). Contains (clients_of n (declared_links topo)) p.link) c.in_ok-own.own) (sym c.loop-link.invariant.manager)
    (of_one_link (clients_of c.args.judged.now.manager (declared_links topo)) link c.in_ok-own.own has c.in_ok-own.ensures.kept.linked)

pub loop-link-preserved : goal.loop-link-preserved
loop-link-preserved c =
    let topo = c.args.topo.now in
    let fs = c.args.present.now in
    let areas = areas_of c.args.regions.now in
    let manager : ℕ = c.args.judged.now.manager in
    let law = c.args.counts.now.law in
    let links : List ℕ = clients_of manager (declared_links topo) in
    let beats : List Placed = manager_beats topo fs manager in
    let k : ℕ = c.loop-link.link-index in
    let items : List ℕ = c.deref-link-items.result.now in
    let link : ℕ = get_or items k 0 in
    let is = c.loop-link.invariant in
    let has : Contains links link = subst (λ ls. Contains ls link) is.links (Contains-get_or items k 0 c.loop-link-test.true) in
    let at : slice_get links k ≡ Some link = subst (λ ls. slice_get ls k ≡ Some link) is.links (slice_get-get_or items k 0 c.loop-link-test.true) in
    let before : List Placed = one_after_other (of_each (take k links) beats) in
    let all : List Placed = one_after_other (of_each (take (k + 1) links) beats) in
    let grown : before ++ c.in_ok-own.own ≡ all =
    ap (λ ps. before ++ ps) (c.in_ok-own.ensures.exact ∙ own_beats links fs link c.is_empty.ensures.kept has) ∙ sym (link_more links k link beats at) in
    record {
      links = is.links;
      has = gone_over topo areas manager law c.loop-link.judged c.counted_walk-in-loop-link.new.judged before c.in_ok-own.own all is.manager grown c.in_ok-counted_walk.ensures.judged is.has;
      count = λ n counted. counted_on topo areas manager law c.loop-link.judged c.counted_walk-in-loop-link.new.judged before c.in_ok-own.own all is.manager grown
          c.loop-link.counts c.counted_walk-in-loop-link.new.counts n c.in_ok-counted_walk.ensures.counts is.has (is.count n counted);
      manager = c.in_ok-counted_walk.ensures.manager ∙ is.manager;
      law = c.in_ok-counted_walk.ensures.law ∙ is.law;
      by_rule = c.in_ok-counted_walk.ensures.by_rule ∙ is.by_rule;
    }

pub returns-clause-rows : goal.returns-clause-rows
returns-clause-rows c =
    let topo = c.args.topo.now in
    let fs = c.args.present.now in
    let areas = areas_of c.args.regions.now in
    let manager : ℕ = c.args.judged.now.manager in
    let law = c.args.counts.now.law in
    let links : List ℕ = clients_of manager (declared_links topo) in
    let k : ℕ = c.loop-link.link-index in
    let is = c.loop-link.invariant in
    let past : length c.deref-link-items.result.now ≤ k = omega arith in
    let full : take k links ≡ links = take_all k links (subst (λ ls. length ls ≤ k) is.links past) in
    plain_rows topo areas fs manager law c.is_empty.ensures.kept (subst (All (IsPlain topo)) (c.deref.ensures.value ∙ c.in_ok-links.ensures) (c.are_plain.ensures.0 c.if-not-are_plain.false)) c.loop-link.judged
    (subst (λ ls. HasJudged (manager_at topo manager areas) law (one_after_other (of_each ls (manager_beats topo fs manager))) c.loop-link.judged) full is.has)

pub returns-clause-counts : goal.returns-clause-counts
returns-clause-counts c n has =
    let topo = c.args.topo.now in
    let fs = c.args.present.now in
    let areas = areas_of c.args.regions.now in
    let manager : ℕ = c.args.judged.now.manager in
    let law = c.args.counts.now.law in
    let links : List ℕ = clients_of manager (declared_links topo) in
    let k : ℕ = c.loop-link.link-index in
    let is = c.loop-link.invariant in
    let past : length c.deref-link-items.result.now ≤ k = omega arith in
    let full : take k links ≡ links = take_all k links (subst (λ ls. length ls ≤ k) is.links past) in
    plain_counts topo areas fs manager law c.is_empty.ensures.kept (subst (All (IsPlain topo)) (c.deref.ensures.value ∙ c.in_ok-links.ensures) (c.are_plain.ensures.0 c.if-not-are_plain.false)) c.loop-link.counts n
    (subst (λ ls. HasCounts c.loop-link.counts (λ asked. n asked + counted (asked_of asked) law (manager_at topo manager areas) (one_after_other (of_each ls (manager_beats topo fs manager))))) full (is.count n has))
