use Rattle.std.proofs.Common.{◌≡◌, ◌++◌, ◌<◌, ℕ, List, length, get_or, refl, sym, ap, subst, ◌∙◌}
use Rattle.std.specs.List.{All, Contains}
use Rattle.std.proofs.lemmas.List.Elements.{All-contains}
use Rattle.tl_topology.specs.Regions.{Area, areas_of}
use Rattle.tl_topology.specs.Topology.{IsSound}
use Rattle.tl_topology.specs.declared.LinkDecl.{LinkDecl}
use Rattle.tl_beats.specs.Beats.{IsWellFormed}
use Rattle.tl_beats.specs.declared.Placed.{Placed}
use Rattle.tl_capture.specs.Waiting.{in_turn}
use Rattle.tl_definitions.specs.Positions.{no_link}
use Rattle.tl_definitions.specs.Rules.{Manager}
use Rattle.tl_definitions.specs.Judging.{judging}
use Rattle.tl_definitions.specs.Passes.{rows_judged, left_after}
use Rattle.tl_check.specs.Jobs.{manager_from}
use Rattle.tl_check.specs.States.{shown, Serves}
use Rattle.tl_check.specs.declared.state.SpanState.{SpanState}
use Rattle.tl_check.proofs.AheadLaws.{front_there, front_within, found_on, left_on, all_on, fewer_on}
use Rattle.tl_check.proofs.ListLaws.{same_item}
use Rattle.tl_check.proofs.StateLaws.{has_link}
use Rattle.tl_check.proofs.WalkedLaws.{rows_end}
use Rattle.tl_check.proofs.walked.walk_on.Goals as goal

pub loop-front-init : goal.loop-front-init
loop-front-init c =
    let m : Manager = manager_from c.args.links.now c.args.exponent (areas_of c.args.regions.now) c.args.state.now in
    let begins = c.runs-left.ensures in
    record {
      formed = subst (All (λ (p : Placed). IsWellFormed p.beat)) (sym begins) c.requires.formed;
      within = subst (All (λ (p : Placed). p.link < length c.args.links.now)) (sym begins) c.requires.within;
      linked = subst (All (λ (p : Placed). Contains m.clients p.link)) (sym begins) c.requires.linked;
      of = c.requires.state;
      exit = ap (left_after (judging m) (shown c.args.state.now)) begins;
      found = ap (λ rows. rows ++ rows_judged (judging m) (shown c.args.state.now) (in_turn c.runs-left.result)) c.new-rows.ensures.items
          ∙ ap (rows_judged (judging m) (shown c.args.state.now)) begins;
    }

pub bounds-links-from : goal.bounds-links-from
bounds-links-from c = subst (λ k. k < length c.args.links.now) (sym c.from.ensures)
    (All-contains (λ (p : Placed). p.link < length c.args.links.now) (in_turn c.loop-front.left) c.in-Some.front.at c.loop-front.invariant.within (front_there c.loop-front.left c.in-Some.front c.in-Some.ensures))

pub step-requires-clause-decl : goal.step-requires-clause-decl
step-requires-clause-decl c =
    let below : c.from.result < length c.args.links.now = subst (λ k. k < length c.args.links.now) (sym c.from.ensures)
    (All-contains (λ (p : Placed). p.link < length c.args.links.now) (in_turn c.loop-front.left) c.in-Some.front.at c.loop-front.invariant.within (front_there c.loop-front.left c.in-Some.front c.in-Some.ensures)) in
    subst IsSound (sym c.index-links-from.is) (c.requires.links c.from.result c.index-links-from.result below)

pub step-requires-clause-beat : goal.step-requires-clause-beat
step-requires-clause-beat c = All-contains (λ (p : Placed). IsWellFormed p.beat) (in_turn c.loop-front.left) c.in-Some.front.at c.loop-front.invariant.formed (front_there c.loop-front.left c.in-Some.front c.in-Some.ensures)

pub step-requires-clause-link : goal.step-requires-clause-link
step-requires-clause-link c =
    let m : Manager = manager_from c.args.links.now c.args.exponent (areas_of c.args.regions.now) c.args.state.now in
    has_link m c.loop-front.state c.loop-front.invariant.of c.in-Some.front.at.link
    (All-contains (λ (p : Placed). Contains m.clients p.link) (in_turn c.loop-front.left) c.in-Some.front.at c.loop-front.invariant.linked (front_there c.loop-front.left c.in-Some.front c.in-Some.ensures))

serves : (links : List LinkDecl) (exponent : ℕ) (areas : List Area) (state : SpanState) (ps : List Placed) (p : Placed) (from : ℕ) (decl : LinkDecl) → All (λ q. q.link < length links) ps → Contains ps p
    → from ≡ p.link → decl ≡ get_or links from decl → Serves (manager_from links exponent areas state) p.link decl exponent areas
serves links exponent areas state ps p from decl all has same is =
    let below : p.link < length links = All-contains (λ (q : Placed). q.link < length links) ps p all has in
    record {
      declared = ap (λ j. get_or links j no_link) (sym same) ∙ same_item links from decl no_link (subst (λ j. j < length links) (sym same) below) is;
      block = refl;
      regions = refl;
    }

pub run_on-more-requires : goal.run_on-more-requires
run_on-more-requires c =
    let m : Manager = manager_from c.args.links.now c.args.exponent (areas_of c.args.regions.now) c.args.state.now in
    let own = serves c.args.links.now c.args.exponent (areas_of c.args.regions.now) c.args.state.now (in_turn c.loop-front.left) c.in-Some.front.at c.from.result c.index-links-from.result c.loop-front.invariant.within
    (front_there c.loop-front.left c.in-Some.front c.in-Some.ensures) c.from.ensures c.index-links-from.is in
    record {
      link = has_link m c.step.new.self (c.in_ok-step.ensures.next m c.loop-front.invariant.of own).0 c.in-Some.front.at.link
          (All-contains (λ (p : Placed). Contains m.clients p.link) (in_turn c.loop-front.left) c.in-Some.front.at c.loop-front.invariant.linked (front_there c.loop-front.left c.in-Some.front c.in-Some.ensures));
    }

pub pass-requires-clause-within : goal.pass-requires-clause-within
pass-requires-clause-within c = front_within c.loop-front.left c.in-Some.front c.run_on-more.result c.in-Some.ensures c.run_on-more.ensures.within

pub loop-front-preserved : goal.loop-front-preserved
loop-front-preserved c =
    let m : Manager = manager_from c.args.links.now c.args.exponent (areas_of c.args.regions.now) c.args.state.now in
    let cs = c.loop-front.left in
    let ds = c.pass.new.self in
    let old = c.loop-front.state in
    let mid = c.step.new.self in
    let new = c.run_on-more.new.state in
    let n = c.run_on-more.result in
    let front = c.in-Some.front in
    let is = c.in-Some.ensures in
    let own = serves c.args.links.now c.args.exponent (areas_of c.args.regions.now) c.args.state.now (in_turn c.loop-front.left) c.in-Some.front.at c.from.result c.index-links-from.result c.loop-front.invariant.within
    (front_there c.loop-front.left c.in-Some.front c.in-Some.ensures) c.from.ensures c.index-links-from.is in
    let next = c.in_ok-step.ensures.next m c.loop-front.invariant.of own in
    let put = c.in_ok-step.ensures.rows m c.loop-front.invariant.of own in
    let run = λ (fragment : ℕ) (line : ℕ). c.run_on-more.ensures.run m fragment line next.0 in
    record {
      formed = all_on m old mid new cs ds front n c.loop-front.rows.items c.step.new.rows.items is c.pass.ensures run put next.1 (λ (p : Placed). IsWellFormed p.beat) c.loop-front.invariant.formed;
      within = all_on m old mid new cs ds front n c.loop-front.rows.items c.step.new.rows.items is c.pass.ensures run put next.1 (λ (p : Placed). p.link < length c.args.links.now) c.loop-front.invariant.within;
      linked = all_on m old mid new cs ds front n c.loop-front.rows.items c.step.new.rows.items is c.pass.ensures run put next.1 (λ (p : Placed). Contains m.clients p.link) c.loop-front.invariant.linked;
      of = (run 0 0).is_of;
      exit = left_on m old mid new cs ds front n c.loop-front.rows.items c.step.new.rows.items is c.pass.ensures run put next.1 _ c.loop-front.invariant.exit;
      found = found_on m old mid new cs ds front n c.loop-front.rows.items c.step.new.rows.items is c.pass.ensures run put next.1 _ c.loop-front.invariant.found;
    }

pub loop-front-smaller : goal.loop-front-smaller
loop-front-smaller c =
    let m : Manager = manager_from c.args.links.now c.args.exponent (areas_of c.args.regions.now) c.args.state.now in
    let own = serves c.args.links.now c.args.exponent (areas_of c.args.regions.now) c.args.state.now (in_turn c.loop-front.left) c.in-Some.front.at c.from.result c.index-links-from.result c.loop-front.invariant.within
    (front_there c.loop-front.left c.in-Some.front c.in-Some.ensures) c.from.ensures c.index-links-from.is in
    let next = c.in_ok-step.ensures.next m c.loop-front.invariant.of own in
    fewer_on m c.loop-front.state c.step.new.self c.run_on-more.new.state c.loop-front.left c.pass.new.self c.in-Some.front c.run_on-more.result c.loop-front.rows.items c.step.new.rows.items c.in-Some.ensures c.pass.ensures
    (λ (fragment : ℕ) (line : ℕ). c.run_on-more.ensures.run m fragment line next.0) (c.in_ok-step.ensures.rows m c.loop-front.invariant.of own) next.1

pub returns : goal.returns
returns c =
    let m : Manager = manager_from c.args.links.now c.args.exponent (areas_of c.args.regions.now) c.args.state.now in
    record {
      is_of = c.loop-front.invariant.of;
      left = sym (ap (left_after (judging m) (shown c.loop-front.state)) c.in_default.ensures) ∙ c.loop-front.invariant.exit;
      found = rows_end m (shown c.loop-front.state) (in_turn c.loop-front.left) c.loop-front.rows.items _ c.in_default.ensures c.loop-front.invariant.found;
    }
