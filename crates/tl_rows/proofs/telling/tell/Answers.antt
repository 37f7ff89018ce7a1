use Rattle.std.proofs.Common.{◌≡◌, ◌+◌, ◌++◌, Vec, false, [], drop, take, get_or, sym, ap, subst, ◌∙◌, arith}
use Rattle.std.specs.Prelude.{reverse}
use Rattle.tl_tables.specs.declared.Chan.TheVariants as chan
use Rattle.tl_beats.specs.declared.Placed.{Placed}
use Rattle.tl_rows.specs.declared.telling.Told.{Told}
use Rattle.tl_definitions.specs.OpenTables.{one_if}
use Rattle.tl_rows.specs.Counts.{heads_after}
use Rattle.tl_rows.proofs.CountLaws.{heads_next}
use Rattle.tl_rows.specs.States.{StandsFor, manager_with}
use Rattle.tl_rows.specs.Telling.{told_after}
use Rattle.tl_rows.proofs.PassedLaws.{passed_more, next_left}
use Rattle.tl_rows.proofs.TellingLaws.{told_next, untold, take_all}
use Rattle.tl_rows.proofs.telling.tell.Goals as goal
use Rattle.tl_rows.proofs.telling.tell.Goals.{then-contains+in_ok-tell_beat, else-contains}

pub loop-place-init : goal.loop-place-init
loop-place-init c = record {
  count = c.in_ok-state.ensures.count;
  stands = c.in_ok-state.ensures.stands c.args.clients.now;
  found = ap (λ told. told ++ told_after (manager_with c.args.topo.now c.args.exponent c.args.clients.now) c.args.rows.now [] c.args.beats.now) c.new-told.ensures.items;
  few = omega arith;
  heads = (let e : 0 + heads_after (manager_with c.args.topo.now c.args.exponent c.args.clients.now).links [] c.args.beats.now ≡ heads_after (manager_with c.args.topo.now c.args.exponent c.args.clients.now).links [] c.args.beats.now = omega arith in e);
}

pub loop-place-preserved : goal.loop-place-preserved
loop-place-preserved c =
    let m = manager_with c.args.topo.now c.args.exponent c.args.clients.now in
    let beats = c.args.beats.now in
    let rows = c.args.rows.now in
    let i = c.loop-place.place-index in
    let known = c.loop-place.invariant in
    let before = reverse (take i beats) in
    let none : Placed = record { link = 0; fragment = 0; line = 0; beat = record { cycle = 0; chan = chan.A; opcode = 0; param = 0; size = 0; source = 0; sink = 0; address = 0; mask = 0; denied = false; corrupt = false } } in
    let p : Placed = get_or beats i none in
    let passed = passed_more beats i none c.loop-place-test.true in
    record {
      count = c.in_ok-step.ensures.count ∙ known.count;
      stands = subst (StandsFor m c.step.new.self) passed (c.in_ok-step.ensures.stands c.args.exponent c.args.clients.now before known.stands);
      found = told_next m rows before (reverse (take (i + 1) beats)) p (drop i beats) (drop (i + 1) beats) c.loop-place.told.items c.if-contains.told.items (told_after m rows [] beats)
          (next_left beats i none c.loop-place-test.true) passed
          (elim c.if-contains.branch [
            | then-contains+in_ok-tell_beat w ↦ ap (λ (v : Vec Told _). v.items) w.told-is ∙ w.in_ok-tell_beat.ensures c.args.exponent before known.stands
            | else-contains w ↦ ap (λ (v : Vec Told _). v.items) w.told-is
                ∙ untold m rows before p c.loop-place.told.items (sym (c.in_ok-cycles.ensures p.beat.cycle) ∙ sym c.contains.ensures ∙ w.if-contains.false)
          ])
          known.found;
      few = (let one = c.one_if-heads.ensures.few in let so_far = known.few in omega arith);
      heads = heads_next m.links before (reverse (take (i + 1) beats)) p (drop i beats) (drop (i + 1) beats) c.loop-place.heads c.one_if-heads.result (heads_after m.links [] beats)
          (next_left beats i none c.loop-place-test.true) passed (c.one_if-heads.ensures.exact ∙ ap one_if (c.is_head.ensures c.args.exponent c.args.clients.now before known.stands)) known.heads;
    }

pub returns-clause-open : goal.returns-clause-open
returns-clause-open c =
    let m = manager_with c.args.topo.now c.args.exponent c.args.clients.now in
    c.in_ok-open.ensures c.args.exponent (reverse c.args.beats.now)
    (subst (λ beats. StandsFor m c.loop-place.state (reverse beats)) (take_all c.args.beats.now c.loop-place.place-index c.loop-place-test.false) c.loop-place.invariant.stands)
