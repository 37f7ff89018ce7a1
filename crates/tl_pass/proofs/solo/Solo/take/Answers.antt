use Rattle.std.proofs.Common.{◌≡◌, true, ◌+◌, ◌≤◌, ◌++◌, length, length-append, sym, ap, subst, ◌∙◌, arith}
use Rattle.std.specs.Prelude.{map}
use Rattle.std.specs.Arc.{arc_value}
use Rattle.tl_beats.specs.Fragments.{Frag, AreBeats}
use Rattle.tl_beats.specs.Reading.{rises_behind}
use Rattle.tl_definitions.specs.Positions.{placed_from}
use Rattle.tl_pass.specs.Solo.{later, last_of, last_or, longer, HasFound, IsNext, Leaves}
use Rattle.tl_pass.proofs.SoloLaws.{beats_joined, found_more, last_more, one_piece_more}
use Rattle.tl_pass.proofs.solo.Solo.take.Goals as goal

pub returns-clause-came : goal.returns-clause-came
returns-clause-came c ps all =
    let f : Frag = all.0 in
    let come = all.1 in
    let old = c.args.self.now in
    let piece : Frag = arc_value c.args.piece in
    let next : IsNext old piece = subst (IsNext old) c.deref.ensures (c.is_next.ensures c.if-not-is_next.false) in
    let same : c.beats-beats.result.now ≡ piece.beats = c.beats-beats.ensures.exact ∙ ap (λ (g : Frag). g.beats) c.deref-2.ensures in
    let kept : AreBeats piece.first piece.last piece.beats = subst (λ (g : Frag). AreBeats g.first g.last g.beats) c.deref-2.ensures (subst (AreBeats c.deref-2.result.now.first c.deref-2.result.now.last) c.beats-beats.ensures.exact c.beats-beats.ensures.kept) in
    let own : AreBeats f.first f.last piece.beats = subst (λ n. AreBeats n f.last piece.beats) (next.first ∙ sym come.first) (subst (λ n. AreBeats piece.first n piece.beats) (next.last ∙ sym come.last) kept) in
    let room : length f.beats + length piece.beats ≤ 65536 = subst (λ n. n + length piece.beats ≤ 65536) come.count next.beats.room in
    let found = subst (λ n. c.push_later.new.rows.items ≡ old.rows.items ++ map (later n) c.in_ok-found.found.items) come.count (c.in_ok-push_later.ensures ∙ ap (λ rows. old.rows.items ++ map (later old.count) rows) c.deref-3.ensures.value) in (
      longer f piece,
      record {
        named = come.named;
        managed = come.managed;
        client = come.client;
        number = come.number;
        first = come.first;
        last = come.last;
        own = record {
          order = come.own.order;
          beats = beats_joined f.first f.last f.beats piece.beats come.own.beats own (λ beat e. subst (λ o. rises_behind o beat ≡ true) come.newest (next.beats.rises beat e)) room;
        };
        count = omega (arith, come.count, length-append f.beats piece.beats, ap length same);
        newest = c.last_or-self.ensures ∙ ap (λ o. last_or o c.beats-beats.result.now) come.newest ∙ ap (last_or (last_of f.beats)) same ∙ last_more f.beats piece.beats;
        found = subst (HasFound old.topo.now old.manager old.link (placed_from old.link f.number 2 (f.beats ++ piece.beats)) c.judge.new.self) (sym found)
            (found_more old.topo.now old.manager old.link f.number f.beats piece.beats old.left c.judge.new.self old.rows.items c.in_ok-found.found.items come.found
            (subst (λ n. Leaves old.topo.now old.manager old.link (placed_from old.link n 2 piece.beats) old.left c.judge.new.self c.in_ok-found.found.items) (next.number ∙ sym come.number) c.in_ok-found.ensures));
      },
      one_piece_more f piece ps all.2 (next.number ∙ sym come.number, next.first ∙ sym come.first, next.last ∙ sym come.last),
    )
