use Rattle.std.proofs.Common.{◌≡◌, Some, None, false, true, rules, sym}
use Rattle.std.specs.Prelude.{option_map}
use Rattle.tl_text.specs.Words.{lines_of, first_line}
use Rattle.tl_text.proofs.Cuts.{Line}
use Rattle.tl_beats.specs.Reading.{fragment_in}
use Rattle.tl_stream.specs.Shares.{left_in, end_from, without_beats}
use Rattle.tl_stream.proofs.ShareLemmas.{all_are_checked, nothing_ends, not_of_others, has_no_end, is_passed, front_decides}
use Rattle.tl_stream.proofs.share.Share.passed.Goals as goal

pub returns-then-is_all-clause-exact : goal.returns-then-is_all-clause-exact
returns-then-is_all-clause-exact c = sym (all_are_checked c.args.topo.now c.args.self.now (lines_of c.args.text.now) (search rules))

pub returns-then-is_all-clause-fragments : goal.returns-then-is_all-clause-fragments
returns-then-is_all-clause-fragments c f rest e = front_decides c.args.topo.now c.args.self.now (lines_of c.args.text.now) rest f _ e (returns-then-is_all-clause-exact c)

pub returns-in_default-clause-exact : goal.returns-in_default-clause-exact
returns-in_default-clause-exact c =
    let none : None ≡ option_map (λ (first : Line). without_beats first.0) (first_line (lines_of c.args.text.now)) = search rules in
    sym (nothing_ends c.args.topo.now c.args.self.now (lines_of c.args.text.now) none)

pub returns-in_default-clause-fragments : goal.returns-in_default-clause-fragments
returns-in_default-clause-fragments c f rest e = front_decides c.args.topo.now c.args.self.now (lines_of c.args.text.now) rest f _ e (returns-in_default-clause-exact c)

pub returns-in_default-2-clause-exact : goal.returns-in_default-2-clause-exact
returns-in_default-2-clause-exact c =
    let has : Some (lines_of c.in-Some.alone.items) ≡ option_map (λ (first : Line). without_beats first.0) (first_line (lines_of c.args.text.now)) = search rules in
    let left : None ≡ left_in c.args.topo.now c.args.self.now (fragment_in (lines_of c.in-Some.alone.items)) = search rules in
    sym (not_of_others c.args.topo.now c.args.self.now (lines_of c.args.text.now) (lines_of c.in-Some.alone.items) has left)

pub returns-in_default-2-clause-fragments : goal.returns-in_default-2-clause-fragments
returns-in_default-2-clause-fragments c f rest e = front_decides c.args.topo.now c.args.self.now (lines_of c.args.text.now) rest f _ e (returns-in_default-2-clause-exact c)

pub returns-then-not-found-clause-exact : goal.returns-then-not-found-clause-exact
returns-then-not-found-clause-exact c =
    let has : Some (lines_of c.in-Some.alone.items) ≡ option_map (λ (first : Line). without_beats first.0) (first_line (lines_of c.args.text.now)) = search rules in
    let left : Some c.in-Some-2.last ≡ left_in c.args.topo.now c.args.self.now (fragment_in (lines_of c.in-Some.alone.items)) = search rules in
    let no : c.sought-found.result.has_end ≡ false = search rules in
    let ends : end_from 0 0 (lines_of c.args.text.now) ≡ None = rw no at c.sought-found.ensures.exact in
    sym (has_no_end c.args.topo.now c.args.self.now (lines_of c.args.text.now) (lines_of c.in-Some.alone.items) c.in-Some-2.last has left ends)

pub returns-then-not-found-clause-fragments : goal.returns-then-not-found-clause-fragments
returns-then-not-found-clause-fragments c f rest e = front_decides c.args.topo.now c.args.self.now (lines_of c.args.text.now) rest f _ e (returns-then-not-found-clause-exact c)

pub returns-clause-exact : goal.returns-clause-exact
returns-clause-exact c =
    let has : Some (lines_of c.in-Some.alone.items) ≡ option_map (λ (first : Line). without_beats first.0) (first_line (lines_of c.args.text.now)) = search rules in
    let left : Some c.in-Some-2.last ≡ left_in c.args.topo.now c.args.self.now (fragment_in (lines_of c.in-Some.alone.items)) = search rules in
    let yes : c.sought-found.result.has_end ≡ true = search rules in
    let ends : end_from 0 0 (lines_of c.args.text.now) ≡ Some (c.sought-found.result.lines, c.sought-found.result.place) = rw yes at c.sought-found.ensures.exact in
    sym (is_passed c.args.topo.now c.args.self.now (lines_of c.args.text.now) (lines_of c.in-Some.alone.items) c.in-Some-2.last (c.sought-found.result.lines, c.sought-found.result.place) has left ends)

pub returns-clause-fragments : goal.returns-clause-fragments
returns-clause-fragments c f rest e = front_decides c.args.topo.now c.args.self.now (lines_of c.args.text.now) rest f _ e (returns-clause-exact c)
