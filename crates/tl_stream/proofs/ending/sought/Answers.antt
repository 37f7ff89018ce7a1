use Rattle.std.proofs.Common.{◌≡◌, ℕ, ◌+◌, List, [], ◌∷◌, ◌++◌, Some, None, length, drop, rules, sym, ap, ◌∙◌, drop_of_length-le}
use Rattle.tl_text.specs.Words.{lines_of, first_line}
use Rattle.tl_stream.specs.Shares.{end_from}
use Rattle.tl_stream.proofs.EndingLemmas.{no_line_left, no_bytes_left, ends, goes_on, after_line, line_within, part_from}
use Rattle.tl_stream.proofs.ending.sought.Goals as goal

pub returns-in_default-clause-exact : goal.returns-in_default-clause-exact
returns-in_default-clause-exact c =
    let part = part_from c.args.bytes.now c.loop-lines.place in
    let none : first_line (lines_of (drop c.loop-lines.place c.args.bytes.now)) ≡ None = ap (λ (bytes : List ℕ). first_line (lines_of bytes)) (sym part) ∙ sym c.in_default.ensures.lines in
    c.loop-lines.invariant.read ∙ no_line_left c.loop-lines.lines c.loop-lines.place (lines_of (drop c.loop-lines.place c.args.bytes.now)) none

pub returns-then-eq-clause-exact : goal.returns-then-eq-clause-exact
returns-then-eq-clause-exact c =
    let part = part_from c.args.bytes.now c.loop-lines.place in
    let first : first_line (lines_of (drop c.loop-lines.place c.args.bytes.now)) ≡ Some (c.in-Some.next.now, lines_of c.in-Some.field-0-1.now) = ap (λ (bytes : List ℕ). first_line (lines_of bytes)) (sym part) ∙ sym c.in-Some.ensures.lines in
    c.loop-lines.invariant.read ∙ ends c.loop-lines.lines c.loop-lines.place (lines_of (drop c.loop-lines.place c.args.bytes.now)) c.in-Some.next.now (lines_of c.in-Some.field-0-1.now) first (search rules)

pub loop-lines-preserved : goal.loop-lines-preserved
loop-lines-preserved c =
    let part = part_from c.args.bytes.now c.loop-lines.place in
    let first : first_line (lines_of (drop c.loop-lines.place c.args.bytes.now)) ≡ Some (c.in-Some.next.now, lines_of c.in-Some.field-0-1.now) = ap (λ (bytes : List ℕ). first_line (lines_of bytes)) (sym part) ∙ sym c.in-Some.ensures.lines in
    let joins : drop c.loop-lines.place c.args.bytes.now ≡ c.in-Some.next.now ++ 10 ∷ c.in-Some.field-0-1.now = sym part ∙ c.in-Some.ensures.joins in
    let rest = after_line c.args.bytes.now c.in-Some.next.now c.in-Some.field-0-1.now c.loop-lines.place joins in
    let on = goes_on c.loop-lines.lines c.loop-lines.place (lines_of (drop c.loop-lines.place c.args.bytes.now)) c.in-Some.next.now (lines_of c.in-Some.field-0-1.now) first (search rules) in
    record {
      after = search rules;
      within = line_within c.args.bytes.now c.in-Some.next.now c.in-Some.field-0-1.now c.loop-lines.place joins;
      read = c.loop-lines.invariant.read ∙ on ∙ ap (λ (bytes : List ℕ). end_from (c.loop-lines.lines + 1) (c.loop-lines.place + (length c.in-Some.next.now + 1)) (lines_of bytes)) (sym rest);
    }

pub returns-clause-exact : goal.returns-clause-exact
returns-clause-exact c =
    let none : drop c.loop-lines.place c.args.bytes.now ≡ [] = drop_of_length-le c.args.bytes.now (search rules) in
    c.loop-lines.invariant.read ∙ ap (λ (bytes : List ℕ). end_from c.loop-lines.lines c.loop-lines.place (lines_of bytes)) none ∙ no_bytes_left c.loop-lines.lines c.loop-lines.place
