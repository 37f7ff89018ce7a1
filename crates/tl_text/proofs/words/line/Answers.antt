use Rattle.std.proofs.Common.{Bor, List, ℕ}
use Rattle.tl_text.proofs.Cuts.{cut_joins, line_first}
use Rattle.tl_text.proofs.words.line.Goals as goal

pub returns-clause-joins : goal.returns-clause-joins
returns-clause-joins c = cut_joins (λ (x : Bor (List ℕ) × Bor (List ℕ)). (x.0.now, x.1.now)) 10 c.args.bytes.now c.cut.result (c.cut.ensures 10 c.newline.ensures)

pub returns-clause-lines : goal.returns-clause-lines
returns-clause-lines c = line_first (λ (x : Bor (List ℕ) × Bor (List ℕ)). (x.0.now, x.1.now)) c.args.bytes.now c.cut.result (c.cut.ensures 10 c.newline.ensures)
