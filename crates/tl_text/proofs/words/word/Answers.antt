use Rattle.std.proofs.Common.{Bor, List, ℕ}
use Rattle.tl_text.proofs.Cuts.{cut_joins}
use Rattle.tl_text.proofs.words.word.Goals as goal

pub returns-clause-joins : goal.returns-clause-joins
returns-clause-joins c = cut_joins (λ (x : Bor (List ℕ) × Bor (List ℕ)). (x.0.now, x.1.now)) 32 c.args.line.now c.cut.result (c.cut.ensures 32 c.space.ensures)
