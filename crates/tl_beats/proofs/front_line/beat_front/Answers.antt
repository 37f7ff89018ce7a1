use Rattle.std.proofs.Common.{rules, Bor, List, ℕ}
use Rattle.tl_beats.specs.declared.front_line.FrontLine.{FrontLine}
use Rattle.tl_beats.proofs.BeatLines.{found_reads}
use Rattle.tl_beats.proofs.FrontAgain.{found_formed, found_spells}
use Rattle.tl_beats.proofs.front_line.beat_front.Goals as goal

pub returns-clause-spelled : goal.returns-clause-spelled
returns-clause-spelled c = found_spells (λ (x : FrontLine × Bor (List ℕ)). x.0.beat) (λ (x : FrontLine × Bor (List ℕ)). x.1.now) c.fields_line.result c.in_ok-cycle.cycle c.args.text.now c.in_ok-cycle.words.now (search rules) c.fields_line.ensures.cycle c.fields_line.ensures.text

pub returns-clause-read : goal.returns-clause-read
returns-clause-read c = found_reads (λ (x : FrontLine × Bor (List ℕ)). x.0.beat) (λ (x : FrontLine × Bor (List ℕ)). x.1.now) c.fields_line.result c.args.text.now
    (found_formed (λ (x : FrontLine × Bor (List ℕ)). x.0) c.fields_line.result c.fields_line.ensures.line) (returns-clause-spelled c)
