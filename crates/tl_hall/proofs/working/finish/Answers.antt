use Rattle.std.proofs.Common.{subst}
use Rattle.tl_desk.specs.Works.{done_ticket, done_window, job_of}
use Rattle.tl_desk.specs.declared.job.HandIn.TheVariants as answer
use Rattle.tl_desk.specs.Steps.{outcome_for}
use Rattle.tl_hall.specs.Passes.{HandsIn, ComesTo, IsStranger}
use Rattle.tl_hall.proofs.Rounds.{came_taken, came_void, came_strange}
use Rattle.tl_hall.proofs.working.finish.Goals as goal

pub returns-in-Taken : goal.returns-in-Taken
returns-in-Taken g c =
    let p = c.args.pass in
    let done = c.args.done in
    let q = c.hand_in-pass.result.0 in
    let made = subst (λ h. HandsIn p done h q) c.in-Taken.is c.hand_in-pass.ensures in
    came_taken (done_ticket done) (done_window done) c.piece-piece.result p q c.piece-piece.ensures (outcome_for done) (ComesTo done answer.Taken) made

pub returns-in-Void : goal.returns-in-Void
returns-in-Void g c =
    let p = c.args.pass in
    let done = c.args.done in
    let q = c.hand_in-pass.result.0 in
    let made = subst (λ h. HandsIn p done h q) c.in-Void.is c.hand_in-pass.ensures in
    came_void (done_ticket done) (done_window done) c.piece-piece.result p q c.piece-piece.ensures (outcome_for done) (ComesTo done answer.Void) made

pub returns-in-Stranger : goal.returns-in-Stranger
returns-in-Stranger g c =
    let p = c.args.pass in
    let done = c.args.done in
    let q = c.hand_in-pass.result.0 in
    let look = subst (λ h. HandsIn p done h q) c.in-Stranger.is c.hand_in-pass.ensures in
    came_strange (done_ticket done) (done_window done) c.piece-piece.result p q c.piece-piece.ensures (IsStranger (job_of done)) look.1
