use Rattle.std.proofs.Common.{subst}
use Rattle.std.specs.Prelude.{OnOk, OnErr}
use Rattle.tl_desk.specs.Works.{ticket_of, window_of}
use Rattle.tl_desk.specs.declared.call.Call.TheVariants as call
use Rattle.tl_hall.specs.Passes.{Made, Looked, IsAbandoned, IsStranger}
use Rattle.tl_hall.proofs.Rounds.{came_abandoned, came_lost}
use Rattle.tl_hall.proofs.working.give_up.Goals as goal

pub returns-in-Ok : goal.returns-in-Ok
returns-in-Ok g c =
    let p = c.args.pass in
    let job = c.args.job in
    let q = c.abandon-pass.result.0 in
    let made = subst (λ x. OnOk x (Made p (call.Abandon (ticket_of job) (window_of job)) (IsAbandoned job) q)) c.in-Ok.is c.abandon-pass.ensures.ok in
    came_abandoned (ticket_of job) (window_of job) c.piece-piece.result p q c.piece-piece.ensures (IsAbandoned job) made

pub returns-in-Err : goal.returns-in-Err
returns-in-Err g c =
    let p = c.args.pass in
    let job = c.args.job in
    let q = c.abandon-pass.result.0 in
    let look = subst (λ x. OnErr x (Looked p (IsStranger job) q)) c.in-Err.is c.abandon-pass.ensures.err in
    came_lost (ticket_of job) (window_of job) c.piece-piece.result p q c.piece-piece.ensures (IsStranger job) look
