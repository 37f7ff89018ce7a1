use Rattle.std.proofs.Common.{subst}
use Rattle.std.specs.Prelude.{IfOk, IfErr, IfSome, IfNone}
use Rattle.tl_desk.specs.Works.{ticket_of, window_of}
use Rattle.tl_desk.specs.Steps.{take_of, start_for}
use Rattle.tl_hall.specs.Passes.{Made, Looked, Takes, HasNone, IsUntaken}
use Rattle.tl_hall.proofs.Rounds.{once_behind, once_none, once_refused}
use Rattle.tl_hall.proofs.working.work_once.Goals as goal

pub returns-in-Ok-Some : goal.returns-in-Ok-Some
returns-in-Ok-Some g c =
    let p = c.args.pass in
    let q = c.take-pass.result.0 in
    let job = c.in-Ok-Some.job in
    let found = subst (λ x. IfOk x (λ o. IfSome o (λ j. Made p (take_of j) (Takes j) q))) c.in-Ok-Some.is c.take-pass.ensures.some in
    let made = subst (λ o. IfSome o (λ j. Made p (take_of j) (Takes j) q)) c.in-Ok-Some.field-0-is found in
    once_behind p q c.check.result.0 (ticket_of job) (window_of job) (start_for job) c.check.result.1 (Takes job) made c.check.ensures

pub returns-in-Ok-None : goal.returns-in-Ok-None
returns-in-Ok-None g c =
    let p = c.args.pass in
    let q = c.take-pass.result.0 in
    let found = subst (λ x. IfOk x (λ o. IfNone o (Looked p HasNone q))) c.in-Ok-None.is c.take-pass.ensures.none in
    let look = subst (λ o. IfNone o (Looked p HasNone q)) c.in-Ok-None.field-0-is found in
    once_none p q look

pub returns-in-Err : goal.returns-in-Err
returns-in-Err g c =
    let p = c.args.pass in
    let q = c.take-pass.result.0 in
    let look = subst (λ x. IfErr x (λ fault. Looked p (IsUntaken fault) q)) c.in-Err.is c.take-pass.ensures.err in
    once_refused p q c.in-Err.fault look
