use Rattle.std.proofs.Common.{◌∙◌, subst}
use Rattle.tl_hall.specs.Passes.{PassData, passed, Looked, NoWord, IsLatest}
use Rattle.tl_hall.proofs.Passing.{looked, if_ok, on_err}
use Rattle.tl_hall.proofs.hall.Hall.read.Goals as goal

pub returns-clause-ok : goal.returns-clause-ok
returns-clause-ok g c =
    let e = c.enter-desk.ensures in
    let after = c.leave.new.seat in
    if_ok (λ found. IsLatest found c.enter-desk.result) (λ found. Looked c.args.pass (IsLatest found) (passed after.table_id after.me.0)) c.latest-found.result
    (λ found is. subst (λ (p : PassData). Looked p (IsLatest found) (passed after.table_id after.me.0)) c.pass.view_is
    (looked c.pass.inside.seat.table_id after.table_id c.pass.inside.seat.me.0 c.enter-desk.new.seat.me after.me c.enter-desk.result (IsLatest found) (c.leave.ensures.hall ∙ e.hall) e.saw e.desk is c.leave.ensures.now))
    c.latest-found.ensures

pub returns-clause-err : goal.returns-clause-err
returns-clause-err g c =
    let e = c.enter-desk.ensures in
    let after = c.leave.new.seat in
    on_err (Looked c.args.pass NoWord (passed after.table_id after.me.0)) c.latest-found.result
    (subst (λ (p : PassData). Looked p NoWord (passed after.table_id after.me.0)) c.pass.view_is
    (looked c.pass.inside.seat.table_id after.table_id c.pass.inside.seat.me.0 c.enter-desk.new.seat.me after.me c.enter-desk.result NoWord (c.leave.ensures.hall ∙ e.hall) e.saw e.desk tt c.leave.ensures.now))
