use Rattle.std.proofs.Common.{◌≡◌, List, sym, subst}
use Rattle.std.proofs.lemmas.Result.{IfOk-weaker}
use Rattle.tl_beats.specs.declared.Placed.{Placed}
use Rattle.tl_definitions.specs.Positions.{beats_of_all}
use Rattle.tl_capture.specs.Present.{IsPresent}
use Rattle.tl_capture.specs.Windows.{is_within, beats_within, AreBeatsOf}
use Rattle.tl_capture.proofs.PresentLemmas.{ranges_of}
use Rattle.tl_capture.proofs.LawLemmas.{kept_of}
use Rattle.tl_capture.proofs.present.Present.walk_between.Goals as goal

pub returns-clause-kept : goal.returns-clause-kept
returns-clause-kept c =
    let ps : List Placed = beats_of_all c.args.links.now c.args.self.now in
    let is = ranges_of c.args.self.now (subst IsPresent c.self.view_is c.self.invariant.0) in
    IfOk-weaker c.merge.result (λ walk. walk ≡ beats_within c.args.from c.args.to ps) (λ walk. AreBeatsOf c.args.links.now walk)
    (λ walk h. subst (AreBeatsOf c.args.links.now) (sym h) (kept_of (is_within c.args.from c.args.to) c.args.links.now c.args.self.now is)) c.merge.ensures
