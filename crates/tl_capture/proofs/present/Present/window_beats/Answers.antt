use Rattle.std.proofs.Common.{◌≡◌, List, sym, subst, ◌∙◌}
use Rattle.std.proofs.lemmas.Result.{IfOk-weaker}
use Rattle.tl_beats.specs.declared.Placed.{Placed}
use Rattle.tl_definitions.specs.Positions.{beats_of_all}
use Rattle.tl_capture.specs.Present.{IsPresent}
use Rattle.tl_capture.specs.Windows.{is_within, beats_within, beats_in, lies_in, AreBeatsOf}
use Rattle.tl_capture.proofs.PresentLemmas.{ranges_of}
use Rattle.tl_capture.proofs.MatchLemmas.{own_span}
use Rattle.tl_capture.proofs.LawLemmas.{of_span, of_none, formed_of_all, kept_of}
use Rattle.tl_capture.proofs.present.Present.window_beats.Goals as goal

pub returns-in-Some-clause-exact : goal.returns-in-Some-clause-exact
returns-in-Some-clause-exact c =
    let ps : List Placed = beats_of_all c.args.links.now c.args.self.now in
    IfOk-weaker c.share.result (λ beats. beats ≡ beats_within c.in-Some.from c.in-Some.to ps) (λ beats. beats ≡ beats_in c.args.window ps) (λ beats h. h ∙ of_span c.args.window c.in-Some.from c.in-Some.to ps c.in-Some.ensures) c.share.ensures

pub returns-in-Some-clause-kept : goal.returns-in-Some-clause-kept
returns-in-Some-clause-kept c =
    let ps : List Placed = beats_of_all c.args.links.now c.args.self.now in
    let is = ranges_of c.args.self.now (subst IsPresent c.self.view_is c.self.invariant.0) in
    IfOk-weaker c.share.result (λ beats. beats ≡ beats_within c.in-Some.from c.in-Some.to ps) (λ beats. AreBeatsOf c.args.links.now beats)
    (λ beats h. subst (AreBeatsOf c.args.links.now) (sym h) (kept_of (is_within c.in-Some.from c.in-Some.to) c.args.links.now c.args.self.now is)) c.share.ensures

pub returns-in-None-clause-exact : goal.returns-in-None-clause-exact
returns-in-None-clause-exact c =
    let ps : List Placed = beats_of_all c.args.links.now c.args.self.now in
    let is = ranges_of c.args.self.now (subst IsPresent c.self.view_is c.self.invariant.0) in
    c.none.ensures ∙ sym (of_none c.args.window ps (formed_of_all c.args.links.now c.args.self.now is) c.in-None.ensures)

pub returns-in-None-clause-kept : goal.returns-in-None-clause-kept
returns-in-None-clause-kept c =
    let ps : List Placed = beats_of_all c.args.links.now c.args.self.now in
    let is = ranges_of c.args.self.now (subst IsPresent c.self.view_is c.self.invariant.0) in
    subst (AreBeatsOf c.args.links.now) (sym (c.none.ensures ∙ sym (of_none c.args.window ps (formed_of_all c.args.links.now c.args.self.now is) c.in-None.ensures)))
    (kept_of (lies_in c.args.window) c.args.links.now c.args.self.now is)

pub share-requires-clause-span : goal.share-requires-clause-span
share-requires-clause-span c = own_span c.args.window c.in-Some.from c.in-Some.to c.in-Some.ensures
