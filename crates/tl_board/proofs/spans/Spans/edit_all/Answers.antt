use Rattle.std.proofs.Common.{◌≡◌, sym, ap, subst, ◌∙◌}
use Rattle.std.specs.Prelude.{is_some}
use Rattle.tl_edits.specs.Edits.{AnEdit, plain}
use Rattle.tl_edits.specs.Inputs.{InputData, changed}
use Rattle.tl_pieces.specs.Pieces.{piece_at, opening_of, result_of, live_of}
use Rattle.tl_capture.specs.Present.{IsPresent}
use Rattle.tl_board.specs.Spans.{SpansData, standing}
use Rattle.tl_board.specs.Touched.{IsTouched, names}
use Rattle.tl_board.specs.Edits.{EditsTo}
use Rattle.tl_board.specs.declared.touched.Touched.TheVariants as touched
use Rattle.tl_board.proofs.EditLemmas.{stands, sound_after, edits_to, all_touched, all_openings, all_stay, all_blank, blank_result, blank_ticket, blank_there, beats_left}
use Rattle.tl_board.proofs.spans.Spans.edit_all.Goals as goal

pub invariant_of-self-2 : goal.invariant_of-self-2
invariant_of-self-2 c =
    let inside : SpansData = record { log = c.self.inside.log; board = c.self.inside.pieces } in
    let now : InputData = standing inside in
    let e : AnEdit = plain c.args.edit in
    let is : IsTouched now e (touched.All c.args.manager) = subst (λ (s : SpansData). IsTouched (standing s) e (touched.All c.args.manager)) (sym c.self.view_is) c.requires.touched in
    let after : IsPresent (changed now e).fragments =
    subst IsPresent (ap (λ (i : InputData). i.fragments) (stands inside e c.accepted.new.log inside.board c.in_ok-number.ensures.ok)) c.accepted.ensures.after in
    let owner : c.from.result ≡ c.args.manager = c.from.ensures in
    let all = c.touch_all.ensures in
    sound_after inside c.self.invariant e c.accepted.ensures.topo c.accepted.ensures.before (names (touched.All c.args.manager)) is.exact c.accepted.new.log c.in_ok-number.ensures.ok c.touch_all.new.self (all_openings c.from.result inside.board c.touch_all.new.self all)
    (all_touched c.args.manager)
    (λ key not. all_stay c.from.result inside.board c.touch_all.new.self all key (λ same. not (same ∙ owner)))
    (λ key named. ap result_of (all_blank c.from.result inside.board c.touch_all.new.self all key (named ∙ sym owner)) ∙ blank_result (piece_at key inside.board))
    after
    (λ key named there.
    let was = c.self.invariant.covered.windows key (ap (λ os. is_some (opening_of key.owner os)) (sym (all_openings c.from.result inside.board c.touch_all.new.self all)) ∙ there) in
    let left = beats_left now e key.owner key.window is.sure.0 in
    let still : is_some (piece_at key c.touch_all.new.self) ≡ is_some (piece_at key inside.board) =
    ap is_some (all_blank c.from.result inside.board c.touch_all.new.self all key (named ∙ sym owner)) ∙ blank_there (piece_at key inside.board) in
    ((λ h. left.1 (was.0 (sym still ∙ h))), (λ h. still ∙ was.1 (left.0 h))))

pub returns-clause-ok : goal.returns-clause-ok
returns-clause-ok c =
    let inside : SpansData = record { log = c.self.inside.log; board = c.self.inside.pieces } in
    let now : InputData = standing inside in
    let e : AnEdit = plain c.args.edit in
    let is : IsTouched now e (touched.All c.args.manager) = subst (λ (s : SpansData). IsTouched (standing s) e (touched.All c.args.manager)) (sym c.self.view_is) c.requires.touched in
    let owner : c.from.result ≡ c.args.manager = c.from.ensures in
    let all = c.touch_all.ensures in
    subst (λ (s : SpansData). EditsTo s e (record { log = c.accepted.new.log; board = c.touch_all.new.self })) c.self.view_is
    (edits_to inside c.self.invariant e c.accepted.ensures.topo c.accepted.ensures.before (names (touched.All c.args.manager)) is.exact c.accepted.new.log c.in_ok-number.ensures.ok c.touch_all.new.self (all_openings c.from.result inside.board c.touch_all.new.self all)
    (all_touched c.args.manager)
    (λ key not. all_stay c.from.result inside.board c.touch_all.new.self all key (λ same. not (same ∙ owner)))
    (λ key named. ap result_of (all_blank c.from.result inside.board c.touch_all.new.self all key (named ∙ sym owner)) ∙ blank_result (piece_at key inside.board))
    (λ key named. ap live_of (all_blank c.from.result inside.board c.touch_all.new.self all key (named ∙ sym owner)) ∙ blank_ticket (piece_at key inside.board)))

pub returns-clause-before : goal.returns-clause-before
returns-clause-before c = subst (λ (s : SpansData). IsPresent (standing s).fragments) c.self.view_is c.accepted.ensures.before
