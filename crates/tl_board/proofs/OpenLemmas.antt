-- One manager more has its opening state.
use Rattle.std.proofs.Common.{◌≡◌, ℕ, ◌+◌, true, false, cond, List, [], Option, Some, None, refl, sym, ap, subst, ◌∙◌, arith, Equal, nat_lt, length}
use Rattle.std.specs.Prelude.{is_some}
use Rattle.std.specs.Ordering.{nat_cmp, is_eq}
use Rattle.std.specs.BTreeMap.{insert_entry}
use Rattle.std.proofs.lemmas.Bool.Decides.{nat_tests}
use Rattle.std.proofs.lemmas.Cmp.{nat_cmp_total}
use Rattle.tl_topology.specs.Regions.{Area}
use Rattle.tl_topology.specs.Topology.{Topology}
use Rattle.tl_beats.specs.declared.Row.{Row}
use Rattle.tl_definitions.specs.Managers.{manager_at}
use Rattle.tl_definitions.proofs.Lists.{contains_none}
use Rattle.tl_edits.specs.Inputs.{blank}
use Rattle.tl_edits.specs.Log.{LogData}
use Rattle.tl_pieces.specs.declared.key.PieceKey.{PieceKey}
use Rattle.tl_pieces.specs.Keys.{value_at}
use Rattle.tl_pieces.specs.Pieces.{Board, opening_of, piece_at, result_of, with_openings}
use Rattle.tl_check.specs.Captured.{areas_at}
use Rattle.tl_check.specs.States.{StandsFor}
use Rattle.tl_check.specs.declared.state.SpanState.{SpanState}
use Rattle.tl_board.specs.Spans.{HasManagers, IsSound}
use Rattle.tl_board.proofs.EntryLemmas.{lookup_put}

nat_exact : (x y : ℕ) → nat_cmp x y ≡ Equal → x ≡ y
nat_exact x y h = grind (arith, nat_tests)

-- No owner has a number that is not below the count.
pub none_yet : (topo : Topology) (count : ℕ) (board : Board SpanState (List Row)) → HasManagers topo count board → opening_of count board.openings ≡ None
none_yet topo count board has = go (opening_of count board.openings) (has.owners count)
  where
    go : (found : Option SpanState) → is_some found ≡ nat_lt count count → found ≡ None
    go None h = refl
    go (Some s) h = let past : nat_lt count count ≡ false = grind (arith, nat_tests) in cc

pub none_at_all : (topo : Topology) (board : Board SpanState (List Row)) → board.openings ≡ [] → HasManagers topo 0 board
none_at_all topo board none = record {
  owners = λ number. ap (λ os. is_some (opening_of number os)) none ∙ grind (arith, nat_tests);
  openings = λ number state some. (let never : None ≡ Some state = sym (ap (opening_of number) none) ∙ some in cc);
}

pub one_more : (topo : Topology) (count : ℕ) (old new : Board SpanState (List Row)) (state : SpanState) → HasManagers topo count old
    → ((areas : List Area) → StandsFor (manager_at topo count areas) state []) → new ≡ with_openings old (insert_entry nat_cmp old.openings count state) → HasManagers topo (count + 1) new
one_more topo count old new state has stands is = record { owners = owners; openings = openings }
  where
    found : (number : ℕ) → opening_of number new.openings ≡ cond (is_eq (nat_cmp number count)) (Some state) (opening_of number old.openings)
    found number = ap (λ (b : Board SpanState (List Row)). opening_of number b.openings) is ∙ lookup_put nat_cmp nat_cmp_total nat_exact number count state old.openings

    owners : (number : ℕ) → is_some (opening_of number new.openings) ≡ nat_lt number (count + 1)
    owners number = ap is_some (found number) ∙ elim (is_eq (nat_cmp number count)) as (λ b. is_eq (nat_cmp number count) ≡ b → is_some (cond b (Some state) (opening_of number old.openings)) ≡ nat_lt number (count + 1)) [
      | true ↦ λ t. grind (arith, nat_tests)
      | false ↦ λ t. has.owners number ∙ grind (arith, nat_tests)
    ] refl

    openings : (number : ℕ) (other : SpanState) → opening_of number new.openings ≡ Some other → (areas : List Area) → StandsFor (manager_at topo number areas) other []
    openings number other some areas = elim (is_eq (nat_cmp number count)) as (λ b. is_eq (nat_cmp number count) ≡ b → cond b (Some state) (opening_of number old.openings) ≡ Some other → StandsFor (manager_at topo number areas) other []) [
      | true ↦ λ t same. (let at : number ≡ count = grind (arith, nat_tests) in let is_other : state ≡ other = cc in
          subst (λ s. StandsFor (manager_at topo number areas) s []) is_other (subst (λ n. StandsFor (manager_at topo n areas) state []) (sym at) (stands areas)))
      | false ↦ λ t same. has.openings number other same areas
    ] refl (sym (found number) ∙ some)

-- Without edits there are no beats, and so no pieces.
pub sound_at_first : (topo : Topology) (log : LogData) (board : Board SpanState (List Row)) → log ≡ record { topo = topo; edits = [] } → HasManagers topo (length topo.managers) board → board.pieces ≡ []
    → IsSound (record { log = log; board = board })
sound_at_first topo log board is has none =
    subst (λ (l : LogData). IsSound (record { log = l; board = board })) (sym is) (record {
      managers = has;
      covered = record {
        openings = λ number state some. (let stands = has.openings number state some (areas_at (blank topo).regions number) in (stands.is_of, stands.shows));
        windows = λ key owner. (
          (λ h. absurd (let never : false ≡ true = ap is_some (sym (no_piece key)) ∙ h in cc)),
          (λ h. absurd (contains_none h.0 h.1)),
        );
        results = λ key result some. absurd (let never : None ≡ Some result = ap result_of (sym (no_piece key)) ∙ some in cc);
      };
    })
  where
    no_piece : (key : PieceKey) → piece_at key board ≡ None
    no_piece key = ap (value_at key) none
