-- What the beats of managers tell.
use Rattle.std.proofs.Common.{◌≡◌, ℕ, ◌+◌, ◌<◌, ◌≤◌, List, [], ◌∷◌, ◌++◌, length, map, drop, take, zero, suc, Result, Ok, Err, sym, ap, subst, ◌∙◌, arith, append_assoc, refl}
use Rattle.std.specs.List.{Contains}
use Rattle.std.proofs.lemmas.List.{append-nil, length-map}
use Rattle.tl_topology.specs.Topology.{Topology}
use Rattle.tl_beats.specs.declared.Placed.{Placed}
use Rattle.tl_beats.specs.declared.Row.{Row}
use Rattle.tl_definitions.specs.Managers.{declared_links}
use Rattle.tl_definitions.specs.Positions.{Recorded, clients_of}
use Rattle.tl_client_rules.proofs.ClientsLaws.{clients_below}
use Rattle.tl_rows.specs.declared.telling.Told.{Told}
use Rattle.tl_rows.proofs.PassedLaws.{next_left}
use Rattle.std.specs.Prelude.{IfOk, String, string_bytes}
use Rattle.tl_show.specs.declared.survey.Counts.{Counts}
use Rattle.tl_show.specs.Shown.{told_in, told_from, told_of_all, shown_count, shown_bytes, IsShown}

pub swap : (F : ℕ → List ℕ → List Placed → Type 0) (e f : ℕ) (l m : List ℕ) (b c : List Placed) → e ≡ f → l ≡ m → b ≡ c → F e l b → F f m c
swap F e f l m b c p q r h = subst (λ x. F f m x) r (subst (λ x. F f x b) q (subst (λ x. F x l b) p h))

-- A client is a link of the topology.
pub client_within : (topo : Topology) (manager client : ℕ) → Contains (clients_of manager (declared_links topo)) client → client < length topo.links
client_within topo manager client has =
    let below = clients_below manager 0 (declared_links topo) client has in
    let count : length (declared_links topo) ≡ length topo.links = length-map topo.links _ in
    omega (arith, below, count)

-- One manager more.
pub survey_next : (topo : Topology) (fs : List Recorded) (rows : List Row) (k : ℕ) (told own new all : List Told) → k < length topo.managers → new ≡ told ++ own → own ≡ told_in topo fs rows k
    → told ++ told_from topo fs rows k (drop k topo.managers) ≡ all → new ++ told_from topo fs rows (k + 1) (drop (k + 1) topo.managers) ≡ all
survey_next topo fs rows k told own new all within is are known =
    let rest = told_from topo fs rows (k + 1) (drop (k + 1) topo.managers) in
    ap (λ ys. ys ++ rest) (is ∙ ap (λ ys. told ++ ys) are) ∙ append_assoc told (told_in topo fs rows k) rest
    ∙ ap (λ ys. told ++ ys) (sym (ap (told_from topo fs rows k) (next_left topo.managers k ([], 0) within)))
    ∙ known

none_left : {X : Type 0} (xs : List X) (n : ℕ) → length xs ≤ n → drop n xs ≡ []
none_left [] zero h = refl
none_left [] (suc n) h = refl
none_left (x ∷ xs) zero h = absurd (omega arith)
none_left (x ∷ xs) (suc n) h = none_left xs n (omega arith)

pub survey_all : (topo : Topology) (fs : List Recorded) (rows : List Row) (k : ℕ) (told : List Told) → length topo.managers ≤ k
    → told ++ told_from topo fs rows k (drop k topo.managers) ≡ told_of_all topo fs rows → told ≡ told_of_all topo fs rows
survey_all topo fs rows k told end known = sym (append-nil told) ∙ ap (λ ms. told ++ told_from topo fs rows k ms) (sym (none_left topo.managers k end)) ∙ known

pub shown_as : {Z E : Type 0} (made : Result (String Z) E) (topo : Topology) (fs : List Recorded) (head : List ℕ) (rows : List Row) (told : List Told) (counts : Counts)
    → told ≡ told_of_all topo fs (take (shown_count rows) rows) → IfOk made (λ text. string_bytes text ≡ shown_bytes topo head told counts rows)
    → IfOk made (λ text. IsShown topo fs head rows (string_bytes text))
shown_as (Ok text) topo fs head rows told counts e h = (counts, h ∙ ap (λ t. shown_bytes topo head t counts rows) e)
shown_as (Err fault) topo fs head rows told counts e h = tt
