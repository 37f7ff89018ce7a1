-- What a state shows, at its opening and after a head.
use Rattle.std.specs.Prelude.{filter, ◌||◌, Result, Ok, Err, OnOk, OnErr}
use Rattle.std.proofs.Common.{◌≡◌, ℕ, ◌+◌, ◌==◌, ◌<◌, ◌++◌, Bool, true, false, cond, zero, suc, List, [], ◌∷◌, length, take, set, get_or, Option, Some, None, refl, sym, ap, subst, ◌∙◌, arith}
use Rattle.std.specs.List.{AllByRecursion, list_any, slice_get}
use Rattle.std.proofs.lemmas.List.Folds.{list_any_at, list_any_more}
use Rattle.std.specs.List.Sorted.{IsStrictlySortedBy}
use Rattle.std.specs.Ordering.{nat_cmp}
use Rattle.std.specs.Option.{option_map_or}
use Rattle.std.proofs.lemmas.Bool.Decides.{nat_tests}
use Rattle.std.proofs.lemmas.Option.{slice_get_read, slice_get-get_or}
use Rattle.tl_tables.specs.declared.Op.{Op}
use Rattle.tl_topology.specs.declared.LinkDecl.{LinkDecl}
use Rattle.tl_beats.specs.declared.Beat.{Beat}
use Rattle.tl_beats.specs.declared.Request.{Request}
use Rattle.tl_same.specs.SameItems.{SameItems}
use Rattle.tl_definitions.specs.Positions.{clients_from}
use Rattle.tl_definitions.specs.Past.{LinkPast, past_of}
use Rattle.tl_definitions.specs.Rules.{breaks_permission, permission_order, breaks_manager, manager_order}
use Rattle.tl_definitions.specs.Judging.{message_in, past_with}
use Rattle.tl_client_rules.specs.declared.client.ClientState.{ClientState}
use Rattle.tl_client_rules.specs.Client as client_state
use Rattle.tl_client_rules.specs.Client.{ClientView, client_view, answered_in, head_with, SameClient}
use Rattle.tl_client_rules.specs.declared.manager.ManagerState.{ManagerState}
use Rattle.tl_client_rules.specs.Clients.{place_of}
use Rattle.tl_client_rules.proofs.ClientLaws.{shown_rules}
use Rattle.tl_client_rules.proofs.ClientsLaws.{placed_at, same_link}
use Rattle.tl_client_rules.specs.Manager.{ManagerView, opening_view, client_there, client_at, past_at, shown, Shows, HasPlace, rules_in, manager_rules, pasts_with}

-- ---- the opening

-- One more link tried.
pub one_more : (manager first n : ℕ) (links : List LinkDecl) (link : LinkDecl) → slice_get links n ≡ Some link
    → clients_from manager first (take (n + 1) links) ≡ clients_from manager first (take n links) ++ cond (link.manager == manager) ((first + n) ∷ []) []
one_more manager first n [] link h = cc
one_more manager first zero (x ∷ links) link h =
    let same : x ≡ link = cc in
    let place : first ≡ first + 0 = omega arith in
    ap (λ (y : LinkDecl). cond (y.manager == manager) (first ∷ []) []) same ∙ ap (λ k. cond (link.manager == manager) (k ∷ []) []) place
one_more manager first (suc n) (x ∷ links) link h =
    let rest : List ℕ = clients_from manager (first + 1) (take n links) in
    let last : List ℕ = cond (link.manager == manager) ((first + suc n) ∷ []) [] in
    let count : suc n + 1 ≡ suc (n + 1) = omega arith in
    let place : first + 1 + n ≡ first + suc n = omega arith in
    ap (λ k. clients_from manager first (take k (x ∷ links))) count
    ∙ ap (λ ys. cond (x.manager == manager) (first ∷ ys) ys) (one_more manager (first + 1) n links link h ∙ ap (λ k. rest ++ cond (link.manager == manager) (k ∷ []) []) place)
    ∙ elim (x.manager == manager) as (λ b. cond b (first ∷ (rest ++ last)) (rest ++ last) ≡ cond b (first ∷ rest) rest ++ last) [ true ↦ refl | false ↦ refl ]

pub all_more : {X : Type 0} (P : X → Type 0) (xs : List X) (x : X) → AllByRecursion P xs → P x → AllByRecursion P (xs ++ x ∷ [])
all_more P [] x all here = (here, tt)
all_more P (y ∷ xs) x all here = (all.0, all_more P xs x all.1 here)

opens_at : (exponent : ℕ) (states : List ClientState) (n : ℕ) → AllByRecursion (λ state. client_state.StandsFor exponent state []) states
    → option_map_or client_state.shown (slice_get states n) (client_view exponent (past_of exponent [])) ≡ client_view exponent (past_of exponent [])
opens_at exponent [] n all = refl
opens_at exponent (state ∷ states) zero all = all.0.shows
opens_at exponent (state ∷ states) (suc n) all = opens_at exponent states n all.1

pub opens : (numbers : List ℕ) (power : ℕ) (state : ManagerState) → state.clients ≡ numbers → state.exponent ≡ power
    → AllByRecursion (λ client. client_state.StandsFor state.exponent client []) state.states.items → Shows numbers power state (λ _. past_of power [])
opens numbers power state clients exponent all =
    let same : opening_view state.exponent ≡ opening_view power = ap opening_view exponent in
    record {
      clients = clients;
      exponent = exponent;
      each = λ link. elim (place_of link state.clients) as (λ found. option_map_or (client_there state) found (opening_view state.exponent) ≡ opening_view power) [
        | None ↦ same
        | Some place ↦ opens_at state.exponent state.states.items place all ∙ same
      ];
    }

-- ---- a head

set_here : {X : Type 0} (xs : List X) (i : ℕ) (x : X) → i < length xs → slice_get (set xs i x) i ≡ Some x
set_here [] i x within = absurd (omega arith)
set_here (y ∷ xs) zero x within = refl
set_here (y ∷ xs) (suc i) x within = set_here xs i x (omega arith)

set_apart : {X : Type 0} (xs : List X) (i n : ℕ) (x : X) → (i == n) ≡ false → slice_get (set xs i x) n ≡ slice_get xs n
set_apart [] i n x apart = refl
set_apart (y ∷ xs) zero zero x apart = cc
set_apart (y ∷ xs) zero (suc n) x apart = refl
set_apart (y ∷ xs) (suc i) zero x apart = refl
set_apart (y ∷ xs) (suc i) (suc n) x apart = set_apart xs i n x (grind (arith, nat_tests))

-- Another link has another place.
apart : (numbers : List ℕ) (link place other there : ℕ) → place_of link numbers ≡ Some place → place_of other numbers ≡ Some there → (link == other) ≡ false → (place == there) ≡ false
apart numbers link place other there at found differ =
    elim (place == there) as (λ b. (place == there) ≡ b → b ≡ false) [
      | true ↦ λ e. (let same : there ≡ place = grind (arith, nat_tests) in
          let one : link ≡ other = same_link numbers link other place at (found ∙ ap Some same) in
          grind (arith, nat_tests))
      | false ↦ λ e. refl
    ] refl

pub there_at : (state : ManagerState) (link place : ℕ) → IsStrictlySortedBy nat_cmp state.clients → slice_get state.clients place ≡ Some link → client_at state link ≡ client_there state place
there_at state link place rises at = ap (λ found. option_map_or (client_there state) found (opening_view state.exponent)) (placed_at state.clients link place rises at)

-- The client at a place is that of the link there.
pub stands_at : (state : ManagerState) (place : ℕ) → IsStrictlySortedBy nat_cmp state.clients → place < length state.clients → client_at state (get_or state.clients place 0) ≡ client_there state place
stands_at state place rises within = there_at state (get_or state.clients place 0) place rises (slice_get-get_or state.clients place 0 within)

-- One of the clients, looked through in order, passes a test, or none so far.
module _ (test : ℕ → Bool) (numbers clients : List ℕ) (place : ℕ) (are : numbers ≡ clients) (within : place < length numbers) where
  among : place < length clients
  among = subst (λ xs. place < length xs) are within

  pub one_found : test (get_or clients place 0) ≡ true → true ≡ list_any test clients
  one_found passes = sym (list_any_at test clients place 0 among passes)

  pub none_so_far : list_any test (take place clients) ≡ false → test (get_or clients place 0) ≡ false → list_any test (take (place + 1) clients) ≡ false
  none_so_far before fails = list_any_more test clients place 0 among ∙ (λ i. before i || fails i)

-- The place of a link has a client.
pub inside : (view : ManagerView) (link place : ℕ) → HasPlace view link → place_of link view.clients ≡ Some place → place < view.count
inside view link place has at = subst (λ k. k < view.count) (ap (λ o. option_map_or (λ (k : ℕ). k) o place) (sym has.1 ∙ at)) has.2

-- The client of the link.
pub own_shows : (numbers : List ℕ) (power : ℕ) (state : ManagerState) (pasts : ℕ → LinkPast) (link place : ℕ) (own : ClientState) → place_of link state.clients ≡ Some place
    → place < length state.states.items → own ≡ get_or state.states.items place own → Shows numbers power state pasts → client_state.Shows power own (pasts link)
own_shows numbers power state pasts link place own at within is_own is = record {
  shows = sym (ap (λ found. option_map_or (client_there state) found (opening_view state.exponent)) at
      ∙ ap (λ found. option_map_or client_state.shown found (opening_view state.exponent)) (slice_get_read state.states.items (length state.states.items) place own refl within is_own))
      ∙ is.each link;
}

pub judged_law : (strict : Bool) (numbers : List ℕ) (power : ℕ) (state : ManagerState) (pasts : ℕ → LinkPast) (link : ℕ) (head : Beat) (request : Option Request) (found : Option Op)
    → Shows numbers power state pasts → request ≡ answered_in (pasts link) head found
    → client_state.rules_in strict power (pasts link) head found ++ manager_rules state link head request found ≡ rules_in numbers power strict pasts link head found
judged_law strict numbers power state pasts link head request None is answer = refl
judged_law strict numbers power state pasts link head request (Some o) is answer = λ i.
    filter (breaks_permission strict power (pasts link).client (message_in (pasts link).flow head o)) permission_order
    ++ filter (breaks_manager (is.clients i) (is.exponent i) (λ client. (is.each client i).past) link (head_with head (answer i) o)) manager_order

-- What is shown of another link, with the client at one place changed.
beside : (state : ManagerState) (link place n : ℕ) (next : ClientState) → place_of link state.clients ≡ Some place → (link == n) ≡ false
    → option_map_or (λ there. option_map_or client_state.shown (slice_get (set state.states.items place next) there) (opening_view state.exponent)) (place_of n state.clients) (opening_view state.exponent)
    ≡ client_at state n
beside state link place n next at differ =
    elim (place_of n state.clients) as (λ found. place_of n state.clients ≡ found
    → option_map_or (λ there. option_map_or client_state.shown (slice_get (set state.states.items place next) there) (opening_view state.exponent)) found (opening_view state.exponent)
    ≡ option_map_or (client_there state) found (opening_view state.exponent)) [
      | None ↦ λ e. refl
      | Some there ↦ λ e. ap (λ x. option_map_or client_state.shown x (opening_view state.exponent)) (set_apart state.states.items place there next (apart state.clients link place n there at e differ))
    ] refl

-- a client that shows the same in the place of one
same_there : (xs : List ClientState) (place there : ℕ) (own next : ClientState) (d : ClientView) → own ≡ get_or xs place own → client_state.shown next ≡ client_state.shown own
    → option_map_or client_state.shown (slice_get (set xs place next) there) d ≡ option_map_or client_state.shown (slice_get xs there) d
same_there [] place there own next d is same = refl
same_there (x ∷ xs) zero zero own next d is same = same ∙ ap client_state.shown is
same_there (x ∷ xs) zero (suc there) own next d is same = refl
same_there (x ∷ xs) (suc place) zero own next d is same = refl
same_there (x ∷ xs) (suc place) (suc there) own next d is same = same_there xs place there own next d is same

set_length : {X : Type 0} (xs : List X) (i : ℕ) (x : X) → length (set xs i x) ≡ length xs
set_length [] i x = refl
set_length (y ∷ xs) zero x = refl
set_length (y ∷ xs) (suc i) x = ap (λ n. suc n) (set_length xs i x)

pub left_alone : (state new : ManagerState) (place : ℕ) (own next : ClientState) → new.exponent ≡ state.exponent → new.clients ≡ state.clients → new.states.items ≡ set state.states.items place next
    → own ≡ get_or state.states.items place own → client_state.shown next ≡ client_state.shown own → shown new ≡ shown state
left_alone state new place own next exponent clients states is same =
    let each : (there : ℕ) → client_there new there ≡ client_there state there =
    λ there. (λ i. option_map_or client_state.shown (slice_get (states i) there) (opening_view (exponent i))) ∙ same_there state.states.items place there own next (opening_view state.exponent) is same in
    let count : length new.states.items ≡ length state.states.items = ap length states ∙ set_length state.states.items place next in
    λ i. record { clients = clients i; exponent = exponent i; count = count i; client = λ there. each there i }

pub on_err : {A E P : Type 0} (r : Result A E) → P → OnErr r P
on_err (Ok x) p = tt
on_err (Err e) p = p

pub next_law : (numbers : List ℕ) (power : ℕ) (state new : ManagerState) (next : ClientState) (pasts : ℕ → LinkPast) (link place : ℕ) (head : Beat) (found : Option Op)
    → place_of link state.clients ≡ Some place → place < length state.states.items → new.exponent ≡ state.exponent → new.clients ≡ state.clients
    → new.states.items ≡ set state.states.items place next → Shows numbers power state pasts → client_state.Shows power next (past_with power (pasts link) head found)
    → Shows numbers power new (pasts_with power link pasts head found)
next_law numbers power state new next pasts link place head found at within exponent clients states is own =
    let seen : ℕ → ClientView = λ there. option_map_or client_state.shown (slice_get (set state.states.items place next) there) (opening_view state.exponent) in
    let changed : (n : ℕ) → client_at new n ≡ option_map_or seen (place_of n state.clients) (opening_view state.exponent) =
    λ n. λ i. option_map_or (λ there. option_map_or client_state.shown (slice_get (states i) there) (opening_view (exponent i))) (place_of n (clients i)) (opening_view (exponent i)) in
    record {
      clients = clients ∙ is.clients;
      exponent = exponent ∙ is.exponent;
      each = λ n. changed n ∙ elim (link == n) as (λ b. (link == n) ≡ b → option_map_or seen (place_of n state.clients) (opening_view state.exponent)
          ≡ client_view power (cond b (past_with power (pasts n) head found) (pasts n))) [
            | true ↦ λ e. let same : n ≡ link = grind (arith, nat_tests) in
                ap (λ k. option_map_or seen (place_of k state.clients) (opening_view state.exponent)) same
                ∙ ap (λ o. option_map_or seen o (opening_view state.exponent)) at
                ∙ ap (λ o. option_map_or client_state.shown o (opening_view state.exponent)) (set_here state.states.items place next within)
                ∙ own.shows ∙ ap (λ k. client_view power (past_with power (pasts k) head found)) (sym same)
            | false ↦ λ e. beside state link place n next at e ∙ is.each n
          ] refl;
    }

-- ---- states that show the same

same_at : (power : ℕ) (xs ys : List ClientState) (n : ℕ) → SameItems SameClient xs ys
    → option_map_or client_state.shown (slice_get xs n) (client_view power (past_of power [])) ≡ option_map_or client_state.shown (slice_get ys n) (client_view power (past_of power []))
same_at power [] [] n same = refl
same_at power [] (y ∷ ys) n same = absurd (omega (arith, same.count))
same_at power (x ∷ xs) [] n same = absurd (omega (arith, same.count))
same_at power (x ∷ xs) (y ∷ ys) zero same = same.each 0 x (omega arith)
same_at power (x ∷ xs) (y ∷ ys) (suc n) same = same_at power xs ys n (record { count = omega (arith, same.count); each = λ k d within. same.each (suc k) d (omega (arith, within)) })

pub same_parts : (one two : ManagerState) → one.exponent ≡ two.exponent → one.clients ≡ two.clients → SameItems SameClient one.states.items two.states.items
    → shown one ≡ shown two
same_parts one two exponent clients states = λ i. record {
  clients = clients i;
  exponent = exponent i;
  count = states.count i;
  client = λ n. (same_at one.exponent one.states.items two.states.items n states
      ∙ ap (λ e. option_map_or client_state.shown (slice_get two.states.items n) (client_view e (past_of e []))) exponent) i;
}

pub parts_of_same : (one two : ManagerState) → shown one ≡ shown two
    → (one.exponent ≡ two.exponent) × (one.clients ≡ two.clients) × SameItems SameClient one.states.items two.states.items
parts_of_same one two h =
    let count : length one.states.items ≡ length two.states.items = ap (λ (view : ManagerView). view.count) h in (
      ap (λ (view : ManagerView). view.exponent) h,
      ap (λ (view : ManagerView). view.clients) h,
      record {
        count = count;
        each = λ n d within.
            sym (ap (λ o. option_map_or client_state.shown o (client_view one.exponent (past_of one.exponent []))) (slice_get-get_or one.states.items n d within))
            ∙ ap (λ (view : ManagerView). view.client n) h
            ∙ ap (λ o. option_map_or client_state.shown o (client_view two.exponent (past_of two.exponent []))) (slice_get-get_or two.states.items n d (omega (arith, count, within)));
      },
    )

-- A head whose client and whose manager find nothing breaks none of their rules.
pub clean_law : (strict : Bool) (numbers : List ℕ) (power : ℕ) (state : ManagerState) (pasts : ℕ → LinkPast) (link : ℕ) (own : ClientState) (head : Beat) (request : Option Request) (found : Option Op) (o : Op)
    → found ≡ Some o → Shows numbers power state pasts → client_state.Shows power own (pasts link) → request ≡ answered_in (pasts link) head found
    → filter (breaks_permission strict own.exponent (client_state.shown own).past (head_with head None o)) permission_order ≡ []
    → filter (breaks_manager state.clients state.exponent (past_at state) link (head_with head request o)) manager_order ≡ [] → rules_in numbers power strict pasts link head found ≡ []
clean_law strict numbers power state pasts link own head request found o message is shows answer permissions coherence =
    sym (judged_law strict numbers power state pasts link head request found is answer)
    ∙ ap (λ rules. rules ++ manager_rules state link head request found)
    (sym (shown_rules strict power own (pasts link) head found shows) ∙ ap (client_state.view_rules strict (client_state.shown own) head) message ∙ permissions)
    ∙ ap (manager_rules state link head request) message ∙ coherence

-- What a state shows after a head that its client took.
pub passed_law : {X E : Type 0} (made : Result X E) (numbers : List ℕ) (power : ℕ) (state new : ManagerState) (next : ClientState) (pasts : ℕ → LinkPast) (link place : ℕ) (head : Beat) (found : Option Op)
    → place_of link state.clients ≡ Some place → place < length state.states.items → new.exponent ≡ state.exponent → new.clients ≡ state.clients
    → new.states.items ≡ set state.states.items place next → Shows numbers power state pasts → OnOk made (client_state.Shows power next (past_with power (pasts link) head found))
    → OnOk made (Shows numbers power new (pasts_with power link pasts head found))
passed_law (Ok x) numbers power state new next pasts link place head found at within exponent clients states is own =
    next_law numbers power state new next pasts link place head found at within exponent clients states is own
passed_law (Err e) numbers power state new next pasts link place head found at within exponent clients states is own = tt
