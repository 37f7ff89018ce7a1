-- What is known of links: where each stands, what is asked of all, and what is known after an event.
use Rattle.std.specs.Prelude.{filter, nat_lt, ◌||◌, Result, Ok, Err, OnOk}
use Rattle.std.proofs.Common.{◌≡◌, ℕ, ◌+◌, ◌==◌, ◌&&◌, not, Bool, true, false, cond, zero, suc, List, [], ◌∷◌, length, set, get_or, Option, Some, None, refl, sym, ap, subst, ◌∙◌, arith}
use Rattle.std.specs.List.{AllByRecursion, list_any, slice_get, position, position_or_len}
use Rattle.std.specs.List.Sorted.{IsStrictlySortedBy}
use Rattle.std.specs.Ordering.{nat_cmp}
use Rattle.std.specs.declared.cmp.Ordering.TheVariants.{Less, Equal}
use Rattle.std.proofs.lemmas.Bool.Decides.{nat_tests}
use Rattle.tl_tables.specs.declared.Rule.{Rule}
use Rattle.tl_tables.specs.declared.Rule.TheVariants as rule
use Rattle.tl_tables.specs.Kinds.{conflicts, is_grant, is_probe}
use Rattle.tl_definitions.specs.OpenTables.{passes}
use Rattle.tl_definitions.specs.Rules.{manager_order}
use Rattle.tl_definitions.specs.Events.{Shown, shown_next, event_next, forbidden, event_rules}
use Rattle.tl_definitions.proofs.OrderLaws.{tied}
use Rattle.tl_apart.specs.Events.{said}
use Rattle.tl_apart.specs.declared.event.Event.{Event}
use Rattle.tl_apart.specs.declared.holder.Holder.{Holder}
use Rattle.tl_apart.specs.declared.holders.Holders.{Holders}
use Rattle.tl_apart.specs.Holder.{shown}
use Rattle.tl_apart.specs.Holders.{links_of, IsPlace, clients_of, Shows, forbidden_by, breaks_known}

-- ---- the place of a link

one_earlier : (link : ℕ) (holder : Holder) (holders : List Holder) (k : ℕ) → (holder.link == link) ≡ false
    → IsPlace link holders (cond (nat_lt k (length holders)) (Some k) None)
    → IsPlace link (holder ∷ holders) (cond (nat_lt (1 + k) (length (holder ∷ holders))) (Some (1 + k)) None)
one_earlier link holder holders k differs is =
    let place : 1 + k ≡ suc k = omega arith in
    elim (nat_lt k (length holders)) as (λ b. nat_lt k (length holders) ≡ b → IsPlace link holders (cond b (Some k) None)
    → IsPlace link (holder ∷ holders) (cond (nat_lt (1 + k) (length (holder ∷ holders))) (Some (1 + k)) None)) [
      | true ↦ λ e here. (let inside : nat_lt (1 + k) (length (holder ∷ holders)) ≡ true = grind (arith, nat_tests) in
          subst (λ b. IsPlace link (holder ∷ holders) (cond b (Some (1 + k)) None)) (sym inside)
          (subst (λ n. slice_get (links_of (holder ∷ holders)) n ≡ Some link) (sym place) here))
      | false ↦ λ e none. (let outside : nat_lt (1 + k) (length (holder ∷ holders)) ≡ false = grind (arith, nat_tests) in
          subst (λ b. IsPlace link (holder ∷ holders) (cond b (Some (1 + k)) None)) (sym outside) (differs, none))
    ] refl is

pub place_law : (link : ℕ) (holders : List Holder) → IsPlace link holders (position (λ holder. holder.link == link) holders)
place_law link [] = tt
place_law link (holder ∷ holders) =
    let rest : ℕ = position_or_len (λ h. h.link == link) holders in
    elim (holder.link == link) as (λ b. (holder.link == link) ≡ b
    → IsPlace link (holder ∷ holders) (cond (nat_lt (cond (not b) (1 + rest) 0) (length (holder ∷ holders))) (Some (cond (not b) (1 + rest) 0)) None)) [
      | true ↦ λ e. (let same : holder.link ≡ link = grind (arith, nat_tests) in
          let inside : nat_lt 0 (length (holder ∷ holders)) ≡ true = grind (arith, nat_tests) in
          subst (λ b. IsPlace link (holder ∷ holders) (cond b (Some 0) None)) (sym inside) (ap Some same))
      | false ↦ λ e. one_earlier link holder holders rest e (place_law link holders)
    ] refl

-- ---- what is asked of all links

-- The same of all holders and of what is known.
any_known : (test : ℕ → Shown → Bool) (known : ℕ → Shown) (holders : List Holder) → AllByRecursion (λ (holder : Holder). shown holder ≡ known holder.link) holders
    → list_any (λ holder. test holder.link (shown holder)) holders ≡ list_any (λ client. test client (known client)) (links_of holders)
any_known test known [] all = refl
any_known test known (holder ∷ holders) all = λ i. test holder.link (all.0 i) || any_known test known holders all.1 i

passes_same : {V : Type 0} (one two : V → Bool) (found : Option V) → ((v : V) → one v ≡ two v) → passes one found ≡ passes two found
passes_same one two None same = refl
passes_same one two (Some v) same = same v

three_rules : Bool → Bool → Bool → List Rule
three_rules one two three = cond one (rule.M1 ∷ cond two (rule.M2 ∷ cond three (rule.M3 ∷ []) []) (cond three (rule.M3 ∷ []) [])) (cond two (rule.M2 ∷ cond three (rule.M3 ∷ []) []) (cond three (rule.M3 ∷ []) []))

pub rules_law : (holders : Holders) (known : ℕ → Shown) (e : Event) → Shows holders known
    → filter (breaks_known holders.holders.items e) manager_order ≡ event_rules (clients_of holders) known (said e)
unfolding three_rules
rules_law holders known e is =
    let all = holders.holders.items in
    let first : passes (forbidden_by all e.place.link) e.sets ≡ passes (forbidden (clients_of holders) known e.place.link) e.sets =
    passes_same _ _ e.sets (λ (block, set). any_known (λ client s. not (client == e.place.link) && conflicts set (s.bound block)) known all is.each) in
    let second : passes (λ block. list_any (λ holder. (shown holder).probed block) all) e.block ≡ passes (λ block. list_any (λ client. (known client).probed block) (clients_of holders)) e.block =
    passes_same _ _ e.block (λ block. any_known (λ client s. s.probed block) known all is.each) in
    let third : passes (λ block. list_any (λ holder. nat_lt 0 ((shown holder).grants block)) all) e.block
    ≡ passes (λ block. list_any (λ client. nat_lt 0 ((known client).grants block)) (clients_of holders)) e.block =
    passes_same _ _ e.block (λ block. any_known (λ client s. nat_lt 0 (s.grants block)) known all is.each) in
    λ i. three_rules (is_grant e.op && first i) (is_grant e.op && second i) (is_probe e.op && third i)

-- ---- after an event

-- Links that told nothing are known as before.
pub stay : (known : ℕ → Shown) (e : Event) (holders : List Holder) → AllByRecursion (λ (holder : Holder). (holder.link == e.place.link) ≡ false) holders
    → AllByRecursion (λ (holder : Holder). shown holder ≡ known holder.link) holders
    → AllByRecursion (λ (holder : Holder). shown holder ≡ event_next known (said e) holder.link) holders
stay known e [] others all = tt
stay known e (holder ∷ holders) others all =
    let differs : (e.place.link == holder.link) ≡ false = (let apart = others.0 in grind (arith, nat_tests)) in
    (all.0 ∙ sym (ap (λ b. cond b (shown_next (known holder.link) (said e)) (known holder.link)) differs), stay known e holders others.1 all.1)

-- A number below another is another.
less_differs : (one two : ℕ) → nat_cmp one two ≡ Less → (one == two) ≡ false
less_differs one two less = elim (one == two) as (λ b. (one == two) ≡ b → b ≡ false) [
  | true ↦ λ e. (let same : one ≡ two = grind (arith, nat_tests) in let never : Equal ≡ Less = sym (tied one two same) ∙ less in cc)
  | false ↦ λ e. refl
] refl

above : (link : ℕ) (holders : List Holder) → AllByRecursion (λ number. nat_cmp link number ≡ Less) (links_of holders) → AllByRecursion (λ (holder : Holder). (holder.link == link) ≡ false) holders
above link [] less = tt
above link (holder ∷ holders) less = (let differs = less_differs link holder.link less.0 in grind (arith, nat_tests), above link holders less.1)

less_at : (link : ℕ) (numbers : List ℕ) (place number : ℕ) → AllByRecursion (λ n. nat_cmp link n ≡ Less) numbers → slice_get numbers place ≡ Some number → nat_cmp link number ≡ Less
less_at link [] place number less at = cc
less_at link (n ∷ numbers) zero number less at = let same : n ≡ number = cc in ap (nat_cmp link) (sym same) ∙ less.0
less_at link (n ∷ numbers) (suc place) number less at = less_at link numbers place number less.1 at

pub next_law : (holders : List Holder) (known : ℕ → Shown) (e : Event) (place : ℕ) (old next : Holder) → IsStrictlySortedBy nat_cmp (links_of holders)
    → AllByRecursion (λ (holder : Holder). shown holder ≡ known holder.link) holders → slice_get (links_of holders) place ≡ Some e.place.link
    → old ≡ get_or holders place old → next.link ≡ old.link → shown next ≡ shown_next (shown old) (said e)
    → AllByRecursion (λ (holder : Holder). shown holder ≡ event_next known (said e) holder.link) (set holders place next)
unfolding IsStrictlySortedBy
next_law [] known e place old next rises all at is link told = tt
next_law (holder ∷ holders) known e zero old next rises all at is link told =
    let number : next.link ≡ holder.link = link ∙ ap (λ (h : Holder). h.link) is in
    let own : holder.link ≡ e.place.link = cc in
    let same : (e.place.link == next.link) ≡ true = grind (arith, nat_tests) in (
      told ∙ ap (λ s. shown_next s (said e)) (ap shown is ∙ all.0 ∙ ap known (sym number))
          ∙ sym (ap (λ b. cond b (shown_next (known next.link) (said e)) (known next.link)) same),
      stay known e holders (above e.place.link holders (subst (λ n. AllByRecursion (λ number. nat_cmp n number ≡ Less) (links_of holders)) own rises.0)) all.1,
    )
next_law (holder ∷ holders) known e (suc place) old next rises all at is link told =
    let other : (holder.link == e.place.link) ≡ false = less_differs holder.link e.place.link (less_at holder.link (links_of holders) place e.place.link rises.0 at) in
    let differs : (e.place.link == holder.link) ≡ false = grind (arith, nat_tests) in (
      all.0 ∙ sym (ap (λ b. cond b (shown_next (known holder.link) (said e)) (known holder.link)) differs),
      next_law holders known e place old next rises.1 all.1 at is link told,
    )

-- The numbers stay.
pub links_law : (holders : List Holder) (place : ℕ) (old next : Holder) → old ≡ get_or holders place old → next.link ≡ old.link → links_of (set holders place next) ≡ links_of holders
links_law [] place old next is link = refl
links_law (holder ∷ holders) zero old next is link = ap (λ n. n ∷ links_of holders) (link ∙ ap (λ (h : Holder). h.link) is)
links_law (holder ∷ holders) (suc place) old next is link = ap (λ ns. holder.link ∷ ns) (links_law holders place old next is link)

-- What is known of the links after an event, where the link that told it has this place.
pub told_law : {X E : Type 0} (made : Result X E) (before after : Holders) (known : ℕ → Shown) (e : Event) (place : ℕ) (old next : Holder) → Shows before known
    → IsPlace e.place.link before.holders.items (Some place) → after.holders.items ≡ set before.holders.items place next → old ≡ get_or before.holders.items place old
    → next.link ≡ old.link → OnOk made (shown next ≡ shown_next (shown old) (said e)) → OnOk made (Shows after (event_next known (said e)))
told_law (Err x) before after known e place old next is at items has link told = tt
told_law (Ok x) before after known e place old next is at items has link told = record {
  rises = subst (IsStrictlySortedBy nat_cmp) (sym (ap links_of items ∙ links_law before.holders.items place old next has link)) is.rises;
  each = subst (AllByRecursion (λ (holder : Holder). shown holder ≡ event_next known (said e) holder.link)) (sym items)
      (next_law before.holders.items known e place old next is.rises is.each at has link told);
}

pub on_ok : {X E P : Type 0} (made : Result X E) → P → OnOk made P
on_ok (Ok x) p = p
on_ok (Err x) p = tt
