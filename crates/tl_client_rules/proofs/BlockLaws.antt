-- Where no block begins.
use Rattle.std.proofs.Common.{◌≡◌, ℕ, ◌*◌, ◌/◌, ◌^◌, ◌==◌, ◌&&◌, Bool, true, false, cond, List, [], ◌∷◌, Option, Some, None, length, refl, sym, ap, ◌∙◌, arith}
use Rattle.std.specs.Prelude.{find}
use Rattle.std.specs.Option.{option_map, option_map_or, option_and_then}
use Rattle.std.proofs.Math.Nat.{mul-div_cancel}
use Rattle.std.proofs.lemmas.Nat.{pow_pos}
use Rattle.std.proofs.lemmas.Bool.Decides.{nat_tests}
use Rattle.tl_tables.specs.declared.Perm.{Perm}
use Rattle.tl_tables.specs.declared.Perm.TheVariants as perm
use Rattle.tl_tables.specs.Params.{cap_of}
use Rattle.tl_beats.specs.declared.Request.{Request}
use Rattle.tl_tables.specs.Kinds.{is_acquire, is_grant}
use Rattle.tl_definitions.specs.OpenTables.{Table, acts, touches, if_opens, open_at, without, open_keys}
use Rattle.tl_definitions.specs.Messages.{Message, round_down, block_of, granted_block, grant_claim, own_claim, bound_of, sinks, probes}
use Rattle.tl_definitions.specs.Past.{grants_block}
use Rattle.tl_definitions.specs.Laws.{sets_block}
use Rattle.tl_client_rules.specs.ClientLaws.{OnlyBlocksAreHeld}
use Rattle.tl_client_rules.proofs.ClaimLaws.{other_blocks_stay, never}

abbrev NoBlock : ℕ → ℕ → Type 0
NoBlock exponent address = (round_down exponent address == address) ≡ false

same_number : (a b : ℕ) → (a == b) ≡ true → a ≡ b
same_number a b h = grind (arith, nat_tests)

number_same : (a b : ℕ) → a ≡ b → (a == b) ≡ true
number_same a b h = grind (arith, nat_tests)

twice : (exponent address : ℕ) → round_down exponent (round_down exponent address) ≡ round_down exponent address
twice exponent address = ap (λ k. k * 2 ^ exponent) (mul-div_cancel (address / 2 ^ exponent) (pow_pos exponent))

-- No block is there.
apart : (exponent address other : ℕ) → NoBlock exponent address → (round_down exponent other == address) ≡ false
apart exponent address other none =
    elim (round_down exponent other == address) as (λ t. (round_down exponent other == address) ≡ t → t ≡ false) [
      | true ↦ λ e. let same : round_down exponent other ≡ address = same_number (round_down exponent other) address e in
          let own : round_down exponent address ≡ address = ap (λ a. round_down exponent a) (sym same) ∙ twice exponent other ∙ same in
          let wrong : true ≡ false = sym (number_same (round_down exponent address) address own) ∙ none in cc
      | false ↦ λ e. refl
    ] refl

granted_apart : (exponent address : ℕ) (message : Message) → NoBlock exponent address → grants_block address (granted_block exponent message) ≡ false
granted_apart exponent address message none =
    elim message.request as (λ r. grants_block address (option_and_then (λ (request : Request). cond (is_acquire request.op) (Some (round_down exponent request.address)) None) r) ≡ false) [
      | None ↦ refl
      | Some request ↦ elim (is_acquire request.op) as (λ b. grants_block address (cond b (Some (round_down exponent request.address)) None) ≡ false) [
        | true ↦ apart exponent address request.address none
        | false ↦ refl
      ]
    ]

grant_apart : (address : ℕ) (denied : Bool) (granted : Option ℕ) (found : Option Perm) → grants_block address granted ≡ false
    → option_map_or (λ (set : ℕ × Perm). set.0 == address) (cond {A = Option (ℕ × Perm)} denied None (option_and_then (λ (block : ℕ). option_map (λ (cap : Perm). (block, cap)) found) granted)) false ≡ false
grant_apart address true granted found h = refl
grant_apart address false None found h = refl
grant_apart address false (Some block) None h = refl
grant_apart address false (Some block) (Some cap) h = h

own_apart : (block address : ℕ) (found : Option Perm) → (block == address) ≡ false → option_map_or (λ (set : ℕ × Perm). set.0 == address) (option_map (λ (set : Perm). (block, set)) found) false ≡ false
own_apart block address None h = refl
own_apart block address (Some set) h = h

claim_apart : (exponent address : ℕ) (message : Message) → NoBlock exponent address → sets_block exponent address message ≡ false
claim_apart exponent address message none =
    elim (is_grant message.op) as (λ b. option_map_or (λ (set : ℕ × Perm). set.0 == address) (cond b (grant_claim exponent message) (option_map (λ (set : Perm). (block_of exponent message, set)) (own_claim message))) false ≡ false) [
      | true ↦ grant_apart address message.beat.denied (granted_block exponent message) (cap_of message.op message.beat.param) (granted_apart exponent address message none)
      | false ↦ own_apart (block_of exponent message) address (own_claim message) (apart exponent address message.beat.address none)
    ]

no_bound : (exponent : ℕ) (before : List Message) (address : ℕ) → NoBlock exponent address → bound_of exponent before address ≡ perm.Nothing
no_bound exponent [] address none = refl
no_bound exponent (message ∷ before) address none =
    other_blocks_stay exponent message before address (claim_apart exponent address message none) ∙ no_bound exponent before address none

no_probe : (exponent : ℕ) (before : List Message) (address : ℕ) → NoBlock exponent address → open_at (probes exponent) address before ≡ None
no_probe exponent [] address none = refl
no_probe exponent (message ∷ before) address none =
    let untouched : touches (probes exponent) address message ≡ false =
    ap (λ b. acts (probes exponent) message && b) (apart exponent address message.beat.address none) ∙ never (acts (probes exponent) message) in
    ap (λ b. option_and_then (if_opens (probes exponent)) (cond b (Some message) (find (touches (probes exponent) address) before))) untouched
    ∙ no_probe exponent before address none

no_keys : (table : Table Message) (test : Message → Bool) (before : List Message) → ((message : Message) → test message ≡ false) → open_keys table test before ≡ []
no_keys table test [] none = refl
no_keys table test (m ∷ before) none =
    let ks : List ℕ = open_keys table test before in
    let key : ℕ = table.key m in
    elim (acts table m) as (λ t. cond t (cond (table.opens m && test m) (key ∷ without key ks) (without key ks)) ks ≡ []) [
      | true ↦ ap (λ b. cond (table.opens m && b) (key ∷ without key ks) (without key ks)) (none m)
          ∙ ap (λ b. cond b (key ∷ without key ks) (without key ks)) (never (table.opens m))
          ∙ ap (without key) (no_keys table test before none)
      | false ↦ no_keys table test before none
    ]

pub only_blocks_are_held : OnlyBlocksAreHeld
only_blocks_are_held exponent before address none = (
  no_bound exponent before address none,
  ap (option_map (λ (m : Message). cap_of m.op m.beat.param)) (no_probe exponent before address none),
  ap length (no_keys sinks (λ m. grants_block address (granted_block exponent m)) before (λ m. granted_apart exponent address m none)),
)
