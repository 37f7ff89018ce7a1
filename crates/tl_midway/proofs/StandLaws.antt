-- What the counts of a state say, where it stands for the beats of its manager.
use Rattle.std.proofs.Common.{◌≡◌, ◌==◌, ◌&&◌, ℕ, Bool, true, false, cond, List, map, Some, None, refl, sym, ap, ◌∙◌}
use Rattle.std.specs.Prelude.{filter}
use Rattle.tl_tables.specs.declared.Chan.TheVariants as chan
use Rattle.tl_tables.specs.declared.Rule.{Rule}
use Rattle.tl_tables.specs.Kinds.{is_acquire}
use Rattle.tl_beats.specs.declared.Beat.{Beat}
use Rattle.tl_beats.specs.declared.Placed.{Placed}
use Rattle.tl_beats.specs.declared.Request.{Request}
use Rattle.tl_definitions.specs.Heads.{before_on}
use Rattle.tl_definitions.specs.Messages.{Message, round_down, block_of}
use Rattle.tl_definitions.specs.Past.{acquires_block, releases_block, grants_block}
use Rattle.tl_definitions.specs.Rules.{Manager, permission_order}
use Rattle.tl_definitions.specs.Known.{unknown, Beginning, KnownPast, known_pasts}
use Rattle.tl_definitions.specs.Printed.{some_key, breaks_permission_surely, front, acquire_open, release_open, grant_open}
use Rattle.tl_definitions.proofs.KnownKeys.{known_keys_are_of_the_capture}
use Rattle.tl_client_rules.specs.Client.{acquired_block, released_block}
use Rattle.tl_midway.specs.declared.known_link.KnownLink.{KnownLink}
use Rattle.tl_midway.specs.KnownLink.{first_entry, shown, StandsFor, has_open_acquire, has_open_release, has_open_grant, breaks_shown_permission, permission_surely}
use Rattle.tl_midway.proofs.CountedLaws.{open_law}

acquired_test : (exponent block : ℕ) (request : Request) → grants_block block (acquired_block exponent request) ≡ acquires_block exponent block request
acquired_test exponent block request =
    elim (is_acquire request.op) as (λ b. grants_block block (cond b (Some (round_down exponent request.address)) None) ≡ (b && (round_down exponent request.address == block))) [ true ↦ refl | false ↦ refl ]

module _ (m : Manager) (start : Beginning) (link : ℕ) (before : List Placed) (state : KnownLink) where
  pub acquire_stands : (message : Message) → StandsFor m start link state before → has_open_acquire state (block_of m.exponent message) ≡ acquire_open m (front m start before) link message
  acquire_stands message stands =
      let block : ℕ = block_of m.exponent message in
      let keys : List ℕ = map (λ (b : Beat). b.source) (before_on link chan.A before) in
      open_law (acquired_block state.exponent) (first_entry state.sources) state.requests (acquires_block m.exponent block) block keys stands.counted.requests
      (λ request. acquired_test state.exponent block request ∙ ap (λ e. acquires_block e block request) stands.exponent)
      (λ key request is. (known_keys_are_of_the_capture m start before link key).0 request (sym (ap (λ (p : KnownPast). p.flow.source key) stands.shows) ∙ is))
      ∙ ap (λ (p : KnownPast). some_key (acquires_block m.exponent block) p.flow.source keys) stands.shows

  pub release_stands : (message : Message) → StandsFor m start link state before → has_open_release state (block_of m.exponent message) ≡ release_open m (front m start before) link message
  release_stands message stands =
      let block : ℕ = block_of m.exponent message in
      let keys : List ℕ = map (λ (b : Beat). b.source) (before_on link chan.C before) in
      open_law (released_block state.exponent) (first_entry state.sources) state.releases (releases_block m.exponent block) block keys stands.counted.releases
      (λ request. ap (λ e. releases_block e block request) stands.exponent)
      (λ key request is. (known_keys_are_of_the_capture m start before link key).1 request (sym (ap (λ (p : KnownPast). p.flow.release key) stands.shows) ∙ is))
      ∙ ap (λ (p : KnownPast). some_key (releases_block m.exponent block) p.flow.release keys) stands.shows

  pub grant_stands : (block : ℕ) → StandsFor m start link state before → has_open_grant state block ≡ grant_open (front m start before) link block
  grant_stands block stands =
      let keys : List ℕ = map (λ (b : Beat). b.sink) (before_on link chan.D before) in
      open_law (λ granted. granted) (λ key. unknown) state.granted (grants_block block) block keys stands.counted.granted
      (λ granted. refl)
      (λ key granted is. (known_keys_are_of_the_capture m start before link key).2 granted (sym (ap (λ (p : KnownPast). p.client.granted key) stands.shows) ∙ is))
      ∙ ap (λ (p : KnownPast). some_key (grants_block block) p.client.granted keys) stands.shows

  pub permission_stands : (strict : Bool) (message : Message) (rule : Rule) → StandsFor m start link state before
      → breaks_shown_permission strict state message rule ≡ permission_surely strict m (front m start before) link message rule
  permission_stands strict message rule stands =
      ap (λ e. breaks_permission_surely strict e (shown state).client (has_open_acquire state (block_of e message)) (has_open_release state (block_of e message)) message rule) stands.exponent
      ∙ ap (λ (p : KnownPast). breaks_permission_surely strict m.exponent p.client (has_open_acquire state (block_of m.exponent message)) (has_open_release state (block_of m.exponent message)) message rule) stands.shows
      ∙ ap (λ a. breaks_permission_surely strict m.exponent (known_pasts m start before link).client a (has_open_release state (block_of m.exponent message)) message rule) (acquire_stands message stands)
      ∙ ap (λ r. breaks_permission_surely strict m.exponent (known_pasts m start before link).client (acquire_open m (front m start before) link message) r message rule) (release_stands message stands)

  pub permissions_stand : (strict : Bool) (message : Message) → StandsFor m start link state before
      → filter (breaks_shown_permission strict state message) permission_order ≡ filter (permission_surely strict m (front m start before) link message) permission_order
  permissions_stand strict message stands =
      let same : breaks_shown_permission strict state message ≡ permission_surely strict m (front m start before) link message = λ i rule. permission_stands strict message rule stands i in
      ap (λ broken. filter broken permission_order) same
