-- What is open, with its place and without.
use Rattle.std.proofs.Common.{◌≡◌, ℕ, ◌==◌, true, false, cond, List, [], ◌∷◌, Some, None, refl, ap, ◌∙◌, map}
use Rattle.std.specs.Prelude.{find}
use Rattle.std.specs.Option.{option_and_then, option_map, option_map_or}
use Rattle.tl_tables.specs.declared.Op.{Op}
use Rattle.tl_tables.specs.declared.Perm.TheVariants as perm
use Rattle.tl_tables.specs.declared.Chan.TheVariants as chan
use Rattle.tl_tables.specs.Kinds.{is_release_ack}
use Rattle.tl_tables.specs.Messages.{same_chan}
use Rattle.tl_beats.specs.declared.Beat.{Beat}
use Rattle.tl_definitions.specs.OpenTables.{Table, touches, if_opens, open_at}
use Rattle.tl_definitions.specs.Messages.{Message, as_request, sources, releases, request_of, claim, claimed_or, bound_of}
use Rattle.tl_rows.specs.declared.origin.Origin.{Origin}
use Rattle.tl_rows.specs.Origins.{message, placed, last_setter}
use Rattle.tl_rows.specs.Openers.{opened_after}
use Rattle.tl_rows.specs.Reasons.{trail_of, kept_request, answered, bound_by}

-- What is open on a key after one more message.
pub open_next : (table : Table Message) (before : List Origin) (origin : Origin) (key : ℕ)
    → opened_after table origin (λ k. open_at (placed table) k before) key ≡ open_at (placed table) key (origin ∷ before)
open_next table before origin key =
    elim (touches (placed table) key origin) as (λ t. cond t (if_opens (placed table) origin) (open_at (placed table) key before)
    ≡ option_and_then (if_opens (placed table)) (cond t (Some origin) (find (touches (placed table) key) before))) [ true ↦ refl | false ↦ refl ]

-- What is kept of an opener is kept of its message.
pub kept_of : {V : Type 0} (kept : Message → V) (table : Table Message) (key : ℕ) (before : List Origin)
    → option_map (λ origin. kept (message origin)) (open_at (placed table) key before) ≡ option_map kept (open_at table key (map message before))
kept_of kept table key [] = refl
kept_of kept table key (origin ∷ before) =
    elim (touches table key (message origin)) as (λ t. option_map (λ o. kept (message o)) (option_and_then (if_opens (placed table)) (cond t (Some origin) (find (touches (placed table) key) before)))
    ≡ option_map kept (option_and_then (if_opens table) (cond t (Some (message origin)) (find (touches table key) (map message before))))) [
      | true ↦ elim (table.opens (message origin)) as (λ o. option_map (λ o. kept (message o)) (cond o (Some origin) None) ≡ option_map kept (cond o (Some (message origin)) None)) [ true ↦ refl | false ↦ refl ]
      | false ↦ kept_of kept table key before
    ]

pub request_law : (exponent : ℕ) (before : List Origin) (o : Op) (beat : Beat)
    → answered (trail_of exponent before).source (trail_of exponent before).release o beat ≡ request_of (map message before) o beat
request_law exponent before o beat =
    ap (λ found. cond (same_chan beat.chan chan.D) (cond (is_release_ack o) found (option_map kept_request (open_at (placed sources) beat.source before))) None)
    (kept_of as_request releases beat.source before)
    ∙ ap (λ found. cond (same_chan beat.chan chan.D) (cond (is_release_ack o) (option_map as_request (open_at releases beat.source (map message before))) found) None)
    (kept_of as_request sources beat.source before)

-- The bound is what its last setter sets.
pub bound_law : (exponent : ℕ) (before : List Origin) (block : ℕ) → bound_by exponent (last_setter exponent before block) ≡ bound_of exponent (map message before) block
bound_law exponent [] block = refl
bound_law exponent (origin ∷ before) block =
    elim (claim exponent (message origin)) as (λ found. claim exponent (message origin) ≡ found
    → bound_by exponent (cond (option_map_or (λ set. set.0 == block) found false) (Some origin) (last_setter exponent before block)) ≡ claimed_or found block (bound_of exponent (map message before) block)) [
      | None ↦ λ e. bound_law exponent before block
      | Some set ↦ λ e. elim (set.0 == block) as (λ b. bound_by exponent (cond b (Some origin) (last_setter exponent before block)) ≡ cond b set.1 (bound_of exponent (map message before) block)) [
        | true ↦ ap (λ found. option_map_or (λ s. s.1) found perm.Nothing) e
        | false ↦ bound_law exponent before block
      ]
    ] refl
