-- What is known of a value holds of each value that it allows, before and after a message.
use Rattle.std.proofs.Common.{◌≡◌, ℕ, ◌==◌, ◌&&◌, ◌||◌, ◌⊎◌, inl, inr, Bool, true, false, cond, Option, Some, None, refl, sym, ap, subst, ◌∙◌}
use Rattle.std.specs.Option.{option_map, option_and_then}
use Rattle.tl_tables.specs.declared.Perm.{Perm}
use Rattle.tl_tables.specs.declared.Perm.TheVariants as perm
use Rattle.tl_tables.specs.Params.{cap_of}
use Rattle.tl_tables.specs.Kinds.{is_grant}
use Rattle.tl_beats.specs.declared.Request.{Request}
use Rattle.tl_definitions.specs.Messages.{Message, block_of, granted_block, grant_claim, own_claim, claim, claimed_or}
use Rattle.tl_definitions.specs.Known.{Known, unknown, known, surely, map_known, answering, if_closed, if_shut, same_perm, set_or_joined, claimed_after, any_block_after, cap_given, grant_after, bound_after}
use Rattle.tl_definitions.specs.Lawful.{Agrees}

pub and_parts : (a b : Bool) → (a && b) ≡ true → (a ≡ true) × (b ≡ true)
and_parts true b h = (refl, h)
and_parts false b h = cc

pub and_with : (a b c : Bool) → (b ≡ true → c ≡ true) → (a && b) ≡ true → (a && c) ≡ true
and_with true b c f h = f h
and_with false b c f h = cc

pub or_cases : (a b : Bool) → (a || b) ≡ true → (a ≡ true) ⊎ (b ≡ true)
or_cases true b h = inl refl
or_cases false b h = inr h

pub or_first : (a b : Bool) → a ≡ true → (a || b) ≡ true
or_first true b h = refl
or_first false b h = cc

pub or_second : (a b : Bool) → b ≡ true → (a || b) ≡ true
or_second true b h = refl
or_second false b h = h

pub surely_holds : {V : Type 0} (test : V → Bool) (sure : Known V) (value : V) → Agrees sure value → surely test sure ≡ true → test value ≡ true
surely_holds test unknown value a h = cc
surely_holds test (known v) value a h = sym (ap test a) ∙ h

pub mapped_agrees : {V W : Type 0} (f : V → W) (sure : Known V) (value : V) → Agrees sure value → Agrees (map_known f sure) (f value)
mapped_agrees f unknown value a = tt
mapped_agrees f (known v) value a = ap f a

-- What is closed stays closed, whether or not something closes it.
pub closed_stays : {V : Type 0} (old : Known (Option V)) (before : Option V) → Agrees old before → Agrees (if_closed old) before
closed_stays unknown before a = tt
closed_stays (known None) before a = a
closed_stays (known (Some v)) before a = tt

pub closed_is : {V : Type 0} (old : Known (Option V)) → Agrees (if_closed old) None
closed_is unknown = tt
closed_is (known None) = refl
closed_is (known (Some v)) = tt

shut_stays : (old : Known Bool) (before : Bool) → Agrees old before → Agrees (if_shut old) before
shut_stays unknown before a = tt
shut_stays (known true) before a = tt
shut_stays (known false) before a = a

shut_is : (old : Known Bool) → Agrees (if_shut old) false
shut_is unknown = tt
shut_is (known true) = tt
shut_is (known false) = refl

opened_same : {V : Type 0} (kept : Message → V) (opens : Bool) (one two : Message) → kept one ≡ kept two → option_map kept (cond opens (Some one) None) ≡ option_map kept (cond opens (Some two) None)
opened_same kept true one two e = ap Some e
opened_same kept false one two e = refl

-- A key after a message that is a head.
pub key_moves : {V : Type 0} (kept : Message → V) (certain touch opens : Bool) (one two : Message) (old : Known (Option V)) (before : Option V) → kept one ≡ kept two → Agrees old before
    → Agrees (cond touch (cond certain (known (option_map kept (cond opens (Some one) None))) (cond opens unknown (if_closed old))) old)
    (cond touch (option_map kept (cond opens (Some two) None)) before)
key_moves kept true true opens one two old before e a = opened_same kept opens one two e
key_moves kept false true true one two old before e a = tt
key_moves kept false true false one two old before e a = closed_is old
key_moves kept certain false opens one two old before e a = a

-- And after a beat that might have been one.
pub key_stays : {V : Type 0} (old : Known (Option V)) (touch opens : Bool) (before : Option V) → Agrees old before
    → Agrees (cond touch (cond opens unknown (if_closed old)) old) before
key_stays old true true before a = tt
key_stays old true false before a = closed_stays old before a
key_stays old false opens before a = a

-- The same of the block of a Grant.
pub granted_moves : (kept : Message → Option ℕ) (certain touch opens : Bool) (made : Known (Option (Option ℕ))) (message : Message) (old : Known (Option (Option ℕ))) (before : Option (Option ℕ))
    → Agrees made (Some (kept message)) → Agrees old before
    → Agrees (cond touch (cond certain (cond opens made (known None)) (cond opens unknown (if_closed old))) old)
    (cond touch (option_map kept (cond opens (Some message) None)) before)
granted_moves kept true true true made message old before e a = e
granted_moves kept true true false made message old before e a = refl
granted_moves kept false true true made message old before e a = tt
granted_moves kept false true false made message old before e a = closed_is old
granted_moves kept certain false opens made message old before e a = a

-- The same of whether one is open.
pub sink_moves : (certain touch opens : Bool) (old : Known Bool) (before : Bool) → Agrees old before
    → Agrees (cond touch (cond certain (known opens) (cond opens unknown (if_shut old))) old) (cond touch opens before)
sink_moves true true opens old before a = refl
sink_moves false true true old before a = tt
sink_moves false true false old before a = shut_is old
sink_moves certain false opens old before a = a

pub sink_stays : (touch opens : Bool) (old : Known Bool) (before : Bool) → Agrees old before
    → Agrees (cond touch (cond opens unknown (if_shut old)) old) before
sink_stays true true old before a = tt
sink_stays true false old before a = shut_stays old before a
sink_stays false opens old before a = a

-- The request that a head answers.
pub request_agrees : (on_d ack : Bool) (release source : Known (Option Request)) (r s : Option Request) → Agrees release r → Agrees source s
    → Agrees (cond on_d (cond ack release source) (known None)) (cond on_d (cond ack r s) None)
request_agrees true true release source r s a b = a
request_agrees true false release source r s a b = b
request_agrees false ack release source r s a b = refl

-- Bounds.
same_itself : (held : Perm) → same_perm held held ≡ true
same_itself perm.Nothing = refl
same_itself perm.Branch = refl
same_itself perm.Trunk = refl

joined_has : (certain : Bool) (set : Perm) (old : Perm → Bool) → set_or_joined certain set old set ≡ true
joined_has true set old = same_itself set
joined_has false set old = or_second (old set) (same_perm set set) (same_itself set)

claimed_moves : (certain : Bool) (claimed : Option (ℕ × Perm)) (old : ℕ → Perm → Bool) (block : ℕ) (held : Perm) → old block held ≡ true
    → claimed_after certain claimed old block (claimed_or claimed block held) ≡ true
claimed_moves certain None old block held h = h
claimed_moves certain (Some (b, set)) old block held h =
    elim (b == block) as (λ t. cond t (set_or_joined certain set (old block)) (old block) (cond t set held) ≡ true) [
      | true ↦ joined_has certain set (old block)
      | false ↦ h
    ]

claimed_stays : (claimed : Option (ℕ × Perm)) (old : ℕ → Perm → Bool) (block : ℕ) (held : Perm) → old block held ≡ true → claimed_after false claimed old block held ≡ true
claimed_stays None old block held h = h
claimed_stays (Some (b, set)) old block held h =
    elim (b == block) as (λ t. cond t (set_or_joined false set (old block)) (old block) held ≡ true) [
      | true ↦ or_first (old block held) (same_perm set held) h
      | false ↦ h
    ]

any_block_stays : (cap : Option Perm) (old : ℕ → Perm → Bool) (block : ℕ) (held : Perm) → old block held ≡ true → any_block_after cap old block held ≡ true
any_block_stays None old block held h = h
any_block_stays (Some set) old block held h = or_first (old block held) (same_perm set held) h

any_block_moves : (cap : Option Perm) (granted : Option ℕ) (old : ℕ → Perm → Bool) (block : ℕ) (held : Perm) → old block held ≡ true
    → any_block_after cap old block (claimed_or (option_and_then (λ b. option_map (λ c. (b, c)) cap) granted) block held) ≡ true
any_block_moves None None old block held h = h
any_block_moves None (Some b) old block held h = h
any_block_moves (Some set) None old block held h = or_first (old block held) (same_perm set held) h
any_block_moves (Some set) (Some b) old block held h =
    elim (b == block) as (λ t. set_or_joined false set (old block) (cond t set held) ≡ true) [
      | true ↦ joined_has false set (old block)
      | false ↦ or_first (old block held) (same_perm set held) h
    ]

not_denied_moves : (denied : Bool) (cap : Option Perm) (granted : Option ℕ) (old : ℕ → Perm → Bool) (block : ℕ) (held : Perm) → old block held ≡ true
    → any_block_after (cond denied None cap) old block (claimed_or (cond denied None (option_and_then (λ b. option_map (λ c. (b, c)) cap) granted)) block held) ≡ true
not_denied_moves true cap granted old block held h = h
not_denied_moves false cap granted old block held h = any_block_moves cap granted old block held h

grant_moves : (exponent : ℕ) (certain : Bool) (grant : Message) (request : Known (Option Request)) (answered : Option Request) (old : ℕ → Perm → Bool) (block : ℕ) (held : Perm)
    → Agrees request answered → old block held ≡ true → grant_after exponent certain grant request old block (claimed_or (grant_claim exponent (answering grant answered)) block held) ≡ true
grant_moves exponent certain grant unknown answered old block held a h =
    not_denied_moves grant.beat.denied (cap_of grant.op grant.beat.param) (granted_block exponent (answering grant answered)) old block held h
grant_moves exponent certain grant (known request) answered old block held a h =
    subst (λ r. claimed_after certain (grant_claim exponent (answering grant request)) old block (claimed_or (grant_claim exponent (answering grant r)) block held) ≡ true) a
    (claimed_moves certain (grant_claim exponent (answering grant request)) old block held h)

grant_stays : (exponent : ℕ) (grant : Message) (request : Known (Option Request)) (old : ℕ → Perm → Bool) (block : ℕ) (held : Perm) → old block held ≡ true
    → grant_after exponent false grant request old block held ≡ true
grant_stays exponent grant unknown old block held h = any_block_stays (cap_given grant) old block held h
grant_stays exponent grant (known request) old block held h = claimed_stays (grant_claim exponent (answering grant request)) old block held h

bound_case : (is : Bool) (exponent : ℕ) (certain : Bool) (message : Message) (request : Known (Option Request)) (answered : Option Request) (own : Option (ℕ × Perm)) (old : ℕ → Perm → Bool) (block : ℕ) (held : Perm)
    → Agrees request answered → old block held ≡ true
    → cond is (grant_after exponent certain message request old) (claimed_after certain (cond is (grant_claim exponent message) own) old) block
    (claimed_or (cond is (grant_claim exponent (answering message answered)) own) block held) ≡ true
bound_case true exponent certain message request answered own old block held a h = grant_moves exponent certain message request answered old block held a h
bound_case false exponent certain message request answered own old block held a h = claimed_moves certain own old block held h

-- The bound of a block after a message that is a head.
pub bound_moves : (exponent : ℕ) (certain : Bool) (message : Message) (request : Known (Option Request)) (answered : Option Request) (old : ℕ → Perm → Bool) (block : ℕ) (held : Perm)
    → Agrees request answered → old block held ≡ true
    → bound_after exponent certain message request old block (claimed_or (claim exponent (answering message answered)) block held) ≡ true
bound_moves exponent certain message request answered old block held a h =
    bound_case (is_grant message.op) exponent certain message request answered (option_map (λ set. (block_of exponent message, set)) (own_claim message)) old block held a h

stays_case : (is : Bool) (exponent : ℕ) (message : Message) (request : Known (Option Request)) (claimed : Option (ℕ × Perm)) (old : ℕ → Perm → Bool) (block : ℕ) (held : Perm) → old block held ≡ true
    → cond is (grant_after exponent false message request old) (claimed_after false claimed old) block held ≡ true
stays_case true exponent message request claimed old block held h = grant_stays exponent message request old block held h
stays_case false exponent message request claimed old block held h = claimed_stays claimed old block held h

-- And after a beat that might have been one.
pub bound_stays : (exponent : ℕ) (message : Message) (request : Known (Option Request)) (old : ℕ → Perm → Bool) (block : ℕ) (held : Perm) → old block held ≡ true
    → bound_after exponent false message request old block held ≡ true
bound_stays exponent message request old block held h = stays_case (is_grant message.op) exponent message request (claim exponent message) old block held h
