-- What a state shows after one more head.
use Rattle.std.specs.Prelude.{OnOk, filter}
use Rattle.std.proofs.Common.{Result, Ok, Err, ◌≡◌, ℕ, ◌+◌, ◌-◌, ◌==◌, ◌≤◌, ◌&&◌, Bool, true, false, cond, List, [], ◌∷◌, length, Option, Some, None, refl, ap, ◌∙◌, arith}
use Rattle.std.specs.Option.{option_map}
use Rattle.tl_tables.specs.declared.Op.{Op}
use Rattle.tl_tables.specs.declared.Perm.TheVariants as perm
use Rattle.tl_tables.specs.declared.Rule.{Rule}
use Rattle.tl_tables.specs.Params.{cap_of}
use Rattle.tl_beats.specs.declared.Beat.{Beat}
use Rattle.tl_beats.specs.declared.Request.{Request}
use Rattle.tl_tables.specs.Kinds.{is_acquire}
use Rattle.tl_definitions.specs.OpenTables.{Table, acts, touches, if_opens, passes, one_if, entry_after, count_after}
use Rattle.tl_definitions.specs.Messages.{Message, as_request, sources, releases, sinks, probes, round_down, granted_block, claim, claimed_or, message_at, with_message}
use Rattle.tl_definitions.specs.Past.{LinkPast, past_of, acquires_block, releases_block, grants_block}
use Rattle.tl_definitions.specs.Rules.{breaks_permission, permission_order}
use Rattle.tl_definitions.specs.Judging.{message_in, past_after, past_with}
use Rattle.tl_definitions.proofs.JudgingLaws.{message_next}
use Rattle.tl_link_rules.specs.Flow.{answered}
use Rattle.tl_client_rules.specs.declared.client.ClientState.{ClientState}
use Rattle.tl_client_rules.specs.declared.open_blocks.OpenBlocks.{OpenBlocks}
use Rattle.tl_client_rules.specs.OpenBlocks.{block_at, open_on}
use Rattle.tl_client_rules.specs.Bounds.{bound_at}
use Rattle.tl_client_rules.specs.Client.{ClientView, probe_at, shown, acquired_block, released_block, with_block, acquired_after, client_view, Shows, StandsFor, permission_rules, rules_in, answered_in, view_after, view_with, view_rules, head_with, IsView}

-- ---- what a state shows

abbrev IsNew : OpenBlocks → Type 0
IsNew state = ((key : ℕ) → block_at state key ≡ None) × ((block : ℕ) → open_on state block ≡ 0)

pub seen : (state : ClientState) (view : ClientView) → IsView state view → shown state ≡ view
seen state view is = λ i. record {
  exponent = is.exponent i;
  past = record {
    probe = λ block. is.opened.probe block i;
    bound = λ block. is.bound block i;
    granted = λ sink. is.opened.granted sink i;
    acquires = λ block. is.opened.acquires block i;
    releases = λ block. is.opened.releases block i;
    grants = λ block. is.opened.grants block i;
  };
  acquired = λ source. is.opened.acquired source i;
  released = λ source. is.opened.released source i;
}

-- Where nothing is open and no bound is set, a state stands for no messages.
pub starts : (exponent : ℕ) (state : ClientState) → state.exponent ≡ exponent → ((block : ℕ) → probe_at state block ≡ None) → ((block : ℕ) → bound_at state.bounds block ≡ perm.Nothing)
    → IsNew state.acquires → IsNew state.releases → IsNew state.grants → StandsFor exponent state []
starts exponent state is probe bound acquires releases grants = record {
  shows = seen state (client_view exponent (past_of exponent [])) (record {
    exponent = is;
    opened = record {
      probe = probe;
      granted = grants.0;
      acquires = acquires.1;
      releases = releases.1;
      grants = grants.1;
      acquired = acquires.0;
      released = releases.0;
    };
    bound = bound;
  });
}

-- ---- a view of a past goes on as the past does

same_test : (exponent block : ℕ) (request : Request) → grants_block block (acquired_block exponent request) ≡ acquires_block exponent block request
same_test exponent block request =
    elim (is_acquire request.op) as (λ b. grants_block block (cond b (Some (round_down exponent request.address)) None) ≡ (b && (round_down exponent request.address == block))) [ true ↦ refl | false ↦ refl ]

same_passes : {V W : Type 0} (test : W → Bool) (seen : V → W) (other : V → Bool) → ((v : V) → test (seen v) ≡ other v) → (found : Option V)
    → passes test (option_map seen found) ≡ passes other found
same_passes test seen other same None = refl
same_passes test seen other same (Some v) = same v

count_same : (table : Table Message) (test other : Message → Bool) (message : Message) (old earlier : Bool) (count : ℕ) → test message ≡ other message → old ≡ earlier
    → count_after table test message old count ≡ count_after table other message earlier count
count_same table test other message old earlier count e h =
    ap (λ b. cond (acts table message) (one_if (table.opens message && b) + (count - one_if old)) count) e
    ∙ ap (λ b. cond (acts table message) (one_if (table.opens message && other message) + (count - one_if b)) count) h

entry_same : {V W : Type 0} (seen : V → W) (table : Table Message) (kept : Message → V) (message : Message) (old : ℕ → Option V) (key : ℕ)
    → entry_after table (λ m. seen (kept m)) message (λ k. option_map seen (old k)) key ≡ option_map seen (entry_after table kept message old key)
entry_same seen table kept message old key =
    elim (touches table key message) as (λ t. cond t (option_map (λ m. seen (kept m)) (if_opens table message)) (option_map seen (old key))
    ≡ option_map seen (cond t (option_map kept (if_opens table message)) (old key))) [
      | true ↦ elim (table.opens message) as (λ o. option_map (λ m. seen (kept m)) (cond o (Some message) None) ≡ option_map seen (option_map kept (cond o (Some message) None))) [ true ↦ refl | false ↦ refl ]
      | false ↦ refl
    ]

-- What has no block is of none.
block_passes : (block : ℕ) (found : Option (Option ℕ)) → passes (grants_block block) (with_block found) ≡ passes (grants_block block) found
block_passes block None = refl
block_passes block (Some None) = refl
block_passes block (Some (Some b)) = refl

acquired_same : (exponent : ℕ) (message : Message) (old : ℕ → Option Request) (source : ℕ)
    → acquired_after exponent message (λ s. with_block (option_map (acquired_block exponent) (old s))) source
    ≡ with_block (option_map (acquired_block exponent) (entry_after sources as_request message old source))
acquired_same exponent message old source =
    elim (touches sources source message) as (λ t. cond t (with_block (option_map (λ m. acquired_block exponent (as_request m)) (if_opens sources message))) (with_block (option_map (acquired_block exponent) (old source)))
    ≡ with_block (option_map (acquired_block exponent) (cond t (option_map as_request (if_opens sources message)) (old source)))) [
      | true ↦ elim (sources.opens message) as (λ o. with_block (option_map (λ m. acquired_block exponent (as_request m)) (cond o (Some message) None))
          ≡ with_block (option_map (acquired_block exponent) (option_map as_request (cond o (Some message) None)))) [ true ↦ refl | false ↦ refl ]
      | false ↦ refl
    ]

pub next_view : (exponent : ℕ) (past : LinkPast) (message : Message) → view_after (client_view exponent past) message ≡ client_view exponent (past_after exponent past message)
next_view exponent past message = λ i. record {
  exponent = exponent;
  past = record {
    probe = entry_after (probes exponent) (λ m. cap_of m.op m.beat.param) message past.client.probe;
    bound = λ block. claimed_or (claim exponent message) block (past.client.bound block);
    granted = entry_after sinks (granted_block exponent) message past.client.granted;
    acquires = λ block. count_same sources (λ m. grants_block block (acquired_block exponent (as_request m))) (λ m. acquires_block exponent block (as_request m)) message
        (passes (grants_block block) (with_block (option_map (acquired_block exponent) (past.flow.source message.beat.source))))
        (passes (acquires_block exponent block) (past.flow.source message.beat.source)) (past.client.acquires block) (same_test exponent block (as_request message))
        (block_passes block (option_map (acquired_block exponent) (past.flow.source message.beat.source))
        ∙ same_passes (grants_block block) (acquired_block exponent) (acquires_block exponent block) (same_test exponent block) (past.flow.source message.beat.source)) i;
    releases = λ block. count_same releases (λ m. grants_block block (released_block exponent (as_request m))) (λ m. releases_block exponent block (as_request m)) message
        (passes (grants_block block) (option_map (released_block exponent) (past.flow.release message.beat.source)))
        (passes (releases_block exponent block) (past.flow.release message.beat.source)) (past.client.releases block) refl
        (same_passes (grants_block block) (released_block exponent) (releases_block exponent block) (λ request. refl) (past.flow.release message.beat.source)) i;
    grants = λ block. count_after sinks (λ m. grants_block block (granted_block exponent m)) message
        (passes (grants_block block) (past.client.granted message.beat.sink)) (past.client.grants block);
  };
  acquired = λ source. acquired_same exponent message past.flow.source source i;
  released = λ source. entry_same (released_block exponent) releases as_request message past.flow.release source i;
}

with_view : (exponent : ℕ) (past : LinkPast) (head : Beat) (request : Option Request) (found : Option Op) → request ≡ answered_in past head found
    → view_with (client_view exponent past) head request found ≡ client_view exponent (past_with exponent past head found)
with_view exponent past head request None is = refl
with_view exponent past head request (Some o) is =
    ap (λ r. view_after (client_view exponent past) (head_with head r o)) is ∙ next_view exponent past (message_in past.flow head o)

view_law : (strict : Bool) (exponent : ℕ) (past : LinkPast) (head : Beat) (found : Option Op) → view_rules strict (client_view exponent past) head found ≡ rules_in strict exponent past head found
view_law strict exponent past head None = refl
view_law strict exponent past head (Some o) = refl

pub shown_rules : (strict : Bool) (exponent : ℕ) (old : ClientState) (past : LinkPast) (head : Beat) (found : Option Op) → Shows exponent old past
    → view_rules strict (shown old) head found ≡ rules_in strict exponent past head found
shown_rules strict exponent old past head found is = ap (λ view. view_rules strict view head found) is.shows ∙ view_law strict exponent past head found

standing_law : (strict : Bool) (exponent : ℕ) (before : List Message) (head : Beat) (found : Option Op) → rules_in strict exponent (past_of exponent before) head found ≡ permission_rules strict exponent before head found
standing_law strict exponent before head None = refl
standing_law strict exponent before head (Some o) = refl

pub standing_rules : (strict : Bool) (exponent : ℕ) (old : ClientState) (before : List Message) (head : Beat) (found : Option Op) → StandsFor exponent old before
    → view_rules strict (shown old) head found ≡ permission_rules strict exponent before head found
standing_rules strict exponent old before head found stands =
    shown_rules strict exponent old (past_of exponent before) head found stands ∙ standing_law strict exponent before head found

pub next_law : {X E : Type 0} (made : Result X E) (exponent : ℕ) (old new : ClientState) (past : LinkPast) (head : Beat) (request : Option Request) (found : Option Op)
    → Shows exponent old past → request ≡ answered_in past head found → OnOk made (shown new ≡ view_with (shown old) head request found)
    → OnOk made (Shows exponent new (past_with exponent past head found))
next_law (Ok x) exponent old new past head request found is answer next = record {
  shows = next ∙ ap (λ view. view_with view head request found) is.shows ∙ with_view exponent past head request found answer;
}
next_law (Err e) exponent old new past head request found is answer next = tt

-- The request that a head answers, read from a past.
pub answer_law : (exponent : ℕ) (before : List Message) (head : Beat) (found : Option Op) → answered before head found ≡ answered_in (past_of exponent before) head found
answer_law exponent before head None = refl
answer_law exponent before head (Some o) = refl

-- The past after a head.
pub past_law : (exponent : ℕ) (before : List Message) (head : Beat) (found : Option Op) → past_with exponent (past_of exponent before) head found ≡ past_of exponent (with_message head found before)
past_law exponent before head None = refl
past_law exponent before head (Some o) = message_next exponent before (message_at before head o)

pub stands_law : {X E : Type 0} (made : Result X E) (exponent : ℕ) (old new : ClientState) (before : List Message) (head : Beat) (request : Option Request) (found : Option Op)
    → StandsFor exponent old before → request ≡ answered before head found → OnOk made (shown new ≡ view_with (shown old) head request found)
    → OnOk made (StandsFor exponent new (with_message head found before))
stands_law {E} (Ok x) exponent old new before head request found stands answer next =
    let known : Shows exponent new (past_with exponent (past_of exponent before) head found) =
    next_law {E = E} (Ok x) exponent old new (past_of exponent before) head request found stands (answer ∙ answer_law exponent before head found) next in
    record { shows = known.shows ∙ ap (client_view exponent) (past_law exponent before head found) }
stands_law (Err e) exponent old new before head request found stands answer next = tt

-- ---- how many rules there can be

few_of : (test : Rule → Bool) (rules : List Rule) → length (filter test rules) ≤ length rules
few_of test [] = omega arith
few_of test (x ∷ rules) = elim (test x) as (λ b. length (cond b (x ∷ filter test rules) (filter test rules)) ≤ length (x ∷ rules)) [
  | true ↦ omega (arith, few_of test rules)
  | false ↦ omega (arith, few_of test rules)
]

pub few_rules : (strict : Bool) (view : ClientView) (head : Beat) (found : Option Op) → length (view_rules strict view head found) ≤ 8
few_rules strict view head None = omega arith
few_rules strict view head (Some o) = few_of (breaks_permission strict view.exponent view.past (head_with head None o)) permission_order
