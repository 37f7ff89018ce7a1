-- Messages of links below the level of caches.
use Rattle.std.proofs.Common.{◌≡◌, ℕ, ◌==◌, Bool, true, false, cond, [], Option, Some, None, refl, sym, ap, subst, ◌∙◌}
use Rattle.std.specs.Prelude.{filter}
use Rattle.std.specs.Option.{option_and_then, option_map_or}
use Rattle.std.specs.List.{slice_get}
use Rattle.tl_tables.specs.declared.Chan.{Chan}
use Rattle.tl_tables.specs.declared.Chan.TheVariants as chan
use Rattle.tl_tables.specs.declared.Level.{Level}
use Rattle.tl_tables.specs.declared.Level.TheVariants as level
use Rattle.tl_tables.specs.declared.Op.{Op}
use Rattle.tl_tables.specs.declared.Op.TheVariants as op
use Rattle.tl_tables.specs.Messages.{codes, least_level, level_le, op_at}
use Rattle.tl_topology.specs.declared.LinkDecl.{LinkDecl}
use Rattle.tl_beats.specs.declared.Beat.{Beat}
use Rattle.tl_beats.specs.declared.Request.{Request}
use Rattle.tl_definitions.specs.Heads.{message_of}
use Rattle.tl_definitions.specs.Judging.{message_in, flow_after}
use Rattle.tl_definitions.specs.Past.{FlowPast, ClientPast}
use Rattle.tl_definitions.specs.Rules.{breaks_flow, flow_order, breaks_permission, permission_order}
use Rattle.tl_check.specs.Requests.{is_plain, breaks_open, open_order}

-- Any other message is of the level of caches, on each channel.
high : (c : Chan) (o : Op) → is_plain o ≡ false → least_level c o ≡ level.C
high c op.PutFullData h = cc
high c op.PutPartialData h = cc
high c op.ArithmeticData h = cc
high c op.LogicalData h = cc
high c op.Get h = cc
high c op.Intent h = cc
high c op.AccessAck h = cc
high c op.AccessAckData h = cc
high c op.HintAck h = cc
high c op.AcquireBlock h = elim c as (λ c. least_level c op.AcquireBlock ≡ level.C) [ chan.A ↦ refl | chan.B ↦ refl | chan.C ↦ refl | chan.D ↦ refl | chan.E ↦ refl ]
high c op.AcquirePerm h = elim c as (λ c. least_level c op.AcquirePerm ≡ level.C) [ chan.A ↦ refl | chan.B ↦ refl | chan.C ↦ refl | chan.D ↦ refl | chan.E ↦ refl ]
high c op.ProbeBlock h = elim c as (λ c. least_level c op.ProbeBlock ≡ level.C) [ chan.A ↦ refl | chan.B ↦ refl | chan.C ↦ refl | chan.D ↦ refl | chan.E ↦ refl ]
high c op.ProbePerm h = elim c as (λ c. least_level c op.ProbePerm ≡ level.C) [ chan.A ↦ refl | chan.B ↦ refl | chan.C ↦ refl | chan.D ↦ refl | chan.E ↦ refl ]
high c op.ProbeAck h = elim c as (λ c. least_level c op.ProbeAck ≡ level.C) [ chan.A ↦ refl | chan.B ↦ refl | chan.C ↦ refl | chan.D ↦ refl | chan.E ↦ refl ]
high c op.ProbeAckData h = elim c as (λ c. least_level c op.ProbeAckData ≡ level.C) [ chan.A ↦ refl | chan.B ↦ refl | chan.C ↦ refl | chan.D ↦ refl | chan.E ↦ refl ]
high c op.Release h = elim c as (λ c. least_level c op.Release ≡ level.C) [ chan.A ↦ refl | chan.B ↦ refl | chan.C ↦ refl | chan.D ↦ refl | chan.E ↦ refl ]
high c op.ReleaseData h = elim c as (λ c. least_level c op.ReleaseData ≡ level.C) [ chan.A ↦ refl | chan.B ↦ refl | chan.C ↦ refl | chan.D ↦ refl | chan.E ↦ refl ]
high c op.Grant h = elim c as (λ c. least_level c op.Grant ≡ level.C) [ chan.A ↦ refl | chan.B ↦ refl | chan.C ↦ refl | chan.D ↦ refl | chan.E ↦ refl ]
high c op.GrantData h = elim c as (λ c. least_level c op.GrantData ≡ level.C) [ chan.A ↦ refl | chan.B ↦ refl | chan.C ↦ refl | chan.D ↦ refl | chan.E ↦ refl ]
high c op.ReleaseAck h = elim c as (λ c. least_level c op.ReleaseAck ≡ level.C) [ chan.A ↦ refl | chan.B ↦ refl | chan.C ↦ refl | chan.D ↦ refl | chan.E ↦ refl ]
high c op.GrantAck h = elim c as (λ c. least_level c op.GrantAck ≡ level.C) [ chan.A ↦ refl | chan.B ↦ refl | chan.C ↦ refl | chan.D ↦ refl | chan.E ↦ refl ]

never_reached : (l found : Level) → found ≡ level.C → level_le level.C l ≡ false → level_le found l ≡ true → ⊥
never_reached l found is below reached = let also : level_le level.C l ≡ true = subst (λ k. level_le k l ≡ true) is reached in cc

reached_is_plain : (l : Level) (c : Chan) (o : Op) → level_le level.C l ≡ false → level_le (least_level c o) l ≡ true → is_plain o ≡ true
reached_is_plain l c o below reached = elim (is_plain o) as (λ b. is_plain o ≡ b → b ≡ true) [
  | true ↦ λ e. refl
  | false ↦ λ e. absurd (never_reached l (least_level c o) (high c o e) below reached)
] refl

open_plain : (l : Level) (c : Chan) (found : Option Op) → level_le level.C l ≡ false
    → option_map_or is_plain (option_and_then (λ x. cond (level_le (least_level c x) l) (Some x) None) found) true ≡ true
open_plain l c None below = refl
open_plain l c (Some x) below = elim (level_le (least_level c x) l) as (λ b. level_le (least_level c x) l ≡ b → option_map_or is_plain (cond b (Some x) None) true ≡ true) [
  | true ↦ λ e. reached_is_plain l c x below e
  | false ↦ λ e. refl
] refl

listed_plain : (l : Level) (c : Chan) (found : Option (Option Op)) → level_le level.C l ≡ false
    → option_map_or is_plain (option_and_then (λ x. option_and_then (λ y. cond (level_le (least_level c y) l) (Some y) None) x) found) true ≡ true
listed_plain l c None below = refl
listed_plain l c (Some x) below = open_plain l c x below

-- A message of a link below the level of caches is plain.
pub all_plain : (decl : LinkDecl) (beat : Beat) → level_le level.C decl.level ≡ false → option_map_or is_plain (message_of decl beat) true ≡ true
unfolding op_at
all_plain decl beat below = listed_plain decl.level beat.chan (slice_get (codes beat.chan) beat.opcode) below

pub one_plain : (decl : LinkDecl) (beat : Beat) (o : Op) → level_le level.C decl.level ≡ false → message_of decl beat ≡ Some o → is_plain o ≡ true
one_plain decl beat o below is = sym (ap (λ found. option_map_or is_plain found true) is) ∙ all_plain decl beat below

-- Its flow rules are those by the request in flight on its source.
abbrev FlowIsOpen : FlowPast → Beat → Op → Type 0
FlowIsOpen past beat o = filter (breaks_flow past (message_in past beat o)) flow_order ≡ filter (breaks_open (past.source beat.source) o beat) open_order

flow_on : (past : FlowPast) (beat : Beat) (o : Op) (c : Chan) → is_plain o ≡ true → FlowIsOpen past (record beat { chan = c }) o
flow_on past beat op.PutFullData c h = elim c as (λ c. FlowIsOpen past (record beat { chan = c }) op.PutFullData) [ chan.A ↦ refl | chan.B ↦ refl | chan.C ↦ refl | chan.D ↦ refl | chan.E ↦ refl ]
flow_on past beat op.PutPartialData c h = elim c as (λ c. FlowIsOpen past (record beat { chan = c }) op.PutPartialData) [ chan.A ↦ refl | chan.B ↦ refl | chan.C ↦ refl | chan.D ↦ refl | chan.E ↦ refl ]
flow_on past beat op.ArithmeticData c h = elim c as (λ c. FlowIsOpen past (record beat { chan = c }) op.ArithmeticData) [ chan.A ↦ refl | chan.B ↦ refl | chan.C ↦ refl | chan.D ↦ refl | chan.E ↦ refl ]
flow_on past beat op.LogicalData c h = elim c as (λ c. FlowIsOpen past (record beat { chan = c }) op.LogicalData) [ chan.A ↦ refl | chan.B ↦ refl | chan.C ↦ refl | chan.D ↦ refl | chan.E ↦ refl ]
flow_on past beat op.Get c h = elim c as (λ c. FlowIsOpen past (record beat { chan = c }) op.Get) [ chan.A ↦ refl | chan.B ↦ refl | chan.C ↦ refl | chan.D ↦ refl | chan.E ↦ refl ]
flow_on past beat op.Intent c h = elim c as (λ c. FlowIsOpen past (record beat { chan = c }) op.Intent) [ chan.A ↦ refl | chan.B ↦ refl | chan.C ↦ refl | chan.D ↦ refl | chan.E ↦ refl ]
flow_on past beat op.AccessAck c h = elim c as (λ c. FlowIsOpen past (record beat { chan = c }) op.AccessAck) [ chan.A ↦ refl | chan.B ↦ refl | chan.C ↦ refl | chan.D ↦ refl | chan.E ↦ refl ]
flow_on past beat op.AccessAckData c h = elim c as (λ c. FlowIsOpen past (record beat { chan = c }) op.AccessAckData) [ chan.A ↦ refl | chan.B ↦ refl | chan.C ↦ refl | chan.D ↦ refl | chan.E ↦ refl ]
flow_on past beat op.HintAck c h = elim c as (λ c. FlowIsOpen past (record beat { chan = c }) op.HintAck) [ chan.A ↦ refl | chan.B ↦ refl | chan.C ↦ refl | chan.D ↦ refl | chan.E ↦ refl ]
flow_on past beat op.AcquireBlock c h = cc
flow_on past beat op.AcquirePerm c h = cc
flow_on past beat op.ProbeBlock c h = cc
flow_on past beat op.ProbePerm c h = cc
flow_on past beat op.ProbeAck c h = cc
flow_on past beat op.ProbeAckData c h = cc
flow_on past beat op.Release c h = cc
flow_on past beat op.ReleaseData c h = cc
flow_on past beat op.Grant c h = cc
flow_on past beat op.GrantData c h = cc
flow_on past beat op.ReleaseAck c h = cc
flow_on past beat op.GrantAck c h = cc

pub flow_is_open : (past : FlowPast) (beat : Beat) (o : Op) → is_plain o ≡ true → FlowIsOpen past beat o
flow_is_open past beat o h = flow_on past beat o beat.chan h

-- It breaks no permission rule.
pub no_permission : (strict : Bool) (exponent : ℕ) (past : ClientPast) (o : Op) (beat : Beat) (request : Option Request) → is_plain o ≡ true
    → filter (breaks_permission strict exponent past (record { op = o; beat = beat; request = request })) permission_order ≡ []
no_permission strict exponent past op.PutFullData beat request h = refl
no_permission strict exponent past op.PutPartialData beat request h = refl
no_permission strict exponent past op.ArithmeticData beat request h = refl
no_permission strict exponent past op.LogicalData beat request h = refl
no_permission strict exponent past op.Get beat request h = refl
no_permission strict exponent past op.Intent beat request h = refl
no_permission strict exponent past op.AccessAck beat request h = refl
no_permission strict exponent past op.AccessAckData beat request h = refl
no_permission strict exponent past op.HintAck beat request h = refl
no_permission strict exponent past op.AcquireBlock beat request h = cc
no_permission strict exponent past op.AcquirePerm beat request h = cc
no_permission strict exponent past op.ProbeBlock beat request h = cc
no_permission strict exponent past op.ProbePerm beat request h = cc
no_permission strict exponent past op.ProbeAck beat request h = cc
no_permission strict exponent past op.ProbeAckData beat request h = cc
no_permission strict exponent past op.Release beat request h = cc
no_permission strict exponent past op.ReleaseData beat request h = cc
no_permission strict exponent past op.Grant beat request h = cc
no_permission strict exponent past op.GrantData beat request h = cc
no_permission strict exponent past op.ReleaseAck beat request h = cc
no_permission strict exponent past op.GrantAck beat request h = cc

-- A request opens its source, a reply closes it, and no other channel has a message.
abbrev pub SourceIs : FlowPast → Beat → Op → (ℕ → Option Request) → Type 0
SourceIs past beat o found = (key : ℕ) → (flow_after past (message_in past beat o)).source key ≡ found key

pub request_opens : (past : FlowPast) (beat : Beat) (o : Op) → beat.chan ≡ chan.A
    → SourceIs past beat o (λ key. cond (beat.source == key) (Some (record { op = o; param = beat.param; size = beat.size; source = beat.source; address = beat.address })) (past.source key))
request_opens past beat o at key = ap (λ c. (flow_after past (message_in past (record beat { chan = c }) o)).source key) at

reply_by : (past : FlowPast) (beat : Beat) (o : Op) → is_plain o ≡ true → SourceIs past (record beat { chan = chan.D }) o (λ key. cond (beat.source == key) None (past.source key))
reply_by past beat op.PutFullData h key = refl
reply_by past beat op.PutPartialData h key = refl
reply_by past beat op.ArithmeticData h key = refl
reply_by past beat op.LogicalData h key = refl
reply_by past beat op.Get h key = refl
reply_by past beat op.Intent h key = refl
reply_by past beat op.AccessAck h key = refl
reply_by past beat op.AccessAckData h key = refl
reply_by past beat op.HintAck h key = refl
reply_by past beat op.AcquireBlock h key = cc
reply_by past beat op.AcquirePerm h key = cc
reply_by past beat op.ProbeBlock h key = cc
reply_by past beat op.ProbePerm h key = cc
reply_by past beat op.ProbeAck h key = cc
reply_by past beat op.ProbeAckData h key = cc
reply_by past beat op.Release h key = cc
reply_by past beat op.ReleaseData h key = cc
reply_by past beat op.Grant h key = cc
reply_by past beat op.GrantData h key = cc
reply_by past beat op.ReleaseAck h key = cc
reply_by past beat op.GrantAck h key = cc

pub reply_closes : (past : FlowPast) (beat : Beat) (o : Op) → is_plain o ≡ true → beat.chan ≡ chan.D → SourceIs past beat o (λ key. cond (beat.source == key) None (past.source key))
reply_closes past beat o h at key = ap (λ c. (flow_after past (message_in past (record beat { chan = c }) o)).source key) at ∙ reply_by past beat o h key

pub others_leave : (past : FlowPast) (beat : Beat) (o : Op) → (beat.chan ≡ chan.A → ⊥) → (beat.chan ≡ chan.D → ⊥) → SourceIs past beat o past.source
others_leave past beat o not_request not_reply key =
    elim (beat.chan) as (λ c. beat.chan ≡ c → (flow_after past (message_in past (record beat { chan = c }) o)).source key ≡ past.source key) [
      | chan.A ↦ λ e. absurd (not_request e)
      | chan.B ↦ λ e. refl
      | chan.C ↦ λ e. refl
      | chan.D ↦ λ e. absurd (not_reply e)
      | chan.E ↦ λ e. refl
    ] refl

pub as_plain : (decl : LinkDecl) (beat : Beat) (o : Op) → message_of decl beat ≡ Some o → is_plain o ≡ true → option_map_or is_plain (message_of decl beat) true ≡ true
as_plain decl beat o is plain = ap (λ found. option_map_or is_plain found true) is ∙ plain
