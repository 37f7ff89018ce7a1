-- What the state of one link shows.
use Rattle.std.specs.Prelude.{◌≡◌, List, [], None, is_none, if◌then◌else◌}
use Rattle.std.specs.List.{AllByRecursion}
use Rattle.tl_tables.specs.declared.Chan.{Chan}
use Rattle.tl_topology.specs.declared.LinkDecl.{LinkDecl}
use Rattle.tl_beats.specs.declared.Beat.{Beat}
use Rattle.tl_definitions.specs.Heads.{message_of}
use Rattle.tl_definitions.specs.Past.{flow_past}
use Rattle.tl_link_rules.specs.Bursts.{slot_at, slots_after, SameBursts}
use Rattle.tl_link_rules.specs.declared.flow.FlowAnswer.{FlowAnswer}
use Rattle.tl_link_rules.specs.Flow as flow
use Rattle.tl_check.specs.declared.links.LinkState.{LinkState}

-- What the link's past makes of a head.
abbrev pub IsAnswer : LinkDecl → Beat → LinkState → FlowAnswer → Type 0
IsAnswer decl head old answer = (answer.rules ≡ flow.rules_in (flow.shown old.flow) head (message_of decl head))
    × (answer.request ≡ flow.answered_in (flow.shown old.flow) head (message_of decl head))

-- The link's state after the beat.
pub record IsNext (decl : LinkDecl) (beat : Beat) (old new : LinkState) : Type 0 where
  pub bursts : (chan : Chan) → slot_at new.bursts chan ≡ slots_after decl beat (slot_at old.bursts) chan
  pub flow : flow.shown new.flow ≡ (if is_none (slot_at old.bursts beat.chan) then flow.flow_with (flow.shown old.flow) beat (message_of decl beat)
      else flow.shown old.flow)

-- Nothing is left on a link.
pub record IsOpening (state : LinkState) : Type 0 where
  pub bursts : (chan : Chan) → slot_at state.bursts chan ≡ None
  pub flow : flow.shown state.flow ≡ flow_past []

abbrev pub AreOpening : List LinkState → Type 0
AreOpening links = AllByRecursion IsOpening links

-- Both links show the same.
pub record SameLink (one two : LinkState) : Type 0 where
  pub bursts : SameBursts one.bursts two.bursts
  pub flow : flow.SameFlow one.flow two.flow
