-- States that show the same have the same entries.
use Rattle.std.proofs.Common.{◌≡◌, Option, Some, None, refl, ap}
use Rattle.std.specs.Prelude.{is_some}
use Rattle.tl_definitions.specs.Past.{FlowPast}
use Rattle.tl_link_rules.specs.declared.flow.FlowState.{FlowState}
use Rattle.tl_state.specs.Slots.{SameSlots}
use Rattle.tl_link_rules.specs.Flow.{shown}

pub shown_by_entries : (one two : FlowState) → SameSlots one.sources two.sources → SameSlots one.releases two.releases → SameSlots one.sinks two.sinks
    → shown one ≡ shown two
shown_by_entries one two sources releases sinks = λ i. record {
  source = λ key. sources key i;
  release = λ key. releases key i;
  sink = λ key. is_some (sinks key i);
}

units_by_some : (one two : Option (Unit {0})) → is_some one ≡ is_some two → one ≡ two
units_by_some None None h = refl
units_by_some None (Some y) h = cc
units_by_some (Some x) None h = cc
units_by_some (Some x) (Some y) h = refl

pub entries_by_shown : (one two : FlowState) → shown one ≡ shown two
    → SameSlots one.sources two.sources × SameSlots one.releases two.releases × SameSlots one.sinks two.sinks
entries_by_shown one two h = (
  (λ key. ap (λ (past : FlowPast). past.source key) h),
  (λ key. ap (λ (past : FlowPast). past.release key) h),
  (λ key. units_by_some _ _ (ap (λ (past : FlowPast). past.sink key) h)),
)
