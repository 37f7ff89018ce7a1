-- The printed rules of a beat rise.
use Rattle.std.proofs.Common.{refl}
use Rattle.std.specs.Prelude.{not}
use Rattle.std.specs.List.{list_all}
use Rattle.std.specs.List.Sorted.{IsStrictlySortedBy}
use Rattle.std.proofs.lemmas.List.Kept.{IsStrictlySortedBy-filter}
use Rattle.tl_tables.specs.Rules.{all_rules}
use Rattle.tl_definitions.specs.Report.{by_number}
use Rattle.tl_definitions.proofs.RuleLaws.{rising}
use Rattle.tl_definitions.specs.Known.{readings_of}
use Rattle.tl_definitions.specs.Printed.{front, breaks_by, is_of_monitors, beat_rules}
use Rattle.tl_definitions.specs.MidwayLaws.{PrintedRulesRise}

beat_rules_rise : IsStrictlySortedBy by_number beat_rules
beat_rules_rise = IsStrictlySortedBy-filter by_number (λ r. not (is_of_monitors r)) all_rules (rising all_rules refl)

pub printed_rules_rise : PrintedRulesRise
printed_rules_rise m start before p =
    IsStrictlySortedBy-filter by_number (λ r. list_all (breaks_by m (front m start before) p r) (readings_of m start before p)) beat_rules beat_rules_rise
