-- What a beat is by its readings.
use Rattle.std.proofs.Common.{◌≡◌, ℕ, ◌==◌, ◌||◌, Bool, true, false, cond, not, List, [], ◌∷◌, map, Option, Some, refl, sym, ap, subst, ◌∙◌, arith}
use Rattle.std.specs.Prelude.{filter}
use Rattle.std.proofs.lemmas.Bool.Decides.{nat_tests}
use Rattle.std.specs.List.{list_all}
use Rattle.std.proofs.lemmas.List.Elements.{filter_agree}
use Rattle.tl_topology.specs.declared.LinkDecl.{LinkDecl}
use Rattle.tl_beats.specs.Beats.{IsWellFormed}
use Rattle.tl_beats.specs.declared.Beat.{Beat}
use Rattle.tl_definitions.specs.Breaks.{later_order, later_rules}
use Rattle.tl_definitions.specs.Readings.{Reading, rest, is_due, is_refuted, may_begin, must_begin, in_lead_in, or_all, reading_after, told}
use Rattle.tl_definitions.proofs.Sure.{or_first, and_parts}
use Rattle.tl_midway.specs.Members.{SameMembers}
use Rattle.tl_midway.specs.Reading.{breaks_as, AreFormed}
use Rattle.tl_midway.specs.Readings.{shown_readings, Has}
use Rattle.tl_midway.specs.Seen.{Tells}
use Rattle.tl_midway.specs.Standing.{IsStanding, later_broken}
use Rattle.tl_midway.specs.declared.readings.Readings.{Readings}
use Rattle.tl_midway.specs.declared.standing.Standing.{Standing}
use Rattle.tl_midway.specs.declared.standing.Standing.TheVariants as standing
use Rattle.tl_midway.proofs.MemberLaws.{same_list, any_same, all_same}
use Rattle.tl_midway.proofs.ReadingLaws.{has_met, has_passed, same_formed, sole_rules}

later_same : (link : LinkDecl) (beat : Beat) (xs ys : List Reading) → SameMembers xs ys → later_broken link beat xs ≡ later_broken link beat ys
later_same link beat xs ys same =
    filter_agree (λ r. list_all (breaks_as link beat r) xs) (λ r. list_all (breaks_as link beat r) ys) (λ r. all_same (breaks_as link beat r) xs ys same) later_order

pub standing_same : (link : LinkDecl) (beat : Beat) (xs ys : List Reading) (s : Standing) → SameMembers xs ys → IsStanding link beat xs s → IsStanding link beat ys s
standing_same link beat xs ys standing.Head same is = (sym (all_same is_due xs ys same) ∙ is.0, sym (any_same is_due xs ys same) ∙ is.1)
standing_same link beat xs ys (standing.Either rules) same is =
    (sym (all_same is_due xs ys same) ∙ is.0, sym (any_same is_due xs ys same) ∙ is.1, is.2 ∙ later_same link beat xs ys same)
standing_same link beat xs ys (standing.Later rules) same is =
    (sym (all_same is_due xs ys same) ∙ is.0, sym (any_same is_due xs ys same) ∙ is.1, is.2 ∙ later_same link beat xs ys same)
standing_same link beat xs ys standing.GoesOn same is = (sym (all_same is_due xs ys same) ∙ is.0, sym (any_same is_due xs ys same) ∙ is.1, is.2 ∙ later_same link beat xs ys same)

-- ---- a beat that goes on with the only message that it may belong to

alone_told : (by_fields : Bool) (link : LinkDecl) (beat : Beat) (before : List Beat) (readings : List Reading) → in_lead_in readings ≡ false → told by_fields link beat before readings ≡ readings
alone_told true link beat before readings alone = ap (λ b. cond b (or_all (filter (λ reading. not (is_refuted link beat before reading)) readings) readings) readings) alone
alone_told false link beat before readings alone = refl

pub sole_alone : (head : Option Beat) (missing : ℕ) (readings : List Reading) → readings ≡ rest missing head ∷ [] → in_lead_in readings ≡ false
sole_alone head missing readings is =
    let same : (missing == missing) ≡ true = grind (arith, nat_tests) in
    ap in_lead_in is ∙ ap (λ b. not b || false || false) same

pub sole_goes_on : (link : LinkDecl) (beat head : Beat) (missing : ℕ) (readings : List Reading) → readings ≡ rest missing (Some head) ∷ [] → later_rules link beat head ≡ []
    → IsStanding link beat readings standing.GoesOn
sole_goes_on link beat head missing readings is none = (ap must_begin is, ap may_begin is, sym none ∙ sole_rules link beat head missing readings is)

-- A state has a reading at least.
pub must_may : (x : Reading) (xs : List Reading) → must_begin (x ∷ xs) ≡ true → may_begin (x ∷ xs) ≡ true
must_may x xs h = or_first (is_due x) (may_begin xs) (and_parts (is_due x) (must_begin xs) h).0

pub met_formed : (by_fields : Bool) (link : LinkDecl) (beat : Beat) (readings : List Reading) (before : List Beat) (old new : Readings) → Has old readings before
    → SameMembers (shown_readings new) (told by_fields link beat before (shown_readings old)) → new.seen ≡ old.seen → AreFormed (shown_readings new)
met_formed by_fields link beat readings before old new has members seen =
    let met = has_met by_fields link beat before readings old new has members seen in
    same_formed (shown_readings new) (told by_fields link beat before readings) met.members met.formed

pub taken : (by_fields : Bool) (link : LinkDecl) (beat : Beat) (readings : List Reading) (before : List Beat) (old mid new : Readings) (s : Standing) → IsWellFormed beat → Has old readings before
    → SameMembers (shown_readings mid) (told by_fields link beat before (shown_readings old)) → mid.seen ≡ old.seen → IsStanding link beat (shown_readings mid) s
    → SameMembers (shown_readings new) (map (reading_after link beat) (shown_readings mid)) → (Tells mid.seen before → Tells new.seen (beat ∷ before))
    → IsStanding link beat (told by_fields link beat before readings) s × Has new (map (reading_after link beat) (told by_fields link beat before readings)) (beat ∷ before)
taken by_fields link beat readings before old mid new s well has members seen stands passed tells =
    let now : List Reading = told by_fields link beat before readings in
    let met = has_met by_fields link beat before readings old mid has members seen in
    (standing_same link beat (shown_readings mid) now s met.members stands, has_passed link beat before now mid new well met passed (tells met.seen))

pub gone_on : (by_fields : Bool) (link : LinkDecl) (beat : Beat) (readings : List Reading) (before : List Beat) (old new : Readings) → IsWellFormed beat → Has old readings before
    → in_lead_in (shown_readings old) ≡ false → IsStanding link beat (shown_readings old) standing.GoesOn
    → SameMembers (shown_readings new) (map (reading_after link beat) (shown_readings old)) → (Tells old.seen before → Tells new.seen (beat ∷ before))
    → IsStanding link beat (told by_fields link beat before readings) standing.GoesOn × Has new (map (reading_after link beat) (told by_fields link beat before readings)) (beat ∷ before)
gone_on by_fields link beat readings before old new well has alone stands passed tells =
    taken by_fields link beat readings before old old new standing.GoesOn well has
    (subst (SameMembers (shown_readings old)) (sym (alone_told by_fields link beat before (shown_readings old) alone)) (same_list (shown_readings old))) refl stands passed tells
