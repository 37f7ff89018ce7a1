-- One fragment more.
use Rattle.std.proofs.Common.{◌≡◌, ℕ, ◌+◌, ◌<◌, List, [], ◌∷◌, ◌++◌, length, take, drop, get_or, map, refl, sym, ap, subst, ◌∙◌, arith, Option, Some, None}
use Rattle.std.specs.Option.{option_map_or}
use Rattle.std.proofs.lemmas.List.{take_more, take-append-drop, map-append}
use Rattle.tl_topology.specs.Topology.{Topology}
use Rattle.tl_beats.specs.Fragments.{Frag}
use Rattle.tl_edits.specs.Edits.{AnEdit, add, code_of, number_of}
use Rattle.tl_edits.specs.Inputs.{InputData, blank, changed, refusal}
use Rattle.tl_edits.specs.Log.{changed_by, inputs_after, LogData}
use Rattle.tl_edits.specs.declared.fault.EditFault.{EditFault}
use Rattle.tl_edits.specs.declared.fault.EditFault.TheVariants as edit
use Rattle.tl_check.specs.Once.{adds, refusal_from, first_refusal, of_edit, IsRefusal}
use Rattle.tl_check.specs.declared.once.OnceFault.{OnceFault}
use Rattle.tl_check.specs.declared.once.OnceFault.TheVariants as once

first_is : (c rest : Option EditFault) → option_map_or (λ why. Some why) c rest ≡ None → c ≡ None
first_is None rest h = refl
first_is (Some why) rest h = absurd (cc)

goes_on : (c rest : Option EditFault) → c ≡ None → option_map_or (λ why. Some why) c rest ≡ rest
goes_on None rest h = refl
goes_on (Some why) rest h = absurd (cc)

ends : (c rest : Option EditFault) (why : EditFault) → c ≡ Some why → option_map_or (λ why. Some why) c rest ≡ Some why
ends None rest why h = absurd (cc)
ends (Some found) rest why h = h

-- Behind edits that are accepted, the first refusal is that of the others.
refusal_more : (edits : ℕ) (now : InputData) (es fs : List AnEdit) → refusal_from edits now es ≡ None → refusal_from edits now (es ++ fs) ≡ refusal_from (edits + length es) (changed_by now es) fs
refusal_more edits now [] fs h = let same : edits ≡ edits + 0 = omega arith in ap (λ n. refusal_from n now fs) same
refusal_more edits now (e ∷ es) fs h =
    let free = first_is (refusal edits now e) (refusal_from (edits + 1) (changed now e) es) h in
    let rest : refusal_from (edits + 1) (changed now e) es ≡ None = sym (goes_on (refusal edits now e) (refusal_from (edits + 1) (changed now e) es) free) ∙ h in
    let count : (edits + 1) + length es ≡ edits + length (e ∷ es) = omega arith in
    goes_on (refusal edits now e) (refusal_from (edits + 1) (changed now e) (es ++ fs)) free ∙ refusal_more (edits + 1) (changed now e) es fs rest
    ∙ ap (λ n. refusal_from n (changed_by (changed now e) es) fs) count

zero_before : (n : ℕ) → n ≡ 0 + n
zero_before n = omega arith

module _ {X : Type 0} (value : X → Frag) (topo : Topology) (xs : List X) (i : ℕ) (d : X) (within : i < length xs) (before : first_refusal topo (map value (take i xs)) ≡ None) where
  abbrev front : List AnEdit
  front = adds (map value (take i xs))

  step : map value (take (i + 1) xs) ≡ map value (take i xs) ++ value (get_or xs i d) ∷ []
  step = ap (map value) (take_more xs i d within) ∙ map-append value (take i xs) (get_or xs i d ∷ [])

  pub adds_more : adds (map value (take (i + 1) xs)) ≡ adds (map value (take i xs)) ++ add (value (get_or xs i d)) ∷ []
  adds_more = ap adds step ∙ map-append add (map value (take i xs)) (value (get_or xs i d) ∷ [])

  pub accepted_more : refusal (length (adds (map value (take i xs)))) (inputs_after topo (adds (map value (take i xs)))) (add (value (get_or xs i d))) ≡ None → first_refusal topo (map value (take (i + 1) xs)) ≡ None
  accepted_more free =
      let here = subst (λ n. refusal n (inputs_after topo front) (add (value (get_or xs i d))) ≡ None) (zero_before (length front)) free in
      ap (refusal_from 0 (blank topo)) adds_more ∙ refusal_more 0 (blank topo) front (add (value (get_or xs i d)) ∷ []) before
      ∙ goes_on (refusal (0 + length front) (inputs_after topo front) (add (value (get_or xs i d)))) None here

  pub refused_at : (why : EditFault) → refusal (length (adds (map value (take i xs)))) (inputs_after topo (adds (map value (take i xs)))) (add (value (get_or xs i d))) ≡ Some why
      → first_refusal topo (map value xs) ≡ Some why
  refused_at why is =
      let e : AnEdit = add (value (get_or xs i d)) in
      let back : List AnEdit = adds (map value (drop (i + 1) xs)) in
      let whole : adds (map value xs) ≡ front ++ e ∷ back =
      ap (λ l. adds (map value l)) (sym (take-append-drop (i + 1) xs)) ∙ ap adds (map-append value (take (i + 1) xs) (drop (i + 1) xs))
      ∙ map-append add (map value (take (i + 1) xs)) (map value (drop (i + 1) xs)) ∙ ap (λ l. l ++ back) adds_more ∙ joined front e back in
      let here = subst (λ n. refusal n (inputs_after topo front) e ≡ Some why) (zero_before (length front)) is in
      ap (refusal_from 0 (blank topo)) whole ∙ refusal_more 0 (blank topo) front (e ∷ back) before
      ∙ ends (refusal (0 + length front) (inputs_after topo front) e) (refusal_from ((0 + length front) + 1) (changed (inputs_after topo front) e) back) why here
    where
      joined : (es : List AnEdit) (e : AnEdit) (fs : List AnEdit) → (es ++ e ∷ []) ++ fs ≡ es ++ e ∷ fs
      joined [] e fs = refl
      joined (g ∷ es) e fs = ap (λ l. g ∷ l) (joined es e fs)

-- What is told of a refused edit.
pub told_of : (why : EditFault) (code : ℕ) (number : Option ℕ) → of_edit why ≡ once.Refused code number → ((why ≡ edit.Memory) → ⊥) × (code_of why ≡ code) × (number_of why ≡ number)
told_of edit.Memory code number h = absurd (cc)
told_of edit.UnknownLink code number h = ((λ m. cc), cc, cc)
told_of edit.UnknownManager code number h = ((λ m. cc), cc, cc)
told_of edit.FragmentExists code number h = ((λ m. cc), cc, cc)
told_of edit.NoFragment code number h = ((λ m. cc), cc, cc)
told_of edit.NoRegion code number h = ((λ m. cc), cc, cc)
told_of edit.MonitorExists code number h = ((λ m. cc), cc, cc)
told_of edit.NoMonitor code number h = ((λ m. cc), cc, cc)
told_of edit.WrongKind code number h = ((λ m. cc), cc, cc)
told_of (edit.RangeOverlap n) code number h = ((λ m. cc), cc, cc)
told_of (edit.RegionOverlap n) code number h = ((λ m. cc), cc, cc)
told_of edit.LogFull code number h = ((λ m. cc), cc, cc)

module _ {X : Type 0} (value : X → Frag) (topo : Topology) (xs : List X) (i : ℕ) (d : X) (within : i < length xs) (log : LogData)
    (is : log ≡ record { topo = topo; edits = adds (map value (take i xs)) }) (before : first_refusal topo (map value (take i xs)) ≡ None)
    (e : AnEdit) (it : e ≡ add (value (get_or xs i d))) where
  here : (asked : Option EditFault) → refusal (length log.edits) (inputs_after log.topo log.edits) e ≡ asked
      → refusal (length (adds (map value (take i xs)))) (inputs_after topo (adds (map value (take i xs)))) (add (value (get_or xs i d))) ≡ asked
  here asked h = subst (λ g. refusal (length (adds (map value (take i xs)))) (inputs_after topo (adds (map value (take i xs)))) g ≡ asked) it
      (subst (λ (l : LogData). refusal (length l.edits) (inputs_after l.topo l.edits) e ≡ asked) is h)

  pub next_log : (next : LogData) → next ≡ record log { edits = log.edits ++ e ∷ [] } → refusal (length log.edits) (inputs_after log.topo log.edits) e ≡ None
      → (next ≡ record { topo = topo; edits = adds (map value (take (i + 1) xs)) }) × (first_refusal topo (map value (take (i + 1) xs)) ≡ None)
  next_log next then free = (
    then ∙ ap (λ (l : LogData). record { topo = l.topo; edits = l.edits ++ e ∷ [] }) is ∙ ap (λ g. record { topo = topo; edits = adds (map value (take i xs)) ++ g ∷ [] }) it
        ∙ ap (λ es. record { topo = topo; edits = es }) (sym (adds_more value topo xs i d within before)),
    accepted_more value topo xs i d within before (here None free),
  )

  pub first_why : (why : EditFault) → refusal (length log.edits) (inputs_after log.topo log.edits) e ≡ Some why → first_refusal topo (map value xs) ≡ Some why
  first_why why h = refused_at value topo xs i d within before why (here (Some why) h)
