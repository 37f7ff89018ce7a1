-- One edit more.
use Rattle.std.proofs.Common.{◌≡◌, ℕ, suc, zero, ◌+◌, ◌<◌, ◌≤◌, List, [], ◌∷◌, ◌++◌, length, take, drop, get_or, map, refl, sym, ap, subst, ◌∙◌, arith, true, false, cond, Option, Some, None}
use Rattle.std.specs.Prelude.{nat_le}
use Rattle.std.specs.Option.{option_map_or}
use Rattle.std.proofs.lemmas.Bool.Decides.{nat_tests}
use Rattle.std.proofs.lemmas.List.{take_more, take-append-drop, map-append, length-map, take-map, take_all}
use Rattle.tl_topology.specs.Topology.{Topology, number_of_name}
use Rattle.tl_edits.specs.Edits.{AnEdit, add, replace, withdraw, clear_link, set_region, remove_region, attach, retune, detach}
use Rattle.tl_edits.specs.Inputs.{InputData, blank, cause, changed, refusal, most_edits}
use Rattle.tl_edits.specs.Log.{changed_by, inputs_after, AcceptedFrom, LogData, IsLog}
use Rattle.tl_edits.specs.declared.fault.EditFault.{EditFault}

changed_more : (now : InputData) (es fs : List AnEdit) → changed_by now (es ++ fs) ≡ changed_by (changed_by now es) fs
changed_more now [] fs = refl
changed_more now (e ∷ es) fs = changed_more (changed now e) es fs

accepted_more : (edits : ℕ) (now : InputData) (es : List AnEdit) (e : AnEdit) → AcceptedFrom edits now es → refusal (edits + length es) (changed_by now es) e ≡ None
    → AcceptedFrom edits now (es ++ e ∷ [])
accepted_more edits now [] e is none = let same : edits + 0 ≡ edits = omega arith in (subst (λ n. refusal n now e ≡ None) same none, tt)
accepted_more edits now (g ∷ es) e is none =
    let same : edits + length (g ∷ es) ≡ (edits + 1) + length es = omega arith in
    (is.0, accepted_more (edits + 1) (changed now g) es e is.1 (subst (λ n. refusal n (changed_by (changed now g) es) e ≡ None) same none))

-- An edit of an accepted list was refused by no cause.
accepted_at : (edits : ℕ) (now : InputData) (es : List AnEdit) (e : AnEdit) (fs : List AnEdit) → AcceptedFrom edits now (es ++ e ∷ fs) → refusal (edits + length es) (changed_by now es) e ≡ None
accepted_at edits now [] e fs is = let same : edits ≡ edits + 0 = omega arith in subst (λ n. refusal n now e ≡ None) same is.0
accepted_at edits now (g ∷ es) e fs is =
    let same : (edits + 1) + length es ≡ edits + length (g ∷ es) = omega arith in
    subst (λ n. refusal n (changed_by (changed now g) es) e ≡ None) same (accepted_at (edits + 1) (changed now g) es e fs is.1)

chosen : (c : Option EditFault) (full : Option EditFault) → option_map_or (λ why. Some why) c full ≡ None → c ≡ None
chosen None full h = refl
chosen (Some why) full h = absurd (cc)

left : (c : Option EditFault) (full : Option EditFault) → option_map_or (λ why. Some why) c full ≡ None → full ≡ None
left None full h = h
left (Some why) full h = absurd (cc)

pub no_cause : (edits : ℕ) (now : InputData) (e : AnEdit) → refusal edits now e ≡ None → cause now e ≡ None
no_cause edits now e h = chosen (cause now e) _ h

few_before : (edits : ℕ) (why : EditFault) → cond (nat_le most_edits edits) (Some why) None ≡ None → edits + 1 ≤ most_edits
few_before edits why h = elim (nat_le most_edits edits) as (λ t. nat_le most_edits edits ≡ t → cond t (Some why) None ≡ None → edits + 1 ≤ most_edits) [
  | true ↦ λ e g. absurd (cc)
  | false ↦ λ e g. grind (arith, nat_tests)
] refl h

pub few_more : (edits : ℕ) (now : InputData) (e : AnEdit) → refusal edits now e ≡ None → edits + 1 ≤ most_edits
few_more edits now e h = few_before edits _ (left (cause now e) _ h)

-- A log with one edit more.
module _ {X : Type 0} (value : X → AnEdit) (topo : Topology) (xs : List X) (x : X) where
  told : map value (xs ++ x ∷ []) ≡ map value xs ++ value x ∷ []
  told = map-append value xs (x ∷ [])

  count : length (map value xs) ≡ length xs
  count = length-map xs value

  pub log_more : IsLog (record { topo = topo; edits = map value xs }) → refusal (length xs) (inputs_after topo (map value xs)) (value x) ≡ None → IsLog (record { topo = topo; edits = map value (xs ++ x ∷ []) })
  log_more is none =
      let long : length xs ≡ 0 + length (map value xs) = sym count ∙ zero_before (length (map value xs)) in
      let here : refusal (0 + length (map value xs)) (inputs_after topo (map value xs)) (value x) ≡ None = subst (λ n. refusal n (inputs_after topo (map value xs)) (value x) ≡ None) long none in
      subst (λ es. IsLog (record { topo = topo; edits = es })) (sym told)
      (record {
        accepted = accepted_more 0 (blank topo) (map value xs) (value x) is.accepted here;
        few = (let most = few_more (length xs) (inputs_after topo (map value xs)) (value x) none in
            let long : length (map value xs ++ value x ∷ []) ≡ length xs + 1 = ap length (sym told) ∙ length-map (xs ++ x ∷ []) value ∙ length_more xs in
            subst (λ n. n ≤ most_edits) (sym long) most);
      })
    where
      zero_before : (n : ℕ) → n ≡ 0 + n
      zero_before n = omega arith

      length_more : (ys : List X) → length (ys ++ x ∷ []) ≡ length ys + 1
      length_more [] = refl
      length_more (y ∷ ys) = let rest = length_more ys in omega arith

  pub inputs_more : inputs_after topo (map value (xs ++ x ∷ [])) ≡ changed (inputs_after topo (map value xs)) (value x)
  inputs_more = ap (inputs_after topo) told ∙ changed_more (blank topo) (map value xs) (value x ∷ [])

-- Made anew, one edit of a log after the other.
module _ {X : Type 0} (value : X → AnEdit) (topo : Topology) (xs : List X) (i : ℕ) (d : X) (within : i < length xs) where
  step : map value (take (i + 1) xs) ≡ map value (take i xs) ++ value (get_or xs i d) ∷ []
  step = ap (map value) (take_more xs i d within) ∙ map-append value (take i xs) (get_or xs i d ∷ [])

  pub made_more : inputs_after topo (map value (take (i + 1) xs)) ≡ changed (inputs_after topo (map value (take i xs))) (value (get_or xs i d))
  made_more = ap (inputs_after topo) step ∙ changed_more (blank topo) (map value (take i xs)) (value (get_or xs i d) ∷ [])

  pub made_free : AcceptedFrom 0 (blank topo) (map value xs) → cause (inputs_after topo (map value (take i xs))) (value (get_or xs i d)) ≡ None
  made_free is =
      let es : List AnEdit = map value (take i xs) in
      let fs : List AnEdit = map value (drop (i + 1) xs) in
      let whole : map value xs ≡ es ++ value (get_or xs i d) ∷ fs =
      ap (map value) (sym (take-append-drop (i + 1) xs)) ∙ map-append value (take (i + 1) xs) (drop (i + 1) xs) ∙ ap (λ l. l ++ fs) step ∙ joined es (value (get_or xs i d)) fs in
      no_cause (0 + length es) (inputs_after topo es) (value (get_or xs i d)) (accepted_at 0 (blank topo) es (value (get_or xs i d)) fs (subst (AcceptedFrom 0 (blank topo)) whole is))
    where
      joined : (es : List AnEdit) (e : AnEdit) (fs : List AnEdit) → (es ++ e ∷ []) ++ fs ≡ es ++ e ∷ fs
      joined [] e fs = refl
      joined (g ∷ es) e fs = ap (λ l. g ∷ l) (joined es e fs)

-- ---- what the code keeps

keeps : (o : Option ℕ) (f : ℕ → InputData) (now : InputData) → ((n : ℕ) → (f n).topo ≡ now.topo) → (option_map_or f o now).topo ≡ now.topo
keeps None f now h = refl
keeps (Some n) f now h = h n

pub topo_stays : (now : InputData) (e : AnEdit) → (changed now e).topo ≡ now.topo
topo_stays now (add f) = keeps (number_of_name now.topo.links f.link) _ now (λ n. refl)
topo_stays now (replace f) = keeps (number_of_name now.topo.links f.link) _ now (λ n. refl)
topo_stays now (withdraw name number) = keeps (number_of_name now.topo.links name) _ now (λ n. refl)
topo_stays now (clear_link name) = keeps (number_of_name now.topo.links name) _ now (λ n. refl)
topo_stays now (set_region name number area) = keeps (number_of_name now.topo.managers name) _ now (λ n. refl)
topo_stays now (remove_region name number) = keeps (number_of_name now.topo.managers name) _ now (λ n. refl)
topo_stays now (attach monitor w) = refl
topo_stays now (retune monitor limit) = refl
topo_stays now (detach monitor) = refl

topo_stays_by : (now : InputData) (es : List AnEdit) → (changed_by now es).topo ≡ now.topo
topo_stays_by now [] = refl
topo_stays_by now (e ∷ es) = topo_stays_by (changed now e) es ∙ topo_stays now e

pub inputs_topo : (topo : Topology) (es : List AnEdit) (inputs : InputData) → inputs ≡ inputs_after topo es → inputs.topo ≡ topo
inputs_topo topo es inputs is = ap (λ (d : InputData). d.topo) is ∙ topo_stays_by (blank topo) es

module _ {X : Type 0} (value : X → AnEdit) (xs ys : List X) (now next : InputData) where
  pub kept_with : (x : X) → IsLog (record { topo = now.topo; edits = map value xs }) → now ≡ inputs_after now.topo (map value xs) → refusal (length xs) now (value x) ≡ None
      → next ≡ changed now (value x) → ys ≡ xs ++ x ∷ [] → IsLog (record { topo = next.topo; edits = map value ys }) × (next ≡ inputs_after next.topo (map value ys))
  kept_with x is stands none then with_it =
      let same : next.topo ≡ now.topo = ap (λ (d : InputData). d.topo) then ∙ topo_stays now (value x) in
      let log : IsLog (record { topo = now.topo; edits = map value (xs ++ x ∷ []) }) = log_more value now.topo xs x is (subst (λ d. refusal (length xs) d (value x) ≡ None) stands none) in
      let told : next ≡ inputs_after now.topo (map value (xs ++ x ∷ [])) = then ∙ ap (λ d. changed d (value x)) stands ∙ sym (inputs_more value now.topo xs x) in (
        subst (λ zs. IsLog (record { topo = next.topo; edits = map value zs })) (sym with_it) (subst (λ t. IsLog (record { topo = t; edits = map value (xs ++ x ∷ []) })) (sym same) log),
        subst (λ zs. next ≡ inputs_after next.topo (map value zs)) (sym with_it) (subst (λ t. next ≡ inputs_after t (map value (xs ++ x ∷ []))) (sym same) told),
      )

  pub kept_alike : IsLog (record { topo = now.topo; edits = map value xs }) → now ≡ inputs_after now.topo (map value xs) → next ≡ now → map value ys ≡ map value xs
      → IsLog (record { topo = next.topo; edits = map value ys }) × (next ≡ inputs_after next.topo (map value ys))
  kept_alike is stands same alike = (
    subst (λ es. IsLog (record { topo = next.topo; edits = es })) (sym alike) (subst (λ (d : InputData). IsLog (record { topo = d.topo; edits = map value xs })) (sym same) is),
    subst (λ es. next ≡ inputs_after next.topo es) (sym alike) (subst (λ (d : InputData). d ≡ inputs_after d.topo (map value xs)) (sym same) stands),
  )

pub copies_more : {X : Type 0} (value : X → AnEdit) (xs : List X) (i : ℕ) (d : X) (ys : List X) (y : X) → i < length xs → map value ys ≡ map value (take i xs) → value y ≡ value (get_or xs i d)
    → map value (ys ++ y ∷ []) ≡ map value (take (i + 1) xs)
copies_more value xs i d ys y within h same =
    map-append value ys (y ∷ []) ∙ ap (λ l. l ++ value y ∷ []) h ∙ ap (λ e. map value (take i xs) ++ e ∷ []) same
    ∙ sym (ap (map value) (take_more xs i d within) ∙ map-append value (take i xs) (get_or xs i d ∷ []))

accepted_front : (edits : ℕ) (now : InputData) (k : ℕ) (es : List AnEdit) → AcceptedFrom edits now es → AcceptedFrom edits now (take k es)
accepted_front edits now zero es is = tt
accepted_front edits now (suc k) [] is = tt
accepted_front edits now (suc k) (e ∷ es) is = (is.0, accepted_front (edits + 1) (changed now e) k es is.1)

pub copied_whole : {X : Type 0} (value : X → AnEdit) (xs ys zs : List X) (i : ℕ) → map value ys ≡ map value (take i xs) → length xs ≤ i → xs ≡ zs → map value ys ≡ map value zs
copied_whole value xs ys zs i h far same = h ∙ ap (map value) (take_all i xs far ∙ same)

-- What the first edits of a log leave, made anew.
module _ {X : Type 0} (value : X → AnEdit) (all : List X) (log : LogData) (view : map value all ≡ log.edits) (k i : ℕ) (now : InputData)
    (stands : now ≡ inputs_after log.topo (map value (take i (take k all)))) where
  module _ (is : IsLog log) (d : X) (within : i < length (take k all)) (it : d ≡ get_or (take k all) i d) where
    front : AcceptedFrom 0 (blank log.topo) (map value (take k all))
    front = subst (AcceptedFrom 0 (blank log.topo)) (ap (take k) (sym view) ∙ take-map value k all) (accepted_front 0 (blank log.topo) k log.edits is.accepted)

    pub next_is_free : cause now (value d) ≡ None
    next_is_free = subst (λ n. cause n (value d) ≡ None) (sym stands)
        (subst (λ x. cause (inputs_after log.topo (map value (take i (take k all)))) (value x) ≡ None) (sym it) (made_free value log.topo (take k all) i d within front))

    pub next_is_made : (next : InputData) → next ≡ changed now (value d) → next ≡ inputs_after log.topo (map value (take (i + 1) (take k all)))
    next_is_made next then = then ∙ ap (λ n. changed n (value d)) stands ∙ ap (λ x. changed (inputs_after log.topo (map value (take i (take k all)))) (value x)) it
        ∙ sym (made_more value log.topo (take k all) i d within)

  pub all_is_made : length (take k all) ≤ i → now ≡ inputs_after log.topo (take k log.edits)
  all_is_made far = stands ∙ ap (λ l. inputs_after log.topo (map value l)) (take_all i (take k all) far) ∙ ap (inputs_after log.topo) (sym (take-map value k all) ∙ ap (take k) view)

-- What no cause refuses by a log, none refuses by what the code keeps of it.
pub free_inside : {X : Type 0} (value : X → AnEdit) (xs : List X) (now : InputData) (log : LogData) (x : X) → ◌≡◌ {A = LogData} (record { topo = now.topo; edits = map value xs }) log
    → now ≡ inputs_after now.topo (map value xs) → refusal (length log.edits) (inputs_after log.topo log.edits) (value x) ≡ None → refusal (length xs) now (value x) ≡ None
free_inside value xs now log x view stands none =
    let shown : refusal (length (map value xs)) (inputs_after now.topo (map value xs)) (value x) ≡ None =
    subst (λ (l : LogData). refusal (length l.edits) (inputs_after l.topo l.edits) (value x) ≡ None) (sym view) none in
    subst (λ n. refusal n now (value x) ≡ None) (length-map xs value) (subst (λ (d : InputData). refusal (length (map value xs)) d (value x) ≡ None) (sym stands) shown)
