-- Heads, later beats, and what a burst leaves unfinished.
use Rattle.std.proofs.Common.{◌≡◌, ℕ, ◌+◌, ◌-◌, ◌<◌, ◌≤◌, ◌^◌, ◌/◌, ◌⊎◌, inl, inr, ◌==◌, ◌||◌, max, Bool, true, false, cond, List, [], ◌∷◌, ◌++◌, length, Option, Some, None, refl, sym, ap, subst, ◌∙◌, arith, length-append}
use Rattle.std.specs.Prelude.{nat_lt, slice_index, is_none}
use Rattle.std.specs.List.{list_any}
use Rattle.std.specs.Option.{option_map, option_map_or}
use Rattle.std.proofs.lemmas.Bool.Decides.{nat_tests}
use Rattle.tl_tables.specs.declared.Op.{Op}
use Rattle.tl_tables.specs.Messages.{carries_data_of}
use Rattle.tl_topology.specs.declared.LinkDecl.{LinkDecl}
use Rattle.tl_beats.specs.declared.Beat.{Beat}
use Rattle.tl_definitions.specs.declared.Unfinished.{Unfinished}
use Rattle.tl_definitions.specs.Heads.{message_of, beat_count, begins, ends, is_head, last_head, unfinished, left, after_beat}
use Rattle.tl_definitions.specs.Laws.{HeadsAreByBursts, IsLastHead, LaterBeatsHaveAHead, OneBeatIsAll, OneBeatMessagesAreHeads, MessagesOwnTheirBeats, UnfinishedIsTheRest}

-- Some head's burst ends at k.
abbrev EndsAt : LinkDecl → List Beat → ℕ → Type 0
EndsAt link before k = (newer older : List Beat) × (j : Beat) × (before ≡ newer ++ j ∷ older) × (is_head link older ≡ true) × (length older + beat_count link j ≡ k)

ends_at : (link : LinkDecl) (before : List Beat) (k : ℕ) → list_any (λ end. end == k) (ends link before) ≡ true → EndsAt link before k
ends_at link [] k h = cc
ends_at link (beat ∷ before) k h =
    let older : list_any (λ end. end == k) (ends link before) ≡ true → EndsAt link (beat ∷ before) k = λ g. (let r = ends_at link before k g in (beat ∷ r.0, r.1, r.2, ap (λ bs. beat ∷ bs) r.3, r.4, r.5)) in
    elim (is_head link before) as (λ b. is_head link before ≡ b → list_any (λ end. end == k) (cond b ((length before + beat_count link beat) ∷ ends link before) (ends link before)) ≡ true → EndsAt link (beat ∷ before) k) [
      | true ↦ λ e g. elim ((length before + beat_count link beat) == k) as (λ t. ((length before + beat_count link beat) == k) ≡ t → (t || list_any (λ end. end == k) (ends link before)) ≡ true → EndsAt link (beat ∷ before) k) [
        | true ↦ λ s _. ([], before, beat, refl, e, grind (arith, nat_tests))
        | false ↦ λ _ f. older f
      ] refl g
      | false ↦ λ e g. older g
    ] refl h

or_right : (a b : Bool) → b ≡ true → (a || b) ≡ true
or_right true b h = refl
or_right false b h = h

at_ends : (link : LinkDecl) (newer older : List Beat) (j : Beat) → is_head link older ≡ true → list_any (λ end. end == (length older + beat_count link j)) (ends link (newer ++ j ∷ older)) ≡ true
at_ends link [] older j h =
    let same : ((length older + beat_count link j) == (length older + beat_count link j)) ≡ true = grind (arith, nat_tests) in
    rw (h, same) refl
at_ends link (n ∷ newer) older j h =
    let known = at_ends link newer older j h in
    elim (is_head link (newer ++ j ∷ older)) as (λ b. list_any (λ end. end == (length older + beat_count link j)) (cond b ((length (newer ++ j ∷ older) + beat_count link n) ∷ ends link (newer ++ j ∷ older)) (ends link (newer ++ j ∷ older))) ≡ true) [
      | true ↦ or_right ((length (newer ++ j ∷ older) + beat_count link n) == (length older + beat_count link j)) _ known
      | false ↦ known
    ]

or_left : (a b : Bool) → (a || b) ≡ true → (a ≡ true) ⊎ (b ≡ true)
or_left true b h = inl refl
or_left false b h = inr h

pub heads_by_bursts : HeadsAreByBursts
heads_by_bursts link before = (
  (λ h. elim (or_left (length before == 0) _ h) [ inl z ↦ inl (grind (arith, nat_tests)) | inr g ↦ inr (ends_at link before (length before) g) ]),
  (λ o. elim o [
    | inl z ↦ (let t : (length before == 0) ≡ true = grind (arith, nat_tests) in ap (λ b. b || list_any (λ end. end == length before) (ends link before)) t)
    | inr r ↦ or_right (length before == 0) _ (subst (λ k. list_any (λ end. end == k) (ends link before) ≡ true) r.5
        (subst (λ bs. list_any (λ end. end == (length r.1 + beat_count link r.2)) (ends link bs) ≡ true) (sym r.3) (at_ends link r.0 r.1 r.2 r.4)))
  ]),
)

-- The head that comes before a later beat.
heads_before : (link : LinkDecl) (before : List Beat) (beat : Beat) → (head : Beat) × (last_head link (beat ∷ before) ≡ Some head) × IsLastHead link (beat ∷ before) head
heads_before link [] beat = (beat, refl, ([], [], refl, refl, tt))
heads_before link (last ∷ before) beat =
    let known = heads_before link before last in
    elim (is_head link (last ∷ before)) as (λ t. is_head link (last ∷ before) ≡ t → (head : Beat) × (cond t (Some beat) (last_head link (last ∷ before)) ≡ Some head) × IsLastHead link (beat ∷ last ∷ before) head) [
      | true ↦ λ h. (beat, refl, ([], last ∷ before, refl, h, tt))
      | false ↦ λ h. (known.0, known.1, (beat ∷ known.2.0, known.2.1, ap (λ bs. beat ∷ bs) known.2.2, known.2.3, (subst (λ bs. is_head link bs ≡ false) known.2.2 h, known.2.4)))
    ] refl

pub later_beats_have_a_head : LaterBeatsHaveAHead
later_beats_have_a_head link [] h = cc
later_beats_have_a_head link (beat ∷ before) h = heads_before link before beat

count_positive : (x : ℕ) (op : Option Op) → 1 ≤ option_map_or (λ o. cond (carries_data_of o) (max 1 x) 1) op 1
count_positive x None = omega arith
count_positive x (Some o) = elim (carries_data_of o) as (λ b. 1 ≤ cond b (max 1 x) 1) [ true ↦ omega arith | false ↦ omega arith ]

pub positive : (link : LinkDecl) (beat : Beat) → 1 ≤ beat_count link beat
positive link beat = count_positive (2 ^ beat.size / link.width) (message_of link beat)

-- The burst of the newest head ends here, at the next index or above, and it decides alone whether that or a later index begins one.
pub record Latest (link : LinkDecl) (before : List Beat) (head : Beat) (end : ℕ) : Type 0 where
  pub is : last_head link before ≡ Some head
  pub first : slice_index (ends link before) 0 ≡ end
  pub reaches : length before ≤ end
  pub alone : (k : ℕ) → length before ≤ k → begins k (ends link before) ≡ (end == k)

-- A head hides the ends before it.
at_head : (link : LinkDecl) (beat : Beat) (before : List Beat) → is_head link before ≡ true
    → ((k : ℕ) → length before < k → begins k (ends link before) ≡ false) → Latest link (beat ∷ before) beat (length before + beat_count link beat)
at_head link beat before h gone =
    let e : ends link (beat ∷ before) ≡ (length before + beat_count link beat) ∷ ends link before = ap (λ b. cond b ((length before + beat_count link beat) ∷ ends link before) (ends link before)) h in
    record {
      is = ap (λ b. cond b (Some beat) (last_head link before)) h;
      first = ap (λ es. slice_index es 0) e;
      reaches = let p = positive link beat in omega arith;
      alone = λ k le. ap (begins k) e ∙ (let g = gone k (omega arith) in grind (arith, nat_tests));
    }

at_later : (link : LinkDecl) (beat : Beat) (before : List Beat) {head : Beat} {end : ℕ} → is_head link before ≡ false → Latest link before head end → Latest link (beat ∷ before) head end
at_later link beat before {head} {end} h l =
    let e : ends link (beat ∷ before) ≡ ends link before = ap (λ b. cond b ((length before + beat_count link beat) ∷ ends link before) (ends link before)) h in
    let here : (end == length before) ≡ false = sym (l.alone (length before) (omega arith)) ∙ h in
    record {
      is = ap (λ b. cond b (Some beat) (last_head link before)) h ∙ l.is;
      first = ap (λ es. slice_index es 0) e ∙ l.first;
      reaches = let r = l.reaches in grind (arith, nat_tests);
      alone = λ k le. ap (begins k) e ∙ l.alone k (omega arith);
    }

ended : (link : LinkDecl) (before : List Beat) {head : Beat} {end : ℕ} → is_head link before ≡ true → Latest link before head end → (k : ℕ) → length before < k → begins k (ends link before) ≡ false
ended link before {head} {end} h l k lt =
    let here : (end == length before) ≡ true = sym (l.alone (length before) (omega arith)) ∙ h in
    l.alone k (omega arith) ∙ (grind (arith, nat_tests))

-- After each beat there is a newest head.
latest_at : (link : LinkDecl) (beat : Beat) (before : List Beat) → (head : Beat) × (newer older : List Beat) × ((beat ∷ before) ≡ newer ++ head ∷ older) × (is_head link older ≡ true)
    × Latest link (beat ∷ before) head (length older + beat_count link head)
latest_at link beat [] = (beat, [], [], refl, refl, at_head link beat [] refl (λ k lt. grind (arith, nat_tests)))
latest_at link beat (last ∷ before) =
    let known = latest_at link last before in
    elim (is_head link (last ∷ before)) as (λ b. is_head link (last ∷ before) ≡ b → (head : Beat) × (newer older : List Beat) × ((beat ∷ last ∷ before) ≡ newer ++ head ∷ older) × (is_head link older ≡ true)
    × Latest link (beat ∷ last ∷ before) head (length older + beat_count link head)) [
      | true ↦ λ h. (beat, [], last ∷ before, refl, h, at_head link beat (last ∷ before) h (ended link (last ∷ before) h known.5))
      | false ↦ λ h. (known.0, beat ∷ known.1, known.2, ap (λ bs. beat ∷ bs) known.3, known.4, at_later link beat (last ∷ before) h known.5)
    ] refl

pub latest : (link : LinkDecl) (beat : Beat) (before : List Beat) → (head : Beat) × (end : ℕ) × Latest link (beat ∷ before) head end
latest link beat before = let known = latest_at link beat before in (known.0, length known.2 + beat_count link known.0, known.5)

-- A head that comes next is the latest, whatever came before it.
latest_head : (link : LinkDecl) (before : List Beat) (beat : Beat) → is_head link before ≡ true → Latest link (beat ∷ before) beat (length before + beat_count link beat)
latest_head link [] beat h = at_head link beat [] h (λ k lt. grind (arith, nat_tests))
latest_head link (last ∷ before) beat h = at_head link beat (last ∷ before) h (ended link (last ∷ before) h (latest link last before).2)

-- A head is the latest of the beats that it owns.
owns : (link : LinkDecl) (before later : List Beat) (head : Beat) → is_head link before ≡ true → length later < beat_count link head
    → Latest link (later ++ head ∷ before) head (length before + beat_count link head)
owns link before [] head h lt = latest_head link before head h
owns link before (beat ∷ later) head h lt =
    let known = owns link before later head h (omega arith) in
    let so_far : length (later ++ head ∷ before) ≡ length later + (length before + 1) = length-append later (head ∷ before) ∙ ap (λ n. length later + n) (omega arith) in
    let not_yet : ((length before + beat_count link head) == length (later ++ head ∷ before)) ≡ false = grind (arith, nat_tests) in
    at_later link beat (later ++ head ∷ before) (known.alone (length (later ++ head ∷ before)) (omega arith) ∙ not_yet) known

pub messages_own_their_beats : MessagesOwnTheirBeats
messages_own_their_beats link before later head h lt =
    let known = owns link before later head h lt in
    let so_far : length (later ++ head ∷ before) ≡ length later + (length before + 1) = length-append later (head ∷ before) ∙ ap (λ n. length later + n) (omega arith) in
    (known.is, known.alone (length (later ++ head ∷ before)) (omega arith) ∙ (let same : ((length before + beat_count link head) == length (later ++ head ∷ before)) ≡ ((length later + 1) == beat_count link head) = grind (arith, nat_tests) in same))

pub one_beat_is_all : OneBeatIsAll
one_beat_is_all link before beat h one =
    let lt : 0 < beat_count link beat = omega arith in
    (messages_own_their_beats link before [] beat h lt).1 ∙ (let same : (1 == beat_count link beat) ≡ true = grind (arith, nat_tests) in same)

pub one_beat_messages_are_heads : OneBeatMessagesAreHeads
one_beat_messages_are_heads link [] all = refl
one_beat_messages_are_heads link (beat ∷ before) all = one_beat_is_all link before beat (one_beat_messages_are_heads link before all.1) all.0

-- What is unfinished is the rest of the newest head's burst.
rest_of : (head : Beat) (end first index : ℕ) (last : Option Beat) (b : Bool) → last ≡ Some head → first ≡ end → index ≤ end → (end == index) ≡ b
    → cond b None (option_map (λ h. record { head = h; missing = first - index }) last) ≡ left head (end - index)
rest_of head end first index last true is same le e = let none : end - index ≡ 0 = grind (arith, nat_tests) in rw none refl
rest_of head end first index last false is same le e =
    let some : nat_lt 0 (end - index) ≡ true = grind (arith, nat_tests) in rw (some, is, same) refl

shown : (link : LinkDecl) (before : List Beat) {head : Beat} {end : ℕ} → Latest link before head end → unfinished link before ≡ left head (end - length before)
shown link before {head} {end} l =
    ap (λ b. cond b None (option_map (λ h. record { head = h; missing = slice_index (ends link before) 0 - length before }) (last_head link before))) (l.alone (length before) (omega arith))
    ∙ rest_of head end (slice_index (ends link before) 0) (length before) (last_head link before) (end == length before) l.is l.first l.reaches refl

-- What is left of a burst.
left_is : (head : Beat) (missing : ℕ) (rest : Unfinished) → left head missing ≡ Some rest → (rest.head ≡ head) × (rest.missing ≡ missing) × (0 < missing)
left_is head missing rest h =
    elim (nat_lt 0 missing) as (λ b. nat_lt 0 missing ≡ b → cond b (Some (record { head = head; missing = missing })) None ≡ Some rest → (rest.head ≡ head) × (rest.missing ≡ missing) × (0 < missing)) [
      | true ↦ λ e g. let is : record { head = head; missing = missing } ≡ rest = cc in
          let some : 0 < missing = grind (arith, nat_tests) in
          (sym (ap (λ (u : Unfinished). u.head) is), sym (ap (λ (u : Unfinished). u.missing) is), some)
      | false ↦ λ e g. cc
    ] refl h

pub unfinished_is_the_rest : UnfinishedIsTheRest
unfinished_is_the_rest link [] rest h = cc
unfinished_is_the_rest link (beat ∷ before) rest h =
    let known = latest_at link beat before in
    let head : Beat = known.0 in
    let newer : List Beat = known.1 in
    let older : List Beat = known.2 in
    let is = left_is head ((length older + beat_count link head) - length (beat ∷ before)) rest (sym (shown link (beat ∷ before) known.5) ∙ h) in
    let count : length (beat ∷ before) ≡ length newer + (length older + 1) = ap length known.3 ∙ length-append newer (head ∷ older) ∙ ap (λ n. length newer + n) (omega arith) in
    let same : beat_count link rest.head ≡ beat_count link head = ap (beat_count link) is.0 in
    let missing : rest.missing ≡ (length older + beat_count link head) - length (beat ∷ before) = is.1 in
    let some : 0 < (length older + beat_count link head) - length (beat ∷ before) = is.2 in
    let all : (length newer + 1) + rest.missing ≡ beat_count link rest.head = omega arith in
    let some_left : 0 < rest.missing = omega arith in
    (newer, older, known.3 ∙ ap (λ x. newer ++ x ∷ older) (sym is.0), known.4, all, some_left)

-- The head that comes next leaves all its other beats missing.
next_at_head : (link : LinkDecl) (beat : Beat) (before : List Beat) → Latest link (beat ∷ before) beat (length before + beat_count link beat)
    → left beat (beat_count link beat - 1) ≡ unfinished link (beat ∷ before)
next_at_head link beat before l =
    let e : beat_count link beat - 1 ≡ (length before + beat_count link beat) - length (beat ∷ before) = omega arith in
    ap (left beat) e ∙ sym (shown link (beat ∷ before) l)

next_at_later : (link : LinkDecl) (beat : Beat) (before : List Beat) {head : Beat} {end : ℕ} → Latest link before head end → Latest link (beat ∷ before) head end → is_head link before ≡ false
    → after_beat link beat (left head (end - length before)) ≡ unfinished link (beat ∷ before)
next_at_later link beat before {head} {end} l m h =
    let here : (end == length before) ≡ false = sym (l.alone (length before) (omega arith)) ∙ h in
    let lt : nat_lt 0 (end - length before) ≡ true = (let r = l.reaches in grind (arith, nat_tests)) in
    let e : (end - length before) - 1 ≡ end - length (beat ∷ before) = omega arith in
    ap (λ b. after_beat link beat (cond b (Some (record { head = head; missing = end - length before })) None)) lt ∙ ap (left head) e ∙ sym (shown link (beat ∷ before) m)

pub next_law : (link : LinkDecl) (beat : Beat) (before : List Beat) → after_beat link beat (unfinished link before) ≡ unfinished link (beat ∷ before)
next_law link beat [] = next_at_head link beat [] (at_head link beat [] refl (λ k lt. grind (arith, nat_tests)))
next_law link beat (last ∷ before) =
    let known = latest link last before in
    elim (is_head link (last ∷ before)) as (λ b. is_head link (last ∷ before) ≡ b → after_beat link beat (unfinished link (last ∷ before)) ≡ unfinished link (beat ∷ last ∷ before)) [
      | true ↦ λ h. ap (λ b. after_beat link beat (cond b None (option_map (λ head. record { head = head; missing = slice_index (ends link (last ∷ before)) 0 - length (last ∷ before) }) (last_head link (last ∷ before))))) h
          ∙ next_at_head link beat (last ∷ before) (at_head link beat (last ∷ before) h (ended link (last ∷ before) h known.2))
      | false ↦ λ h. ap (after_beat link beat) (shown link (last ∷ before) known.2) ∙ next_at_later link beat (last ∷ before) known.2 (at_later link beat (last ∷ before) h known.2) h
    ] refl

-- Nothing is unfinished exactly where the next beat is a head.
pub none_law : (link : LinkDecl) (before : List Beat) → is_none (unfinished link before) ≡ is_head link before
none_law link [] = refl
none_law link (last ∷ before) =
    let known = latest link last before in
    elim (is_head link (last ∷ before)) as (λ b. is_none (cond {A = Option Unfinished} b None (option_map (λ head. record { head = head; missing = slice_index (ends link (last ∷ before)) 0 - length (last ∷ before) }) (last_head link (last ∷ before)))) ≡ b) [
      | true ↦ refl
      | false ↦ rw known.2.is refl
    ]
