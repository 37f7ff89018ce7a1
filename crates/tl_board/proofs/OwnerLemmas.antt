-- An edit of a monitor, which touches all its windows.
use Rattle.std.proofs.Common.{◌≡◌, ℕ, ◌⊎◌, inl, inr, ◌==◌, ◌<◌, ◌^◌, true, false, cond, Bool, List, [], ◌∷◌, Option, Some, None, refl, sym, ap, subst, ◌∙◌, arith, eqb-true, Ordering, Less, Equal, Greater}
use Rattle.std.specs.Prelude.{◌↔◌, is_some, option_map}
use Rattle.std.specs.Option.{option_map_or}
use Rattle.std.specs.Ordering.{nat_cmp, is_eq, match_ordering}
use Rattle.std.specs.BTreeMap.{insert_entry, is_at}
use Rattle.std.specs.List.{Contains}
use Rattle.std.specs.Map.{keys_of, lookup, remove_entry}
use Rattle.std.proofs.lemmas.Bool.Decides.{nat_tests}
use Rattle.std.proofs.lemmas.Cmp.{nat_cmp_total, eq_by_cmp_equiv}
use Rattle.std.proofs.lemmas.Map.{lookup-remove_entry}
use Rattle.std.proofs.lemmas.Map.Keys.{IsDistinct-from_sorted}
use Rattle.std.proofs.lemmas.Map.Lookups.{exact_unsigned}
use Rattle.tl_topology.specs.Topology.{number_of_name}
use Rattle.tl_beats.specs.Watches.{link_of}
use Rattle.tl_beats.specs.declared.Row.{Row}
use Rattle.tl_beats.specs.declared.watch.Watch.{Watch}
use Rattle.tl_beats.specs.declared.watch.Watch.TheVariants as watch
use Rattle.tl_definitions.specs.Watching.{retuned, IsWatch}
use Rattle.tl_edits.specs.Edits.{AnEdit, attach, retune, detach}
use Rattle.tl_edits.specs.Inputs.{InputData, watch_at, was_attached, changed, refusal}
use Rattle.tl_edits.specs.declared.fault.EditFault.{EditFault}
use Rattle.tl_edits.specs.declared.fault.EditFault.TheVariants as fault
use Rattle.tl_edits.proofs.LogLaws.{no_cause}
use Rattle.tl_pieces.specs.declared.key.PieceKey.{PieceKey}
use Rattle.tl_pieces.specs.Keys.{key_cmp, value_at, without, Rises}
use Rattle.tl_pieces.specs.Pieces.{Board, IsBoard, OwnersRise, opening_of, piece_at, result_of, live_of, with_openings, with_pieces, without_owner, touched_all}
use Rattle.tl_pieces.proofs.KeyLemmas.{key_exact}
use Rattle.tl_check.specs.Captured.{watched_beats}
use Rattle.tl_capture.specs.Present.{IsPresent}
use Rattle.tl_capture.specs.Windows.{HasBeat}
use Rattle.tl_board.specs.Windows.{IsGrown, HasAll}
use Rattle.tl_board.proofs.CheckLemmas.{owner_of}
use Rattle.tl_board.proofs.EditLemmas.{all_openings, all_stay, all_blank, blank_result, blank_ticket, blank_there, same_boards}
use Rattle.tl_board.proofs.EntryLemmas.{lookup_put}
use Rattle.tl_board.proofs.WindowLemmas.{none_of}
use Rattle.tl_board.specs.declared.tally.Tally.{Tally}
use Rattle.tl_board.specs.TouchedWatches.{edited_monitor, TouchesWatch}
use Rattle.tl_board.specs.Watches.{beats_for, AreWatches}
use Rattle.tl_board.proofs.MonitorLemmas.{at_itself, same_number}
use Rattle.tl_board.proofs.PassLemmas.{beats_are}
use Rattle.tl_board.proofs.AfterLemmas.{IsEdited, number_or_not, put_here}

-- An edit of this monitor alone, which touches no link, touches the windows of the monitor and no other.
module _ (now : InputData) (e : AnEdit) (monitor : ℕ) (edits : edited_monitor e ≡ Some monitor) where
  mine : (number window : ℕ) → number ≡ monitor → TouchesWatch now e number window
  mine number window same = inl (edits ∙ ap Some (sym same))

retunes_alone : (now : InputData) (monitor limit number window : ℕ) → TouchesWatch now (retune monitor limit) number window → number ≡ monitor
retunes_alone now monitor limit number window (inl edited) = let same : number ≡ monitor = cc in same
retunes_alone now monitor limit number window (inr on) = absurd on.4

detaches_alone : (now : InputData) (monitor number window : ℕ) → TouchesWatch now (detach monitor) number window → number ≡ monitor
detaches_alone now monitor number window (inl edited) = let same : number ≡ monitor = cc in same
detaches_alone now monitor number window (inr on) = absurd on.4

attaches_alone : (now : InputData) (monitor : ℕ) (w : Watch) (number window : ℕ) → TouchesWatch now (attach monitor w) number window → number ≡ monitor
attaches_alone now monitor w number window (inl edited) = let same : number ≡ monitor = cc in same
attaches_alone now monitor w number window (inr on) = absurd on.4

-- ---- another limit

-- The link of a watch is no matter of its limit.
same_link : (limit : ℕ) (now : InputData) (found : Option Watch)
    → option_map_or (watched_beats now.topo now.fragments) (option_map (λ w. retuned w limit) found) [] ≡ option_map_or (watched_beats now.topo now.fragments) found []
same_link limit now None = refl
same_link limit now (Some (watch.Budget link class old)) = refl
same_link limit now (Some (watch.After link first second)) = refl

retuned_fits : (limit : ℕ) → limit < 2 ^ 32 → (found : Option Watch) (w : Watch) → option_map (λ v. retuned v limit) found ≡ Some w → IsWatch w
retuned_fits limit bound None w h = cc
retuned_fits limit bound (Some (watch.Budget link class old)) w h = subst IsWatch (let same : watch.Budget link class limit ≡ w = cc in same) bound
retuned_fits limit bound (Some (watch.After link first second)) w h = subst IsWatch (let same : watch.After link first second ≡ w = cc in same) tt

module _ (now : InputData) (monitor limit : ℕ) (bound : limit < 2 ^ 32) (before : IsPresent now.fragments) (after : IsPresent (changed now (retune monitor limit)).fragments) (old new : Board Tally (List Row)) (are : AreWatches now old)
    (is : new ≡ with_pieces old (touched_all monitor old.pieces)) where
  retuned_at : watch_at monitor (changed now (retune monitor limit)).monitors ≡ option_map (λ w. retuned w limit) (watch_at monitor now.monitors)
  retuned_at = put_here monitor _ now.monitors

  retuned_there : (key : PieceKey) → key.owner ≡ monitor → is_some (opening_of key.owner new.openings) ≡ true → (is_some (piece_at key new) ≡ true) ↔ HasBeat (beats_for (changed now (retune monitor limit)) key.owner) key.window
  retuned_there key own owner =
      let was = are.covered.windows key (ap (λ os. is_some (opening_of key.owner os)) (sym (all_openings monitor old new is)) ∙ owner) in
      let still : is_some (piece_at key new) ≡ is_some (piece_at key old) = ap is_some (all_blank monitor old new is key own) ∙ blank_there (piece_at key old) in
      let beats : beats_for (changed now (retune monitor limit)) key.owner ≡ beats_for now key.owner =
      ap (beats_for (changed now (retune monitor limit))) own ∙ ap (λ o. option_map_or (watched_beats now.topo now.fragments) o []) retuned_at ∙ same_link limit now (watch_at monitor now.monitors) ∙ ap (beats_for now) (sym own) in
      ((λ h. subst (λ ps. HasBeat ps key.window) (sym beats) (was.0 (sym still ∙ h))), (λ h. still ∙ was.1 (subst (λ ps. HasBeat ps key.window) beats h)))

  pub retuned_edited : IsEdited now (retune monitor limit) before after old new
  retuned_edited = record {
    openings = λ number. ap (opening_of number) (all_openings monitor old new is);
    fits = λ w number edited at. retuned_fits limit bound (watch_at monitor now.monitors) w
        (sym retuned_at ∙ ap (λ n. watch_at n (changed now (retune monitor limit)).monitors) (let same : monitor ≡ number = cc in same) ∙ at);
    decide = λ key. elim (number_or_not key.owner monitor) [
      | inl same ↦ inl (mine now (retune monitor limit) monitor refl key.owner key.window same)
      | inr not ↦ inr (λ touches. not (ap Some (sym (retunes_alone now monitor limit key.owner key.window touches))))
    ];
    stays = λ key not. all_stay monitor old new is key (λ same. not (mine now (retune monitor limit) monitor refl key.owner key.window same));
    result = λ key touches. ap result_of (all_blank monitor old new is key (retunes_alone now monitor limit key.owner key.window touches)) ∙ blank_result (piece_at key old);
    ticket = λ key touches. ap live_of (all_blank monitor old new is key (retunes_alone now monitor limit key.owner key.window touches)) ∙ blank_ticket (piece_at key old);
    there = λ key touches owner. retuned_there key (retunes_alone now monitor limit key.owner key.window touches) owner;
  }

-- ---- a monitor that goes

without_at : {V : Type 0} (o : ℕ) (es : List (PieceKey × V)) (key : PieceKey) → value_at key (without o es) ≡ cond (key.owner == o) None (value_at key es)
without_at {V} o [] key = elim (key.owner == o) as (λ b. ◌≡◌ {A = Option V} None (cond b None None)) [ true ↦ refl | false ↦ refl ]
without_at {V} o (e ∷ es) key = go (without_at o es key) (is_at (key_cmp key) e.0) refl (e.0.owner == o) refl
  where
    go : value_at key (without o es) ≡ cond (key.owner == o) None (value_at key es) → (a : Bool) → is_at (key_cmp key) e.0 ≡ a → (b : Bool) → (e.0.owner == o) ≡ b
        → value_at key (cond b (without o es) (e ∷ without o es)) ≡ cond (key.owner == o) None (cond a (Some e.1) (value_at key es))
    go later true at true own =
        let mine_too : (key.owner == o) ≡ true = subst (λ (k : PieceKey). (k.owner == o) ≡ true) (sym (key_exact key e.0 at)) own in
        later ∙ ap (λ c. cond c None (value_at key es)) mine_too ∙ sym (ap (λ c. cond c None (Some e.1)) mine_too)
    go later true at false own =
        let other : (key.owner == o) ≡ false = subst (λ (k : PieceKey). (k.owner == o) ≡ false) (sym (key_exact key e.0 at)) own in
        ap (λ c. cond c (Some e.1) (value_at key (without o es))) at ∙ sym (ap (λ c. cond c None (Some e.1)) other)
    go later false at true own = later
    go later false at false own = ap (λ c. cond c (Some e.1) (value_at key (without o es))) at ∙ later

same_test : (n k : ℕ) → is_at (nat_cmp k) n ≡ (n == k)
same_test n k = grind (arith, nat_tests)

removed_at : {S : Type 0} (os : List (ℕ × S)) → OwnersRise os → (k n : ℕ) → opening_of n (remove_entry (is_at (nat_cmp k)) os) ≡ cond (n == k) None (opening_of n os)
removed_at os rise k n =
    lookup-remove_entry (eq_by_cmp_equiv nat_cmp_total) (is_at (nat_cmp k)) (λ x y h. ap (λ m. is_at (nat_cmp m) y) (same_number k x h)) n os (IsDistinct-from_sorted nat_cmp (keys_of os) rise)
    ∙ ap (λ b. cond b None (opening_of n os)) (same_test n k)

other_test : (n k : ℕ) → (Some k ≡ Some n → ⊥) → (n == k) ≡ false
other_test n k not = elim (n == k) as (λ b. (n == k) ≡ b → b ≡ false) [ true ↦ λ t. absurd (not (ap Some (sym (eqb-true n k t)))) | false ↦ λ t. refl ] refl

own_test : (n k : ℕ) → n ≡ k → (n == k) ≡ true
own_test n k same = grind (arith, nat_tests)

module _ (now : InputData) (monitor : ℕ) (before : IsPresent now.fragments) (after : IsPresent (changed now (detach monitor)).fragments) (old new : Board Tally (List Row)) (board : IsBoard old)
    (is : new ≡ without_owner monitor old) where
  detached_opening : (number : ℕ) → opening_of number new.openings ≡ cond (number == monitor) None (opening_of number old.openings)
  detached_opening number = ap (λ (b : Board Tally (List Row)). opening_of number b.openings) is ∙ removed_at old.openings board.owners monitor number

  detached_piece : (key : PieceKey) → piece_at key new ≡ cond (key.owner == monitor) None (piece_at key old)
  detached_piece key = ap (λ (b : Board Tally (List Row)). piece_at key b) is ∙ without_at monitor old.pieces key

  gone : (key : PieceKey) → key.owner ≡ monitor → piece_at key new ≡ None
  gone key same = detached_piece key ∙ ap (λ b. cond b None (piece_at key old)) (own_test key.owner monitor same)

  pub detached_edited : IsEdited now (detach monitor) before after old new
  detached_edited = record {
    openings = detached_opening;
    fits = λ w number edited at. absurd (let same : monitor ≡ number = cc in
        let never : None ≡ Some w = sym (put_here monitor None now.monitors) ∙ ap (λ n. watch_at n (changed now (detach monitor)).monitors) same ∙ at in cc);
    decide = λ key. elim (number_or_not key.owner monitor) [
      | inl same ↦ inl (mine now (detach monitor) monitor refl key.owner key.window same)
      | inr not ↦ inr (λ touches. not (ap Some (sym (detaches_alone now monitor key.owner key.window touches))))
    ];
    stays = λ key not. detached_piece key
        ∙ ap (λ b. cond b None (piece_at key old)) (other_test key.owner monitor (λ same. not (inl same)));
    result = λ key touches. ap result_of (gone key (detaches_alone now monitor key.owner key.window touches));
    ticket = λ key touches. ap live_of (gone key (detaches_alone now monitor key.owner key.window touches));
    there = λ key touches owner. absurd (
        let own : (key.owner == monitor) ≡ true = own_test key.owner monitor (detaches_alone now monitor key.owner key.window touches) in
        let never : false ≡ true = sym (ap is_some (detached_opening key.owner ∙ ap (λ b. cond b None (opening_of key.owner old.openings)) own)) ∙ owner in cc);
  }

-- ---- a monitor that comes

remove_put : {S : Type 0} (k : ℕ) (s : S) (os : List (ℕ × S)) → opening_of k os ≡ None → remove_entry (is_at (nat_cmp k)) (insert_entry nat_cmp os k s) ≡ os
remove_put k s [] h = ap (λ b. cond b [] ((k, s) ∷ [])) (at_itself k)
remove_put {S} k s (e ∷ os) h = go (λ g. remove_put k s os g) (nat_cmp k e.0) refl h
  where
    go : (opening_of k os ≡ None → remove_entry (is_at (nat_cmp k)) (insert_entry nat_cmp os k s) ≡ os) → (o : Ordering) → nat_cmp k e.0 ≡ o → cond (is_eq o) (Some e.1) (opening_of k os) ≡ None
        → remove_entry (is_at (nat_cmp k)) (match_ordering o ((k, s) ∷ e ∷ os) ((e.0, s) ∷ os) (e ∷ insert_entry nat_cmp os k s)) ≡ e ∷ os
    go later Less at g = ap (λ b. cond b (e ∷ os) ((k, s) ∷ remove_entry (is_at (nat_cmp k)) (e ∷ os))) (at_itself k)
    go later Equal at g = cc
    go later Greater at g = ap (λ o. cond (is_eq o) (insert_entry nat_cmp os k s) (e ∷ remove_entry (is_at (nat_cmp k)) (insert_entry nat_cmp os k s))) at ∙ ap (λ t. e ∷ t) (later g)

never_attached : (found : Option ℕ) (was : Bool) (why : EditFault) → option_map_or (λ link. cond was (Some why) None) found (Some fault.UnknownLink) ≡ None → was ≡ false
never_attached None was why h = cc
never_attached (Some link) true why h = cc
never_attached (Some link) false why h = refl

none_there : {A : Type 0} (found : Option (Option A)) → is_some found ≡ false → option_map_or (λ x. x) found None ≡ None
none_there None h = refl
none_there (Some x) h = cc

is_none : {A : Type 0} (x : Option A) → is_some x ≡ false → x ≡ None
is_none None h = refl
is_none (Some x) h = cc

-- A monitor that may be attached has no opening state yet.
pub none_yet : (edits : ℕ) (now : InputData) (monitor : ℕ) (w : Watch) → refusal edits now (attach monitor w) ≡ None → (old : Board Tally (List Row)) → AreWatches now old → opening_of monitor old.openings ≡ None
none_yet edits now monitor w none old are =
    let was : was_attached monitor now.monitors ≡ false = never_attached (number_of_name now.topo.links (link_of w)) (was_attached monitor now.monitors) _ (no_cause edits now (attach monitor w) none) in
    is_none (opening_of monitor old.openings) (are.owners monitor ∙ ap is_some (none_there (lookup (is_at (nat_cmp monitor)) now.monitors) was))

module _ (now : InputData) (monitor : ℕ) (w : Watch) (fits : IsWatch w) (old opened grown : Board Tally (List Row)) (board : IsBoard old) (none : opening_of monitor old.openings ≡ None)
    (opens : opened ≡ with_openings old (insert_entry nat_cmp old.openings monitor (record { count = 0 }))) (keys : List PieceKey)
    (exact : (key : PieceKey) → Contains keys key ↔ ((key.owner ≡ monitor) × HasBeat (watched_beats now.topo now.fragments w) key.window)) (grows : IsGrown keys opened grown) where
  pub opened_keys : (key : PieceKey) → Contains keys key → is_some (opening_of key.owner opened.openings) ≡ true
  opened_keys key has = ap is_some (attached_opening key.owner) ∙ ap (λ b. is_some (cond b (Some (record { count = 0 })) (opening_of key.owner old.openings))) (own_test key.owner monitor ((exact key).0 has).0)
    where
      attached_opening : (number : ℕ) → opening_of number opened.openings ≡ cond (number == monitor) (Some (record { count = 0 })) (opening_of number old.openings)
      attached_opening number = ap (λ (b : Board Tally (List Row)). opening_of number b.openings) opens ∙ lookup_put nat_cmp nat_cmp_total exact_unsigned number monitor (record { count = 0 }) old.openings
          ∙ ap (λ b. cond b (Some (record { count = 0 })) (opening_of number old.openings)) (same_test_other number)
        where
          same_test_other : (n : ℕ) → is_at (nat_cmp n) monitor ≡ (n == monitor)
          same_test_other n = grind (arith, nat_tests)

  attached_at : (number : ℕ) → opening_of number grown.openings ≡ cond (number == monitor) (Some (record { count = 0 })) (opening_of number old.openings)
  attached_at number = ap (opening_of number) (grows.openings ∙ ap (λ (b : Board Tally (List Row)). b.openings) opens) ∙ lookup_put nat_cmp nat_cmp_total exact_unsigned number monitor (record { count = 0 }) old.openings
      ∙ ap (λ b. cond b (Some (record { count = 0 })) (opening_of number old.openings)) (let test : is_at (nat_cmp number) monitor ≡ (number == monitor) = grind (arith, nat_tests) in test)

  same_pieces : (key : PieceKey) → piece_at key opened ≡ piece_at key old
  same_pieces key = ap (λ (b : Board Tally (List Row)). piece_at key b) opens

  -- It had no windows.
  no_window : (key : PieceKey) → key.owner ≡ monitor → piece_at key old ≡ None
  no_window key same = none_of (piece_at key old) (elim (is_some (piece_at key old)) as (λ b. is_some (piece_at key old) ≡ b → b ≡ false) [
    | true ↦ λ t. (let never : false ≡ true = sym (ap is_some (ap (λ n. opening_of n old.openings) same ∙ none)) ∙ owner_of old board key t in sym never)
    | false ↦ λ t. refl
  ] refl)

  kept_pieces : (key : PieceKey) → (Some monitor ≡ Some key.owner → ⊥) → piece_at key grown ≡ piece_at key old
  kept_pieces key not = elim (grows.pieces key) [
    | inl same ↦ same ∙ same_pieces key
    | inr came ↦ absurd (not (ap Some (sym ((exact key).0 came.0).0)))
  ]

  -- Where memory is refused or the edit is, it goes again with its windows.
  pub goes_again : (new : Board Tally (List Row)) → new ≡ without_owner monitor grown → Rises new.pieces → new ≡ old
  goes_again new is rises = same_boards new old rises board.keys
      (ap (λ (b : Board Tally (List Row)). b.openings) is ∙ ap (remove_entry (is_at (nat_cmp monitor))) (grows.openings ∙ ap (λ (b : Board Tally (List Row)). b.openings) opens) ∙ remove_put monitor (record { count = 0 }) old.openings none)
      (λ key. ap (λ (b : Board Tally (List Row)). piece_at key b) is ∙ without_at monitor grown.pieces key ∙ elim (number_or_not key.owner monitor) [
        | inl same ↦ ap (λ b. cond b None (piece_at key grown)) (own_test key.owner monitor same) ∙ sym (no_window key same)
        | inr not ↦ ap (λ b. cond b None (piece_at key grown)) (other_test key.owner monitor not) ∙ kept_pieces key not
      ])

  module _ (all : HasAll keys grown) (before : IsPresent now.fragments) (after : IsPresent (changed now (attach monitor w)).fragments) where
    fresh : (key : PieceKey) → key.owner ≡ monitor → (piece_at key grown ≡ None) ⊎ (Contains keys key × (piece_at key grown ≡ Some (record { result = None; live = None })))
    fresh key same = elim (grows.pieces key) [
      | inl kept ↦ inl (kept ∙ same_pieces key ∙ no_window key same)
      | inr came ↦ inr (came.0, came.2)
    ]

    attached_there : (key : PieceKey) → key.owner ≡ monitor → (is_some (piece_at key grown) ≡ true) ↔ HasBeat (beats_for (changed now (attach monitor w)) key.owner) key.window
    attached_there key same =
        let beats : beats_for (changed now (attach monitor w)) key.owner ≡ watched_beats now.topo now.fragments w =
        ap (beats_for (changed now (attach monitor w))) same ∙ beats_are (changed now (attach monitor w)) monitor w (put_here monitor (Some w) now.monitors) in (
          (λ h. elim (fresh key same) [
            | inl gone ↦ absurd (let never : false ≡ true = sym (ap is_some gone) ∙ h in cc)
            | inr came ↦ subst (λ ps. HasBeat ps key.window) (sym beats) ((exact key).0 came.0).1
          ]),
          (λ h. all key ((exact key).1 (same, subst (λ ps. HasBeat ps key.window) beats h))),
        )

    pub attached_edited : IsEdited now (attach monitor w) before after old grown
    attached_edited = record {
      openings = attached_at;
      fits = λ v number edited at. subst IsWatch (let same : monitor ≡ number = cc in
          let both : Some w ≡ Some v = sym (put_here monitor (Some w) now.monitors) ∙ ap (λ n. watch_at n (changed now (attach monitor w)).monitors) same ∙ at in
          let one : w ≡ v = cc in one) fits;
      decide = λ key. elim (number_or_not key.owner monitor) [
        | inl same ↦ inl (mine now (attach monitor w) monitor refl key.owner key.window same)
        | inr not ↦ inr (λ touches. not (ap Some (sym (attaches_alone now monitor w key.owner key.window touches))))
      ];
      stays = λ key not. kept_pieces key (λ same. not (inl same));
      result = λ key touches. elim (fresh key (attaches_alone now monitor w key.owner key.window touches)) [ inl gone ↦ ap result_of gone | inr came ↦ ap result_of came.1 ];
      ticket = λ key touches. elim (fresh key (attaches_alone now monitor w key.owner key.window touches)) [ inl gone ↦ ap live_of gone | inr came ↦ ap live_of came.1 ];
      there = λ key touches owner. attached_there key (attaches_alone now monitor w key.owner key.window touches);
    }
