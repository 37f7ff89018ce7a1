-- What is known of the pasts of a manager's links, after one more of its beats.
use Rattle.std.proofs.Common.{◌≡◌, ◌==◌, ◌&&◌, ℕ, Bool, true, false, cond, Result, List, ◌∷◌, map, get_or, Some, refl, sym, ap, subst, ◌∙◌, arith}
use Rattle.std.specs.Prelude.{OnOk}
use Rattle.std.specs.List.{All}
use Rattle.std.specs.List.Sorted.{IsStrictlySortedBy}
use Rattle.std.specs.Ordering.{nat_cmp}
use Rattle.std.proofs.Math.ListN.{set}
use Rattle.std.proofs.lemmas.Bool.Decides.{nat_tests}
use Rattle.tl_topology.specs.declared.LinkDecl.{LinkDecl}
use Rattle.tl_beats.specs.declared.Placed.{Placed}
use Rattle.tl_definitions.specs.Heads.{message_of}
use Rattle.tl_definitions.specs.Readings.{Reading, may_begin, must_begin}
use Rattle.tl_definitions.specs.Rules.{Manager}
use Rattle.tl_definitions.specs.Known.{Beginning, KnownPast, known_with, readings_of, known_pasts}
use Rattle.tl_client_rules.specs.Clients.{place_of}
use Rattle.tl_midway.specs.KnownLink as known_link
use Rattle.tl_midway.specs.KnownLink.{Shows}
use Rattle.tl_midway.specs.ManagerReadings.{HasPlace}
use Rattle.tl_midway.specs.KnownPasts.{numbers_of, StandsFor, MayBegin}
use Rattle.tl_midway.specs.declared.known_pasts.LinkPast.{LinkPast}
use Rattle.tl_midway.specs.declared.known_pasts.KnownPasts.{KnownPasts}
use Rattle.tl_midway.proofs.PlaceLaws.{inside, own_number, numbers_stay, each_set}
use Rattle.tl_midway.proofs.Results.{on_ok}

abbrev number : LinkPast → ℕ
number link = link.number

number_itself : (n : ℕ) → (n == n) ≡ true
number_itself n = grind (arith, nat_tests)

not_both : (a b : Bool) → b ≡ false → (a && b) ≡ false
not_both true b h = h
not_both false b h = refl

pub same_numbers : (p : Placed) (was new : KnownPasts) (place : ℕ) (own next : LinkPast) → place_of p.link (numbers_of was) ≡ Some place → HasPlace (numbers_of was) p.link
    → own ≡ get_or was.links.items place own → new.links.items ≡ set was.links.items place next → next.number ≡ own.number → numbers_of new ≡ numbers_of was
same_numbers p was new place own next at has here put named =
    ap (map number) put ∙ numbers_stay number was.links.items p.link place own at (inside number was.links.items p.link place has at) here next named

module _ (m : Manager) (start : Beginning) (before : List Placed) (p : Placed) where
  abbrev old : ℕ → KnownPast
  old = known_pasts m start before

  abbrev readings : List Reading
  readings = readings_of m start before p

  abbrev with : ℕ → KnownPast
  with n = known_with m.exponent (must_begin readings) (old n) p.beat (message_of (m.links n) p.beat)

  own_step : (certain : Bool) (link : LinkDecl) (n : ℕ) → n ≡ p.link → MayBegin m start before p certain link
      → known_with m.exponent certain (old n) p.beat (message_of link p.beat) ≡ known_pasts m start (p ∷ before) n
  own_step certain link n is begins =
      let same : (p.link == n) ≡ true = ap (λ k. p.link == k) is ∙ number_itself p.link in
      let declared : link ≡ m.links n = sym begins.declared ∙ ap m.links (sym is) in
      let both : ((p.link == n) && may_begin readings) ≡ true = λ i. same i && begins.may i in
      ap (λ c. known_with m.exponent c (old n) p.beat (message_of link p.beat)) (sym begins.must)
      ∙ ap (λ d. known_with m.exponent (must_begin readings) (old n) p.beat (message_of d p.beat)) declared
      ∙ sym (ap (λ b. cond b (with n) (old n)) both)

  other_step : (n : ℕ) → ((p.link == n) && may_begin readings) ≡ false → old n ≡ known_pasts m start (p ∷ before) n
  other_step n none = sym (ap (λ b. cond b (with n) (old n)) none)

  other_past : (link : LinkPast) → (p.link == link.number) ≡ false → known_link.StandsFor m start link.number link.past before → known_link.StandsFor m start link.number link.past (p ∷ before)
  other_past link other stands = subst (λ past. Shows m.exponent link.past past) (other_step link.number (ap (λ b. b && may_begin readings) other)) stands

  -- A later beat makes nothing known.
  pub later_stands : (state : KnownPasts) → may_begin readings ≡ false → StandsFor m start state before → StandsFor m start state (p ∷ before)
  later_stands state later stands = record {
    clients = stands.clients;
    rises = stands.rises;
    exponent = stands.exponent;
    each = λ k d below.
        let link : LinkPast = get_or state.links.items k d in
        subst (λ past. Shows m.exponent link.past past) (other_step link.number (not_both (p.link == link.number) (may_begin readings) later)) (stands.each k d below);
  }

  module _ {X E : Type 0} (made : Result X E) (certain : Bool) (link : LinkDecl) (was new : KnownPasts) (place : ℕ) (own next : LinkPast) (at : place_of p.link (numbers_of was) ≡ Some place)
      (has : HasPlace (numbers_of was) p.link) (here : own ≡ get_or was.links.items place own) (put : new.links.items ≡ set was.links.items place next) (named : next.number ≡ own.number) where
    pub head_stands : new.exponent ≡ was.exponent → known_link.ForShown own.past (λ exponent past. OnOk made (Shows exponent next.past (known_with exponent certain past p.beat (message_of link p.beat))))
        → StandsFor m start was before → MayBegin m start before p certain link → OnOk made (StandsFor m start new (p ∷ before))
    head_stands power stepped stands begins =
        let within = inside number was.links.items p.link place has at in
        let owns : own.number ≡ p.link = own_number number was.links.items p.link place own at within here in
        let stood : Shows m.exponent own.past (old own.number) = subst (λ (s : LinkPast). Shows m.exponent s.past (old s.number)) (sym here) (stands.each place own within) in
        on_ok made
        (λ shows.
        let now : known_link.StandsFor m start next.number next.past (p ∷ before) =
        subst (λ n. Shows m.exponent next.past (known_pasts m start (p ∷ before) n)) (sym named)
        (subst (λ past. Shows m.exponent next.past past) (own_step certain link own.number owns begins) shows) in
        record {
          clients = same_numbers p was new place own next at has here put named ∙ stands.clients;
          rises = stands.rises;
          exponent = power ∙ stands.exponent;
          each = subst (All (λ (s : LinkPast). known_link.StandsFor m start s.number s.past (p ∷ before))) (sym put)
              (each_set number was.links.items p.link place own at within here (λ s. known_link.StandsFor m start s.number s.past before) (λ s. known_link.StandsFor m start s.number s.past (p ∷ before)) next
              (subst (IsStrictlySortedBy nat_cmp) (sym stands.clients) stands.rises) stands.each now (λ s other same. other_past s other same));
        })
        (stepped m.exponent (old own.number) stood)
