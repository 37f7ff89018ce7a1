-- Writes, one after another.
use Rattle.std.proofs.Common.{◌≡◌, ℕ, ◌+◌, ◌-◌, ◌≤◌, List, [], ◌++◌, append-nil, length, take, drop, Option, Some, None, Result, Ok, Err, refl, sym, ap, subst, ◌∙◌, append_assoc, arith, length-drop, length-append}
use Rattle.std.specs.Prelude.{OnOk, OnErr, IsErr}
use Rattle.std.proofs.lemmas.List.{take_all, take-append-le}
use Rattle.std.proofs.Math.Seq.{take-add, take-append-add}
use Rattle.std.specs.Io.KnownBytes.{Appends}
use Rattle.tl_text.specs.Written.{Writes}

pub then : (old mid new : Option (List ℕ)) (a b c : List ℕ) → Appends old mid a → Appends mid new b → a ++ b ≡ c → Appends old new c
then None mid new a b c p q e = tt
then (Some x) (Some y) None a b c p q e = absurd q
then (Some x) None new a b c p q e = absurd p
then (Some x) (Some y) (Some z) a b c p q e = q ∙ ap (λ (l : List ℕ). l ++ b) p ∙ append_assoc x a b ∙ ap (λ (l : List ℕ). x ++ l) e

none_sent : (a : Option (List ℕ)) → Appends a a []
none_sent None = tt
none_sent (Some x) = sym (append-nil x)

pub wrote_more : (old mid new : Option (List ℕ)) (d n : ℕ) (bytes : List ℕ) → Appends old mid (take d bytes) → Appends mid new (take n (take (length bytes - d) (drop d bytes))) → Appends old new (take (d + n) bytes)
wrote_more old mid new d n bytes p q =
    let rest : take (length bytes - d) (drop d bytes) ≡ drop d bytes = take_all (length bytes - d) (drop d bytes) (omega (arith, length-drop d bytes)) in
    then old mid new (take d bytes) (take n (drop d bytes)) (take (d + n) bytes) p (rw (← rest) q) (sym (take-add d n bytes))

-- ---- one text after another, between states of a sink

module _ {S : Type 0} (contents : S → Option (List ℕ)) (count : S → ℕ) where
  abbrev pub Sent : S → S → List ℕ → Type 0
  Sent s t bytes = (count t ≡ count s) × Appends (contents s) (contents t) bytes

  abbrev pub Fell : S → S → List ℕ → Type 0
  Fell s t bytes = (count t ≡ count s + 1) × ((n : ℕ) × (n ≤ length bytes) × Appends (contents s) (contents t) (take n bytes))

  pub nothing : (s : S) → Sent s s []
  nothing s = (refl, none_sent (contents s))

  pub more : (a b : List ℕ) (s t u : S) → Sent s t a → Sent t u b → Sent s u (a ++ b)
  more a b s t u front rest = (rest.0 ∙ front.0, then (contents s) (contents t) (contents u) a b (a ++ b) front.1 rest.1 refl)

  -- the writing failed in the part a, after the front
  pub fell : {E : Type 0} (front a rest text : List ℕ) (s t u : S) (r : Result (Unit {0}) E) → IsErr r → text ≡ front ++ (a ++ rest) → Sent s t front → Fell t u a → Writes text (contents s) (contents u) (count s) (count u) r
  fell front a rest text s t u (Ok done) is e sent failed = absurd cc
  fell front a rest text s t u (Err fault) is e sent failed =
      let n = failed.1.0 in
      let cut : take (length front + n) (front ++ (a ++ rest)) ≡ front ++ take n a = take-append-add front (a ++ rest) n ∙ ap (λ (l : List ℕ). front ++ l) (take-append-le n a rest failed.1.1) in
      let within : length front + n ≤ length (front ++ (a ++ rest)) = omega (arith, length-append front (a ++ rest), length-append a rest, failed.1.1) in
      let taken : Appends (contents s) (contents u) (take (length front + n) (front ++ (a ++ rest))) = then (contents s) (contents t) (contents u) front (take n a) _ sent.1 failed.1.2 (sym cut) in
      let P : List ℕ → Type 0 = λ l. (n ≤ n) × (length front + n ≤ length l) × Appends (contents s) (contents u) (take (length front + n) l) in
      let all = subst P (sym e) (omega arith, within, taken) in
      (failed.0 ∙ ap (λ (k : ℕ). k + 1) sent.0, (length front + n, all.1, all.2))

  pub ends : {E : Type 0} (front b text : List ℕ) (s t u : S) (r : Result (Unit {0}) E) → text ≡ front ++ b → Sent s t front → Writes b (contents t) (contents u) (count t) (count u) r → Writes text (contents s) (contents u) (count s) (count u) r
  ends front b text s t u (Ok done) e sent rest = subst (λ (l : List ℕ). Sent s u l) (sym e) (more front b s t u sent rest)
  ends front b text s t u (Err fault) e sent rest = fell front b [] text s t u (Err fault) refl (e ∙ ap (λ (l : List ℕ). front ++ l) (sym (append-nil b))) sent rest

  pub writes_all : {E : Type 0} (bytes : List ℕ) (s t : S) (r : Result (Unit {0}) E) → OnOk r (Sent s t bytes) → OnErr r (Fell s t bytes) → Writes bytes (contents s) (contents t) (count s) (count t) r
  writes_all bytes s t (Ok done) ok err = ok
  writes_all bytes s t (Err e) ok err = err
