-- A line is read as the declaration that it spells, and as no other.
use Rattle.std.proofs.Common.{◌≡◌, ℕ, ◌<◌, ◌≤◌, Bool, true, false, cond, eqb, List, [], ◌∷◌, ◌++◌, Option, Some, None, refl, sym, ap, ◌∙◌, subst, arith}
use Rattle.std.specs.Prelude.{codes}
use Rattle.std.specs.Str.{bytes_eq}
use Rattle.std.proofs.lemmas.Option.{none-some, same_Some}
use Rattle.std.specs.Option.{option_map_or}
use Rattle.std.proofs.lemmas.Bool.{ne_eqb, and_parts, false≢true}
use Rattle.std.proofs.lemmas.Slice.Eq.{bytes_eq-Decides}
use Rattle.tl_text.specs.Words.{◌>>=◌, ◌␣◌, word_at}
use Rattle.tl_text.specs.Numbers.{number_at, numeral}
use Rattle.tl_text.specs.Names.{is_name}
use Rattle.tl_text.proofs.Cuts.{is_free, word_again, word_takes}
use Rattle.tl_text.proofs.Numerals.{bind_some, number_takes, number_again, numeral_free}
use Rattle.tl_text.proofs.Spelling.{name_free, decimal_line, name_line, spaced_free, word_step}
use Rattle.tl_tables.specs.declared.Level.{Level}
use Rattle.tl_tables.specs.declared.Level.TheVariants as level
use Rattle.tl_topology.specs.declared.reading.Version.{Version}
use Rattle.tl_topology.specs.declared.reading.Version.TheVariants as version
use Rattle.tl_topology.specs.declared.reading.ManagerLine.{ManagerLine}
use Rattle.tl_topology.specs.declared.reading.LinkLine.{LinkLine}
use Rattle.tl_text.specs.Naming.{name_at}
use Rattle.tl_topology.specs.Reading.{version_at, level_at, manager_at, sizes_at, mark_at, sources_at, link_at}
use Rattle.tl_topology.specs.Text.{Declaration, a_manager, a_link, version_text, level_text, manager_text, sources_text, link_text, declaration_text, has_strict, IsManagerLine, IsLinkLine, IsSpelled}

pub same_text : (a b : List ℕ) → bytes_eq a b ≡ true → a ≡ b
same_text a b e = (bytes_eq-Decides a b).0 e

-- a word with a space after it has one
no_space : (word rest : List ℕ) → is_free 32 (word ++ 32 ∷ rest) ≡ true → ⊥
no_space [] rest e = absurd (false≢true e)
no_space (b ∷ word) rest e = no_space word rest (and_parts _ _ e).1

-- ---- a step of a reading that found something, handed on

number_step : {B : Type 0} (word : List ℕ) (f : ℕ → Option B) (y : B) (P : Type 0) → (number_at 10 65536 word >>= f) ≡ Some y → ((n : ℕ) → word ≡ numeral 10 n → n ≤ 65536 → f n ≡ Some y → P) → P
number_step word f y P e k =
    let n = bind_some (number_at 10 65536 word) f y e in
    let t = number_takes 10 65536 word n.0 (omega arith) (omega arith) n.1 in
    k n.0 t.0 t.1 n.2

at_name : {B : Type 0} (t : Bool) (word : List ℕ) (f : List ℕ → Option B) (y : B) → (cond t (Some word) None >>= f) ≡ Some y → (t ≡ true) × (f word ≡ Some y)
at_name true word f y e = (refl, e)
at_name false word f y e = absurd (none-some y e)

name_step : {B : Type 0} (word : List ℕ) (f : List ℕ → Option B) (y : B) (P : Type 0) → (name_at word >>= f) ≡ Some y → (is_name word ≡ true → f word ≡ Some y → P) → P
unfolding name_at
name_step word f y P e k =
    let t = at_name (is_name word) word f y e in
    k t.0 t.1

name_again : (name : List ℕ) → is_name name ≡ true → name_at name ≡ Some name
unfolding name_at
name_again name is = rw is refl

joined : (line word rest text more : List ℕ) → line ≡ word ++ 32 ∷ rest → word ≡ text → rest ≡ more → line ≡ text ␣ more
joined line word rest text more e p q = rw (← p, ← q) e

number_word : (n : ℕ) → n ≤ 65536 → number_at 10 65536 (numeral 10 n) ≡ Some n
number_word n le = number_again 10 65536 n (omega arith) (omega arith) le (omega arith)

number_free : (n : ℕ) → n ≤ 65536 → is_free 32 (numeral 10 n) ≡ true
number_free n le = numeral_free 10 n 32 (omega arith) (omega arith) (omega arith) (omega arith)

-- ---- levels

at_level : (s t u : Bool) (word : List ℕ) (l : Level) → (s ≡ true → word ≡ codes "ul") → (t ≡ true → word ≡ codes "uh") → (u ≡ true → word ≡ codes "c")
    → cond s (Some level.Ul) (cond t (Some level.Uh) (cond u (Some level.C) None)) ≡ Some l → word ≡ level_text l
at_level true t u word l p q r e = rw (← same_Some _ _ e) (p refl)
at_level false true u word l p q r e = rw (← same_Some _ _ e) (q refl)
at_level false false true word l p q r e = rw (← same_Some _ _ e) (r refl)
at_level false false false word l p q r e = absurd (none-some l e)

level_takes : (word : List ℕ) (l : Level) → level_at word ≡ Some l → word ≡ level_text l
unfolding level_at
level_takes word l e = at_level (bytes_eq word (codes "ul")) (bytes_eq word (codes "uh")) (bytes_eq word (codes "c")) word l (λ h. same_text word (codes "ul") h) (λ h. same_text word (codes "uh") h) (λ h. same_text word (codes "c") h) e

level_again : (l : Level) → level_at (level_text l) ≡ Some l
unfolding level_at
level_again level.Ul = refl
level_again level.Uh = refl
level_again level.C = refl

level_step : {B : Type 0} (word : List ℕ) (f : Level → Option B) (y : B) (P : Type 0) → (level_at word >>= f) ≡ Some y → ((l : Level) → word ≡ level_text l → f l ≡ Some y → P) → P
level_step word f y P e k =
    let l = bind_some (level_at word) f y e in
    k l.0 (level_takes word l.0 l.1) l.2

level_free : (stop : ℕ) (l : Level) → stop < 48 → is_free stop (level_text l) ≡ true
level_free stop level.Ul low = rw (ne_eqb 117 stop (λ h. absurd (omega arith)), ne_eqb 108 stop (λ h. absurd (omega arith))) refl
level_free stop level.Uh low = rw (ne_eqb 117 stop (λ h. absurd (omega arith)), ne_eqb 104 stop (λ h. absurd (omega arith))) refl
level_free stop level.C low = rw (ne_eqb 99 stop (λ h. absurd (omega arith))) refl

-- ---- versions

at_version : (s t : Bool) (line : List ℕ) (v : Version) → (s ≡ true → line ≡ codes "topo 1") → (t ≡ true → line ≡ codes "topo 2")
    → cond s (Some version.One) (cond t (Some version.Two) None) ≡ Some v → line ≡ version_text v
at_version true t line v p q e = rw (← same_Some _ _ e) (p refl)
at_version false true line v p q e = rw (← same_Some _ _ e) (q refl)
at_version false false line v p q e = absurd (none-some v e)

pub version_takes : (line : List ℕ) (v : Version) → version_at line ≡ Some v → line ≡ version_text v
unfolding version_at
version_takes line v e = at_version (bytes_eq line (codes "topo 1")) (bytes_eq line (codes "topo 2")) line v (λ h. same_text line (codes "topo 1") h) (λ h. same_text line (codes "topo 2") h) e

pub version_again : (v : Version) → version_at (version_text v) ≡ Some v
unfolding version_at
version_again version.One = refl
version_again version.Two = refl

pub version_line : (v : Version) → is_free 10 (version_text v) ≡ true
version_line version.One = refl
version_line version.Two = refl

-- ---- a manager

manager_from : (words name block : List ℕ) (n : ℕ) (m : ManagerLine) → words ≡ name ++ 32 ∷ block → is_name name ≡ true → block ≡ numeral 10 n → n ≤ 65536
    → ◌≡◌ {A = Option ManagerLine} (Some (record { name = name; block = n })) (Some m) → (words ≡ manager_text m) × IsManagerLine m
manager_from words name block n m e is n_is le same =
    subst (λ (x : ManagerLine). (words ≡ manager_text x) × IsManagerLine x) (same_Some _ _ same) (joined _ _ _ _ _ e refl n_is, record { name = is; block = le })

pub manager_takes : (words : List ℕ) (m : ManagerLine) → manager_at words ≡ Some m → (words ≡ manager_text m) × IsManagerLine m
unfolding manager_at
manager_takes words m e =
    let P : Type 0 = (words ≡ manager_text m) × IsManagerLine m in
    word_step words _ m P e (λ name block e1 k1.
    name_step name _ m P k1 (λ is k2.
    number_step block _ m P k2 (λ n n_is le k3.
    manager_from words name block n m e1 is n_is le k3)))

pub manager_again : (m : ManagerLine) → IsManagerLine m → manager_at (manager_text m) ≡ Some m
unfolding manager_at
manager_again m is =
    let w1 = word_again m.name (numeral 10 m.block) (name_free 32 m.name (omega arith) is.name) in
    rw (w1, name_again m.name is.name, number_word m.block is.block) refl

-- ---- a link

-- width and largest size, and the words after them
abbrev Sizes : Type 0
Sizes = ℕ × ℕ × List ℕ

record IsSizes (words : List ℕ) (l : Sizes) : Type 0 where
  spelled : words ≡ numeral 10 l.0 ␣ numeral 10 l.1 ␣ l.2
  width : l.0 ≤ 65536
  max_size : l.1 ≤ 65536

sizes_from : (words width more size last : List ℕ) (w s : ℕ) (l : Sizes) → words ≡ width ++ 32 ∷ more → more ≡ size ++ 32 ∷ last → width ≡ numeral 10 w → size ≡ numeral 10 s
    → w ≤ 65536 → s ≤ 65536 → ◌≡◌ {A = Option Sizes} (Some (w, s, last)) (Some l) → IsSizes words l
sizes_from words width more size last w s l e1 e2 w_is s_is w_le s_le e =
    subst (λ (x : Sizes). IsSizes words x) (same_Some _ _ e) (record { spelled = joined _ _ _ _ _ e1 w_is (joined _ _ _ _ _ e2 s_is refl); width = w_le; max_size = s_le })

sizes_takes : (words : List ℕ) (l : Sizes) → sizes_at words ≡ Some l → IsSizes words l
unfolding sizes_at
sizes_takes words l e =
    let P : Type 0 = IsSizes words l in
    word_step words _ l P e (λ width more e1 k1.
    number_step width _ l P k1 (λ w w_is w_le k2.
    word_step more _ l P k2 (λ size last e2 k3.
    number_step size _ l P k3 (λ s s_is s_le k4.
    sizes_from words width more size last w s l e1 e2 w_is s_is w_le s_le k4))))

sizes_again : (w s : ℕ) (last : List ℕ) → w ≤ 65536 → s ≤ 65536 → sizes_at (numeral 10 w ␣ numeral 10 s ␣ last) ≡ Some (w, s, last)
unfolding sizes_at
sizes_again w s last w_le s_le =
    let w1 = word_again (numeral 10 w) (numeral 10 s ␣ last) (number_free w w_le) in
    let w2 = word_again (numeral 10 s) last (number_free s s_le) in
    rw (w1, number_word w w_le, w2, number_word s s_le) refl

sizes_step : {B : Type 0} (words : List ℕ) (f : Sizes → Option B) (y : B) (P : Type 0) → (sizes_at words >>= f) ≡ Some y → ((l : Sizes) → IsSizes words l → f l ≡ Some y → P) → P
sizes_step words f y P e k =
    let l = bind_some (sizes_at words) f y e in
    k l.0 (sizes_takes words l.0 l.1) l.2

-- ---- how many sources, and whether it is strict

-- the words with the mark after them, or without
abbrev marked_text : List ℕ → Bool → List ℕ
marked_text rest strict = cond strict (rest ␣ codes "strict") rest

abbrev Mark : Type 0
Mark = List ℕ × Bool

record IsMark (version : Version) (words : List ℕ) (m : Mark) : Type 0 where
  spelled : words ≡ marked_text m.0 m.1
  strict : has_strict version m.1 ≡ true

marked_from : (t : Bool) (words rest last : List ℕ) → words ≡ rest ++ 32 ∷ last → (t ≡ true → last ≡ codes "strict") → IsMark version.Two words (cond t (rest, true) (words, false))
marked_from true words rest last e is = record { spelled = joined _ _ _ _ _ e refl (is refl); strict = refl }
marked_from false words rest last e is = record { spelled = refl; strict = refl }

marked_word : (found : Option (List ℕ × List ℕ)) (words : List ℕ) → word_at words ≡ found
    → IsMark version.Two words (option_map_or (λ parts. cond (bytes_eq parts.1 (codes "strict")) (parts.0, true) (words, false)) found (words, false))
marked_word None words e = record { spelled = refl; strict = refl }
marked_word (Some parts) words e =
    marked_from (bytes_eq parts.1 (codes "strict")) words parts.0 parts.1 (word_takes words parts.0 parts.1 e) (λ h. same_text parts.1 (codes "strict") h)

mark_takes : (version : Version) (words : List ℕ) → IsMark version words (mark_at version words)
unfolding mark_at
mark_takes version.One words = record { spelled = refl; strict = refl }
mark_takes version.Two words = marked_word (word_at words) words refl

-- a number is no word with others after it
unmarked : (found : Option (List ℕ × List ℕ)) (words : List ℕ) → word_at words ≡ found → is_free 32 words ≡ true → found ≡ None
unmarked None words e free = refl
unmarked (Some parts) words e free = absurd (no_space parts.0 parts.1 (ap (is_free 32) (sym (word_takes words parts.0 parts.1 e)) ∙ free))

mark_again : (version : Version) (n : ℕ) (strict : Bool) → n ≤ 65536 → has_strict version strict ≡ true → mark_at version (sources_text n strict) ≡ (numeral 10 n, strict)
unfolding mark_at
mark_again version.One n false le is = refl
mark_again version.One n true le is = absurd (false≢true is)
mark_again version.Two n false le is =
    let none = unmarked (word_at (numeral 10 n)) (numeral 10 n) refl (number_free n le) in
    rw none refl
mark_again version.Two n true le is = rw (word_again (numeral 10 n) (codes "strict") (number_free n le)) refl

abbrev Sources : Type 0
Sources = ℕ × Bool

record IsSources (version : Version) (words : List ℕ) (x : Sources) : Type 0 where
  spelled : words ≡ sources_text x.0 x.1
  some_source : 1 ≤ x.0
  sources : x.0 ≤ 65536
  strict : has_strict version x.1 ≡ true

some_at : (t : Bool) (n : ℕ) (x l : Sources) → (t ≡ false → 1 ≤ n) → cond t None (Some x) ≡ Some l → (1 ≤ n) × (x ≡ l)
some_at true n x l some e = absurd (none-some l e)
some_at false n x l some e = (some refl, same_Some x l e)

pos_of : (n : ℕ) → eqb n 0 ≡ false → 1 ≤ n
pos_of n e = grind arith

sources_from : (version : Version) (words number : List ℕ) (strict : Bool) (n : ℕ) (x : Sources) → words ≡ marked_text number strict → has_strict version strict ≡ true → number ≡ numeral 10 n → n ≤ 65536
    → cond (eqb n 0) None (Some (n, strict)) ≡ Some x → IsSources version words x
sources_from version words number strict n x e is n_is le found =
    let t = some_at (eqb n 0) n (n, strict) x (λ h. pos_of n h) found in
    subst (λ (y : Sources). IsSources version words y) t.1 (record { spelled = e ∙ ap (λ (l : List ℕ). marked_text l strict) n_is; some_source = t.0; sources = le; strict = is })

sources_takes : (version : Version) (words : List ℕ) (x : Sources) → sources_at version words ≡ Some x → IsSources version words x
unfolding sources_at
sources_takes version words x e =
    let m = mark_takes version words in
    number_step (mark_at version words).0 _ x (IsSources version words x) e (λ n n_is le k.
    sources_from version words (mark_at version words).0 (mark_at version words).1 n x m.spelled m.strict n_is le k)

sources_again : (version : Version) (n : ℕ) (strict : Bool) → 1 ≤ n → n ≤ 65536 → has_strict version strict ≡ true → sources_at version (sources_text n strict) ≡ Some (n, strict)
unfolding sources_at
sources_again version n strict some le is =
    let one : eqb n 0 ≡ false = ne_eqb n 0 (λ h. absurd (omega arith)) in
    rw (mark_again version n strict le is, number_word n le, one) refl

sources_step : {B : Type 0} (version : Version) (words : List ℕ) (f : Sources → Option B) (y : B) (P : Type 0) → (sources_at version words >>= f) ≡ Some y
    → ((x : Sources) → IsSources version words x → f x ≡ Some y → P) → P
sources_step version words f y P e k =
    let x = bind_some (sources_at version words) f y e in
    k x.0 (sources_takes version words x.0 x.1) x.2

link_from : (version : Version) (words name r1 manager r2 spoken r3 : List ℕ) (l : Level) (z : Sizes) (x : Sources) (link : LinkLine) → words ≡ name ++ 32 ∷ r1 → is_name name ≡ true → r1 ≡ manager ++ 32 ∷ r2 → is_name manager ≡ true → r2 ≡ spoken ++ 32 ∷ r3
    → spoken ≡ level_text l → IsSizes r3 z → IsSources version z.2 x
    → ◌≡◌ {A = Option LinkLine} (Some (record { name = name; manager = manager; level = l; width = z.0; max_size = z.1; sources = x.0; strict = x.1 })) (Some link) → (words ≡ link_text link) × IsLinkLine version link
link_from version words name r1 manager r2 spoken r3 l z x link e1 is e2 manager_is e3 level_is sizes sources same =
    let last : r3 ≡ numeral 10 z.0 ␣ numeral 10 z.1 ␣ sources_text x.0 x.1 = sizes.spelled ∙ ap (λ (w : List ℕ). numeral 10 z.0 ␣ numeral 10 z.1 ␣ w) sources.spelled in
    subst (λ (y : LinkLine). (words ≡ link_text y) × IsLinkLine version y) (same_Some _ _ same) (
      joined _ _ _ _ _ e1 refl (joined _ _ _ _ _ e2 refl (joined _ _ _ _ _ e3 level_is last)),
      record { name = is; manager = manager_is; width = sizes.width; max_size = sizes.max_size; some_source = sources.some_source; sources = sources.sources; strict = sources.strict },
    )

pub link_takes : (version : Version) (words : List ℕ) (link : LinkLine) → link_at version words ≡ Some link → (words ≡ link_text link) × IsLinkLine version link
unfolding link_at
link_takes version words link e =
    let P : Type 0 = (words ≡ link_text link) × IsLinkLine version link in
    word_step words _ link P e (λ name r1 e1 k1.
    name_step name _ link P k1 (λ is k2.
    word_step r1 _ link P k2 (λ manager r2 e2 k3.
    name_step manager _ link P k3 (λ manager_is k4.
    word_step r2 _ link P k4 (λ spoken r3 e3 k5.
    level_step spoken _ link P k5 (λ l level_is k6.
    sizes_step r3 _ link P k6 (λ z sizes k7.
    sources_step version z.2 _ link P k7 (λ x sources k8.
    link_from version words name r1 manager r2 spoken r3 l z x link e1 is e2 manager_is e3 level_is sizes sources k8))))))))

pub link_again : (version : Version) (link : LinkLine) → IsLinkLine version link → link_at version (link_text link) ≡ Some link
unfolding link_at
link_again version link is =
    let sources : List ℕ = sources_text link.sources link.strict in
    let last : List ℕ = numeral 10 link.width ␣ numeral 10 link.max_size ␣ sources in
    let w1 = word_again link.name (link.manager ␣ level_text link.level ␣ last) (name_free 32 link.name (omega arith) is.name) in
    let w2 = word_again link.manager (level_text link.level ␣ last) (name_free 32 link.manager (omega arith) is.manager) in
    let w3 = word_again (level_text link.level) last (level_free 32 link.level (omega arith)) in
    let s4 = sizes_again link.width link.max_size sources is.width is.max_size in
    let s5 = sources_again version link.sources link.strict is.some_source is.sources is.strict in
    rw (w1, name_again link.name is.name, w2, name_again link.manager is.manager, w3, level_again link.level, s4, s5) refl

-- ---- a declaration

abbrev of_kind : Version → Bool → Bool → List ℕ → Option Declaration
of_kind version s t words = cond s (manager_at words >>= λ manager. Some (a_manager manager)) (cond t (link_at version words >>= λ link. Some (a_link link)) None)

-- the declaration that a line spells
unfoldable pub declaration_at : Version → List ℕ → Option Declaration
declaration_at version line = word_at line >>= λ kind. of_kind version (bytes_eq kind.0 (codes "manager")) (bytes_eq kind.0 (codes "link")) kind.1

kind_takes : (version : Version) (s t : Bool) (line word rest : List ℕ) (d : Declaration) → line ≡ word ++ 32 ∷ rest → (s ≡ true → word ≡ codes "manager") → (t ≡ true → word ≡ codes "link") → of_kind version s t rest ≡ Some d
    → (line ≡ declaration_text d) × IsSpelled version d
unfolding declaration_text
kind_takes version true t line word rest d e p q k =
    let m = bind_some (manager_at rest) (λ manager. Some (a_manager manager)) d k in
    let law = manager_takes rest m.0 m.1 in
    subst (λ (x : Declaration). (line ≡ declaration_text x) × IsSpelled version x) (same_Some _ _ m.2) (joined _ _ _ _ _ e (p refl) law.0, law.1)
kind_takes version false true line word rest d e p q k =
    let l = bind_some (link_at version rest) (λ link. Some (a_link link)) d k in
    let law = link_takes version rest l.0 l.1 in
    subst (λ (x : Declaration). (line ≡ declaration_text x) × IsSpelled version x) (same_Some _ _ l.2) (joined _ _ _ _ _ e (q refl) law.0, law.1)
kind_takes version false false line word rest d e p q k = absurd (none-some d k)

pub declaration_takes : (version : Version) (line : List ℕ) (d : Declaration) → declaration_at version line ≡ Some d → (line ≡ declaration_text d) × IsSpelled version d
unfolding declaration_at
declaration_takes version line d e =
    let P : Type 0 = (line ≡ declaration_text d) × IsSpelled version d in
    word_step line _ d P e (λ word rest e1 k.
    kind_takes version (bytes_eq word (codes "manager")) (bytes_eq word (codes "link")) line word rest d e1 (λ h. same_text word (codes "manager") h) (λ h. same_text word (codes "link") h) k)

pub declaration_again : (version : Version) (d : Declaration) → IsSpelled version d → declaration_at version (declaration_text d) ≡ Some d
unfolding declaration_at declaration_text
declaration_again version (a_manager manager) is = rw (word_again (codes "manager") (manager_text manager) refl, manager_again manager is) refl
declaration_again version (a_link link) is = rw (word_again (codes "link") (link_text link) refl, link_again version link is) refl

-- ---- no newline stands in it

sources_line : (n : ℕ) (strict : Bool) → n ≤ 65536 → is_free 10 (sources_text n strict) ≡ true
sources_line n false le = decimal_line n (omega (arith, le))
sources_line n true le = spaced_free (numeral 10 n) (codes "strict") (decimal_line n (omega (arith, le))) refl

limits_line : (version : Version) (link : LinkLine) → IsLinkLine version link → is_free 10 (numeral 10 link.width ␣ numeral 10 link.max_size ␣ sources_text link.sources link.strict) ≡ true
limits_line version link is =
    let sources : List ℕ = sources_text link.sources link.strict in
    spaced_free (numeral 10 link.width) (numeral 10 link.max_size ␣ sources) (decimal_line link.width (omega (arith, is.width)))
    (spaced_free (numeral 10 link.max_size) sources (decimal_line link.max_size (omega (arith, is.max_size))) (sources_line link.sources link.strict is.sources))

link_line : (version : Version) (link : LinkLine) → IsLinkLine version link → is_free 10 (link_text link) ≡ true
link_line version link is =
    let last : List ℕ = numeral 10 link.width ␣ numeral 10 link.max_size ␣ sources_text link.sources link.strict in
    spaced_free link.name (link.manager ␣ level_text link.level ␣ last) (name_line link.name is.name)
    (spaced_free link.manager (level_text link.level ␣ last) (name_line link.manager is.manager)
    (spaced_free (level_text link.level) last (level_free 10 link.level (omega arith)) (limits_line version link is)))

pub declaration_line : (version : Version) (d : Declaration) → IsSpelled version d → is_free 10 (declaration_text d) ≡ true
unfolding declaration_text
declaration_line version (a_manager manager) is =
    spaced_free (codes "manager") (manager_text manager) refl (spaced_free manager.name (numeral 10 manager.block) (name_line manager.name is.name) (decimal_line manager.block (omega (arith, is.block))))
declaration_line version (a_link link) is = spaced_free (codes "link") (link_text link) refl (link_line version link is)

-- `end` declares nothing
pub end_declares_nothing : (version : Version) → declaration_at version (codes "end") ≡ None
unfolding declaration_at word_at
end_declares_nothing version = refl
