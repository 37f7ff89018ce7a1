-- Texts with notes.
use Rattle.std.proofs.Common.{◌≡◌, ℕ, zero, suc, ◌+◌, ◌%◌, ◌/◌, ◌<◌, ◌≤◌, Bool, true, false, cond, eqb, not, List, [], ◌∷◌, ◌++◌, append_assoc, append-nil, Option, Some, None, refl, sym, ap, ◌∙◌, subst, arith}
use Rattle.std.specs.Prelude.{◌&&◌, filter, length, codes, slice_get}
use Rattle.std.specs.List.{All, AllByRecursion, list_all, flat_map}
use Rattle.std.specs.Option.{option_map_or}
use Rattle.std.specs.Fmt.{decimal, digits, digits_onto, digit_glyph}
use Rattle.std.specs.Io.KnownBytes.{Appends}
use Rattle.std.proofs.lemmas.Bool.{and_from, and_parts}
use Rattle.std.proofs.lemmas.Bool.Decides.{nat_tests}
use Rattle.std.proofs.lemmas.Grind.{flat_map-append}
use Rattle.std.proofs.lemmas.List.Elements.{filter-append}
use Rattle.std.proofs.lemmas.List.Folds.{list_all-append}
use Rattle.tl_text.specs.Names.{is_name, is_name_byte, is_lower}
use Rattle.tl_text.specs.Words.{ended}
use Rattle.tl_tables.specs.Rules.{rule_text_of}
use Rattle.tl_tables.specs.declared.Rule.{Rule}
use Rattle.tl_tables.specs.declared.Rule.TheVariants as rule
use Rattle.tl_topology.specs.Topology.{Topology, AreNamed}
use Rattle.tl_topology.specs.declared.LinkDecl.{LinkDecl}
use Rattle.tl_beats.specs.declared.Row.{Row}
use Rattle.tl_check.specs.Output.{ReportData, joined, link_text, monitor_text, row_text, head_text, audit_head}
use Rattle.tl_check.specs.Notes.{is_unbroken, is_note, IsNoted, Tells, IsPut, IsPutFront}

-- ---- lines without a newline

pub unbroken_more : (xs ys : List ℕ) → is_unbroken xs ≡ true → is_unbroken ys ≡ true → is_unbroken (xs ++ ys) ≡ true
unbroken_more xs ys a b = list_all-append (λ (b : ℕ). not (eqb b 10)) xs ys ∙ and_from _ _ a b

glyph_unbroken : (d : ℕ) → d < 16 → not (eqb (digit_glyph false d) 10) ≡ true
glyph_unbroken d few = grind (arith, nat_tests)

onto_unbroken : (base k n : ℕ) (acc : List ℕ) → 2 ≤ base → base ≤ 16 → is_unbroken acc ≡ true → is_unbroken (digits_onto k base false n acc) ≡ true
onto_unbroken base zero n acc two small all = all
onto_unbroken base (suc k) n acc two small all =
    let below : n % base < base = omega arith in
    let more : is_unbroken (digit_glyph false (n % base) ∷ acc) ≡ true = and_from _ _ (glyph_unbroken (n % base) (omega (arith, below, small))) all in
    elim (eqb (n / base) 0) as (λ t. is_unbroken (cond t (digit_glyph false (n % base) ∷ acc) (digits_onto k base false (n / base) (digit_glyph false (n % base) ∷ acc))) ≡ true) [
      | true ↦ more
      | false ↦ onto_unbroken base k (n / base) (digit_glyph false (n % base) ∷ acc) two small more
    ]

pub digits_unbroken : (base n : ℕ) → 2 ≤ base → base ≤ 16 → is_unbroken (digits base false n) ≡ true
unfolding digits
digits_unbroken base n two small = onto_unbroken base 64 n [] two small refl

pub decimal_unbroken : (n : ℕ) → is_unbroken (decimal n) ≡ true
decimal_unbroken n = digits_unbroken 10 n (omega arith) (omega arith)

name_byte_unbroken : (b : ℕ) → is_name_byte b ≡ true → not (eqb b 10) ≡ true
name_byte_unbroken b h = grind (arith, nat_tests)

name_bytes_unbroken : (bytes : List ℕ) → list_all is_name_byte bytes ≡ true → is_unbroken bytes ≡ true
name_bytes_unbroken [] h = refl
name_bytes_unbroken (b ∷ bytes) h = let parts = and_parts _ _ h in and_from _ _ (name_byte_unbroken b parts.0) (name_bytes_unbroken bytes parts.1)

lower_unbroken : (b : ℕ) → is_lower b ≡ true → not (eqb b 10) ≡ true
lower_unbroken b h = grind (arith, nat_tests)

lower_begins : (b : ℕ) → is_lower b ≡ true → eqb b 32 ≡ false
lower_begins b h = grind (arith, nat_tests)

pub name_unbroken : (name : List ℕ) → is_name name ≡ true → is_unbroken name ≡ true
unfolding is_name
name_unbroken [] h = refl
name_unbroken (b ∷ bytes) h =
    let parts = and_parts _ _ h in
    and_from _ _ (lower_unbroken b (and_parts _ _ parts.0).0) (name_bytes_unbroken bytes parts.1)

-- What begins with a name is no note.
pub named_no_note : (name rest : List ℕ) → is_name name ≡ true → is_note (name ++ rest) ≡ false
unfolding is_name
named_no_note [] rest h = absurd cc
named_no_note (b ∷ []) [] h = refl
named_no_note (b ∷ []) (c ∷ rest) h = rw (lower_begins b (and_parts _ _ (and_parts _ _ h).0).0) refl
named_no_note (b ∷ c ∷ bytes) rest h = rw (lower_begins b (and_parts _ _ (and_parts _ _ h).0).0) refl

-- ---- a line that ends

-- This ends with the only newline that it has.
pub record Ends (text : List ℕ) : Type 0 where
  pub body : List ℕ
  pub unbroken : is_unbroken body ≡ true
  pub is : text ≡ ended body

unfoldable pub ends_here : Ends (10 ∷ [])
ends_here = record { body = []; unbroken = refl; is = refl }

unfoldable pub ends_more : (piece text : List ℕ) → is_unbroken piece ≡ true → Ends text → Ends (piece ++ text)
ends_more piece text free ends = record {
  body = piece ++ ends.body;
  unbroken = unbroken_more piece ends.body free ends.unbroken;
  is = ap (λ t. piece ++ t) ends.is ∙ sym (append_assoc piece ends.body (10 ∷ []));
}

-- ---- texts with notes

pub noted_nil : IsNoted [] []
noted_nil = record { lines = []; unbroken = refl; text_is = refl; plain_is = refl }

pub noted_more : (p q t u : List ℕ) → IsNoted p t → IsNoted q u → IsNoted (p ++ q) (t ++ u)
noted_more p q t u a b = record {
  lines = a.lines ++ b.lines;
  unbroken = list_all-append is_unbroken a.lines b.lines ∙ and_from _ _ a.unbroken b.unbroken;
  text_is = ap (λ x. x ++ u) a.text_is ∙ ap (λ x. flat_map ended a.lines ++ x) b.text_is ∙ sym (flat_map-append ended a.lines b.lines);
  plain_is = ap (λ x. x ++ q) a.plain_is ∙ ap (λ x. flat_map ended (filter (λ line. not (is_note line)) a.lines) ++ x) b.plain_is
      ∙ sym (flat_map-append ended (filter (λ line. not (is_note line)) a.lines) (filter (λ line. not (is_note line)) b.lines))
      ∙ ap (flat_map ended) (sym (filter-append (λ (line : List ℕ). not (is_note line)) a.lines b.lines));
}

one_line : (body : List ℕ) (plain : List ℕ) → is_unbroken body ≡ true → plain ≡ flat_map ended (cond (not (is_note body)) (body ∷ []) []) → IsNoted plain (ended body)
one_line body plain free is = record { lines = body ∷ []; unbroken = and_from _ _ free refl; text_is = sym (append-nil (ended body)); plain_is = is }

-- A line that is no note stands in both.
pub plain_line : (text : List ℕ) → (ends : Ends text) → is_note ends.body ≡ false → IsNoted text text
plain_line text ends none =
    let line : IsNoted (ended ends.body) (ended ends.body) = one_line ends.body (ended ends.body) ends.unbroken (rw none (sym (append-nil (ended ends.body)))) in
    subst (λ t. IsNoted t t) (sym ends.is) line

-- A note stands in the text alone.
pub note_line : (text : List ℕ) → Ends text → IsNoted [] (32 ∷ 32 ∷ text)
note_line text ends = subst (λ t. IsNoted [] (32 ∷ 32 ∷ t)) (sym ends.is) (one_line (32 ∷ 32 ∷ ends.body) [] ends.unbroken refl)

-- ---- what is told

pub tells_nil : (noted : Bool) → Tells noted [] []
tells_nil false = refl
tells_nil true = noted_nil

pub tells_more : (noted : Bool) (p q t u : List ℕ) → Tells noted p t → Tells noted q u → Tells noted (p ++ q) (t ++ u)
tells_more false p q t u a b = ap (λ x. x ++ u) a ∙ ap (λ x. p ++ x) b
tells_more true p q t u a b = noted_more p q t u a b

-- What is plain either way.
pub tells_plain : (noted : Bool) (text : List ℕ) → IsNoted text text → Tells noted text text
tells_plain false text is = refl
tells_plain true text is = is

pub put_plain : (old new : Option (List ℕ)) (text : List ℕ) → IsPut false old new text → Appends old new text
put_plain old new text (told, is, put) = subst (Appends old new) is put

-- ---- reports are plain

-- pieces without a newline, and then a newline
abbrev pub AreEnding : List (List ℕ) → Type 0
AreEnding [] = ⊥
AreEnding (x ∷ []) = x ≡ 10 ∷ []
AreEnding (x ∷ y ∷ xs) = (is_unbroken x ≡ true) × AreEnding (y ∷ xs)

unfoldable pub joined_ends : (pieces : List (List ℕ)) → AreEnding pieces → Ends (joined pieces)
joined_ends [] are = absurd are
joined_ends (x ∷ []) are = subst Ends (sym (append-nil x ∙ are)) ends_here
joined_ends (x ∷ y ∷ xs) are = ends_more x (joined (y ∷ xs)) are.0 (joined_ends (y ∷ xs) are.1)

pub rule_unbroken : (r : Rule) → is_unbroken (rule_text_of r) ≡ true
rule_unbroken rule.F1 = refl
rule_unbroken _ = refl

monitor_unbroken : (monitor : Option ℕ) → is_unbroken (monitor_text monitor) ≡ true
monitor_unbroken None = refl
monitor_unbroken (Some monitor) = unbroken_more (codes " ") (decimal monitor) refl (decimal_unbroken monitor)

named_at : (xs : List (List ℕ × LinkDecl)) (n : ℕ) → All (λ (p : List ℕ × LinkDecl). is_name p.1.name ≡ true) xs → n < length xs → is_name (option_map_or (λ (p : List ℕ × LinkDecl). p.1.name) (slice_get xs n) []) ≡ true
named_at [] n all lt = absurd (omega arith)
named_at (x ∷ xs) zero all lt = all 0 x (omega arith)
named_at (x ∷ xs) (suc n) all lt = named_at xs n (λ k d below. all (suc k) d (omega arith)) (omega arith)

row_plain : (topo : Topology) (row : Row) → is_name (link_text topo row.link) ≡ true → IsNoted (row_text topo row) (row_text topo row)
unfolding row_text joined_ends ends_more ends_here
row_plain topo row named =
    let ends = joined_ends (link_text topo row.link ∷ codes " " ∷ decimal row.fragment ∷ codes " " ∷ decimal row.line ∷ codes " " ∷ rule_text_of row.rule ∷ monitor_text row.monitor ∷ (10 ∷ []) ∷ [])
    (name_unbroken (link_text topo row.link) named, (refl, (decimal_unbroken row.fragment, (refl, (decimal_unbroken row.line, (refl, (rule_unbroken row.rule, (monitor_unbroken row.monitor, refl)))))))) in
    plain_line (joined (link_text topo row.link ∷ codes " " ∷ decimal row.fragment ∷ codes " " ∷ decimal row.line ∷ codes " " ∷ rule_text_of row.rule ∷ monitor_text row.monitor ∷ (10 ∷ []) ∷ [])) ends
    (named_no_note (link_text topo row.link) _ named)

pub row_is_plain : (topo : Topology) (row : Row) → AreNamed topo → row.link < length topo.links → IsNoted (row_text topo row) (row_text topo row)
row_is_plain topo row named within = row_plain topo row (named_at topo.links row.link named within)

pub head_is_plain : (report : ReportData) → IsNoted (head_text report) (head_text report)
unfolding head_text joined_ends ends_more ends_here
head_is_plain report =
    let pieces = codes "report " ∷ decimal report.version ∷ codes " edit " ∷ decimal report.edit ∷ codes " rows " ∷ decimal (length report.rows) ∷ (10 ∷ []) ∷ [] in
    plain_line (joined pieces) (joined_ends pieces (refl, (decimal_unbroken report.version, (refl, (decimal_unbroken report.edit, (refl, (decimal_unbroken (length report.rows), refl))))))) refl

pub audit_head_is_plain : (edit count : ℕ) → IsNoted (audit_head edit count) (audit_head edit count)
unfolding audit_head joined_ends ends_more ends_here
audit_head_is_plain edit count =
    let pieces = codes "audit " ∷ decimal edit ∷ codes " rows " ∷ decimal count ∷ (10 ∷ []) ∷ [] in
    plain_line (joined pieces) (joined_ends pieces (refl, (decimal_unbroken edit, (refl, (decimal_unbroken count, refl))))) refl
