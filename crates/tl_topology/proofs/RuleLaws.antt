-- Reading a declaration finds the first rule that it breaks.
use Rattle.std.proofs.Common.{◌≡◌, ℕ, zero, suc, ◌≤◌, Bool, true, false, cond, eqb, ltb, leb, not, List, [], ◌∷◌, ◌++◌, length, Option, Some, None, Result, Ok, Err, refl, sym, ap, arith, inl, inr}
use Rattle.std.specs.Prelude.{◌&&◌, is_some, unwrap_or, codes}
use Rattle.std.specs.List.{list_all}
use Rattle.std.specs.Str.{bytes_eq}
use Rattle.std.proofs.lemmas.Option.{none-some, same_Some, cond_some}
use Rattle.std.proofs.lemmas.Bool.{false≢true, cases_lt, ne_eqb, lt-ltb, le-ltb, le-leb, lt-leb}
use Rattle.tl_text.specs.Words.{◌>>=◌, word_at}
use Rattle.tl_text.specs.Readings.{◌>>>◌, or_fault}
use Rattle.tl_topology.specs.declared.LinkDecl.{LinkDecl}
use Rattle.tl_topology.specs.declared.reading.Version.{Version}
use Rattle.tl_topology.specs.declared.reading.ManagerLine.{ManagerLine}
use Rattle.tl_topology.specs.declared.reading.LinkLine.{LinkLine}
use Rattle.tl_topology.specs.declared.fault.TopoFault.{TopoFault}
use Rattle.tl_topology.specs.declared.fault.TopoFault.TheVariants as fault
use Rattle.tl_topology.specs.Topology.{Topology, is_named, exponent_of, is_width, is_size, may_be_strict}
use Rattle.tl_topology.specs.Reading.{manager_at, link_at, manager_named, with_manager, fitted, with_link, declared}
use Rattle.tl_topology.specs.Text.{Declaration, a_manager, a_link, IsSpelled}
use Rattle.tl_topology.specs.Declarations.{Rule, rules_of, with_declaration, IsLawful}
use Rattle.tl_topology.specs.FirstFault.{first_broken}
use Rattle.tl_topology.proofs.LineLaws.{declaration_at}

-- the topology, or the fault of a broken rule
abbrev given : Option TopoFault → Topology → Result Topology TopoFault
given None topo = Ok topo
given (Some found) topo = Err found

-- what the rules say of a declaration at line n
unfoldable pub meant : Topology → Declaration → ℕ → Result Topology TopoFault
meant topo d n = given (first_broken (rules_of topo d) n) (with_declaration topo d)

-- ---- the tests of the reading, and those of the rules

room_test : (a b : ℕ) → ltb a b ≡ not (leb b a)
room_test a b = elim (cases_lt a b) [
  | inl lt ↦ rw (lt-ltb a b lt, lt-leb b a lt) refl
  | inr le ↦ rw (le-ltb a b le, le-leb b a le) refl
]

large_block : (b e : ℕ) → 8 ≤ b → exponent_of b ≡ Some e → 3 ≤ e
unfolding exponent_of
large_block b e le h =
    let n1 : eqb 1 b ≡ false = ne_eqb 1 b (λ x. absurd (omega arith)) in
    let n2 : eqb 2 b ≡ false = ne_eqb 2 b (λ x. absurd (omega arith)) in
    let n4 : eqb 4 b ≡ false = ne_eqb 4 b (λ x. absurd (omega arith)) in
    let found = rw (n1, n2, n4) at h in
    let parts = cond_some _ _ e found in
    omega (arith, parts.1)

large_test : (b e : ℕ) → 8 ≤ b → exponent_of b ≡ Some e → leb 8 b ≡ not (ltb e 3)
large_test b e le h = rw (le-leb 8 b le, le-ltb e 3 (large_block b e le h)) refl

block_test : (b e : ℕ) → exponent_of b ≡ Some e → leb 8 b ≡ not (ltb e 3)
unfolding exponent_of
block_test zero e h = absurd (none-some e h)
block_test (suc zero) e h = rw (← same_Some _ _ h) refl
block_test (suc (suc zero)) e h = rw (← same_Some _ _ h) refl
block_test (suc (suc (suc zero))) e h = absurd (none-some e h)
block_test (suc (suc (suc (suc zero)))) e h = rw (← same_Some _ _ h) refl
block_test (suc (suc (suc (suc (suc zero))))) e h = absurd (none-some e h)
block_test (suc (suc (suc (suc (suc (suc zero)))))) e h = absurd (none-some e h)
block_test (suc (suc (suc (suc (suc (suc (suc zero))))))) e h = absurd (none-some e h)
block_test (suc (suc (suc (suc (suc (suc (suc (suc b)))))))) e h = large_test (suc (suc (suc (suc (suc (suc (suc (suc b)))))))) e (omega arith) h

-- ---- a manager

abbrev manager_put : Topology → List ℕ → ℕ → Topology
manager_put topo name exponent = record { managers = topo.managers ++ (name, exponent) ∷ []; links = topo.links }

abbrev manager_tests : Bool → Bool → Bool → List Rule
manager_tests unused block room = (unused, λ line. fault.NameTwice line) ∷ (block, λ line. fault.BadBlock line) ∷ (room, λ line. fault.TooManyManagers line) ∷ []

manager_room : (low full : Bool) (n exponent : ℕ) (topo : Topology) (name : List ℕ)
    → cond low (Err (fault.BadBlock n)) (cond full (Err (fault.TooManyManagers n)) (Ok (manager_put topo name exponent))) ≡ given (first_broken (manager_tests true (not low) (not full)) n) (manager_put topo name exponent)
manager_room true full n exponent topo name = refl
manager_room false true n exponent topo name = refl
manager_room false false n exponent topo name = refl

manager_block : (power : Option ℕ) (large full : Bool) (n : ℕ) (topo : Topology) (name : List ℕ) → ((e : ℕ) → power ≡ Some e → large ≡ not (ltb e 3))
    → (or_fault power (fault.BadBlock n) >>> λ e. cond (ltb e 3) (Err (fault.BadBlock n)) (cond full (Err (fault.TooManyManagers n)) (Ok (manager_put topo name e))))
    ≡ given (first_broken (manager_tests true (is_some power && large) (not full)) n) (manager_put topo name (unwrap_or power 0))
manager_block None large full n topo name is = refl
manager_block (Some e) large full n topo name is = rw (is e refl) (manager_room (ltb e 3) full n e topo name)

manager_named_at : (named : Bool) (power : Option ℕ) (large full : Bool) (n : ℕ) (topo : Topology) (name : List ℕ) → ((e : ℕ) → power ≡ Some e → large ≡ not (ltb e 3))
    → cond named (Err (fault.NameTwice n)) (or_fault power (fault.BadBlock n) >>> λ e. cond (ltb e 3) (Err (fault.BadBlock n)) (cond full (Err (fault.TooManyManagers n)) (Ok (manager_put topo name e))))
    ≡ given (first_broken (manager_tests (not named) (is_some power && large) (not full)) n) (manager_put topo name (unwrap_or power 0))
manager_named_at true power large full n topo name is = refl
manager_named_at false power large full n topo name is = manager_block power large full n topo name is

manager_meant : (topo : Topology) (m : ManagerLine) (n : ℕ) → with_manager topo m n ≡ meant topo (a_manager m) n
unfolding with_manager meant rules_of with_declaration
manager_meant topo m n = rw (room_test (length topo.managers) 64) (manager_named_at (is_named topo m.name) (exponent_of m.block) (leb 8 m.block) (leb 64 (length topo.managers)) n topo m.name (λ e h. block_test m.block e h))

-- ---- a link

abbrev link_put : Topology → List ℕ → LinkDecl → Topology
link_put topo name decl = record { managers = topo.managers; links = topo.links ++ (name, decl) ∷ [] }

abbrev link_with : LinkLine → ℕ → LinkDecl
link_with link number = record { name = link.name; manager = number; level = link.level; width = link.width; max_size = link.max_size; sources = link.sources; strict = link.strict }

abbrev link_tests : Bool → Bool → Bool → Bool → Bool → Bool → List Rule
link_tests unused known wide size marked room =
    (unused, λ line. fault.NameTwice line) ∷ (known, λ line. fault.NoManager line) ∷ (wide, λ line. fault.BadWidth line) ∷ (size, λ line. fault.BadSize line)
    ∷ (marked, λ line. fault.StrictLevel line) ∷ (room, λ line. fault.TooManyLinks line) ∷ []

abbrev fits : Bool → Bool → Bool → ℕ → LinkDecl → Result LinkDecl TopoFault
fits wide size marked n decl = cond (not wide) (Err (fault.BadWidth n)) (cond (not size) (Err (fault.BadSize n)) (cond (not marked) (Err (fault.StrictLevel n)) (Ok decl)))

link_fits : (wide size marked full : Bool) (n : ℕ) (topo : Topology) (name : List ℕ) (decl : LinkDecl)
    → (fits wide size marked n decl >>> λ d. cond full (Err (fault.TooManyLinks n)) (Ok (link_put topo name d))) ≡ given (first_broken (link_tests true true wide size marked (not full)) n) (link_put topo name decl)
link_fits false size marked full n topo name decl = refl
link_fits true false marked full n topo name decl = refl
link_fits true true false full n topo name decl = refl
link_fits true true true true n topo name decl = refl
link_fits true true true false n topo name decl = refl

-- whether a link fits a manager's block, and what its declaration makes
abbrev fitting : LinkLine → ℕ × ℕ → ℕ → Result LinkDecl TopoFault
fitting link m n = fits (is_width link.width) (is_size link.level link.width m.1 link.max_size) (may_be_strict link.level link.strict) n (link_with link m.0)

abbrev tests_of : LinkLine → Bool → Option (ℕ × ℕ) → Bool → List Rule
tests_of link unused known full =
    link_tests unused (is_some known) (is_width link.width) (is_size link.level link.width (unwrap_or known (0, 0)).1 link.max_size) (may_be_strict link.level link.strict) (not full)

link_known : (known : Option (ℕ × ℕ)) (full : Bool) (n : ℕ) (topo : Topology) (link : LinkLine)
    → (or_fault known (fault.NoManager n) >>> λ m. (fitting link m n >>> λ d. cond full (Err (fault.TooManyLinks n)) (Ok (link_put topo link.name d))))
    ≡ given (first_broken (tests_of link true known full) n) (link_put topo link.name (link_with link (unwrap_or known (0, 0)).0))
link_known None full n topo link = refl
link_known (Some m) full n topo link =
    link_fits (is_width link.width) (is_size link.level link.width m.1 link.max_size) (may_be_strict link.level link.strict) full n topo link.name (link_with link m.0)

link_named_at : (named : Bool) (known : Option (ℕ × ℕ)) (full : Bool) (n : ℕ) (topo : Topology) (link : LinkLine)
    → cond named (Err (fault.NameTwice n)) (or_fault known (fault.NoManager n) >>> λ m. (fitting link m n >>> λ d. cond full (Err (fault.TooManyLinks n)) (Ok (link_put topo link.name d))))
    ≡ given (first_broken (tests_of link (not named) known full) n) (link_put topo link.name (link_with link (unwrap_or known (0, 0)).0))
link_named_at true known full n topo link = refl
link_named_at false known full n topo link = link_known known full n topo link

link_meant : (topo : Topology) (link : LinkLine) (n : ℕ) → with_link topo link n ≡ meant topo (a_link link) n
unfolding with_link fitted meant rules_of with_declaration
link_meant topo link n = rw (room_test (length topo.links) 256) (link_named_at (is_named topo link.name) (manager_named topo link.manager) (leb 256 (length topo.links)) n topo link)

-- ---- a line

managers_meant : (read : Option ManagerLine) (topo : Topology) (n : ℕ) → (or_fault read (fault.BadLine n) >>> λ m. with_manager topo m n) ≡ (or_fault (read >>= λ m. Some (a_manager m)) (fault.BadLine n) >>> λ d. meant topo d n)
managers_meant None topo n = refl
managers_meant (Some m) topo n = manager_meant topo m n

links_meant : (read : Option LinkLine) (topo : Topology) (n : ℕ) → (or_fault read (fault.BadLine n) >>> λ l. with_link topo l n) ≡ (or_fault (read >>= λ l. Some (a_link l)) (fault.BadLine n) >>> λ d. meant topo d n)
links_meant None topo n = refl
links_meant (Some l) topo n = link_meant topo l n

kind_meant : (version : Version) (s t : Bool) (rest : List ℕ) (topo : Topology) (n : ℕ)
    → cond s (or_fault (manager_at rest) (fault.BadLine n) >>> λ m. with_manager topo m n) (cond t (or_fault (link_at version rest) (fault.BadLine n) >>> λ l. with_link topo l n) (Err (fault.BadLine n)))
    ≡ (or_fault (cond s (manager_at rest >>= λ m. Some (a_manager m)) (cond t (link_at version rest >>= λ l. Some (a_link l)) None)) (fault.BadLine n) >>> λ d. meant topo d n)
kind_meant version true t rest topo n = managers_meant (manager_at rest) topo n
kind_meant version false true rest topo n = links_meant (link_at version rest) topo n
kind_meant version false false rest topo n = refl

word_meant : (word : Option (List ℕ × List ℕ)) (f : List ℕ × List ℕ → Result Topology TopoFault) (g : List ℕ × List ℕ → Option Declaration) (topo : Topology) (n : ℕ)
    → ((w : List ℕ × List ℕ) → f w ≡ (or_fault (g w) (fault.BadLine n) >>> λ d. meant topo d n)) → (or_fault word (fault.BadLine n) >>> f) ≡ (or_fault (word >>= g) (fault.BadLine n) >>> λ d. meant topo d n)
word_meant None f g topo n same = refl
word_meant (Some w) f g topo n same = same w

-- a line is judged as what it spells
pub declared_meant : (version : Version) (topo : Topology) (line : List ℕ) (n : ℕ) → declared version topo line n ≡ (or_fault (declaration_at version line) (fault.BadLine n) >>> λ d. meant topo d n)
unfolding declared declaration_at
declared_meant version topo line n = word_meant (word_at line) _ _ topo n (λ w. kind_meant version (bytes_eq w.0 (codes "manager")) (bytes_eq w.0 (codes "link")) w.1 topo n)

-- ---- what the rules say

kept_step : (t : Bool) (later found : Option TopoFault) (rest : Bool) → (t && rest) ≡ true → (rest ≡ true → later ≡ None) → cond t later found ≡ None
kept_step true later found rest e none = none e
kept_step false later found rest e none = absurd (false≢true e)

all_kept : (rules : List Rule) (n : ℕ) → list_all (λ rule. rule.0) rules ≡ true → first_broken rules n ≡ None
all_kept [] n e = refl
all_kept (rule ∷ rules) n e = kept_step rule.0 (first_broken rules n) (Some (rule.1 n)) (list_all (λ (r : Rule). r.0) rules) e (λ h. all_kept rules n h)

none_step : (t : Bool) (later : Option TopoFault) (found : TopoFault) (rest : Bool) → cond t later (Some found) ≡ None → (later ≡ None → rest ≡ true) → (t && rest) ≡ true
none_step true later found rest e all = all e
none_step false later found rest e all = absurd (none-some found (sym e))

none_broken : (rules : List Rule) (n : ℕ) → first_broken rules n ≡ None → list_all (λ rule. rule.0) rules ≡ true
none_broken [] n e = refl
none_broken (rule ∷ rules) n e = none_step rule.0 (first_broken rules n) (rule.1 n) (list_all (λ (r : Rule). r.0) rules) e (λ h. none_broken rules n h)

given_ok : (broken : Option TopoFault) (topo made : Topology) → given broken topo ≡ Ok made → (broken ≡ None) × (topo ≡ made)
given_ok None topo made e = (refl, cc)
given_ok (Some found) topo made e = absurd cc

given_err : (broken : Option TopoFault) (topo : Topology) (found : TopoFault) → given broken topo ≡ Err found → broken ≡ Some found
given_err None topo found e = absurd cc
given_err (Some other) topo found e = cc

pub lawful_meant : (version : Version) (topo : Topology) (d : Declaration) (n : ℕ) → IsLawful version topo d → meant topo d n ≡ Ok (with_declaration topo d)
unfolding meant
lawful_meant version topo d n lawful = ap (λ (o : Option TopoFault). given o (with_declaration topo d)) (all_kept (rules_of topo d) n lawful.kept)

pub meant_lawful : (version : Version) (topo made : Topology) (d : Declaration) (n : ℕ) → IsSpelled version d → meant topo d n ≡ Ok made → (with_declaration topo d ≡ made) × IsLawful version topo d
unfolding meant
meant_lawful version topo made d n spelled e =
    let p = given_ok (first_broken (rules_of topo d) n) (with_declaration topo d) made e in
    (p.1, record { spelled = spelled; kept = none_broken (rules_of topo d) n p.0 })

pub broken_meant : (topo : Topology) (d : Declaration) (n : ℕ) (found : TopoFault) → first_broken (rules_of topo d) n ≡ Some found → meant topo d n ≡ Err found
unfolding meant
broken_meant topo d n found e = ap (λ (o : Option TopoFault). given o (with_declaration topo d)) e

pub meant_broken : (topo : Topology) (d : Declaration) (n : ℕ) (found : TopoFault) → meant topo d n ≡ Err found → first_broken (rules_of topo d) n ≡ Some found
unfolding meant
meant_broken topo d n found e = given_err (first_broken (rules_of topo d) n) (with_declaration topo d) found e
