-- One declaration more.
use Rattle.std.proofs.Common.{◌≡◌, ℕ, zero, suc, ◌<◌, ◌≤◌, Bool, true, false, List, [], ◌∷◌, ◌++◌, length, Some, Ok, refl, sym, ◌∙◌, arith, length-append}
use Rattle.std.specs.Prelude.{◌||◌}
use Rattle.std.specs.List.{All}
use Rattle.std.specs.Str.{bytes_eq}
use Rattle.std.proofs.Common.{subst}
use Rattle.indexmap.specs.IndexMap.{insert_entry}
use Rattle.tl_topology.proofs.Inserting.{insert_new}
use Rattle.std.proofs.lemmas.Bool.{le-ltb, lt-leb}
use Rattle.std.proofs.lemmas.List.Elements.{All-append}
use Rattle.tl_topology.specs.declared.LinkDecl.{LinkDecl}
use Rattle.tl_topology.specs.declared.reading.ManagerLine.{ManagerLine}
use Rattle.tl_topology.specs.declared.reading.LinkLine.{LinkLine}
use Rattle.tl_text.specs.Names.{is_name}
use Rattle.tl_topology.specs.Topology.{Topology, is_named, exponent_of, IsSound, IsTopology}
use Rattle.tl_topology.specs.Reading.{with_manager, with_link, fitted, manager_named}

-- a name that nobody has is no manager's and no link's
unnamed : (a b : Bool) → (a || b) ≡ false → (a ≡ false) × (b ≡ false)
unnamed true b h = absurd cc
unnamed false b h = (refl, h)

declares_manager : (es : List (List ℕ × ℕ)) (links : List (List ℕ × LinkDecl)) (new : List (List ℕ × ℕ)) (manager : ManagerLine) (n exponent : ℕ)
    → is_named (record { managers = es; links = links }) manager.name ≡ false → exponent_of manager.block ≡ Some exponent → 3 ≤ exponent → length es < 64 → new ≡ insert_entry bytes_eq es manager.name exponent
    → with_manager (record { managers = es; links = links }) manager n ≡ Ok (record { managers = new; links = links })
unfolding with_manager
declares_manager es links new manager n exponent unused power large room put =
    let last : new ≡ es ++ (manager.name, exponent) ∷ [] = put ∙ insert_new bytes_eq manager.name exponent es (unnamed _ _ unused).0 in
    rw (unused, power, le-ltb exponent 3 large, lt-leb 64 (length es) room, last) refl

pub manager_declared : (topo : Topology) (es : List (List ℕ × ℕ)) (links : List (List ℕ × LinkDecl)) (new : List (List ℕ × ℕ)) (manager : ManagerLine) (n exponent : ℕ) → record { managers = es; links = links } ≡ topo
    → is_named topo manager.name ≡ false → exponent_of manager.block ≡ Some exponent → 3 ≤ exponent → length es < 64 → new ≡ insert_entry bytes_eq es manager.name exponent
    → with_manager topo manager n ≡ Ok (record { managers = new; links = links })
manager_declared topo es links new manager n exponent was unused power large room put =
    subst (λ (t : Topology). with_manager t manager n ≡ Ok (record { managers = new; links = links })) was
    (declares_manager es links new manager n exponent (subst (λ (t : Topology). is_named t manager.name ≡ false) (sym was) unused) power large room put)

declares_link : (managers : List (List ℕ × ℕ)) (es new : List (List ℕ × LinkDecl)) (link : LinkLine) (n : ℕ) (manager : ℕ × ℕ) (decl : LinkDecl)
    → is_named (record { managers = managers; links = es }) link.name ≡ false → manager_named (record { managers = managers; links = es }) link.manager ≡ Some manager → fitted link manager.0 manager.1 n ≡ Ok decl → length es < 256
    → new ≡ insert_entry bytes_eq es link.name decl → with_link (record { managers = managers; links = es }) link n ≡ Ok (record { managers = managers; links = new })
unfolding with_link
declares_link managers es new link n manager decl unused is fits room put =
    let last : new ≡ es ++ (link.name, decl) ∷ [] = put ∙ insert_new bytes_eq link.name decl es (unnamed _ _ unused).1 in
    rw (unused, is, fits, lt-leb 256 (length es) room, last) refl

pub link_declared : (topo : Topology) (managers : List (List ℕ × ℕ)) (es new : List (List ℕ × LinkDecl)) (link : LinkLine) (n : ℕ) (manager : ℕ × ℕ) (decl : LinkDecl) → record { managers = managers; links = es } ≡ topo
    → is_named topo link.name ≡ false → manager_named topo link.manager ≡ Some manager → fitted link manager.0 manager.1 n ≡ Ok decl → length es < 256
    → new ≡ insert_entry bytes_eq es link.name decl → with_link topo link n ≡ Ok (record { managers = managers; links = new })
link_declared topo managers es new link n manager decl was unused is fits room put =
    subst (λ (t : Topology). with_link t link n ≡ Ok (record { managers = managers; links = new })) was
    (declares_link managers es new link n manager decl (subst (λ (t : Topology). is_named t link.name ≡ false) (sym was) unused) (subst (λ (t : Topology). manager_named t link.manager ≡ Some manager) (sym was) is) fits room put)

one_managed : (count : ℕ) (name : List ℕ) (decl : LinkDecl) → decl.manager < count → All (λ (p : List ℕ × LinkDecl). p.1.manager < count) ((name, decl) ∷ [])
one_managed count name decl managed zero d lt = managed
one_managed count name decl managed (suc k) d lt = absurd (omega arith)

one_named : (name : List ℕ) (decl : LinkDecl) → is_name decl.name ≡ true → All (λ (p : List ℕ × LinkDecl). is_name p.1.name ≡ true) ((name, decl) ∷ [])
one_named name decl named zero d lt = named
one_named name decl named (suc k) d lt = absurd (omega arith)

one_sound : (name : List ℕ) (decl : LinkDecl) → IsSound decl → All (λ (p : List ℕ × LinkDecl). IsSound p.1) ((name, decl) ∷ [])
one_sound name decl sound zero d lt = sound
one_sound name decl sound (suc k) d lt = absurd (omega arith)

pub topology_with_link : (managers : List (List ℕ × ℕ)) (es new : List (List ℕ × LinkDecl)) (topo : Topology) (name : List ℕ) (decl : LinkDecl) → record { managers = managers; links = es } ≡ topo → is_named topo name ≡ false
    → IsTopology (record { managers = managers; links = es }) → IsSound decl → is_name decl.name ≡ true → decl.manager < length managers → length es < 256 → new ≡ insert_entry bytes_eq es name decl → IsTopology (record { managers = managers; links = new })
topology_with_link managers es new topo name decl was unused kept sound named managed room put =
    let here : is_named (record { managers = managers; links = es }) name ≡ false = subst (λ (t : Topology). is_named t name ≡ false) (sym was) unused in
    let one_more : length (es ++ (name, decl) ∷ []) ≤ 256 = omega (arith, length-append es ((name, decl) ∷ [])) in
    let last : new ≡ es ++ (name, decl) ∷ [] = put ∙ insert_new bytes_eq name decl es (unnamed _ _ here).1 in
    rw last (record {
      managers = kept.managers;
      links = one_more;
      sound = All-append (λ (p : List ℕ × LinkDecl). IsSound p.1) es ((name, decl) ∷ []) kept.sound (one_sound name decl sound);
      managed = All-append (λ (p : List ℕ × LinkDecl). p.1.manager < length managers) es ((name, decl) ∷ []) kept.managed (one_managed (length managers) name decl managed);
      named = All-append (λ (p : List ℕ × LinkDecl). is_name p.1.name ≡ true) es ((name, decl) ∷ []) kept.named (one_named name decl named);
    })
