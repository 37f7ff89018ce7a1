-- Walks: one beat more, and those of a manager of a topology.
use Rattle.std.proofs.Common.{◌≡◌, ℕ, ◌<◌, List, [], ◌∷◌, ◌++◌, length, get_or, Some, sym, ap, subst, ◌∙◌, append_assoc, arith}
use Rattle.std.specs.Prelude.{map, slice_get, unwrap_or, ◌↔◌}
use Rattle.std.specs.List.{All, Contains}
use Rattle.std.specs.List.Sorted.{IsStrictlySortedBy}
use Rattle.std.specs.Option.{option_map}
use Rattle.std.proofs.lemmas.Option.{slice_get-map, unwrap_or-slice_get}
use Rattle.std.proofs.lemmas.List.{append-nil}
use Rattle.tl_topology.specs.Regions.{Area}
use Rattle.tl_topology.specs.Topology.{Topology}
use Rattle.tl_topology.specs.declared.LinkDecl.{LinkDecl}
use Rattle.tl_beats.specs.declared.Placed.{Placed}
use Rattle.tl_beats.specs.declared.Row.{Row}
use Rattle.tl_definitions.specs.Breaks.{row_of}
use Rattle.tl_definitions.specs.Rules.{Manager}
use Rattle.tl_definitions.specs.Judging.{Snapshot, judged_rules, judged_next, judging}
use Rattle.tl_definitions.specs.Passes.{rows_judged, left_after}
use Rattle.tl_definitions.specs.Managers.{declared_links, manager_at}
use Rattle.tl_definitions.specs.Positions.{clients_of, links_of, position_order}
use Rattle.tl_definitions.specs.Report.{row_order}
use Rattle.tl_definitions.proofs.PassLaws.{sorted_rows_are_a_pass}
use Rattle.tl_client_rules.proofs.ClientsLaws.{clients_below}
use Rattle.tl_check.specs.Jobs.{GoesOn, Judges, manager_from}
use Rattle.tl_check.specs.States.{shown, IsOf}
use Rattle.tl_check.specs.declared.state.SpanState.{SpanState}

pub rows_on : (m : Manager) (s next : Snapshot) (ps rest : List Placed) (p : Placed) (rows more total : List Row) → ps ≡ p ∷ rest
    → more ≡ rows ++ map (row_of p) (judged_rules m s p) → next ≡ judged_next m s p → rows ++ rows_judged (judging m) s ps ≡ total
    → more ++ rows_judged (judging m) next rest ≡ total
rows_on m s next ps rest p rows more total steps put is found =
    let own : List Row = map (row_of p) (judged_rules m s p) in
    ap (λ (rs : List Row). rs ++ rows_judged (judging m) next rest) put ∙ ap (λ t. (rows ++ own) ++ rows_judged (judging m) t rest) is
    ∙ append_assoc rows own (rows_judged (judging m) (judged_next m s p) rest) ∙ sym (ap (λ qs. rows ++ rows_judged (judging m) s qs) steps) ∙ found

pub exit_on : (m : Manager) (s next : Snapshot) (ps rest : List Placed) (p : Placed) (total : Snapshot) → ps ≡ p ∷ rest
    → next ≡ judged_next m s p → left_after (judging m) s ps ≡ total → left_after (judging m) next rest ≡ total
exit_on m s next ps rest p total steps is left = ap (λ t. left_after (judging m) t rest) is ∙ sym (ap (left_after (judging m) s) steps) ∙ left

pub rows_end : (m : Manager) (s : Snapshot) (ps : List Placed) (rows total : List Row) → ps ≡ [] → rows ++ rows_judged (judging m) s ps ≡ total → rows ≡ total
rows_end m s ps rows total none found = sym (append-nil rows) ∙ ap (λ qs. rows ++ rows_judged (judging m) s qs) (sym none) ∙ found

-- ---- a manager of a topology, with its links, its block and its regions

pub served : (topo : Topology) (manager exponent : ℕ) (links : List LinkDecl) (areas : List Area) (entry : SpanState) → links ≡ declared_links topo
    → Some exponent ≡ option_map (λ p. p.1) (slice_get topo.managers manager) → IsOf (manager_at topo manager areas) entry → manager_from links exponent areas entry ≡ manager_at topo manager areas
served topo manager exponent links areas entry are block of =
    let found = ap (λ o. unwrap_or o 0) (block ∙ sym (slice_get-map (λ p. p.1) topo.managers manager)) ∙ unwrap_or-slice_get (map (λ p. p.1) topo.managers) manager 0 in
    λ i. record { links = links_of (are i); clients = of.clients.clients i; exponent = found i; regions = areas }

-- The links of a manager are links of the topology.
pub linked_within : (topo : Topology) (manager : ℕ) (links : List LinkDecl) (beats : List Placed) → links ≡ declared_links topo
    → All (λ p. Contains (clients_of manager (declared_links topo)) p.link) beats → All (λ p. p.link < length links) beats
linked_within topo manager links beats are linked k d below =
    let less = clients_below manager 0 (declared_links topo) (get_or beats k d).link (linked k d below) in
    let many : length links ≡ length (declared_links topo) = ap length are in omega (arith, less, many)

-- Rows that are sorted, of beats judged from a state.
pub judged : (m : Manager) (entry exit : SpanState) (beats : List Placed) (found rows : List Row) → IsStrictlySortedBy position_order beats → GoesOn m entry beats exit found
    → IsStrictlySortedBy row_order rows → ((row : Row) → Contains rows row ↔ Contains found row) → Judges m entry beats exit rows
judged m entry exit beats found rows rises gone sorted members =
    let pass = sorted_rows_are_a_pass m (shown entry) beats rows rises sorted
    (λ row. (
      (λ h. subst (λ rs. Contains rs row) gone.found ((members row).0 h)),
      (λ h. (members row).1 (subst (λ rs. Contains rs row) (sym gone.found) h)),
    )) in
    (gone.is_of, record { rises = pass.rises; members = pass.members; exit = gone.left })
