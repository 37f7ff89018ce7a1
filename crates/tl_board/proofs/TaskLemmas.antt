-- What is checked of a task is its pass.
use Rattle.std.proofs.Common.{◌≡◌, ℕ, ◌==◌, inl, inr, false, true, List, [], length, get_or, refl, sym, ap, subst, ◌∙◌}
use Rattle.std.specs.List.{All, Contains}
use Rattle.std.proofs.lemmas.List.Elements.{Contains-get_or}
use Rattle.tl_topology.specs.Topology.{Topology}
use Rattle.tl_beats.specs.declared.Placed.{Placed}
use Rattle.tl_beats.specs.declared.Row.{Row}
use Rattle.tl_definitions.specs.Judging.{judging}
use Rattle.tl_definitions.specs.LinkPasses.{on_link}
use Rattle.tl_definitions.specs.Managers.{declared_links}
use Rattle.tl_definitions.specs.Passes.{IsPass}
use Rattle.tl_definitions.specs.Positions.{clients_of}
use Rattle.tl_definitions.specs.Rules.{Manager}
use Rattle.tl_definitions.proofs.Lists.{mapped_from}
use Rattle.tl_capture.specs.Windows.{AreBeatsOf}
use Rattle.tl_check.specs.Managers.{IsPlain}
use Rattle.tl_check.specs.Jobs.{Judges}
use Rattle.tl_check.specs.States.{shown, IsOf, SameSpan}
use Rattle.tl_check.specs.declared.state.SpanState.{SpanState}
use Rattle.tl_check.proofs.StateLaws.{same_shown}
use Rattle.tl_check.specs.LinkByLink.{of_each}
use Rattle.tl_board.specs.Apart.{AreApart, IsParted}
use Rattle.tl_board.specs.Tasks.{TaskData, IsTask, IsPassOf, manager_of}
use Rattle.tl_board.proofs.ApartLemmas.{own_are_beats}

pub passed : (task : TaskData) → IsTask task → (exit : SpanState) (rows : List Row) → Judges (manager_of task) task.entry task.beats exit rows → IsPassOf task (record { entry = task.entry; exit = exit; rows = rows })
passed task own exit rows judges = record {
  entry = shown task.entry;
  exit = shown exit;
  begins = (own.entry, refl);
  ends = (judges.0, refl);
  pass = judges.1;
}

-- Beats are judged alike from states that show the same.
pub judged_alike : (m : Manager) (entry state exit : SpanState) (beats : List Placed) (rows : List Row) → SameSpan entry state → Judges m state beats exit rows → Judges m entry beats exit rows
judged_alike m entry state exit beats rows same judges =
    (judges.0, subst (λ s. IsPass (judging m) (record { entry = s; beats = beats; exit = shown exit; rows = rows })) (sym (same_shown entry state same)) judges.1)

-- A state that is the same may stand for the one that a window leaves.
pub settled : (task : TaskData) (entry exit kept : SpanState) (rows : List Row) → SameSpan exit kept → (IsOf (manager_of task) exit → IsOf (manager_of task) kept)
    → IsPassOf task (record { entry = entry; exit = exit; rows = rows }) → IsPassOf task (record { entry = entry; exit = kept; rows = rows })
settled task entry exit kept rows same stays is = record {
  entry = is.entry;
  exit = is.exit;
  begins = is.begins;
  ends = (stays is.ends.0, sym (same_shown exit kept same) ∙ is.ends.1);
  pass = is.pass;
}

-- Where there are lists of beats, they are those of each link, and no link has caches.
pub parted : (topo : Topology) (manager : ℕ) (links : List ℕ) (beats : List Placed) (lists : List (List Placed)) → links ≡ clients_of manager (declared_links topo)
    → AreBeatsOf (clients_of manager (declared_links topo)) beats → AreApart topo links beats lists → (lists ≡ [] → ⊥) → IsParted topo manager beats lists
parted topo manager links beats lists are own (inl none) some = absurd (some none)
parted topo manager links beats lists are own (inr apart) some = record {
  all = own;
  plain = subst (All (IsPlain topo)) are apart.0;
  each = apart.1 ∙ ap (λ ls. of_each ls beats) are;
}

-- The same of shared parts, where the lists are so many.
pub parted_there : (topo shared : Topology) (manager : ℕ) (links : List ℕ) (beats : List Placed) (own lists : List (List Placed)) (many : ℕ) → shared ≡ topo → lists ≡ own → length lists ≡ many → false ≡ (many == 0)
    → links ≡ clients_of manager (declared_links topo) → AreBeatsOf (clients_of manager (declared_links topo)) beats → AreApart topo links beats own → IsParted shared manager beats lists
parted_there topo shared manager links beats own lists many same held count filled are all apart =
    let some : own ≡ [] → ⊥ = λ none. (let zero : many ≡ 0 = sym count ∙ ap length (held ∙ none) in let never : false ≡ true = filled ∙ ap (λ n. n == 0) zero in cc) in
    subst (λ (t : Topology). IsParted t manager beats lists) (sym same)
    (subst (IsParted topo manager beats) (sym held) (parted topo manager links beats own are all apart some))

-- Each of them is such as a check asks for.
pub each_list : (topo : Topology) (manager : ℕ) (beats : List Placed) (lists : List (List Placed)) → IsParted topo manager beats lists → All (AreBeatsOf (clients_of manager (declared_links topo))) lists
each_list topo manager beats lists is k d within =
    let links : List ℕ = clients_of manager (declared_links topo) in
    let found = mapped_from (λ link. on_link link beats) links (get_or lists k d) (subst (λ ls. Contains ls (get_or lists k d)) is.each (Contains-get_or lists k d within)) in
    subst (AreBeatsOf links) found.2 (own_are_beats links beats found.0 is.all)
