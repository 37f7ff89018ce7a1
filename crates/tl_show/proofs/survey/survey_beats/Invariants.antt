use Rattle.std.proofs.Common.{◌≡◌, ◌++◌, drop}
use Rattle.std.specs.List.{AllByRecursion}
use Rattle.tl_show.specs.Lines.{IsSoundTold}
use Rattle.tl_show.specs.Shown.{told_from, told_of_all}
use Rattle.tl_show.proofs.survey.survey_beats.Given as goal

-- what the managers so far and those that are left tell is all
abbrev pub invariant-loop-manager : goal.invariant-loop-manager
invariant-loop-manager l = record {
  told : l.told.items ++ told_from l.topo l.present l.rows l.manager (drop l.manager l.topo.managers) ≡ told_of_all l.topo l.present l.rows;
  sound : AllByRecursion (IsSoundTold l.topo) l.told.items;
}
