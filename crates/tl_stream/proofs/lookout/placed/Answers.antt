use Rattle.std.proofs.Common.{◌≡◌, List, Result, Ok, Err, Vec, Global, sym, subst}
use Rattle.std.specs.Prelude.{IfOk}
use Rattle.std.specs.List.Sorted.{IsStrictlySortedBy}
use Rattle.tl_beats.specs.declared.Placed.{Placed}
use Rattle.tl_definitions.specs.Positions.{beats_of, position_order}
use Rattle.tl_definitions.specs.Tallies.{AreOfOneLink}
use Rattle.tl_check.proofs.CaptureLaws.{link_beats_rise, of_one_link}
use Rattle.tl_stream.proofs.lookout.placed.Goals as goal

made : {E : Type 0} (P : List Placed → Type 0) (beats : List Placed) (found : Result (Vec Placed Global) E) → P beats → IfOk found (λ own. own.items ≡ beats) → IfOk found (λ own. P own.items)
made P beats (Ok own) all is = subst P (sym is) all
made P beats (Err e) all is = tt

pub returns-clause-link : goal.returns-clause-link
returns-clause-link c = made AreOfOneLink (beats_of c.args.link c.put.new.self) c.link_beats.result (of_one_link c.args.link c.put.new.self) c.link_beats.ensures

pub returns-clause-rises : goal.returns-clause-rises
returns-clause-rises c =
    made (IsStrictlySortedBy position_order) (beats_of c.args.link c.put.new.self) c.link_beats.result (link_beats_rise c.args.link c.put.new.self c.is_empty.ensures.kept) c.link_beats.ensures
