use Rattle.std.proofs.Common.{Vec, Global, sym, subst}
use Rattle.std.proofs.lemmas.Result.{IfOk-weaker}
use Rattle.tl_topology.specs.Regions.{areas_of}
use Rattle.tl_beats.specs.declared.Row.{Row}
use Rattle.tl_definitions.specs.Managers.{manager_at}
use Rattle.tl_definitions.specs.Rules.{Manager}
use Rattle.tl_check.specs.Jobs as jobs
use Rattle.tl_midway.specs.Walked as walked
use Rattle.tl_stream.specs.Pasts.{GoesOn}
use Rattle.tl_stream.specs.declared.past.Past.TheVariants as past
use Rattle.tl_stream.proofs.BeatLemmas.{whole_goes_on, middle_goes_on}
use Rattle.tl_stream.proofs.past.Past.go_on.Goals as goal

pub returns-in-Whole : goal.returns-in-Whole
returns-in-Whole c =
    let m : Manager = manager_at c.args.topo.now c.args.manager (areas_of c.args.regions.now) in
    IfOk-weaker c.go_on.result (λ (rows : Vec Row Global). jobs.GoesOn m c.in-Whole.state c.args.walk c.go_on.new.state rows.items)
    (λ (rows : Vec Row Global). GoesOn m c.args.self.now c.args.walk (past.Whole c.go_on.new.state) rows.items)
    (λ rows gone. subst (λ old. GoesOn m old c.args.walk (past.Whole c.go_on.new.state) rows.items) (sym c.in-Whole.is)
    (whole_goes_on m c.in-Whole.state c.go_on.new.state c.args.walk rows.items gone)) c.go_on.ensures

pub returns-in-Middle : goal.returns-in-Middle
returns-in-Middle c =
    let m : Manager = manager_at c.args.topo.now c.args.manager (areas_of c.args.regions.now) in
    IfOk-weaker c.walk_on.result (λ (rows : Vec Row Global). walked.GoesOn m c.in-Middle.state c.args.walk c.walk_on.new.state rows.items)
    (λ (rows : Vec Row Global). GoesOn m c.args.self.now c.args.walk (past.Middle c.walk_on.new.state) rows.items)
    (λ rows gone. subst (λ old. GoesOn m old c.args.walk (past.Middle c.walk_on.new.state) rows.items) (sym c.in-Middle.is)
    (middle_goes_on m c.in-Middle.state c.walk_on.new.state c.args.walk rows.items gone)) c.walk_on.ensures
