use Rattle.std.proofs.Common.{sym, ◌∙◌}
use Rattle.tl_rows.proofs.LinkLaws.{declared_burst, head_found, later_found}
use Rattle.tl_definitions.specs.Heads.{before_on}
use Rattle.tl_rows.proofs.link.LinkOrigins.is_head.Goals as goal

pub returns-in-Head : goal.returns-in-Head
returns-in-Head c exponent links before is at =
    let p = c.args.place.now in
    let burst = declared_burst links c.args.decl.now p before is exponent c.args.self.now at in
    sym (head_found c.args.decl.now (before_on p.link p.beat.chan before) (sym c.in-Head.is ∙ c.step.ensures.place p.link before burst))

pub returns-in-Later : goal.returns-in-Later
returns-in-Later c exponent links before is at =
    let p = c.args.place.now in
    let burst = declared_burst links c.args.decl.now p before is exponent c.args.self.now at in
    sym (later_found c.args.decl.now (before_on p.link p.beat.chan before) c.in-Later.field-0 (sym c.in-Later.is ∙ c.step.ensures.place p.link before burst))
