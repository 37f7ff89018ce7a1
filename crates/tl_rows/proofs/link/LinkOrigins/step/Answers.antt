use Rattle.std.proofs.Common.{Some, None, refl, sym, ap, ◌∙◌, arith}
use Rattle.std.proofs.Math.ListN.{set}
use Rattle.tl_definitions.specs.Heads.{before_on}
use Rattle.tl_client_rules.proofs.Carried.{carried}
use Rattle.tl_rows.specs.Origins.{origins_on}
use Rattle.tl_rows.proofs.LinkLaws.{declared_burst, head_found, later_found, over_later, over_head, on_ok}
use Rattle.tl_rows.proofs.link.LinkOrigins.step.Goals as goal

pub returns-in-Later : goal.returns-in-Later
returns-in-Later c links before is at =
    let p = c.args.place.now in
    let decl = c.args.decl.now in
    let burst = declared_burst links decl p before is c.args.exponent c.args.self.now at in
    over_later links decl p before is c.args.exponent c.args.self.now _
    (later_found decl (before_on p.link p.beat.chan before) c.in-Later.field-0 (sym c.in-Later.is ∙ c.step.ensures.place p.link before burst))
    at (c.step.ensures.stands p.link p.fragment p.line before burst) refl refl

pub take-requires : goal.take-requires
take-requires c = carried c.args.decl.now.level c.args.place.now.beat.chan c.args.place.now.beat.opcode c.in-Some.op (sym c.op_of.ensures ∙ c.in-Some.is)

pub returns-in-Some : goal.returns-in-Some
returns-in-Some c links before is at =
    let p = c.args.place.now in
    let decl = c.args.decl.now in
    let old = c.args.self.now in
    let burst = declared_burst links decl p before is c.args.exponent old at in
    on_ok c.take.result
    (over_head links decl p before is c.args.exponent old _ (Some c.in-Some.op)
    (head_found decl (before_on p.link p.beat.chan before) (sym c.in-Head.is ∙ c.step.ensures.place p.link before burst))
    at (c.step.ensures.stands p.link p.fragment p.line before burst) (omega arith) (ap (λ n. set old.heads n (Some p)) c.chan_index.ensures.value)
    (sym c.op_of.ensures ∙ c.in-Some.is))
    (c.take.ensures (origins_on links p.link before) at.openers)

pub returns-in-None : goal.returns-in-None
returns-in-None c links before is at =
    let p = c.args.place.now in
    let decl = c.args.decl.now in
    let old = c.args.self.now in
    let burst = declared_burst links decl p before is c.args.exponent old at in
    over_head links decl p before is c.args.exponent old _ None
    (head_found decl (before_on p.link p.beat.chan before) (sym c.in-Head.is ∙ c.step.ensures.place p.link before burst))
    at (c.step.ensures.stands p.link p.fragment p.line before burst) (omega arith) (ap (λ n. set old.heads n (Some p)) c.chan_index.ensures.value)
    (sym c.op_of.ensures ∙ c.in-None.is) at.openers
