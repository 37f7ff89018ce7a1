use Rattle.std.proofs.Common.{refl, ◌≡◌, ◌+◌, length, Some, None, Ok, Err, sym, ap, ◌∙◌}
use Rattle.std.specs.Option.{option_map}
use Rattle.tl_script.specs.Reading.{command_in}
use Rattle.tl_script.specs.Scripts.{commands_of}
use Rattle.tl_script.specs.Text.{IsCommand}
use Rattle.tl_script.proofs.CommandTexts.{reads_are_spelled}
use Rattle.tl_script.proofs.ReadCommands.{none_read}
use Rattle.tl_script.proofs.Visits.{visit_more, visited_all, visited_fault}
use Rattle.tl_script.proofs.visiting.visit_all.Goals as goal

pub loop-read-init : goal.loop-read-init
loop-read-init g c = record { before = _; read = none_read c.args.script.now; seen = c.requires }

pub returns-in-Err-clause-seen : goal.returns-in-Err-clause-seen
returns-in-Err-clause-seen g c =
    let e : command_in c.loop-read.rest.now ≡ Err c.in-Err.fault = sym c.read_command.ensures.exact ∙ c.in-Err.is in
    (visited_fault g.V.Visitor.has_seen _ _ c.args.script.now c.loop-read.rest.now c.loop-read.commands c.loop-read.invariant c.in-Err.fault e).0

pub returns-in-Err-clause-end : goal.returns-in-Err-clause-end
returns-in-Err-clause-end g c =
    let e : command_in c.loop-read.rest.now ≡ Err c.in-Err.fault = sym c.read_command.ensures.exact ∙ c.in-Err.is in
    sym (visited_fault g.V.Visitor.has_seen _ _ c.args.script.now c.loop-read.rest.now c.loop-read.commands c.loop-read.invariant c.in-Err.fault e).1

pub returns-in_default-clause-seen : goal.returns-in_default-clause-seen
returns-in_default-clause-seen g c =
    let e : command_in c.loop-read.rest.now ≡ Ok None = sym c.read_command.ensures.exact ∙ c.in-Ok.is ∙ ap (λ r. Ok r) c.in_default.is in
    (visited_all g.V.Visitor.has_seen _ _ c.args.script.now c.loop-read.rest.now c.loop-read.commands c.loop-read.invariant e).0

pub returns-in_default-clause-end : goal.returns-in_default-clause-end
returns-in_default-clause-end g c =
    let e : command_in c.loop-read.rest.now ≡ Ok None = sym c.read_command.ensures.exact ∙ c.in-Ok.is ∙ ap (λ r. Ok r) c.in_default.is in
    let all = visited_all g.V.Visitor.has_seen _ _ c.args.script.now c.loop-read.rest.now c.loop-read.commands c.loop-read.invariant e in
    sym (ap (option_map (λ found. (length (commands_of c.args.script.now).commands + 1, found))) all.1)

pub visit-requires : goal.visit-requires
visit-requires g c k =
    let e : command_in c.loop-read.rest.now ≡ Ok (Some (c.in-Some.command, c.in-Some.taken)) = sym c.read_command.ensures.exact ∙ c.in-Ok.is ∙ ap (λ r. Ok r) c.in-Some.is in
    ((refl, tt), (reads_are_spelled c.loop-read.rest.now c.in-Some.command c.in-Some.taken e).0)

pub loop-read-preserved : goal.loop-read-preserved
loop-read-preserved g c =
    let e : command_in c.loop-read.rest.now ≡ Ok (Some (c.in-Some.command, c.in-Some.taken)) = sym c.read_command.ensures.exact ∙ c.in-Ok.is ∙ ap (λ r. Ok r) c.in-Some.is in
    rw (c.behind-rest.ensures) (visit_more g.V.Visitor.has_seen _ _ c.args.script.now c.loop-read.rest.now c.loop-read.commands c.loop-read.invariant _ c.in-Some.command c.in-Some.taken e c.in_ok-visit.ensures)
