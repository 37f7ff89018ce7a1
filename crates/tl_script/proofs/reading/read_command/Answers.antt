use Rattle.tl_script.proofs.CommandTexts.{taken_is, found_is, read_some}
use Rattle.tl_script.proofs.reading.read_command.Goals as goal

pub returns-clause-taken : goal.returns-clause-taken
returns-clause-taken c = taken_is c.args.script.now c.front_of.result c.front_of.ensures

pub returns-clause-found : goal.returns-clause-found
returns-clause-found c = found_is c.args.script.now c.front_of.result c.front_of.ensures

pub returns-clause-only : goal.returns-clause-only
returns-clause-only c command rest is joins = read_some c.args.script.now c.front_of.result command rest c.front_of.ensures is joins
