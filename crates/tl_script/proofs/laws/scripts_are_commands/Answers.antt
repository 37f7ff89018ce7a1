use Rattle.tl_script.proofs.ScriptLaws.{scripts_are_commands}
use Rattle.tl_script.proofs.laws.scripts_are_commands.Goals as goal

pub returns : goal.returns
returns c = scripts_are_commands
