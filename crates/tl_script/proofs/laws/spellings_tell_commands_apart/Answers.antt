use Rattle.tl_script.proofs.CommandTexts.{spellings_tell_commands_apart}
use Rattle.tl_script.proofs.laws.spellings_tell_commands_apart.Goals as goal

pub returns : goal.returns
returns c = spellings_tell_commands_apart
