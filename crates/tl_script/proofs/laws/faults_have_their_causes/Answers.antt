use Rattle.tl_script.proofs.FaultLaws.{lines_end, bytes_end, bad_lines}
use Rattle.tl_script.proofs.laws.faults_have_their_causes.Goals as goal

pub returns-clause-lines : goal.returns-clause-lines
returns-clause-lines c = lines_end

pub returns-clause-bytes : goal.returns-clause-bytes
returns-clause-bytes c = bytes_end

pub returns-clause-bad : goal.returns-clause-bad
returns-clause-bad c = bad_lines
