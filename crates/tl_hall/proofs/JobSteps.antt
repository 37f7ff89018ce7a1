-- Jobs of both kinds as steps.
use Rattle.std.proofs.Common.{Some, ap}
use Rattle.std.specs.Option.{option_map}
use Rattle.tl_desk.specs.declared.job.Job.{Job}
use Rattle.tl_desk.specs.declared.job.Job.TheVariants as a_job
use Rattle.tl_desk.specs.Core.{Core}
use Rattle.tl_desk.specs.Jobs.{Gives}
use Rattle.tl_desk.specs.Steps.{Step, take_of}
use Rattle.tl_desk.specs.declared.call.Start.TheVariants as start

-- A job that goes out is a step.
pub take_steps : {M : Type 0} (old : Core) (job : Job M) (new : Core) → Gives old (Some job) new → Step old (take_of job) new
take_steps old (a_job.Manager job) new gives = (gives.0, ap (option_map start.Manager) gives.1.entry)
take_steps old (a_job.Monitor job) new gives = (gives.0, ap (option_map start.Monitor) gives.1.entry)
