use Rattle.std.proofs.Common.{rules}
use Rattle.tl_desk.proofs.desk.Desk.attach.Goals as goal

pub attach_watched-requires : goal.attach_watched-requires
attach_watched-requires g c = search rules
