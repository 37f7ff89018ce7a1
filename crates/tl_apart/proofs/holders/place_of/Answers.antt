use Rattle.std.proofs.Common.{subst, sym}
use Rattle.tl_apart.specs.Holders.{IsPlace}
use Rattle.tl_apart.proofs.HolderLaws.{place_law}
use Rattle.tl_apart.proofs.holders.place_of.Goals as goal

pub returns : goal.returns
returns c = subst (IsPlace c.args.link c.args.holders.now) (sym c.place_in.ensures) (place_law c.args.link c.args.holders.now)
