use Rattle.tl_beats.proofs.Fronts.{by_table}
use Rattle.tl_beats.proofs.front_number.hexadecimal_digit.Goals as goal

pub returns : goal.returns
returns c le = by_table c.args.byte c.ranges.byte.fits le
