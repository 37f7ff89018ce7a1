use Rattle.std.proofs.Common.{◌≡◌, ◌*◌, ◌%◌, ◌^◌, ◌<◌, arith}
use Rattle.tl_link_rules.proofs.Lanes.{lanes_coded, one_shifted}
use Rattle.tl_link_rules.proofs.fields.active_lanes.Goals as goal

pub returns-else-bytes-from : goal.returns-else-bytes-from
returns-else-bytes-from c =
    let one : 1 * 2 ^ c.args.size % 18446744073709551616 ≡ 2 ^ c.args.size = one_shifted c.args.size (omega arith) in
    let lt : 2 ^ c.args.size < c.args.width = omega (arith, one, c.if-bytes-from.false, c.from.ensures) in
    rw c.from-else-bytes-from.ensures (lanes_coded c.args.width c.args.size c.args.address c.requires.some_lane c.requires.lanes c.requires.size lt)
