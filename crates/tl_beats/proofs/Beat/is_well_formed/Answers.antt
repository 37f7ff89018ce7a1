use Rattle.std.proofs.Common.{◌≤◌, rules}
use Rattle.tl_beats.proofs.Beat.is_well_formed.Goals as goal

pub returns-then-are_in_range : goal.returns-then-are_in_range
returns-then-are_in_range c =
    let r : (c.args.self.opcode ≤ 7) × (c.args.self.param ≤ 7) × (c.args.self.size ≤ 15) = c.are_in_range.ensures.0 (search rules) in (
      λ h. record {
        cycle = search rules;
        opcode = r.0;
        param = r.1;
        size = r.2;
        source = search rules;
        sink = search rules;
        address = search rules;
        mask = search rules;
        lacks = c.lacks_other.ensures.0 h;
      },
      λ h. c.lacks_other.ensures.1 h.lacks,
    )
