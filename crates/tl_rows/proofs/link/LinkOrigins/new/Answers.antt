use Rattle.tl_rows.proofs.LinkLaws.{empty_slots}
use Rattle.tl_rows.proofs.link.LinkOrigins.new.Goals as goal

pub returns : goal.returns
returns c exponent links link = record {
  bursts = c.new.ensures (links link) link;
  heads = empty_slots;
  openers = c.new-2.ensures exponent;
}
