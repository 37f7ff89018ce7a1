use Rattle.tl_midway.proofs.NamedLaws.{first_stands}
use Rattle.tl_midway.proofs.named.NamedLink.new.Goals as goal

pub returns-clause-stands : goal.returns-clause-stands
returns-clause-stands c m start number heads =
    first_stands m start number (record { state = c.new.result; named = c.new-2.result }) heads (c.new.ensures.shows m.exponent) c.new-2.ensures
