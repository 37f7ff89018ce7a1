use Rattle.tl_show.proofs.Noted.{line_unbroken, whole_unbroken}
use Rattle.tl_show.proofs.quote.first_line.Goals as goal

pub returns-in-Some : goal.returns-in-Some
returns-in-Some c = line_unbroken c.args.text.now (c.in-Some.found.now, c.in-Some.field-0-1.now) c.in-Some.ensures.exact

pub returns-in-None : goal.returns-in-None
returns-in-None c = whole_unbroken c.args.text.now c.in-None.ensures.exact
