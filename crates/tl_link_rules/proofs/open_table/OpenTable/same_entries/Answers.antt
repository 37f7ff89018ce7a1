use Rattle.tl_state.proofs.Tables.{tables_decide}
use Rattle.tl_link_rules.proofs.open_table.OpenTable.same_entries.Goals as goal

pub returns : goal.returns
returns g c = tables_decide g.met.K.Ord.total g.met.K.Ord.matches_eq g.met.K.Exact.exact g.met.V.Exact.exact c.args.self.now.entries c.args.other.now.entries
    c.len-here.ensures.ordered c.len-there.ensures.ordered c.eq.result c.eq.ensures
