-- The captures are judged by computing.
use Rattle.std.proofs.Common.{refl}
use Rattle.tl_tables.specs.Messages.{op_at}
use Rattle.tl_definitions.specs.Rows.{FormatRows, LevelRows, RegionRows, BurstRows, FlowRows, ReplyRows, BoundRows, StrictRows, ConcurrencyRows, ManagerRows}
use Rattle.tl_definitions.specs.WatchedRows.{WatchRows}

pub format_rows : FormatRows
unfolding op_at
format_rows = (refl, refl, refl, refl, refl, refl, refl, refl, refl, refl, refl, refl, refl, refl, refl, refl, refl, refl, refl, refl, refl, refl, refl, refl)

pub level_rows : LevelRows
unfolding op_at
level_rows = (refl, refl, refl, refl, refl)

pub region_rows : RegionRows
unfolding op_at
region_rows = (refl, refl, refl, refl, refl, refl, refl, refl, refl, refl, refl, refl, refl, refl)

pub burst_rows : BurstRows
unfolding op_at
burst_rows = (refl, refl, refl, refl, refl, refl, refl, refl, refl, refl)

pub flow_rows : FlowRows
unfolding op_at
flow_rows = (refl, refl, refl, refl, refl, refl, refl, refl, refl, refl, refl, refl, refl, refl, refl)

pub reply_rows : ReplyRows
unfolding op_at
reply_rows = (refl, refl, refl, refl)

pub bound_rows : BoundRows
unfolding op_at
bound_rows = (refl, refl, refl, refl, refl, refl, refl, refl, refl, refl, refl, refl, refl, refl)

pub strict_rows : StrictRows
unfolding op_at
strict_rows = (refl, refl, refl, refl, refl, refl, refl, refl, refl, refl, refl, refl, refl)

pub concurrency_rows : ConcurrencyRows
unfolding op_at
concurrency_rows = (refl, refl, refl, refl, refl, refl, refl, refl, refl, refl, refl, refl, refl, refl, refl)

pub manager_rows : ManagerRows
unfolding op_at
manager_rows = (refl, refl, refl, refl, refl, refl, refl, refl, refl, refl, refl, refl, refl, refl, refl)

pub watch_rows : WatchRows
watch_rows = (refl, refl, refl, refl, refl, refl, refl, refl, refl, refl, refl, refl, refl, refl, refl)
