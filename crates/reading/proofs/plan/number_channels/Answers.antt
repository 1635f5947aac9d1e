use Rattle.std.proofs.Common.{arith}
use Rattle.reading.proofs.Planning.{row_is, row_content, held_in, number_is, numbered_more}
use Rattle.channel.specs.Held.{holds_for}
use Rattle.reading.proofs.plan.number_channels.Goals as goal

pub held_for-now-requires-clause-content : goal.held_for-now-requires-clause-content
held_for-now-requires-clause-content c = row_content _ _ c.args.sheet.now.checked (omega arith) (row_is _ _ c.targets_at-base.ensures c.target_at-row.ensures)

pub row_channel-requires : goal.row_channel-requires
row_channel-requires c = held_in _ _ _ _ c.held_for-now.ensures

pub channel_number-requires : goal.channel_number-requires
channel_number-requires c = number_is _ _ _ _ (row_is _ _ c.targets_at-base.ensures c.target_at-row.ensures) c.held_for-now.ensures c.row_channel.ensures c.args.names.now.book.checked

pub loop-t-preserved : goal.loop-t-preserved
loop-t-preserved c = (
  numbered_more c.loop-t.invariant.0 (omega arith) (row_is _ _ c.targets_at-base.ensures c.target_at-row.ensures) c.held_for-now.ensures c.row_channel.ensures c.channel_number.ensures,
  rw c.held_for-now.ensures (holds_for _ _ _ _),
)
