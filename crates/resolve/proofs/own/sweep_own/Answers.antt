use Rattle.std.proofs.Common.{arith, ap}
use Rattle.channel.specs.Held.{holds_for}
use Rattle.reading.proofs.Planning.{row_is, row_content}
use Rattle.reading.proofs.Pass.{row_ready}
use Rattle.resolve.proofs.Pass.{pane_within, pass_none, pass_other, pass_beside, pass_at, pass_all}
use Rattle.resolve.specs.Own.{own_numbers}
use Rattle.resolve.proofs.own.sweep_own.Goals as goal

pub loop-t-init : goal.loop-t-init
loop-t-init c = (pass_none c.requires.visible_value c.requires.alpha_value, tt)

pub loop-t-preserved-in_default : goal.loop-t-preserved-in_default
loop-t-preserved-in_default c = (pass_other c.loop-t.invariant.0 (omega arith) (row_is _ _ c.targets_at-base.ensures c.target_at-row.ensures) c.own_channel.ensures (ap own_numbers c.in_default.is), c.loop-t.invariant.1)

pub held_for-now-requires-clause-content : goal.held_for-now-requires-clause-content
held_for-now-requires-clause-content c = row_content _ _ c.args.menu.now.ready.sheet.checked (omega arith) (row_is _ _ c.targets_at-base.ensures c.target_at-row.ensures)

pub loop-t-preserved-in_default-pane_in : goal.loop-t-preserved-in_default-pane_in
loop-t-preserved-in_default-pane_in c =
    let now = rw c.requires.names at c.held_for-now.ensures in
    (pass_beside c.loop-t.invariant.0 (omega arith) (row_is _ _ c.targets_at-base.ensures c.target_at-row.ensures) now c.pane_in.ensures c.in_default-pane_in.is, rw now (holds_for _ _ _ _))

pub row_reading-r-requires : goal.row_reading-r-requires
row_reading-r-requires c = let r = c.args.menu.now.ready in row_ready _ _ r.sheet.checked r.ready (omega arith) (row_is _ _ c.targets_at-base.ensures c.target_at-row.ensures)

pub put_own-requires-clause-pane : goal.put_own-requires-clause-pane
put_own-requires-clause-pane c = pane_within _ _ _ _ _ (rw c.requires.names at c.held_for-now.ensures) c.pane_in.ensures c.in-Some-pane_in.is

pub loop-t-preserved : goal.loop-t-preserved
loop-t-preserved c =
    let now = rw c.requires.names at c.held_for-now.ensures in (
      pass_at c.loop-t.invariant.0 (omega arith) (row_is _ _ c.targets_at-base.ensures c.target_at-row.ensures) c.own_channel.ensures (ap own_numbers c.in-Some.is) now c.pane_in.ensures c.in-Some-pane_in.is
          c.texture_count-textures.ensures c.row_reading-r.ensures (c.put_own.ensures.visible_after, c.put_own.ensures.alpha_after),
      rw now (holds_for _ _ _ _),
    )

pub returns-clause-visible_after : goal.returns-clause-visible_after
returns-clause-visible_after c = (pass_all c.loop-t.invariant.0 (omega arith)).0

pub returns-clause-alpha_after : goal.returns-clause-alpha_after
returns-clause-alpha_after c = (pass_all c.loop-t.invariant.0 (omega arith)).1
