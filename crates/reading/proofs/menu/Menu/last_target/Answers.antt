use Rattle.std.proofs.Common.{arith, sym, ◌∙◌}
use Rattle.laws.specs.Last.{behind_none, behind_more, behind_at, behind_all}
use Rattle.reading.specs.Reading.{last_target}
use Rattle.reading.proofs.menu.Menu.last_target.Goals as goal

pub loop-end-init : goal.loop-end-init
loop-end-init c = rw c.target_count-end.ensures (behind_none _ _)

pub returns-then-addresses : goal.returns-then-addresses
unfolding last_target
returns-then-addresses c = behind_at c.loop-end.invariant c.loop-end-test.true (sym c.addresses.ensures ∙ c.if-addresses.true)

pub loop-end-preserved : goal.loop-end-preserved
loop-end-preserved c = behind_more c.loop-end.invariant c.loop-end-test.true (sym c.addresses.ensures ∙ c.if-addresses.false)

pub returns : goal.returns
unfolding last_target
returns c = behind_all c.loop-end.invariant (omega arith)
