-- No animation of that number, so no target is its; else the run ends where the next animation's begins.
use Rattle.std.proofs.Common.{arith}
use Rattle.reading.proofs.Planning.{run_none}
use Rattle.reading.proofs.plan.run_of.Goals as goal

pub returns-then-a-animation_count-clause-run : goal.returns-then-a-animation_count-clause-run
returns-then-a-animation_count-clause-run c = run_none _ _ c.args.sheet.now.checked (omega (arith, c.animation_count.ensures))
