use Rattle.std.proofs.Common.{arith}
use Rattle.laws.specs.Parted.{parted_low, parted_high}
use Rattle.reading.proofs.Planning.{animations_climb}
use Rattle.reading.proofs.plan.targets_below.Goals as goal

pub loop-lo-preserved-then-target_animation-a : goal.loop-lo-preserved-then-target_animation-a
loop-lo-preserved-then-target_animation-a c = parted_low c.loop-lo.invariant (animations_climb c.args.sheet.now.checked) (omega arith) (omega arith) (omega (arith, c.target_animation.ensures))

pub loop-lo-preserved : goal.loop-lo-preserved
loop-lo-preserved c = parted_high c.loop-lo.invariant (animations_climb c.args.sheet.now.checked) (omega arith) (omega arith) (omega (arith, c.target_animation.ensures))
