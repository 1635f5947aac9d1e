-- Targets before lo belong to animations below a, those from hi on don't, by the target at the middle.
use Prim.Native.Nat.{◌-◌}
use Rattle.sheet.specs.Sizes.{target_count}
use Rattle.channel.specs.Animation.{target_animation}
use Rattle.laws.specs.Parted.{Parted}
use Rattle.reading.proofs.plan.targets_below.Given as goal

abbrev pub invariant-loop-lo : goal.invariant-loop-lo
invariant-loop-lo l = Parted (target_animation l.sheet.bytes.now) (target_count l.sheet.bytes.now) l.a l.lo l.hi

abbrev pub decreases-loop-lo : goal.decreases-loop-lo
decreases-loop-lo l = l.hi - l.lo
