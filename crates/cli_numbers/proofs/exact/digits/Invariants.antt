-- `digits` has less left than the scale, so that ten times as much fits.
use Rattle.std.proofs.Common.{◌<◌}
use Rattle.cli_numbers.proofs.exact.digits.Given as goal

abbrev pub invariant-loop-at : goal.invariant-loop-at
invariant-loop-at l = l.left < l.scale
