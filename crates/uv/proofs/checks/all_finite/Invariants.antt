-- What has been seen so far is finite.
use Rattle.std.proofs.Common.{◌≡◌}
use Rattle.laws.specs.Below.{all_below}
use Rattle.uv.specs.Declined.{finite_at}
use Rattle.uv.proofs.checks.all_finite.Given as goal

abbrev pub invariant-loop-x : goal.invariant-loop-x
invariant-loop-x l = l.ok ≡ all_below l.x-index (finite_at l.s)
