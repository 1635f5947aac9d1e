-- Numbers are read on.
use Rattle.std.proofs.Common.{◌≤◌, length}
use Rattle.vectors.proofs.sample.Rest.numbers.Given as goal

abbrev pub invariant-loop-x : goal.invariant-loop-x
invariant-loop-x l = length l.self.bytes.now ≤ length l.fn.self.bytes.now
