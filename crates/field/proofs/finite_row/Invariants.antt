use Rattle.std.proofs.Common.{◌≡◌}
use Rattle.laws.specs.Below.{all_below}
use Rattle.field.specs.Read.{finite_in}
use Rattle.field.proofs.finite_row.Given as goal

-- the answer is that on the first k floats
abbrev pub invariant-loop-k : goal.invariant-loop-k
invariant-loop-k l = l.ok ≡ all_below l.k (finite_in l.s l.at)
