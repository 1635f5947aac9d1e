use Rattle.std.proofs.Common.{◌≡◌, ◌+◌}
use Rattle.laws.specs.Below.{all_below}
use Rattle.keys.proofs.blocks.few_pass.Given as goal

-- the answer is that on the first i keys
abbrev pub invariant-loop-i : goal.invariant-loop-i
invariant-loop-i g l = l.ok ≡ all_below l.i (λ j. g.R.Rule.holds l.rule (l.first + j))
