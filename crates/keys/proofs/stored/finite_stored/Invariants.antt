use Rattle.std.proofs.Common.{◌≡◌}
use Rattle.laws.specs.Below.{all_below}
use Rattle.keys.specs.Rules.{finite_key}
use Rattle.keys.specs.Stored.{stored_frames, stored_values, stored_slopes}
use Rattle.keys.proofs.stored.finite_stored.Given as goal

-- the answer is that on the first i keys
abbrev pub invariant-loop-i : goal.invariant-loop-i
invariant-loop-i l = l.ok ≡ all_below l.i (finite_key (stored_frames l.s) (stored_values l.s) (stored_slopes l.s))
