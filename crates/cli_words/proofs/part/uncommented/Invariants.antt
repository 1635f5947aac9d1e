-- `uncommented` stays inside the line and ends.
use Rattle.std.proofs.Common.{◌≤◌, ◌-◌, length}
use Rattle.cli_words.proofs.part.uncommented.Given as goal

abbrev pub invariant-loop-gap : goal.invariant-loop-gap
invariant-loop-gap l = l.at ≤ length l.line

abbrev pub decreases-loop-gap : goal.decreases-loop-gap
decreases-loop-gap l = length l.line - l.at
