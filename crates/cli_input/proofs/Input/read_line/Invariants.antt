-- `read_line` ends, since each piece of the line leaves less to come.
use Rattle.std.proofs.Common.{◌≤◌}
use Rattle.cli_input.proofs.Input.read_line.Given as goal

abbrev pub invariant-loop-self : goal.invariant-loop-self
invariant-loop-self g l = l.self.left ≤ l.initial.self.left

abbrev pub decreases-loop-self : goal.decreases-loop-self
decreases-loop-self g l = l.self.left
