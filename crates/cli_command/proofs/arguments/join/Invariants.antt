-- `join` stays inside the room.
use Rattle.std.proofs.Common.{◌≤◌, length}
use Rattle.cli_command.proofs.arguments.join.Given as goal

abbrev pub invariant-loop-i : goal.invariant-loop-i
invariant-loop-i l = l.at ≤ length l.room
