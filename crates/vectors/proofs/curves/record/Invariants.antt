-- A record's bytes are read on.
use Rattle.std.proofs.Common.{◌<◌, length}
use Rattle.vectors.proofs.curves.record.Given as goal

abbrev pub invariant-loop-i : goal.invariant-loop-i
invariant-loop-i l = length l.rest.bytes.now < length l.fn.rest.bytes.now

abbrev pub invariant-loop : goal.invariant-loop
invariant-loop l = length l.rest.bytes.now < length l.fn.rest.bytes.now
