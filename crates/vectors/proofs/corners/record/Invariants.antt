-- A record's bytes are read on.
use Rattle.std.proofs.Common.{◌<◌, length}
use Rattle.vectors.proofs.corners.record.Given as goal

abbrev pub invariant-loop-p : goal.invariant-loop-p
invariant-loop-p l = length l.rest.bytes.now < length l.fn.rest.bytes.now
