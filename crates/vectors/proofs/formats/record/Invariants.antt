-- A record's bytes are read on.
use Rattle.std.proofs.Common.{◌<◌, length}
use Rattle.vectors.proofs.formats.record.Given as goal

abbrev pub invariant-loop : goal.invariant-loop
invariant-loop g l = length l.rest.bytes.now < length l.fn.rest.bytes.now
