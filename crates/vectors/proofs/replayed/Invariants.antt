-- The bytes left are fewer with each record.
use Rattle.std.proofs.Common.{length}
use Rattle.vectors.proofs.replayed.Given as goal

abbrev pub decreases-loop-rest : goal.decreases-loop-rest
decreases-loop-rest l = length l.rest.bytes.now
