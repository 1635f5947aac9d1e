-- Its 256 numbers are seen not to be 0.
use Rattle.std.proofs.Common.{refl}
use Rattle.field.specs.Index.{non_zero, blank}
use Rattle.field.proofs.index.blank_index.Goals as goal

pub returns : goal.returns
unfolding non_zero
returns c = blank _ refl refl
