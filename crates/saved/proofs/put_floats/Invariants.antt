-- After i turns the first 4 i bytes are those of the first i numbers.
use Prim.Native.Nat.{◌*◌}
use lib.ListN.{length}
use Rattle.laws.specs.Table.{Filled}
use Rattle.field.specs.Write.{float_byte}
use Rattle.saved.proofs.put_floats.Given as goal

abbrev pub invariant-loop-i : goal.invariant-loop-i
invariant-loop-i l = Filled (length l.xs * 4) (float_byte l.xs) l.out (l.i * 4)
