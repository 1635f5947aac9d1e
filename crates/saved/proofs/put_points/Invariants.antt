-- After i turns the first 8 i bytes are those of the first i points.
use Prim.Native.Nat.{◌*◌}
use lib.ListN.{length}
use Rattle.laws.specs.Table.{Filled}
use Rattle.field.specs.Write.{float_byte}
use Rattle.saved.specs.Saved.{points_of}
use Rattle.saved.proofs.put_points.Given as goal

abbrev pub invariant-loop-i : goal.invariant-loop-i
invariant-loop-i l = Filled (length l.values * 8) (float_byte (points_of l.values l.slopes)) l.out (l.i * 8)
