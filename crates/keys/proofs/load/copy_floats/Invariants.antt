use Rattle.std.proofs.Common.{◌+◌, ◌*◌, length}
use Rattle.laws.specs.Table.{Filled}
use Rattle.field.specs.Read.{float_at}
use Rattle.keys.proofs.load.copy_floats.Given as goal

-- the first i places hold the sheet's floats, and the rest is as it was lent
abbrev pub invariant-loop-i : goal.invariant-loop-i
invariant-loop-i l = Filled (length l.fn.out) (λ i. float_at l.s (l.at + i * l.stride)) l.out l.i
