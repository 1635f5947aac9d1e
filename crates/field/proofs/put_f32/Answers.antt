-- Four stores one after the other, the lowest byte first.
use Rattle.std.proofs.Common.{refl, arith, length-set}
use Rattle.float.specs.Bits.{finite_number}
use Rattle.field.specs.Write.{byte_of, put_float}
use Rattle.field.proofs.put_f32.Goals as goal

pub float_to_bits-n : goal.float_to_bits-n
float_to_bits-n c = finite_number _ c.requires.1

pub bounds-out-at-2 : goal.bounds-out-at-2
bounds-out-at-2 c = simp length-set (omega arith)

pub bounds-out-at-3 : goal.bounds-out-at-3
bounds-out-at-3 c = simp length-set (omega arith)

pub returns : goal.returns
unfolding put_float byte_of
returns c = refl
