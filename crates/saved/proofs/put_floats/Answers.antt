use mathlib.Core.Path.{refl}
use native.Mathlib.Omega.{arith}
use Rattle.laws.specs.Table.{filled_none, filled_all}
use Rattle.field.specs.Write.{float_byte, float_bytes}
use Rattle.field.proofs.Writing.{float_more}
use Rattle.saved.proofs.put_floats.Goals as goal

pub loop-i-init : goal.loop-i-init
loop-i-init c = rw (← c.requires.1) (filled_none (float_byte c.args.xs.now) c.args.out.now)

pub put_f32-requires : goal.put_f32-requires
put_f32-requires c = (omega arith, c.requires.0.each c.loop-i.i (omega arith))

pub loop-i-preserved : goal.loop-i-preserved
loop-i-preserved c = rw c.put_f32.ensures (float_more c.args.xs.now c.loop-i.i refl (omega arith) (omega arith) c.loop-i.invariant refl)

pub returns : goal.returns
unfolding float_bytes
returns c = filled_all c.loop-i.invariant (omega arith)
