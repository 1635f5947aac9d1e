use Prim.Native.Nat.{◌+◌, ◌*◌}
use mathlib.Core.Path.{◌≡◌, refl, sym}
use native.Mathlib.Omega.{arith}
use lib.ListN.{length}
use Rattle.laws.specs.Table.{filled_none, filled_all}
use Rattle.field.specs.Write.{float_byte, float_bytes}
use Rattle.field.proofs.Writing.{float_more}
use Rattle.saved.specs.Saved.{points_of, points_long, point_value, point_slope}
use Rattle.saved.proofs.put_points.Goals as goal

pub loop-i-init : goal.loop-i-init
loop-i-init c = rw (← c.requires.1.1) (filled_none (float_byte (points_of c.args.values.now c.args.slopes.now)) c.args.out.now)

pub put_f32-requires : goal.put_f32-requires
put_f32-requires c = (omega arith, c.requires.0.0.each c.loop-i.i (omega arith))

pub put_f32-requires-in-loop-i : goal.put_f32-requires-in-loop-i
put_f32-requires-in-loop-i c = (omega arith, c.requires.0.1.each c.loop-i.i (omega arith))

pub loop-i-preserved : goal.loop-i-preserved
loop-i-preserved c = let vs = c.args.values.now in
    let ss = c.args.slopes.now in
    let i = c.loop-i.i in
    let q = c.requires.1.0 in
    let one = float_more (points_of vs ss) (i * 2) (omega arith) refl (omega arith) c.loop-i.invariant (sym (point_value vs ss i q (omega arith))) in
    rw (c.put_f32-in-loop-i.ensures, c.put_f32.ensures) (float_more (points_of vs ss) (i * 2 + 1) (omega arith) (omega arith) (omega arith) one (sym (point_slope vs ss i q (omega arith))))

pub returns : goal.returns
unfolding float_bytes
returns c = let e : length (points_of c.args.values.now c.args.slopes.now) * 4 ≡ length c.args.values.now * 8 = omega (arith, points_long c.args.values.now c.args.slopes.now c.requires.1.0) in rw e (filled_all c.loop-i.invariant (omega arith))
