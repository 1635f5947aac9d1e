-- The start of the sheet, then the two arrays, each over its part of the output.
use Prim.Native.Nat.{◌-◌}
use mathlib.Core.Path.{◌≡◌, ◌∙◌, ap}
use native.Mathlib.Omega.{arith}
use lib.ListN.{length}
use Rattle.field.specs.Write.{bytes_long}
use Rattle.saved.specs.Saved.{saved_of, finite_frames, finite_values, finite_slopes}
use Rattle.saved.proofs.Laws.{copied_sheet, middle, rest, in_three}
use Rattle.saved.proofs.write_sheet.Goals as goal

pub put_floats-requires : goal.put_floats-requires
put_floats-requires c =
    let w = c.args.ready.ready in
    let started = copied_sheet c.args.ready.sheet.checked c.requires c.frames_at-at.ensures c.points_at-points.ensures c.copy.ensures in
    (finite_frames w, middle started ∙ omega (arith, c.frames_at-at.ensures, c.points_at-points.ensures, w))

pub put_points-requires : goal.put_points-requires
put_points-requires c =
    let w = c.args.ready.ready in
    let started = copied_sheet c.args.ready.sheet.checked c.requires c.frames_at-at.ensures c.points_at-points.ensures c.copy.ensures in
    let framed : length c.put_floats.new.out ≡ c.points_at-points.result - c.frames_at-at.result = ap length c.put_floats.ensures ∙ bytes_long c.args.ready.keys.frames.now ∙ omega (arith, c.frames_at-at.ensures, c.points_at-points.ensures, w) in (
      (finite_values w, finite_slopes w),
      (omega (arith, w), rest started c.put_floats.new.out framed ∙ omega (arith, c.points_at-points.ensures, w, c.args.ready.sheet.checked)),
    )

pub returns : goal.returns
unfolding saved_of
returns c =
    let started = copied_sheet c.args.ready.sheet.checked c.requires c.frames_at-at.ensures c.points_at-points.ensures c.copy.ensures in
    let framed : length c.put_floats.new.out ≡ c.points_at-points.result - c.frames_at-at.result = ap length c.put_floats.ensures ∙ bytes_long c.args.ready.keys.frames.now ∙ omega (arith, c.frames_at-at.ensures, c.points_at-points.ensures, c.args.ready.ready) in
    in_three started c.put_floats.new.out framed c.put_points.new.out ∙ rw (c.put_floats.ensures, c.put_points.ensures, c.frames_at-at.ensures)
