-- The three floats are read where they are known to be finite.
use native.Mathlib.Omega.{arith}
use Rattle.book.proofs.rows.vector3_at.Goals as goal

pub f32_at-requires : goal.f32_at-requires
f32_at-requires c = (omega arith, c.requires.1.each 0 _ (omega arith) (omega arith))

pub f32_at-requires-2 : goal.f32_at-requires-2
f32_at-requires-2 c = (omega arith, c.requires.1.each 1 _ (omega arith) (omega arith))

pub f32_at-requires-3 : goal.f32_at-requires-3
f32_at-requires-3 c = (omega arith, c.requires.1.each 2 _ (omega arith) (omega arith))
