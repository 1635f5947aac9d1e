-- The five floats lie within a checked book, and are among the fifteen that were found finite.
use native.Mathlib.Omega.{arith}
use Prim.Native.Nat.{◌+◌, ◌*◌}
use Rattle.field.specs.Read.{FiniteFrom, finite_part}
use Rattle.book.specs.Sizes.{material_bytes, materials_at}
use Rattle.book.specs.Checked.{material_finite_lem}
use Rattle.book.proofs.view.Book.material_srt.Goals as goal

pub vector2_at-requires : goal.vector2_at-requires
vector2_at-requires c = let floats : let a = c.args in FiniteFrom a.self.now.bytes.now (materials_at a.self.now.bytes.now + a.i * material_bytes + 96) 15 = material_finite_lem c.args.self.now.checked c.args.i c.requires.material in (omega arith, finite_part (floats) (c.args.j * 5) 2 _ (omega arith) (omega arith))

pub f32_at-requires : goal.f32_at-requires
f32_at-requires c = let floats : let a = c.args in FiniteFrom a.self.now.bytes.now (materials_at a.self.now.bytes.now + a.i * material_bytes + 96) 15 = material_finite_lem c.args.self.now.checked c.args.i c.requires.material in (omega arith, (floats).each (c.args.j * 5 + 2) _ (omega arith) (omega arith))

pub vector2_at-requires-2 : goal.vector2_at-requires-2
vector2_at-requires-2 c = let floats : let a = c.args in FiniteFrom a.self.now.bytes.now (materials_at a.self.now.bytes.now + a.i * material_bytes + 96) 15 = material_finite_lem c.args.self.now.checked c.args.i c.requires.material in (omega arith, finite_part (floats) (c.args.j * 5 + 3) 2 _ (omega arith) (omega arith))
