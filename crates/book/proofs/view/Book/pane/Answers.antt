-- The fields are the bytes of the pane's row, and its floats are the ten that were found finite.
use native.Mathlib.Omega.{arith}
use Prim.Native.Nat.{◌+◌, ◌*◌}
use Rattle.field.specs.Read.{FiniteFrom, finite_part}
use Rattle.book.specs.Sizes.{pane_bytes, panes_at}
use Rattle.book.specs.Checked.{pane_finite_lem}
use Rattle.book.proofs.view.Book.pane.Goals as goal

pub vector3_at-requires : goal.vector3_at-requires
vector3_at-requires c = let floats : FiniteFrom c.args.self.now.bytes.now (panes_at + c.args.i * pane_bytes + 32) 10 = pane_finite_lem c.args.self.now.checked c.args.i c.requires in (omega arith, finite_part (floats) 0 3 _ (omega arith) (omega arith))

pub vector3_at-requires-2 : goal.vector3_at-requires-2
vector3_at-requires-2 c = let floats : FiniteFrom c.args.self.now.bytes.now (panes_at + c.args.i * pane_bytes + 32) 10 = pane_finite_lem c.args.self.now.checked c.args.i c.requires in (omega arith, finite_part (floats) 3 3 _ (omega arith) (omega arith))

pub vector2_at-requires : goal.vector2_at-requires
vector2_at-requires c = let floats : FiniteFrom c.args.self.now.bytes.now (panes_at + c.args.i * pane_bytes + 32) 10 = pane_finite_lem c.args.self.now.checked c.args.i c.requires in (omega arith, finite_part (floats) 6 2 _ (omega arith) (omega arith))

pub vector2_at-requires-2 : goal.vector2_at-requires-2
vector2_at-requires-2 c = let floats : FiniteFrom c.args.self.now.bytes.now (panes_at + c.args.i * pane_bytes + 32) 10 = pane_finite_lem c.args.self.now.checked c.args.i c.requires in (omega arith, finite_part (floats) 8 2 _ (omega arith) (omega arith))
