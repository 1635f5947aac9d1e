-- A refusal's number is not 0, so a call that gives one declines. Assumes nothing.
use Rattle.std.specs.Prelude.{◌<◌, ◌≡◌}
use Rattle.std.proofs.Common.{arith}
use Rattle.laws.specs.declared.refusal.Refusal.{Refusal}
use Rattle.laws.specs.declared.refusal.Refusal.TheVariants as refusal
use Rattle.laws.specs.Refusal.{number}

above_zero : (e : Refusal) → 0 < number e
above_zero refusal.SheetLayout = omega arith
above_zero refusal.BookLayout = omega arith
above_zero refusal.KeyArrayLength = omega arith
above_zero refusal.KeyRules = omega arith
above_zero refusal.BrokenState = omega arith
above_zero refusal.NoAnimation = omega arith
above_zero refusal.NoSuchRow = omega arith
above_zero refusal.BadArgument = omega arith
above_zero refusal.PastNextKey = omega arith
above_zero refusal.NotHermite = omega arith
above_zero refusal.NothingToTake = omega arith
above_zero refusal.AngleTooLarge = omega arith
above_zero refusal.OutputLength = omega arith
above_zero refusal.SaveLength = omega arith
above_zero refusal.DragState = omega arith

pub refused : (e : Refusal) → number e ≡ 0 → ⊥
refused e z = let l : 0 < number e = above_zero e in omega arith
