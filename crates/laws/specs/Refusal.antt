-- The numbers of the table of refusals, and what a result is by its number.
use Rattle.std.specs.Prelude.{ℕ, Bool, if◌then◌else◌, Result, Ok, Err}
use Rattle.laws.specs.declared.refusal.Refusal.{Refusal}
use Rattle.laws.specs.declared.refusal.Refusal.TheVariants as refusal

-- each refusal is a row of the table
abbrev pub number : Refusal → ℕ
number refusal.SheetLayout = 1
number refusal.BookLayout = 2
number refusal.KeyArrayLength = 3
number refusal.KeyRules = 4
number refusal.BrokenState = 5
number refusal.NoAnimation = 6
number refusal.NoSuchRow = 7
number refusal.BadArgument = 8
number refusal.PastNextKey = 9
number refusal.NotHermite = 10
number refusal.NothingToTake = 11
number refusal.AngleTooLarge = 12
number refusal.OutputLength = 13
number refusal.SaveLength = 14
number refusal.DragState = 15

-- what a call declines with, 0 where it doesn't
abbrev pub declined : {T : Type 0} → Result T Refusal → ℕ
declined (Ok x) = 0
declined (Err e) = number e

-- one row: it declines where its test fails
abbrev pub asked : Refusal → Bool → Result (Unit {0}) Refusal
asked r b = if b then Ok tt else Err r
