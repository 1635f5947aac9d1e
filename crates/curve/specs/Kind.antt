-- A curve's kind, and the number by which a target's row of the sheet names it. Assumes nothing.
use Rattle.std.specs.Prelude.{ℕ, zero, suc, ◌≤◌, ◌≡◌, refl, List, Float}
use Rattle.std.proofs.Common.{arith, ne_eqb}
use Rattle.curve.specs.Curve.{Ordered, eval_curve, kind_constant, kind_step, kind_hermite}
use Rattle.curve.specs.declared.kind.Kind.{Kind}
use Rattle.curve.specs.declared.kind.Kind.TheVariants as kind

abbrev pub number : Kind → ℕ
number kind.Constant = kind_constant
number kind.Step = kind_step
number kind.Hermite = kind_hermite

-- any other number is read as Hermite
abbrev pub kind_of : ℕ → Kind
kind_of zero = kind.Constant
kind_of (suc zero) = kind.Step
kind_of (suc (suc n)) = kind.Hermite

-- and the number of a kind that there is names that kind
pub number_kind : (n : ℕ) → n ≤ kind_hermite → number (kind_of n) ≡ n
number_kind zero l = refl
number_kind (suc zero) l = refl
number_kind (suc (suc n)) l = omega arith

-- so a curve gives the same by its number and by its kind
pub eval_kind : (n : ℕ) (fs vs ss : List Float) (x : Float) → eval_curve (number (kind_of n)) fs vs ss x ≡ eval_curve n fs vs ss x
unfolding eval_curve
eval_kind zero fs vs ss x = refl
eval_kind (suc zero) fs vs ss x = refl
eval_kind (suc (suc n)) fs vs ss x = rw (ne_eqb (suc (suc n)) 0 (λ e. omega arith), ne_eqb (suc (suc n)) 1 (λ e. omega arith))

-- and asks the same of its frames
pub ordered_kind : (n : ℕ) (fs : List Float) → Ordered n fs → Ordered (number (kind_of n)) fs
ordered_kind zero fs h = h
ordered_kind (suc zero) fs h = h
ordered_kind (suc (suc n)) fs h = λ e. h (λ z. omega arith)
