-- The law of a loop that looks at rows in order and stops at the first whose tests tell a fault. Assumes nothing.
use Rattle.std.specs.Prelude.{ℕ, zero, suc, ◌+◌, ◌≤◌, ◌<◌, true, false, ◌≡◌, refl, List, ◌++◌, Ok}
use Rattle.std.proofs.Common.{sym, ◌∙◌, ⊎_elim, add-one, eq-or-lt_of_le, le_of_suc-le-suc, not-suc-le-zero, arith}
use Rattle.laws.specs.Below.{all_fails}
use Rattle.faults.specs.Tests.{Told, Test, verdict, all_hold, each_below, held_none, hold_join, hold_each, held_join, failed_join, accepts, other_failed}

-- the tests of the rows before i hold
pub record Clear (n : ℕ) (g : ℕ → List Test) (i : ℕ) : Type 0 where
  pub within : i ≤ n
  pub all : all_hold (each_below i g) ≡ true

pub clear_none : (n : ℕ) (g : ℕ → List Test) → Clear n g 0
unfolding each_below all_hold
clear_none n g = record { within = omega arith; all = refl }

-- a row that fails is told, if the rows before it hold
failing : (n : ℕ) (g : ℕ → List Test) (i : ℕ) → all_hold (each_below i g) ≡ true → all_hold (g i) ≡ false → i < n → verdict (each_below n g) ≡ verdict (g i)
unfolding each_below
failing zero g i h e l = absurd (not-suc-le-zero l)
failing (suc n) g i h e l =
    ⊎_elim
    (λ (q : i ≡ n). rw (← q) (held_join (each_below i g) (g i) h))
    (λ (k : i < n). failed_join (each_below n g) (g n) (hold_each n g ∙ all_fails i n _ k e) ∙ failing n g i h e k)
    (eq-or-lt_of_le (le_of_suc-le-suc l))

module _ {n : ℕ} {g : ℕ → List Test} {i : ℕ} where
  -- row i tells nothing
  pub clear_more : {f : Told} → Clear n g i → i < n → f ≡ verdict (g i) → f ≡ Ok tt → Clear n g (i + 1)
  unfolding each_below
  clear_more h l e z = record { within = omega arith; all = rw (add-one, hold_join, h.all) (accepts (g i) (sym e ∙ z)) }

  -- row i tells a fault, and so do all rows, whatever follows them
  pub clear_not : {f : Told} → Clear n g i → i < n → f ≡ verdict (g i) → (f ≡ Ok tt → ⊥) → f ≡ verdict (each_below n g)
  clear_not h l e z = e ∙ sym (failing n g i h.all (other_failed (g i) (λ q. z (e ∙ q))) l)

  pub clear_not_join : {f : Told} (ys : List Test) → Clear n g i → i < n → f ≡ verdict (g i) → (f ≡ Ok tt → ⊥) → f ≡ verdict (each_below n g ++ ys)
  clear_not_join ys h l e z = let t = clear_not h l e z in t ∙ sym (failed_join (each_below n g) ys (other_failed (each_below n g) (λ q. z (t ∙ q))))

  -- no row tells one, and what follows decides
  pub clear_all : Clear n g i → n ≤ i → Ok tt ≡ verdict (each_below n g)
  clear_all h l = let e : i ≡ n = omega arith in rw e at (sym (held_none (each_below i g) h.all))

  pub clear_all_join : {f : Told} (ys : List Test) → Clear n g i → n ≤ i → f ≡ verdict ys → f ≡ verdict (each_below n g ++ ys)
  clear_all_join {f} ys h l q = let e : i ≡ n = omega arith in q ∙ sym (held_join (each_below n g) ys (rw e at h.all))
