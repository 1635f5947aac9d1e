-- The verdict of two lists, and of the rows of a table one after the other, step by step as code finds it. Assumes nothing.
use Rattle.std.specs.Prelude.{ℕ, zero, suc, ◌+◌, ◌<◌, Bool, true, false, ◌≡◌, refl, List, [], ◌∷◌, ◌++◌, if◌then◌else◌, Ok, Err}
use Rattle.std.proofs.Common.{sym, ap, ◌∙◌, ⊎_elim, add-one, eq-or-lt_of_le, le_of_suc-le-suc, not-suc-le-zero}
use Rattle.faults.specs.declared.fault.Fault.{Fault}
use Rattle.faults.specs.Tests.{Told, Test, verdict, each_below}

-- a row below n is answered with the verdict on its tests g
abbrev pub Answers : ℕ → (ℕ → Told → Type 0) → (ℕ → List Test) → Type 0
Answers n post g = (i : ℕ) (r : Told) → i < n → post i r → r ≡ verdict (g i)

-- ---- two lists

pub first_accepts : (xs ys : List Test) → verdict xs ≡ Ok tt → verdict (xs ++ ys) ≡ verdict ys
unfolding verdict
first_accepts [] ys e = refl
first_accepts (t ∷ xs) ys e = go t.holds (first_accepts xs ys) e
  where
    go : (b : Bool) → (verdict xs ≡ Ok tt → verdict (xs ++ ys) ≡ verdict ys) → (if b then verdict xs else Err t.fault) ≡ Ok tt
        → (if b then verdict (xs ++ ys) else Err t.fault) ≡ verdict ys
    go true h q = h q
    go false h q = cc

pub first_tells : (xs ys : List Test) (f : Fault) → verdict xs ≡ Err f → verdict (xs ++ ys) ≡ Err f
unfolding verdict
first_tells [] ys f e = cc
first_tells (t ∷ xs) ys f e = go t.holds (first_tells xs ys f) e
  where
    go : (b : Bool) → (verdict xs ≡ Err f → verdict (xs ++ ys) ≡ Err f) → (if b then verdict xs else Err t.fault) ≡ Err f
        → (if b then verdict (xs ++ ys) else Err t.fault) ≡ Err f
    go true h q = h q
    go false h q = q

-- ---- the rows of a table, one after the other

pub each_none : (g : ℕ → List Test) → verdict (each_below 0 g) ≡ Ok tt
unfolding verdict each_below
each_none g = refl

each_suc : (n : ℕ) (g : ℕ → List Test) → each_below (n + 1) g ≡ each_below n g ++ g n
unfolding each_below
each_suc n g = rw add-one

pub each_more : (n : ℕ) (g : ℕ → List Test) → verdict (each_below n g) ≡ Ok tt → verdict (g n) ≡ Ok tt → verdict (each_below (n + 1) g) ≡ Ok tt
each_more n g h e = rw each_suc (first_accepts (each_below n g) (g n) h ∙ e)

pub each_tells : (m n : ℕ) (g : ℕ → List Test) (f : Fault) → m < n → verdict (each_below m g) ≡ Ok tt → verdict (g m) ≡ Err f → verdict (each_below n g) ≡ Err f
unfolding each_below
each_tells m zero g f l h e = absurd (not-suc-le-zero l)
each_tells m (suc n) g f l h e =
    ⊎_elim
    (λ (q : m ≡ n). first_accepts (each_below n g) (g n) (ap (λ k. verdict (each_below k g)) (sym q) ∙ h) ∙ ap (λ k. verdict (g k)) (sym q) ∙ e)
    (λ (k : m < n). first_tells (each_below n g) (g n) f (each_tells m n g f k h e))
    (eq-or-lt_of_le (le_of_suc-le-suc l))
