-- How many places of two lists hold different numbers: what `save` tells of the saved sheet against the loaded one. Assumes nothing.
use Rattle.std.specs.Prelude.{ℕ, zero, suc, ◌+◌, ◌<◌, ◌≤◌, ◌≡◌, Bool, cond, not, List, [], ◌∷◌}
use Rattle.std.specs.List.{count_by, zip}
use Rattle.std.proofs.Math.Path.{refl}
use Rattle.std.proofs.Common.{sym, ◌∙◌, ext_get_or}
use Rattle.std.proofs.lemmas.List.Sums.{sum_by-cons}
use Rattle.std.proofs.Math.Bool.{true, false}
use native.Mathlib.Omega.{arith}
use borrow.Author.Tests.{eq-eqb, ne_eqb, eqb-true}
use Rattle.std.proofs.Math.Dec.{eqb}
use Rattle.std.proofs.Math.ListN.{length, get_or}
use Rattle.laws.specs.Sum.{sum_below, sum_none, sum_more, sum_within, sum_same}

-- 1 where a and b hold different numbers at i, else 0
unfoldable pub unlike : List ℕ → List ℕ → ℕ → ℕ
unlike a b i = cond (eqb (get_or a i 0) (get_or b i 0)) 0 1

-- over all places of a
unfoldable pub differing : List ℕ → List ℕ → ℕ
differing a b = sum_below (length a) (unlike a b)

module _ (a b : List ℕ) (i : ℕ) where
  unlike_same : get_or a i 0 ≡ get_or b i 0 → unlike a b i ≡ 0
  unfolding unlike
  unlike_same e = rw (eq-eqb _ _ e)

  unlike_other : (get_or a i 0 ≡ get_or b i 0 → ⊥) → unlike a b i ≡ 1
  unfolding unlike
  unlike_other e = rw (ne_eqb _ _ e)

  same_at_lem : unlike a b i ≡ 0 → get_or a i 0 ≡ get_or b i 0
  unfolding unlike
  same_at_lem e = decide (eqb (get_or a i 0) (get_or b i 0)) refl
    where
      decide : (t : Bool) → eqb (get_or a i 0) (get_or b i 0) ≡ t → get_or a i 0 ≡ get_or b i 0
      decide true q = eqb-true _ _ q
      decide false q = let z : unlike a b i ≡ 1 = rw q in absurd (omega arith)

-- What a reader expects: nothing differs exactly where two lists of one length are the same.
pub differing_none : (a : List ℕ) → differing a a ≡ 0
unfolding differing sum_below
differing_none a = none (length a)
  where
    none : (n : ℕ) → sum_below n (unlike a a) ≡ 0
    none zero = refl
    none (suc n) = omega (arith, none n, unlike_same a a n refl)

pub none_differing : (a b : List ℕ) → length a ≡ length b → differing a b ≡ 0 → a ≡ b
unfolding differing
none_differing a b l e =
    ext_get_or 0 a b l (λ i k. same_at_lem a b i (omega (arith, e, sum_within (length a) i (unlike a b) k)))

-- n of the first i places of a differ: what each step of a count place by place keeps, and at the end `differing`.
pub record Counted (a b : List ℕ) (i n : ℕ) : Type 0 where
  pub within : i ≤ length a
  pub few : n ≤ i
  pub sum : n ≡ sum_below i (unlike a b)

module _ (a b : List ℕ) where
  pub counted_none : Counted a b 0 0
  counted_none = record { within = omega arith; few = omega arith; sum = sym (sum_none (unlike a b)) }

  pub counted_same : {i n : ℕ} → Counted a b i n → i < length a → get_or a i 0 ≡ get_or b i 0 → Counted a b (i + 1) n
  counted_same {i} h l e =
      record { within = omega arith; few = omega arith; sum = omega (arith, sum_more i (unlike a b), unlike_same a b i e) }

  pub counted_other : {i n : ℕ} → Counted a b i n → i < length a → (get_or a i 0 ≡ get_or b i 0 → ⊥) → Counted a b (i + 1) (n + 1)
  counted_other {i} h l e =
      record { within = omega arith; few = omega arith; sum = omega (arith, sum_more i (unlike a b), unlike_other a b i e) }

  pub counted_all : {i n : ℕ} → Counted a b i n → length a ≤ i → n ≡ differing a b
  unfolding differing
  counted_all {i} h l = let e : i ≡ length a = omega arith in rw e at h.sum

-- the first place, and those behind it
sum_first : (n : ℕ) (f : ℕ → ℕ) → sum_below (suc n) f ≡ f 0 + sum_below n (λ i. f (suc i))
unfolding sum_below
sum_first zero f = omega arith
sum_first (suc n) f = omega (arith, sum_first n f)

module _ (x y : ℕ) (xs ys : List ℕ) where
  unlike_first : unlike (x ∷ xs) (y ∷ ys) 0 ≡ cond (not (eqb x y)) 1 0
  unfolding unlike
  unlike_first = decide (eqb x y)
    where
      decide : (b : Bool) → ◌≡◌ {A = ℕ} (cond b 0 1) (cond (not b) 1 0)
      decide true = refl
      decide false = refl

  unlike_next : (i : ℕ) → unlike (x ∷ xs) (y ∷ ys) (suc i) ≡ unlike xs ys i
  unfolding unlike
  unlike_next i = refl

-- the pairs of two lists that differ are counted place by place
pub counted_pairs : (a b : List ℕ) → length b ≡ length a → count_by (λ p. not (eqb p.0 p.1)) (zip a b) ≡ sum_below (length a) (unlike a b)
counted_pairs [] [] e = sym (sum_none (unlike [] []))
counted_pairs [] (y ∷ ys) e = absurd (omega (arith, e))
counted_pairs (x ∷ xs) [] e = absurd (omega (arith, e))
counted_pairs (x ∷ xs) (y ∷ ys) e =
    let rest : count_by (λ p. not (eqb p.0 p.1)) (zip xs ys) ≡ sum_below (length xs) (unlike xs ys) = counted_pairs xs ys (omega (arith, e)) in
    let same : sum_below (length xs) (λ i. unlike (x ∷ xs) (y ∷ ys) (suc i)) ≡ sum_below (length xs) (unlike xs ys) = sum_same (length xs) _ _ (λ i l. unlike_next x y xs ys i) in
    sum_by-cons (λ p. cond (not (eqb p.0 p.1)) 1 0) (x, y) (zip xs ys)
    ∙ omega (arith, rest, same, unlike_first x y xs ys, sum_first (length xs) (unlike (x ∷ xs) (y ∷ ys)))
