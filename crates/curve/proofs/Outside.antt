-- What a curve gives strictly outside the span from the previous key's frame to the next key's doesn't depend on the keys between (document 01,
-- "Curves"). A Constant curve is in specs/Outside. Assumes nothing.
use Rattle.std.specs.Prelude.{ℕ, zero, suc, ◌+◌, ◌-◌, ◌≤◌, ◌<◌, ◌≡◌, Bool, true, false, not, ◌||◌, List, [], ◌∷◌, T, eqb, ltb, length, get_or, Float}
use Rattle.std.proofs.Math.Path.{refl}
use Rattle.std.proofs.Common.{sym, ap, ◌∙◌, le_of_suc-le-suc, not-suc-le-zero, arith}
use Rattle.std.proofs.Math.Bool.{cond}
use Rattle.std.proofs.lemmas.Bool.{false≢true}
use borrow.Author.Tests.{ltb-true, le-ltb, ne_eqb}
use Rattle.std.specs.Float.{nan, binary32}
use Rattle.std.specs.Float.Ieee.{le, lt, fits}
use Rattle.laws.specs.Tests.{and_1, and_2, above_zero, true_T}
use Rattle.float.specs.Rank.{le_not_lt, lt→le, le_chain}
use Rattle.float.specs.Numbers.{zero'}
use Rattle.float.specs.Rising.{rising}
use Rattle.curve.specs.declared.Key.{Key}
use Rattle.curve.specs.Keys.{before}
use Rattle.curve.specs.Curve.{kind_constant, kind_step, eval_hermite, eval_curve}
use Rattle.curve.specs.Before.{Held, before_len, before_le, before_is, rising_le, before_gt, before_at}
use Rattle.curve.specs.Outside.{before_span, after_span, outside, Besides}

-- ---- what `before` counts, key by key

-- each key below the count is at or before x
before_through : (fs : List Float) (x : Float) (i : ℕ) → i < before fs x → le (get_or fs i nan) x ≡ true
unfolding before
before_through [] x i l = absurd (not-suc-le-zero l)
before_through (k ∷ ks) x i l = go (before_through ks x) i (le k x) refl l
  where
    go : ((i : ℕ) → i < before ks x → le (get_or ks i nan) x ≡ true) → (i : ℕ) (b : Bool) → le k x ≡ b → i < cond b (suc (before ks x)) 0 → le (get_or (k ∷ ks) i nan) x ≡ true
    go h zero true e m = e
    go h (suc i) true e m = h i (le_of_suc-le-suc m)
    go h i false e m = absurd (not-suc-le-zero m)

-- and the one at the count, if there is one, is not
before_stop : (fs : List Float) (x : Float) → le (get_or fs (before fs x) nan) x ≡ false
unfolding before le
before_stop [] x = refl
before_stop (k ∷ ks) x = go (before_stop ks x) (le k x) refl
  where
    go : le (get_or ks (before ks x) nan) x ≡ false → (b : Bool) → le k x ≡ b → le (get_or (k ∷ ks) (cond b (suc (before ks x)) 0) nan) x ≡ false
    go h true e = h
    go h false e = e

-- ---- two curves of as many keys, whose frames never fall

-- what is below is not at or above
lt_not_le : (x y : Float) → T (fits binary32 x) → T (fits binary32 y) → lt x y ≡ true → le y x ≡ false
lt_not_le x y h k e = go (le y x) refl
  where
    go : (b : Bool) → le y x ≡ b → le y x ≡ false
    go true q = absurd (false≢true (sym (le_not_lt binary32 x y h k (true_T _ q)) ∙ e))
    go false q = q

module _ (i j : ℕ) (fs vs ss gs us ts : List Float) (w : Besides i j fs vs ss gs us ts) (hf : Held fs) (hg : Held gs) (rf : rising fs ≡ true) (rg : rising gs ≡ true)
    (x : Float) (hx : T (fits binary32 x)) where
  frame : (k : ℕ) → (i ≤ k → k ≤ j → ⊥) → get_or gs k nan ≡ get_or fs k nan
  frame k d = ap (λ (y : Key). y.frame) (w.same k d)

  value : (k : ℕ) → (i ≤ k → k ≤ j → ⊥) → get_or us k nan ≡ get_or vs k nan
  value k d = ap (λ (y : Key). y.value) (w.same k d)

  -- the counts are equal where the last key counted and the next are the same
  counts : (n : ℕ) → before fs x ≡ n → ((n ≡ 0 → ⊥) → get_or gs (n - 1) nan ≡ get_or fs (n - 1) nan) → get_or gs n nan ≡ get_or fs n nan → before gs x ≡ n
  counts zero q p r = omega (arith, before_le gs x 0 (ap (λ (y : Float). le y x) r ∙ rw q at (before_stop fs x)))
  counts (suc n) q p r =
      let z : suc n - 1 ≡ n = omega arith in
      let y : suc n ≡ n + 1 = omega arith in
      let l : n < length gs = omega (arith, before_len fs x, w.long) in
      let a : le (get_or gs n nan) x ≡ true = ap (λ (f : Float). le f x) (rw z at (p (λ w. omega arith))) ∙ before_through fs x n (omega arith) in
      let b : le (get_or gs (suc n) nan) x ≡ false = ap (λ (f : Float). le f x) r ∙ rw q at (before_stop fs x) in
      before_at gs hg rg x hx n l (true_T _ a) (rw y at b) ∙ sym y

  -- a key from the count on is not at or before x
  past : (hs : List Float) → Held hs → rising hs ≡ true → (k : ℕ) → k < length hs → before hs x ≤ k → le (get_or hs k nan) x ≡ false
  past hs h r k l m = before_is hs h r x hx k l ∙ le-ltb k (before hs x) m

  -- what a Step curve gives, and a Hermite curve
  abbrev SameStep : Type 0
  SameStep = get_or us (before gs x - 1) nan ≡ get_or vs (before fs x - 1) nan

  abbrev SameHermite : Type 0
  SameHermite = eval_hermite gs us ts x ≡ eval_hermite fs vs ss x

  -- ---- before the span
  module _ (b : before_span fs i x ≡ true) where
    some : 1 ≤ i
    unfolding before_span
    some = above_zero i (and_1 (not (eqb i 0)) _ b)

    below : before fs x ≤ i - 1
    unfolding before_span
    below = before_le fs x (i - 1) (lt_not_le x (get_or fs (i - 1) nan) hx (hf (i - 1)) (and_2 (not (eqb i 0)) _ b))

    count_before : before gs x ≡ before fs x
    count_before = counts (before fs x) refl (λ z. frame (before fs x - 1) (λ l m. omega (arith, some, below))) (frame (before fs x) (λ l m. omega (arith, some, below)))

    step_before : SameStep
    step_before = rw count_before (value (before fs x - 1) (λ l m. omega (arith, some, below)))

    hermite_before : SameHermite
    unfolding eval_hermite
    hermite_before =
        rw (
          w.long,
          frame 0 (λ l m. omega (arith, some)),
          value 0 (λ l m. omega (arith, some)),
          past fs hf rf (length fs - 1) (omega (arith, w.within)) (omega (arith, w.within, w.order, some, below)),
          past gs hg rg (length fs - 1) (omega (arith, w.within, w.long)) (omega (arith, w.within, w.order, some, below, count_before)),
          count_before,
          w.same (before fs x - 1) (λ l m. omega (arith, some, below)),
          w.same (before fs x) (λ l m. omega (arith, some, below)),
        )

  -- ---- after it
  module _ (b : after_span fs j x ≡ true) where
    more : j + 1 < length fs
    unfolding after_span
    more = ltb-true (j + 1) (length fs) (and_1 (ltb (j + 1) (length fs)) _ b)

    over : lt (get_or fs (j + 1) nan) x ≡ true
    unfolding after_span
    over = and_2 (ltb (j + 1) (length fs)) _ b

    next : get_or gs (j + 1) nan ≡ get_or fs (j + 1) nan
    next = frame (j + 1) (λ l m. omega arith)

    passed : j + 1 < before fs x
    passed = before_gt fs hf rf x hx (j + 1) more (lt→le binary32 (get_or fs (j + 1) nan) x (hf (j + 1)) hx (true_T _ over))

    count_after : before gs x ≡ before fs x
    count_after = counts (before fs x) refl (λ z. frame (before fs x - 1) (λ l m. omega (arith, passed))) (frame (before fs x) (λ l m. omega (arith, passed)))

    -- x is not at or before key 0, which is at or before the next key
    later : (hs : List Float) → Held hs → rising hs ≡ true → j + 1 < length hs → lt (get_or hs (j + 1) nan) x ≡ true → le x (get_or hs 0 nan) ≡ false
    later hs h r l o = go (le x (get_or hs 0 nan)) refl
      where
        go : (q : Bool) → le x (get_or hs 0 nan) ≡ q → le x (get_or hs 0 nan) ≡ false
        go true e =
            let c = le_chain binary32 x (get_or hs 0 nan) (get_or hs (j + 1) nan) hx (h 0) (h (j + 1)) (true_T _ e) (rising_le hs h r 0 (j + 1) (omega arith) l) in
            absurd (false≢true (sym (le_not_lt binary32 (get_or hs (j + 1) nan) x (h (j + 1)) hx c) ∙ o))
        go false e = e

    step_after : SameStep
    step_after = rw count_after (value (before fs x - 1) (λ l m. omega (arith, passed)))

    hermite_after : SameHermite
    unfolding eval_hermite
    hermite_after =
        rw (
          w.long,
          later fs hf rf more over,
          later gs hg rg (omega (arith, more, w.long)) (ap (λ (f : Float). lt f x) next ∙ over),
          frame (length fs - 1) (λ l m. omega (arith, more)),
          value (length fs - 1) (λ l m. omega (arith, more)),
          count_after,
          ne_eqb (before fs x) 0 (λ z. omega (arith, passed)),
          w.same (before fs x - 1) (λ l m. omega (arith, passed)),
          w.same (before fs x) (λ l m. omega (arith, passed)),
        )

  -- Strictly outside the span a curve that is not Constant gives the same.
  pub outside_same : (kind : ℕ) → (kind ≡ kind_constant → ⊥) → outside fs i j x ≡ true → eval_curve kind gs us ts x ≡ eval_curve kind fs vs ss x
  unfolding eval_curve outside
  outside_same kind d b = rw (w.long, ne_eqb kind kind_constant d) (go (before_span fs i x) refl b)
    where
      by : SameStep → SameHermite → cond (eqb (length fs) 0) zero' (cond (eqb kind kind_step) (get_or us (before gs x - 1) nan) (eval_hermite gs us ts x)) ≡ cond (eqb (length fs) 0) zero' (cond (eqb kind kind_step) (get_or vs (before fs x - 1) nan) (eval_hermite fs vs ss x))
      by p q = rw (p, q)

      go : (c : Bool) → before_span fs i x ≡ c → (c || after_span fs j x) ≡ true → cond (eqb (length fs) 0) zero' (cond (eqb kind kind_step) (get_or us (before gs x - 1) nan) (eval_hermite gs us ts x)) ≡ cond (eqb (length fs) 0) zero' (cond (eqb kind kind_step) (get_or vs (before fs x - 1) nan) (eval_hermite fs vs ss x))
      go true e q = by (step_before e) (hermite_before e)
      go false e q = by (step_after q) (hermite_after q)
