-- Four sums side by side, of what is left of keys less themselves: each is +0 while the keys that it has seen are finite, and a NaN from the first that
-- isn't. Assumes nothing.
use Rattle.std.specs.Prelude.{ℕ, ◌+◌, Bool, ◌&&◌, ◌≡◌, refl, Float}
use Rattle.std.proofs.Common.{sym, ap, ◌∙◌, arith}
use Rattle.std.specs.Float.Ieee.{eq, of_bits}
use Rattle.laws.specs.Below.{all_below, all_none}
use Rattle.laws.specs.Blocks.{four_is, all_block}
use Rattle.float.specs.Numbers.{◌⊕◌, zero', finite}
use Rattle.float.specs.Cancel.{left, left_sum, left_is, left_finite}

-- p holds of each number below n exactly where all four are finite
pub record Lanes (p : ℕ → Bool) (n : ℕ) (a b c d : Float) : Type 0 where
  pub first : a ≡ left (finite a)
  pub second : b ≡ left (finite b)
  pub third : c ≡ left (finite c)
  pub fourth : d ≡ left (finite d)
  pub all : (finite a && finite b && (finite c && finite d)) ≡ all_below n p

pub lanes_none : (p : ℕ → Bool) → Lanes p 0 zero' zero' zero' zero'
unfolding of_bits
lanes_none p = record { first = refl; second = refl; third = refl; fourth = refl; all = sym (all_none p) }

-- one more key to each
seen : (x : Float) (q : Bool) → x ≡ left (finite x) → x ⊕ left q ≡ left (finite x && q)
seen x q e = ap (λ y. y ⊕ left q) e ∙ left_sum (finite x) q

told : (x : Float) (q : Bool) → x ≡ left (finite x) → finite (x ⊕ left q) ≡ (finite x && q)
told x q e = ap finite (seen x q e) ∙ left_finite (finite x && q)

stays : (x : Float) (q : Bool) → x ≡ left (finite x) → x ⊕ left q ≡ left (finite (x ⊕ left q))
stays x q e = seen x q e ∙ ap left (sym (told x q e))

weave : (a b c d p q r s : Bool) → ((a && p) && (b && q) && ((c && r) && (d && s))) ≡ ((a && b && (c && d)) && (p && q && r && s))
weave a b c d p q r s = grind arith

pub lanes_more : {p : ℕ → Bool} {n : ℕ} {a b c d : Float} → Lanes p n a b c d
    → Lanes p (n + 4) (a ⊕ left (p n)) (b ⊕ left (p (n + 1))) (c ⊕ left (p (n + 2))) (d ⊕ left (p (n + 3)))
lanes_more {p} {n} {a} {b} {c} {d} h =
    record {
      first = stays a (p n) h.first;
      second = stays b (p (n + 1)) h.second;
      third = stays c (p (n + 2)) h.third;
      fourth = stays d (p (n + 3)) h.fourth;
      all =
          rw (told a (p n) h.first, told b (p (n + 1)) h.second, told c (p (n + 2)) h.third, told d (p (n + 3)) h.fourth)
          (weave (finite a) (finite b) (finite c) (finite d) (p n) (p (n + 1)) (p (n + 2)) (p (n + 3))
          ∙ rw (all_block, four_is, h.all));
    }

pub lanes_all : {p : ℕ → Bool} {n : ℕ} {a b c d : Float} → Lanes p n a b c d → eq ((a ⊕ b) ⊕ (c ⊕ d)) zero' ≡ all_below n p
lanes_all {p} {n} {a} {b} {c} {d} h =
    ap (λ x. eq x zero') (sums a b c d h.first h.second h.third h.fourth) ∙ left_is (finite a && finite b && (finite c && finite d)) ∙ h.all
  where
    two : (x y : Float) → x ≡ left (finite x) → y ≡ left (finite y) → x ⊕ y ≡ left (finite x && finite y)
    two x y e f = ap (λ z. z ⊕ y) e ∙ ap (λ z. left (finite x) ⊕ z) f ∙ left_sum (finite x) (finite y)

    sums : (a b c d : Float) → a ≡ left (finite a) → b ≡ left (finite b) → c ≡ left (finite c) → d ≡ left (finite d)
        → (a ⊕ b) ⊕ (c ⊕ d) ≡ left (finite a && finite b && (finite c && finite d))
    sums a b c d e f g h = rw (two a b e f, two c d g h) (left_sum (finite a && finite b) (finite c && finite d))
