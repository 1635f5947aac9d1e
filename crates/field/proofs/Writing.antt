-- What a loop that writes f32s into a list of bytes keeps. Assumes nothing.
use Rattle.std.specs.Prelude.{◌≡◌, ℕ, ◌+◌, ◌*◌, ◌<◌, ◌≤◌, List, slice_index_or, to_bits, Float}
use Rattle.std.proofs.Common.{sym}
use native.Mathlib.Omega.{arith}
use Rattle.std.specs.Float.{nan}
use Rattle.std.specs.Float.Ieee.{binary32}
use Rattle.laws.specs.Table.{Filled, filled_more}
use Rattle.field.specs.Write.{byte_of, put_float, float_byte, float_byte_lem}

-- ---- a loop that writes them

-- four bytes more are those of x
filled_float : {n i : ℕ} {f : ℕ → ℕ} {l : List ℕ} (x : Float) → Filled n f l i → i + 4 ≤ n → ((k j : ℕ) → k < 4 → j ≡ i + k → byte_of (to_bits binary32 x) k ≡ f j)
    → Filled n f (put_float l i x) (i + 4)
unfolding put_float
filled_float {n} {i} {f} {l} x w h e =
    let one = filled_more w (omega arith) (e 0 i (omega arith) (omega arith)) in
    let two = next (i + 1) (i + 2) (omega arith) (filled_more one (omega arith) (e 1 (i + 1) (omega arith) (omega arith))) in
    let three = next (i + 2) (i + 3) (omega arith) (filled_more two (omega arith) (e 2 (i + 2) (omega arith) (omega arith))) in
    next (i + 3) (i + 4) (omega arith) (filled_more three (omega arith) (e 3 (i + 3) (omega arith) (omega arith)))
  where
    next : (a b : ℕ) → a + 1 ≡ b → {l : List ℕ} → Filled n f l (a + 1) → Filled n f l b
    next a b q w = rw q at w

-- one f32 more, the j-th, at p
pub float_more : (xs : List Float) {n : ℕ} {l : List ℕ} {x : Float} {p q : ℕ} (j : ℕ) → p ≡ j * 4 → q ≡ p + 4 → q ≤ n → Filled n (float_byte xs) l p → x ≡ slice_index_or xs j nan
    → Filled n (float_byte xs) (put_float l p x) q
float_more xs {n} {l} {x} {p} {q} j e f m w h =
    rw f (filled_float x w (omega arith)
    (λ k i b d. let a : i ≡ j * 4 + k = omega arith in rw (a, h) (sym (float_byte_lem xs j k b))))
