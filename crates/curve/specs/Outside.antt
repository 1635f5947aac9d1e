-- The frames that some keys of a curve reach: those within the span from the previous key's frame to the next key's (document 01, "Curves"). What a curve
-- gives strictly outside it doesn't depend on them, as proofs/Outside shows. A Constant curve has no frames: there the frame picks the key. Assumes nothing.
use Rattle.std.specs.Prelude.{ℕ, ◌+◌, ◌-◌, ◌≤◌, ◌<◌, min, ◌≡◌, Bool, true, false, not, ◌&&◌, ◌||◌, List, [], ◌∷◌, eqb, ltb, length, get_or, Float}
use Rattle.std.proofs.Math.Path.{refl}
use Rattle.std.proofs.Common.{ap}
use Rattle.std.specs.Float.{nan}
use Rattle.std.specs.Float.Ieee.{le, lt, eq, to_unsigned, of_bits}
use Rattle.float.specs.Numbers.{#, zero', one'}
use Rattle.curve.specs.declared.Key.{Key}
use Rattle.curve.specs.Keys.{key_at, before}
use Rattle.curve.specs.Curve.{kind_constant, kind_step, eval_curve}

-- x is before the previous key's frame, of keys from i on; where there is none, nothing is before the span
unfoldable pub before_span : List Float → ℕ → Float → Bool
before_span fs i x = not (eqb i 0) && lt x (get_or fs (i - 1) nan)

-- x is after the next key's frame, of keys up to j
unfoldable pub after_span : List Float → ℕ → Float → Bool
after_span fs j x = ltb (j + 1) (length fs) && lt (get_or fs (j + 1) nan) x

-- strictly outside the span of keys i to j
unfoldable pub outside : List Float → ℕ → ℕ → Float → Bool
outside fs i j x = before_span fs i x || after_span fs j x

-- Where the span ends, on keys at frames 0, 4, 8 and 12 of which the third is edited: from 4 to 12, both within it
abbrev frames4 : List Float
frames4 = zero' ∷ # 0x4080_0000 ∷ # 0x4100_0000 ∷ # 0x4140_0000 ∷ []

pub span_ends :
    (outside frames4 2 2 (# 0x407f_ffff) ≡ true)
    × (outside frames4 2 2 (# 0x4080_0000) ≡ false)
    × (outside frames4 2 2 (# 0x4140_0000) ≡ false)
    × (outside frames4 2 2 (# 0x4140_0001) ≡ true)
unfolding outside before_span after_span lt of_bits
span_ends = (refl, refl, refl, refl)

-- the key that a Constant curve picks at x
unfoldable pub picked : List Float → Float → ℕ
picked fs x = min (to_unsigned 64 x) (length fs - 1)

-- ---- two curves of as many keys, whose frames never fall

-- Keys i to j may differ; every other key is the same.
pub record Besides (i j : ℕ) (fs vs ss gs us ts : List Float) : Type 0 where
  pub order : i ≤ j
  pub within : j < length fs
  pub long : length gs ≡ length fs
  pub same : (k : ℕ) → (i ≤ k → k ≤ j → ⊥) → key_at gs us ts k ≡ key_at fs vs ss k

-- A Constant curve gives the same wherever the frame picks another key.
pub picks_same : (i j : ℕ) (fs vs ss gs us ts : List Float) → Besides i j fs vs ss gs us ts → (x : Float) → (i ≤ picked fs x → picked fs x ≤ j → ⊥) → eval_curve kind_constant gs us ts x ≡ eval_curve kind_constant fs vs ss x
unfolding eval_curve picked
picks_same i j fs vs ss gs us ts w x d = rw (w.long, ap (λ (y : Key). y.value) (w.same (min (to_unsigned 64 x) (length fs - 1)) d))

-- ---- at the previous key's own frame the answer may be the edited key's: of two keys at frame 4 a Step curve gives the second.
abbrev equal_frames : Float → Float
equal_frames v = eval_curve kind_step (zero' ∷ # 0x4080_0000 ∷ # 0x4080_0000 ∷ []) (zero' ∷ one' ∷ v ∷ []) (zero' ∷ zero' ∷ zero' ∷ []) (# 0x4080_0000)

pub edited_at_previous : (v : Float) → equal_frames v ≡ v
unfolding eval_curve before le lt eq of_bits
edited_at_previous v = refl
