-- The keys of a sheet as three lists of one length (document 01, "Sheet and book": three lent f32 arrays), one key of them, and one key put in
-- another's place; and when two keys are the same, bit for bit. Assumes nothing.
use Rattle.std.specs.Prelude.{ℕ, zero, suc, ◌<◌, ◌≡◌, refl, Bool, false, ◌&&◌, List, [], ◌∷◌, T, set, length, Float}
use Rattle.std.specs.Borrow.{Bor}
use Rattle.std.proofs.Common.{length-set, get_or-set_same, get_or-set_other, set-set}
use Rattle.std.proofs.lemmas.List.{set-get_or}
use Rattle.std.specs.Float.{nan, binary32}
use Rattle.std.specs.Float.Ieee.{fits, to_bits, of_bits, is_nan}
use Rattle.float.specs.Numbers.{zero', minus_zero, same_bits}
use Rattle.keys.specs.Keys.{keys_ok}
use Rattle.curve.specs.declared.Key.{Key}
use Rattle.curve.specs.Keys as curve
pub use Rattle.curve.specs.Lists.{Keys, keys}
use Rattle.curve.specs.Before.{Held}

-- the keys that three lent slices hold
abbrev pub lent : Bor (List Float) → Bor (List Float) → Bor (List Float) → Keys
lent f v s = keys f.now v.now s.now

-- the keys keep the key rules of the sheet
abbrev pub keys_ok_of : List ℕ → Keys → Bool
keys_ok_of s ks = keys_ok s ks.frames ks.values ks.slopes

-- two keys are the same, bit for bit
unfoldable pub same_key : Key → Key → Bool
same_key a b = same_bits a.frame b.frame && same_bits a.value b.value && same_bits a.slope b.slope

-- "−0 and +0 differ" (document 02, 4/13): in the frame, in the value and in the slope
pub zeros_differ : let at : Float → Float → Float → Key = λ f v m. record { frame = f; value = v; slope = m } in
    let zeros = at zero' zero' zero' in
    (same_key (at minus_zero zero' zero') zeros ≡ false) × (same_key (at zero' minus_zero zero') zeros ≡ false) × (same_key (at zero' zero' minus_zero) zeros ≡ false)
unfolding same_key same_bits is_nan to_bits of_bits
zeros_differ = (refl, refl, refl)

-- the key at i
unfoldable pub key_at : Keys → ℕ → Key
key_at ks i = curve.key_at ks.frames ks.values ks.slopes i

-- the keys with k at i
unfoldable pub put_key : Keys → ℕ → Key → Keys
put_key ks i k = record { frames = set ks.frames i k.frame; values = set ks.values i k.value; slopes = set ks.slopes i k.slope }

-- i is a place of each of the three lists
pub record Within (ks : Keys) (i : ℕ) : Type 0 where
  pub frames : i < length ks.frames
  pub values : i < length ks.values
  pub slopes : i < length ks.slopes

-- binary32 holds each number of the keys, as it does each element of the lent arrays
pub record HeldKeys (ks : Keys) : Type 0 where
  pub frames : Held ks.frames
  pub values : Held ks.values
  pub slopes : Held ks.slopes

-- and the three of one key
pub record HeldKey (k : Key) : Type 0 where
  pub frame : T (fits binary32 k.frame)
  pub value : T (fits binary32 k.value)
  pub slope : T (fits binary32 k.slope)

-- ---- laws
pub get_put : (ks : Keys) (i : ℕ) (k : Key) → Within ks i → key_at (put_key ks i k) i ≡ k
unfolding key_at put_key
get_put ks i k w =
    rw (get_or-set_same ks.frames i k.frame nan w.frames, get_or-set_same ks.values i k.value nan w.values, get_or-set_same ks.slopes i k.slope nan w.slopes)

pub get_other : (ks : Keys) (i j : ℕ) (k : Key) → (j ≡ i → ⊥) → key_at (put_key ks i k) j ≡ key_at ks j
unfolding key_at put_key
get_other ks i j k d =
    rw (get_or-set_other ks.frames i j k.frame nan d, get_or-set_other ks.values i j k.value nan d, get_or-set_other ks.slopes i j k.slope nan d)

pub put_put : (ks : Keys) (i : ℕ) (j k : Key) → put_key (put_key ks i j) i k ≡ put_key ks i k
unfolding put_key
put_put ks i j k = rw (set-set ks.frames i j.frame k.frame, set-set ks.values i j.value k.value, set-set ks.slopes i j.slope k.slope)

pub put_get : (ks : Keys) (i : ℕ) → put_key ks i (key_at ks i) ≡ ks
unfolding key_at put_key
put_get ks i = rw (set-get_or ks.frames i nan, set-get_or ks.values i nan, set-get_or ks.slopes i nan)

-- a key put in another's place leaves the lengths
pub put_length : (ks : Keys) (i : ℕ) (k : Key) →
    (length (put_key ks i k).frames ≡ length ks.frames) × (length (put_key ks i k).values ≡ length ks.values) × (length (put_key ks i k).slopes ≡ length ks.slopes)
unfolding put_key
put_length ks i k = (length-set ks.frames i k.frame, length-set ks.values i k.value, length-set ks.slopes i k.slope)

-- and an f32 in another's place leaves f32
set_held : (fs : List Float) (i : ℕ) (x : Float) → Held fs → T (fits binary32 x) → Held (set fs i x)
set_held [] i x h e j = h j
set_held (y ∷ ys) zero x h e zero = e
set_held (y ∷ ys) zero x h e (suc j) = h (suc j)
set_held (y ∷ ys) (suc i) x h e zero = h 0
set_held (y ∷ ys) (suc i) x h e (suc j) = set_held ys i x (λ k. h (suc k)) e j

pub put_held : (ks : Keys) (i : ℕ) (k : Key) → HeldKeys ks → HeldKey k → HeldKeys (put_key ks i k)
unfolding put_key
put_held ks i k h e =
    record {
      frames = set_held ks.frames i k.frame h.frames e.frame;
      values = set_held ks.values i k.value h.values e.value;
      slopes = set_held ks.slopes i k.slope h.slopes e.slope;
    }
