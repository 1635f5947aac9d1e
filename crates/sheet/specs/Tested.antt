-- How the code tests rows: those of the three tables are one test, a loop may carry the number of the row before, and a byte with the padding after it is one
-- number. Assumes nothing.
use Rattle.std.specs.Prelude.{ℕ, zero, suc, ◌+◌, ◌-◌, ◌*◌, ◌<◌, List, Bool, true, false, ◌&&◌, ◌≡◌, refl, leb, eqb}
use Rattle.std.proofs.Common.{add-one, arith, le-leb, leb-true, leb-false, eqb-true}
use Rattle.std.proofs.lemmas.Bool.{lt-leb, eqb-false}
use Rattle.field.specs.Read.{byte_at, u16_at}
use Rattle.laws.specs.Below.{all_below}
use Rattle.sheet.specs.Sizes.{animation_count, content_count, target_count, key_count, content_bytes, target_bytes, contents_at, targets_at}
use Rattle.sheet.specs.Sheet.{animation_ok, content_ok, targets_ok}
use Rattle.sheet.specs.Rows.{content_at, target_at}

-- the rows of the three tables
unfoldable pub rows_ok : List ℕ → Bool
rows_ok s =
    all_below (animation_count s) (animation_ok s) && all_below (content_count s) (content_ok s (contents_at s) (animation_count s)) &&
    targets_ok s (targets_at s) (content_count s) (target_count s) (key_count s)

-- the number of the row before i, and 0 at first, below which none is
unfoldable pub prior : (ℕ → ℕ) → ℕ → ℕ
prior f zero = 0
prior f (suc i) = f i

pub prior_none : (f : ℕ → ℕ) → prior f 0 ≡ 0
unfolding prior
prior_none f = refl

pub prior_more : (f : ℕ → ℕ) (i : ℕ) → prior f (i + 1) ≡ f i
unfolding prior
prior_more f i = rw add-one

-- so row 0 passes, as it does when it is held against itself
pub prior_climbs : (f : ℕ → ℕ) (i : ℕ) → leb (f (i - 1)) (f i) ≡ leb (prior f i) (f i)
unfolding prior
prior_climbs f zero = rw (le-leb (f 0) (f 0) (omega arith), le-leb 0 (f 0) (omega arith))
prior_climbs f (suc i) = let e : suc i - 1 ≡ i = omega arith in rw e

-- a content's animation, and a target's content
unfoldable pub animation_of : List ℕ → ℕ → ℕ → ℕ
animation_of s base i = (content_at s (base + i * content_bytes)).animation

unfoldable pub content_of : List ℕ → ℕ → ℕ → ℕ
content_of s base i = (target_at s (base + i * target_bytes)).content

-- so a content's animation is held against that of the row before, and a target's content likewise
pub content_climbs : (s : List ℕ) (base i : ℕ) {last : ℕ} → last ≡ prior (animation_of s base) i
    → leb (content_at s (base + (i - 1) * content_bytes)).animation (content_at s (base + i * content_bytes)).animation ≡ leb last (content_at s (base + i * content_bytes)).animation
unfolding animation_of
content_climbs s base i e = rw e (prior_climbs (animation_of s base) i)

pub target_climbs : (s : List ℕ) (base i : ℕ) {last : ℕ} → last ≡ prior (content_of s base) i
    → leb (target_at s (base + (i - 1) * target_bytes)).content (target_at s (base + i * target_bytes)).content ≡ leb last (target_at s (base + i * target_bytes)).content
unfolding content_of
target_climbs s base i e = rw e (prior_climbs (content_of s base) i)

-- two bytes as one number are at most 2 where the first is and the second is zero
low_byte : (x y : ℕ) → x < 256 → leb (x + y * 256) 2 ≡ (leb x 2 && eqb y 0)
low_byte x y l = go (leb x 2) refl (eqb y 0) refl
  where
    go : (a : Bool) → leb x 2 ≡ a → (b : Bool) → eqb y 0 ≡ b → leb (x + y * 256) 2 ≡ (a && b)
    go true p true q = le-leb (x + y * 256) 2 (omega (arith, leb-true x 2 p, eqb-true y 0 q))
    go true p false q = let k = eqb-false y 0 q in lt-leb (x + y * 256) 2 (omega arith)
    go false p b q = lt-leb (x + y * 256) 2 (omega (arith, leb-false x 2 p))

-- so a target's curve and the zero after it are tested at once
pub curve_padded : (s : List ℕ) (at : ℕ) → byte_at s (at + 8) < 256 → leb (u16_at s (at + 8)) 2 ≡ (leb (target_at s at).curve 2 && eqb (byte_at s (at + 9)) 0)
unfolding u16_at
curve_padded s at l = let e : at + 8 + 1 ≡ at + 9 = omega arith in rw e (low_byte (byte_at s (at + 8)) (byte_at s (at + 9)) l)
