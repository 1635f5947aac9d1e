-- What a checked sheet tells: a record whose fields `omega` reads, and laws on its rows. Whoever holds it needs no index proof of its own. Assumes nothing.
use Rattle.std.specs.Prelude.{ℕ, zero, suc, ◌+◌, ◌-◌, ◌*◌, ◌<◌, ◌≤◌, List, true, ◌≡◌, length, leb, ltb, eqb}
use Rattle.std.proofs.Common.{ap, ⊎_elim, le_of_eq, eq-or-lt_of_le, le_of_suc-le-suc, arith}
use borrow.Author.Tests.{leb-true, ltb-true, eqb-true}
use Rattle.laws.specs.Tests.{both, and_1, and_2}
use Rattle.laws.specs.Below.{all_below, all_at}
use Rattle.laws.specs.Sum.{sum_below, sum_within}
use Rattle.field.specs.Read.{byte_at, u16_at}
use Rattle.sheet.specs.Sizes.{animation_count, content_count, target_count, key_count, texture_count, head_bytes, content_bytes, target_bytes, contents_at, targets_at, sheet_bytes}
use Rattle.sheet.specs.Rows.{content_at, target_at, content_row, target_row}
use Rattle.sheet.specs.Sheet.{sizes_ok, length_ok, animation_ok, content_ok, keys_of, target_from, target_ok, targets_ok, sheet_ok}

-- the sizes are in their ranges
pub record Sized (s : List ℕ) : Type 0 where
  pub some : 1 ≤ animation_count s
  pub animations : animation_count s ≤ 8
  pub contents : content_count s ≤ 64
  pub targets : target_count s ≤ 256
  pub keys : key_count s ≤ 2048
  pub textures : texture_count s ≤ 64

-- the length is theirs, and each row passed
pub record Checked (s : List ℕ) : Type 0 where
  pub sizes : Sized s
  pub long : length s ≡ sheet_bytes s
  pub animated : all_below (animation_count s) (animation_ok s) ≡ true
  pub contented : all_below (content_count s) (content_ok s (contents_at s) (animation_count s)) ≡ true
  pub aimed : targets_ok s (targets_at s) (content_count s) (target_count s) (key_count s) ≡ true

pub length_known : (s : List ℕ) → length_ok s ≡ true → length s ≡ sheet_bytes s
unfolding length_ok
length_known s e = eqb-true _ _ e

sized : (s : List ℕ) → sizes_ok s ≡ true → Sized s
unfolding sizes_ok
sized s e =
    let x = both _ _ (and_1 _ (eqb (u16_at s 10) 0) e) in
    let k = both _ _ x.0 in
    let t = both _ _ k.0 in
    let c = both _ _ t.0 in
    let a = both (leb 1 (animation_count s)) _ c.0 in
    record {
      some = leb-true 1 (animation_count s) a.0;
      animations = leb-true (animation_count s) 8 a.1;
      contents = leb-true (content_count s) 64 c.1;
      targets = leb-true (target_count s) 256 t.1;
      keys = leb-true (key_count s) 2048 k.1;
      textures = leb-true (texture_count s) 64 x.1;
    }

pub checked : (s : List ℕ) → sheet_ok s ≡ true → Checked s
unfolding sheet_ok
checked s e =
    let t = both _ _ e in
    let c = both _ _ t.0 in
    let a = both _ _ c.0 in
    let l = both _ _ a.0 in
    record {
      sizes = sized s (and_2 (leb head_bytes (length s)) _ l.0);
      long = length_known s l.1;
      animated = a.1;
      contented = c.1;
      aimed = t.1;
    }

-- ---- what each test of a row says
record ContentOk (s : List ℕ) (base a i : ℕ) : Type 0 where
  kind : leb (content_at s (base + i * content_bytes)).kind 4 ≡ true
  below : ltb (content_at s (base + i * content_bytes)).animation a ≡ true
  climbs : leb (content_at s (base + (i - 1) * content_bytes)).animation (content_at s (base + i * content_bytes)).animation ≡ true

content_tests_lem : (s : List ℕ) (base a i : ℕ) → content_ok s base a i ≡ true → ContentOk s base a i
unfolding content_ok
content_tests_lem s base a i e =
    let c = both _ _ e in
    let b = both _ _ c.0 in
    record { kind = and_1 _ (eqb (u16_at s (base + i * content_bytes + 2)) 0) b.0; below = b.1; climbs = c.1 }

record TargetOk (s : List ℕ) (base c i f : ℕ) : Type 0 where
  curve : leb (target_at s (base + i * target_bytes)).curve 2 ≡ true
  below : ltb (target_at s (base + i * target_bytes)).content c ≡ true
  climbs : leb (target_at s (base + (i - 1) * target_bytes)).content (target_at s (base + i * target_bytes)).content ≡ true
  first : eqb (target_at s (base + i * target_bytes)).first f ≡ true

target_tests_lem : (s : List ℕ) (base c i f : ℕ) → target_from s base c i f ≡ true → TargetOk s base c i f
unfolding target_from
target_tests_lem s base c i f e =
    let d = both _ _ e in
    let k = both _ _ d.0 in
    let b = both _ _ k.0 in
    record { curve = and_1 _ (eqb (byte_at s (base + i * target_bytes + 9)) 0) b.0; below = b.1; climbs = k.1; first = d.1 }

-- what never falls from a row to the next does not fall from a row to any later one
climbing : (n : ℕ) (f : ℕ → ℕ) → ((k : ℕ) → k < n → f (k - 1) ≤ f k) → (j i : ℕ) → i ≤ j → j < n → f i ≤ f j
climbing n f h zero i l m = le_of_eq (ap f (omega arith))
climbing n f h (suc j) i l m =
    ⊎_elim
    (λ (q : i ≡ suc j). le_of_eq (ap f q))
    (λ (k : i < suc j). let e : suc j - 1 ≡ j = omega arith in omega (arith, climbing n f h j i (le_of_suc-le-suc k) (omega arith), rw e at (h (suc j) m)))
    (eq-or-lt_of_le l)

module _ {s : List ℕ} (w : Checked s) where
  -- ---- contents
  content_row_lem : (i : ℕ) → i < content_count s → ContentOk s (contents_at s) (animation_count s) i
  content_row_lem i l = content_tests_lem s (contents_at s) (animation_count s) i (all_at (content_count s) (content_ok s (contents_at s) (animation_count s)) i w.contented l)

  -- a content's type is one of the five
  pub content_kind : (i : ℕ) → i < content_count s → (content_row s i).kind ≤ 4
  unfolding content_row
  content_kind i l = leb-true _ 4 (content_row_lem i l).kind

  -- its animation is one of the sheet's
  pub content_animation_lem : (i : ℕ) → i < content_count s → (content_row s i).animation < animation_count s
  unfolding content_row
  content_animation_lem i l = ltb-true _ (animation_count s) (content_row_lem i l).below

  content_step : (i : ℕ) → i < content_count s → (content_row s (i - 1)).animation ≤ (content_row s i).animation
  unfolding content_row
  content_step i l = leb-true _ _ (content_row_lem i l).climbs

  -- and never falls
  pub content_climbs : (i j : ℕ) → i ≤ j → j < content_count s → (content_row s i).animation ≤ (content_row s j).animation
  content_climbs i j l m = climbing (content_count s) (λ i. (content_row s i).animation) content_step j i l m

  -- ---- targets
  target_row_lem : (i : ℕ) → i < target_count s → TargetOk s (targets_at s) (content_count s) i (sum_below i (keys_of s (targets_at s)))
  unfolding targets_ok target_ok
  target_row_lem i l = target_tests_lem s (targets_at s) (content_count s) i _ (all_at (target_count s) (target_ok s (targets_at s) (content_count s)) i (both (all_below (target_count s) (target_ok s (targets_at s) (content_count s))) _ w.aimed).0 l)

  -- a target's curve is one of the three
  pub target_curve_lem : (i : ℕ) → i < target_count s → (target_row s i).curve ≤ 2
  unfolding target_row
  target_curve_lem i l = leb-true _ 2 (target_row_lem i l).curve

  -- its content is one of the sheet's
  pub target_content_lem : (i : ℕ) → i < target_count s → (target_row s i).content < content_count s
  unfolding target_row
  target_content_lem i l = ltb-true _ (content_count s) (target_row_lem i l).below

  target_step : (i : ℕ) → i < target_count s → (target_row s (i - 1)).content ≤ (target_row s i).content
  unfolding target_row
  target_step i l = leb-true _ _ (target_row_lem i l).climbs

  -- and never falls
  pub target_climbs : (i j : ℕ) → i ≤ j → j < target_count s → (target_row s i).content ≤ (target_row s j).content
  target_climbs i j l m = climbing (target_count s) (λ i. (target_row s i).content) target_step j i l m

  -- its first key is the sum of the earlier counts
  pub target_first : (i : ℕ) → i < target_count s → (target_row s i).first ≡ sum_below i (λ j. (target_row s j).count)
  unfolding target_row keys_of
  target_first i l = eqb-true _ _ (target_row_lem i l).first

  sum_known : sum_below (target_count s) (λ j. (target_row s j).count) ≡ key_count s
  unfolding target_row targets_ok keys_of
  sum_known = eqb-true _ _ (both (all_below (target_count s) (target_ok s (targets_at s) (content_count s))) _ w.aimed).1

  -- so its keys are among the sheet's
  pub target_keys : (i : ℕ) → i < target_count s → (target_row s i).first + (target_row s i).count ≤ key_count s
  target_keys i l = omega (arith, target_first i l, sum_known, sum_within (target_count s) i (λ j. (target_row s j).count) l)

  -- and end before those of a later target
  pub target_apart : (i j : ℕ) → i < j → j < target_count s → (target_row s i).first + (target_row s i).count ≤ (target_row s j).first
  target_apart i j l m = omega (arith, target_first i (omega arith), target_first j m, sum_within j i (λ j. (target_row s j).count) l)
