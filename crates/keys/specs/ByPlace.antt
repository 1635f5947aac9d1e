-- The rules of document 01, "Sheet and book", on a key by its place in the lists, as the code tests it in blocks: key i of a curve stands at first + i.
-- That frames never fall is tested of each frame and the next, so of n frames there are n - 1 tests. Assumes nothing.
use Rattle.std.specs.Prelude.{ℕ, ◌+◌, ◌-◌, ◌*◌, ◌≤◌, List, Bool, ◌&&◌, ◌||◌, ◌≡◌, eqb, get_or, Float}
use Rattle.std.proofs.Math.Bool.{true, false}
use Rattle.std.specs.Bool.{beq}
use Rattle.std.proofs.Math.Path.{refl, sym, ap}
use Rattle.std.proofs.Common.{◌∙◌, eq-eqb}
use Rattle.std.proofs.Math.Nat.{add-zero}
use native.Mathlib.Omega.{arith}
use Rattle.std.specs.Float.{nan, inf, fin}
use Rattle.std.specs.Float.Ieee.{up, down, lt, eq, le}
use Rattle.laws.specs.Tests.{or_right}
use Rattle.laws.specs.Below.{all_below, all_none, all_suc, all_at, all_same}
use Rattle.laws.specs.Blocks.{block_at, all_block}
use Rattle.float.specs.Numbers.{zero', same_bits}
use Rattle.float.specs.Rising.{not_below, rising_in}
use Rattle.float.specs.StepValue.{whole_in16}
use Rattle.keys.specs.Rules.{constant_key, step_key}

-- Constant: frame and slope are +0
abbrev pub constant_at : List Float → List Float → ℕ → Bool
constant_at fs ss i = same_bits (get_or fs i nan) zero' && same_bits (get_or ss i nan) zero'

-- Step: slope +0, value whole in 0..65,535, not -0
abbrev pub step_at : List Float → List Float → ℕ → Bool
step_at vs ss i = same_bits (get_or ss i nan) zero' && whole_in16 (get_or vs i nan)

-- Step and Hermite: a frame is not above the next
abbrev pub not_above : List Float → ℕ → Bool
not_above fs i = le (get_or fs i nan) (get_or fs (i + 1) nan)

-- ---- the keys of a curve are a block of places
pub constant_place : (fs ss : List Float) (first i : ℕ) → constant_at fs ss (first + i) ≡ constant_key fs ss first i
unfolding constant_key
constant_place fs ss first i = refl

pub constant_block : (fs ss : List Float) (first n : ℕ) → block_at n (constant_at fs ss) first ≡ all_below n (constant_key fs ss first)
unfolding block_at
constant_block fs ss first n = all_same n _ _ (λ i l. constant_place fs ss first i)

pub step_place : (vs ss : List Float) (first i : ℕ) → step_at vs ss (first + i) ≡ step_key vs ss first i
unfolding step_key
step_place vs ss first i = refl

pub step_block : (vs ss : List Float) (first n : ℕ) → block_at n (step_at vs ss) first ≡ all_below n (step_key vs ss first)
unfolding block_at
step_block vs ss first n = all_same n _ _ (λ i l. step_place vs ss first i)

-- ---- frames that never fall
-- what is at or below anything is at or below itself
le_itself : (x y : Float) → le x y ≡ true → le x x ≡ true
unfolding le
le_itself nan y e = e
le_itself (inf true) y e = refl
le_itself (inf false) y e = refl
le_itself (fin s m d) y e = or_right (lt (fin s m d) (fin s m d)) (eq (fin s m d) (fin s m d)) (level s (m * up d * down d))
  where
    level : (s : Bool) (a : ℕ) → (eqb a a && (beq s s || eqb a 0)) ≡ true
    level true a = rw (eq-eqb a a refl)
    level false a = rw (eq-eqb a a refl)

module _ (fs : List Float) (first : ℕ) where
  -- a frame is not above the next where the next is not below it
  pub next_is : (i : ℕ) → not_above fs (first + i) ≡ not_below fs first (i + 1)
  unfolding not_below
  next_is i =
      let e : i + 1 - 1 ≡ i = omega arith in
      let f : first + (i + 1) ≡ first + i + 1 = omega arith in
      rw (e, f)

  -- the first frame is held against itself, which its test against the next includes
  first_is : not_above fs first ≡ true → not_below fs first 0 ≡ true
  unfolding not_below
  first_is e = rw add-zero (le_itself _ _ e)

  -- the n tests from the first frame on are those of the n frames after it
  later : (n : ℕ) → block_at n (not_above fs) first ≡ block_at n (not_below fs first) 1
  unfolding block_at
  later n = all_same n _ _ (λ i l. next_is i ∙ ap (not_below fs first) (omega arith))

  -- and, where there is one, they include that of the first frame
  begins : (n : ℕ) → 1 ≤ n → block_at n (not_above fs) first ≡ (all_below 1 (not_below fs first) && block_at n (not_below fs first) 1)
  unfolding block_at
  begins n l = rw one (go (block_at n (not_above fs) first) refl)
    where
      one : all_below 1 (not_below fs first) ≡ not_below fs first 0
      one = all_suc 0 (not_below fs first) ∙ rw (all_none (not_below fs first))

      nothing : (a : Bool) → false ≡ (a && false)
      nothing true = refl
      nothing false = refl

      go : (b : Bool) → block_at n (not_above fs) first ≡ b → b ≡ (not_below fs first 0 && block_at n (not_below fs first) 1)
      go true e = rw (first_is (ap (not_above fs) (omega arith) ∙ all_at n (λ j. not_above fs (first + j)) 0 e (omega arith))) (sym e ∙ later n)
      go false e = rw (sym (later n) ∙ e) (nothing (not_below fs first 0))

  -- two frames or more never fall where none is above the next
  pub rising_block : (count : ℕ) → 2 ≤ count → block_at (count - 1) (not_above fs) first ≡ rising_in fs first count
  unfolding rising_in
  rising_block count l =
      let e : 1 + (count - 1) ≡ count = omega arith in
      begins (count - 1) (omega arith) ∙ sym (all_block 1 (count - 1) (not_below fs first)) ∙ ap (λ (n : ℕ). all_below n (not_below fs first)) e

  -- no frame falls, and one where it is below itself
  pub rising_none : (count : ℕ) → count ≡ 0 → rising_in fs first count ≡ true
  unfolding rising_in
  rising_none count e = rw (e, all_none (not_below fs first))

  pub rising_one : (count : ℕ) → count ≡ 1 → rising_in fs first count ≡ le (get_or fs first nan) (get_or fs first nan)
  unfolding rising_in not_below
  rising_one count e = rw (e, all_suc 0 (not_below fs first), all_none (not_below fs first), add-zero)
