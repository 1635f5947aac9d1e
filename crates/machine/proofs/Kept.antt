-- What one call keeps: the player stays an image of the machine, and both answer the same; and what keeps it so where only the view moves, or nothing.
-- Assumes nothing.
use mathlib.Core.Path.{◌≡◌, refl}
use mathlib.Core.Bool.{false, cond}
use mathlib.Core.List.{List}
use Prim.Native.Nat.{ℕ, zero, suc, ◌-◌}
use native.Mathlib.Omega.{arith}
use borrow.Author.Tests.{ne_eqb}
use lib.Dec.{eqb}
use Rattle.player.specs.declared.journal.Journal.{Journal}
use Rattle.player.specs.Parts.{View}
use Rattle.machine.specs.Calls.{Call, Answer, number, State, step_p}
use Rattle.machine.specs.Plain.{Plain, keys_of, viewed, moves, step_m}
use Rattle.machine.proofs.Invariant.{Seen, image, Good}

-- the player with its keys that stands for the machine
abbrev pub state_of : List ℕ → Plain → Journal → State
state_of s m j = record { player = image s m j; keys = keys_of s m }

-- one call keeps it so
pub record Kept (s : List ℕ) (n : ℕ) (c : Call) (m : Plain) (j : Journal) : Type 0 where
  pub journal : Journal
  pub same : step_p s c (state_of s m j) ≡ (state_of s (step_m s c m).0 journal, (step_m s c m).1)
  pub good : Good s (suc n) (step_m s c m).0 journal

pub suc_not : (k : ℕ) → eqb (suc k) 0 ≡ false
suc_not k = ne_eqb (suc k) 0 (λ e. omega arith)

pub less_one : (n : ℕ) → suc n - 1 ≡ n
less_one n = omega arith

module _ (s : List ℕ) (n : ℕ) (m : Plain) (j : Journal) (g : Good s n m j) where
  -- another view
  pub viewed_good : (v : View) → Seen s v → Good s (suc n) (viewed m v) j
  viewed_good v w =
      record { whole = g.whole; sane = g.sane; drag = g.drag; seen = w; back = g.back; fore = g.fore; room = g.room; below = g.below; sums = g.sums; few = omega arith }

  -- nothing
  pub later : Good s (suc n) m j
  later = record { whole = g.whole; sane = g.sane; drag = g.drag; seen = g.seen; back = g.back; fore = g.fore; room = g.room; below = g.below; sums = g.sums; few = omega arith }

  pub moved_good : (k : ℕ) (v : View) → (k ≡ 0 → Seen s v) → Good s (suc n) (moves k m v).0 j
  moved_good zero v w = viewed_good v (w refl)
  moved_good (suc k) v w = later

-- the two sides of a call that moves the view, by its refusal
pub moved : (s : List ℕ) (k : ℕ) (m : Plain) (j : Journal) (v : View) →
    ◌≡◌ {A = State × Answer}
    (record { player = cond (eqb k 0) (image s (viewed m v) j) (image s m j); keys = keys_of s m }, number k)
    (state_of s (moves k m v).0 j, (moves k m v).1)
moved s zero m j v = refl
moved s (suc k) m j v = rw (suc_not k)
