-- Play keeps the player an image of the machine. Assumes nothing.
use mathlib.Core.Path.{◌≡◌, refl}
use mathlib.Core.Bool.{Bool, true, false, cond}
use mathlib.Core.List.{List}
use Prim.Native.Nat.{ℕ, ◌<◌, ◌^◌}
use native.Mathlib.Omega.{arith}
use lib.Dec.{eqb}
use lib.Ieee.{of_bits}
use Rattle.laws.specs.Rows.{declines, held}
use Rattle.float.specs.Numbers.{zero'}
use Rattle.sheet.specs.Sheet.{sheet_ok}
use Rattle.player.specs.declared.journal.Journal.{Journal}
use Rattle.edit.specs.Edit.{none}
use Rattle.player.specs.Player.{selection_ok}
use Rattle.player.specs.Parts.{View}
use Rattle.player.specs.View.{play_view}
use Rattle.menu.specs.Rows.{play_rows, play_table}
use Rattle.menu.specs.Calls.{play_of}
use Rattle.machine.specs.Calls.{play}
use Rattle.machine.specs.Plain.{Plain}
use Rattle.machine.proofs.Invariant.{Seen, Good}
use Rattle.machine.proofs.Checks.{player_passes}
use Rattle.machine.proofs.Kept.{Kept, moved_good, moved}

-- a play that is not declined leaves a view that the next call may find
play_seen : (s : List ℕ) (a : ℕ) (v : View) → Seen s v → declines (play_rows s a) ≡ 0 → Seen s (play_view a v)
unfolding play_rows play_view selection_ok of_bits
play_seen s a v w e = go (eqb a none) refl
  where
    go : (b : Bool) → eqb a none ≡ b → Seen s (cond b v (record { selection = a; playing = true; preview = true; frame = zero' }))
    go true q = w
    go false q = record { selection = (held (play_rows s a) tt e).0; frame = refl }

pub play_kept : (s : List ℕ) (n : ℕ) (m : Plain) (j : Journal) → sheet_ok s ≡ true → n < 2 ^ 40 → Good s n m j → (a : ℕ) → Kept s n (play a) m j
unfolding play_of play_table
play_kept s n m j ok few g a =
    let k = declines (play_rows s a) in
    record {
      journal = j;
      same = rw (player_passes s n m j ok (omega arith) g (play_rows s a)) (moved s k m j (play_view a m.view));
      good = moved_good s n m j g k (play_view a m.view) (play_seen s a m.view g.seen);
    }
