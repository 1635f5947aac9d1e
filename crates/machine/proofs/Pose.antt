-- Pose keeps the player an image of the machine. Assumes nothing.
use mathlib.Core.Path.{◌≡◌, refl}
use mathlib.Core.Bool.{Bool, true, false, cond}
use mathlib.Core.List.{List}
use Prim.Native.Nat.{ℕ, ◌<◌, ◌^◌}
use native.Mathlib.Omega.{arith}
use lib.Dec.{eqb, ltb}
use lib.Ieee.{Float, of_bits}
use Rattle.laws.specs.Rows.{declines, held}
use Rattle.laws.specs.Tests.{or_right}
use Rattle.sheet.specs.Sizes.{animation_count}
use Rattle.sheet.specs.Sheet.{sheet_ok}
use Rattle.player.specs.declared.journal.Journal.{Journal}
use Rattle.edit.specs.Edit.{none}
use Rattle.player.specs.Player.{selection_ok}
use Rattle.player.specs.View.{pose_view}
use Rattle.player.specs.Parts.{no_view}
use Rattle.menu.specs.Rows.{pose_rows, pose_table}
use Rattle.menu.specs.Calls.{pose_of}
use Rattle.machine.specs.Calls.{pose}
use Rattle.machine.specs.Plain.{Plain}
use Rattle.machine.proofs.Invariant.{Seen, Good}
use Rattle.machine.proofs.Checks.{player_passes}
use Rattle.machine.proofs.Kept.{Kept, moved_good, moved}

pose_seen : (s : List ℕ) (a : ℕ) (x : Float) → declines (pose_rows x) ≡ 0 → Seen s (pose_view s a x)
unfolding pose_rows pose_view selection_ok of_bits
pose_seen s a x e = go (ltb a (animation_count s)) refl
  where
    go : (b : Bool) → ltb a (animation_count s) ≡ b → Seen s (cond b (record { selection = a; playing = false; preview = true; frame = x }) no_view)
    go true q = record { selection = or_right (eqb a none) (ltb a (animation_count s)) q; frame = (held (pose_rows x) tt e).0 }
    go false q = record { selection = refl; frame = refl }

pub pose_kept : (s : List ℕ) (n : ℕ) (m : Plain) (j : Journal) → sheet_ok s ≡ true → n < 2 ^ 40 → Good s n m j → (a : ℕ) (x : Float) → Kept s n (pose a x) m j
unfolding pose_of pose_table
pose_kept s n m j ok few g a x =
    let k = declines (pose_rows x) in
    record {
      journal = j;
      same = rw (player_passes s n m j ok (omega arith) g (pose_rows x)) (moved s k m j (pose_view s a x));
      good = moved_good s n m j g k (pose_view s a x) (pose_seen s a x);
    }
