-- Saving changes nothing, and writes the machine's keys. Assumes nothing.
use mathlib.Core.Path.{◌≡◌}
use mathlib.Core.List.{List}
use mathlib.Core.Bool.{true}
use Prim.Native.Nat.{ℕ, ◌<◌, ◌^◌}
use native.Mathlib.Omega.{arith}
use lib.ListN.{length}
use Rattle.sheet.specs.Sheet.{sheet_ok}
use Rattle.player.specs.declared.journal.Journal.{Journal}
use Rattle.menu.specs.Rows.{save_rows, save_table}
use Rattle.menu.specs.Calls.{written_by, save_of}
use Rattle.machine.specs.Calls.{save}
use Rattle.machine.specs.Plain.{Plain}
use Rattle.machine.proofs.Invariant.{Good}
use Rattle.machine.proofs.Checks.{state_passes}
use Rattle.machine.proofs.Kept.{Kept, later}

pub save_kept : (s : List ℕ) (n : ℕ) (m : Plain) (j : Journal) → sheet_ok s ≡ true → n < 2 ^ 40 → Good s n m j → (o : List ℕ) → Kept s n (save o) m j
unfolding save_of save_table written_by
save_kept s n m j ok few g o =
    record {
      journal = j;
      same = rw (state_passes s n m j ok (omega arith) g (save_rows s (length o)));
      good = later s n m j g;
    }
