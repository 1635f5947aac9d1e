-- A reading changes nothing, and answers by the machine's view and keys. Assumes nothing.
use mathlib.Core.Path.{◌≡◌, refl}
use mathlib.Core.List.{List, ◌++◌}
use mathlib.Core.Bool.{true}
use Prim.Native.Nat.{ℕ, ◌<◌, ◌^◌}
use native.Mathlib.Omega.{arith}
use Rattle.laws.specs.Rows.{declines}
use Rattle.sheet.specs.Sheet.{sheet_ok}
use Rattle.player.specs.declared.Player.{Player}
use Rattle.player.specs.declared.journal.Journal.{Journal}
use Rattle.edit.specs.Keys.{Keys}
use Rattle.player.specs.Parts.{view_of}
use Rattle.menu_checks.specs.Rows.{reading_rows}
use Rattle.menu_readings.specs.Rows.{read_pane_table, read_material_table, read_all_table, resolve_pane_table, resolve_srt_table, texture_name_table, cascade_table}
use Rattle.menu_readings.specs.Readings.{read_pane_of, read_material_of, read_all_of, resolve_pane_of, resolve_srt_of, texture_name_of, cascade_of}
use Rattle.machine.specs.Asks.{Ask, pane_channel, material_channel, all, pane, layer, texture, cascade, ask_rows, ask_refusal, ask_table, tell_in, tell_of}
use Rattle.machine.specs.Calls.{ask}
use Rattle.machine.specs.Plain.{Plain, keys_of}
use Rattle.machine.proofs.Invariant.{image, Good}
use Rattle.machine.proofs.Checks.{reading_passes}
use Rattle.machine.proofs.Kept.{Kept, later}

-- a call's answer depends on the player by its view, and on all else by its refusal
pub tell_is : (s b : List ℕ) (p : Player) (ks : Keys) (q : Ask) → tell_of s b p ks q ≡ tell_in s b (view_of p) ks (declines (ask_table s b p ks q)) q
unfolding tell_of tell_in ask_table read_pane_of read_material_of read_all_of resolve_pane_of resolve_srt_of texture_name_of cascade_of
tell_is s b p ks (pane_channel i c) = refl
tell_is s b p ks (material_channel m c) = refl
tell_is s b p ks (all marks numbers) = refl
tell_is s b p ks (pane i) = refl
tell_is s b p ks (layer m k) = refl
tell_is s b p ks (texture m k) = refl
tell_is s b p ks (cascade visible alpha influence) = refl

-- its list is the rows that all readings share, and its own
pub ask_table_lem : (s b : List ℕ) (p : Player) (ks : Keys) (q : Ask) → ask_table s b p ks q ≡ reading_rows s b p ks ++ ask_rows b q
unfolding ask_table ask_rows read_pane_table read_material_table read_all_table resolve_pane_table resolve_srt_table texture_name_table cascade_table
ask_table_lem s b p ks (pane_channel i c) = refl
ask_table_lem s b p ks (material_channel m c) = refl
ask_table_lem s b p ks (all marks numbers) = refl
ask_table_lem s b p ks (pane i) = refl
ask_table_lem s b p ks (layer m k) = refl
ask_table_lem s b p ks (texture m k) = refl
ask_table_lem s b p ks (cascade visible alpha influence) = refl

pub ask_kept : (s : List ℕ) (n : ℕ) (m : Plain) (j : Journal) → sheet_ok s ≡ true → n < 2 ^ 40 → Good s n m j → (b : List ℕ) (q : Ask) → Kept s n (ask b q) m j
unfolding ask_refusal
ask_kept s n m j ok few g b q =
    record {
      journal = j;
      same = rw (tell_is s b (image s m j) (keys_of s m) q, ask_table_lem s b (image s m j) (keys_of s m) q, reading_passes s n m j ok (omega arith) g b (ask_rows b q));
      good = later s n m j g;
    }
