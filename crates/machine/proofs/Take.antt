-- An undo and a redo while a drag is open: 15, whatever they would take. Assumes nothing.
use mathlib.Core.Path.{◌≡◌}
use mathlib.Core.Bool.{true}
use mathlib.Core.List.{List}
use Prim.Native.Nat.{ℕ, ◌<◌, ◌^◌}
use native.Mathlib.Omega.{arith}
use Rattle.laws.specs.Rows.{unless, declines}
use Rattle.sheet.specs.Sheet.{sheet_ok}
use Rattle.player.specs.declared.journal.Journal.{Journal}
use Rattle.player.specs.declared.undo.Way.{Way}
use Rattle.player.specs.declared.undo.Way.TheVariants.{Undo, Redo}
use Rattle.player.specs.Undo.{take_fits, take_rows}
use Rattle.menu.specs.Rows.{take_table}
use Rattle.menu.specs.Calls.{take_of}
use Rattle.machine.specs.Calls.{undo, redo}
use Rattle.machine.specs.Plain.{is_open, Plain, standing_keys, keys_of}
use Rattle.machine.proofs.Invariant.{image, Good}
use Rattle.machine.proofs.Dragged.{open_is}
use Rattle.machine.proofs.Checks.{state_passes}
use Rattle.machine.proofs.Kept.{Kept, later}

module _ (s : List ℕ) (n : ℕ) (m : Plain) (j : Journal) (ok : sheet_ok s ≡ true) (few : n < 2 ^ 40) (g : Good s n m j) (o : is_open m.drag ≡ true) where
  taken_not : (way : Way) → take_of way s (image s m j) (keys_of s m) ≡ record { refusal = 15; player = image s m j; keys = keys_of s m }
  unfolding take_of take_table take_rows take_fits declines unless
  taken_not way = rw (state_passes s n m j ok (omega arith) g _, open_is s (standing_keys s m) m.drag, o)

  pub undo_shut : Kept s n undo m j
  unfolding declines unless
  undo_shut = record { journal = j; same = rw (taken_not Undo, o); good = rw o (later s n m j g) }

  pub redo_shut : Kept s n redo m j
  unfolding declines unless
  redo_shut = record { journal = j; same = rw (taken_not Redo, o); good = rw o (later s n m j g) }
