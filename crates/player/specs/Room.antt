-- No more edits can be undone and redone than the journal has rows: 128 together at most, so reach alone too. Assumes nothing.
use Rattle.std.specs.Prelude.{ℕ, ◌+◌, ◌≤◌, ◌≡◌, List}
use Rattle.std.proofs.Common.{arith}
use Rattle.laws.specs.Tests.{above_zero}
use Rattle.laws.specs.Rows.{declines, held}
use Rattle.edit.specs.Keys.{Keys}
use Rattle.player.specs.declared.Player.{Player}
use Rattle.player.specs.declared.journal.Entry.{Entry}
use Rattle.player.specs.declared.undo.Way.{Way}
use Rattle.player.specs.declared.undo.Way.TheVariants.{Undo, Redo}
use Rattle.player.specs.Journal.{rows}
use Rattle.player.specs.Edited.{edited_player}
use Rattle.player.specs.Undo.{take_rows, undone_player, redone_player, taken_player}
use Rattle.player.specs.Sound.{Sound}

-- after an edit, which empties redo
pub edited_room : (p : Player) (e : Entry) → (edited_player p e).reach + (edited_player p e).redo ≤ rows
unfolding edited_player
edited_room p e = omega arith

-- after an undo and a redo, which move one edit between the two
pub taken_room : {s : List ℕ} {p : Player} → Sound s p → (ks : Keys) (way : Way) → declines (take_rows way s p ks) ≡ 0 → (taken_player way p).reach + (taken_player way p).redo ≤ rows
unfolding take_rows undone_player redone_player
taken_room {s} {p} w ks Undo e = omega (arith, w.counts.room, above_zero p.reach (held (take_rows Undo s p ks) tt e).1.1.0)
taken_room {s} {p} w ks Redo e = omega (arith, w.counts.room, above_zero p.redo (held (take_rows Redo s p ks) tt e).1.1.0)
