-- What the steps of undo, redo and an edit ask of the counts: none wraps. A player that is not broken gives it. Assumes nothing.
use Rattle.std.specs.Prelude.{◌≤◌}
use Rattle.player.specs.declared.Player.{Player}
use Rattle.player.specs.Journal.{rows}
use Rattle.player.specs.Player.{most}
use Rattle.player.specs.declared.undo.Way.{Way}
use Rattle.player.specs.declared.undo.Way.TheVariants.{Undo, Redo}

pub record CanUndo (p : Player) : Type 0 where
  pub reach : 1 ≤ p.reach
  pub standing : 1 ≤ p.standing
  pub redo : p.redo ≤ rows
  pub undone : p.undone ≤ most

pub record CanRedo (p : Player) : Type 0 where
  pub redo : 1 ≤ p.redo
  pub reach : p.reach ≤ rows
  pub redone : p.redone ≤ most
  pub standing : p.standing ≤ most

pub record CanEdit (p : Player) : Type 0 where
  pub reach : p.reach ≤ rows
  pub accepted : p.accepted ≤ most
  pub standing : p.standing ≤ most

abbrev pub CanTake : Way → Player → Type 0
CanTake Undo p = CanUndo p
CanTake Redo p = CanRedo p
