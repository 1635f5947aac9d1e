-- A tick as one answer: what it says, and the player after it; and row 8's test of a playing tick. Assumes nothing.
use Rattle.std.specs.Prelude.{ℕ, ◌<◌, ◌≡◌, Bool, true, false, not, ◌&&◌, cond, List, eqb, pos, Float}
use Rattle.std.specs.Float.{binary32}
use Rattle.std.specs.Float.Ieee.{le, lt, rem, of_int}
use Rattle.std.proofs.lemmas.Bool.{eqb-false, not-true}
use Rattle.laws.specs.Tests.{and_1}
use Rattle.float.specs.Numbers.{zero', finite}
use Rattle.sheet.specs.Sizes.{animation_count}
use Rattle.sheet.specs.Checked.{Checked}
use Rattle.sheet.specs.declared.rows.Animation.{Animation}
use Rattle.player.specs.declared.Player.{Player}
use Rattle.player.specs.declared.Tick.{Tick}
use Rattle.player.specs.declared.Tick.TheVariants.{Ended, Next}
use Rattle.player.specs.declared.playing.Stepped.{Stepped}
use Rattle.edit.specs.Edit.{none}
use Rattle.player.specs.Parts.{view_of, with_view}
use Rattle.player.specs.View.{ticks, tick_sum, tick_frame, tick_moves, tick_view, tick_answer}

-- what the row of an animation says of a playing tick, for `count_of`, `wraps`, `tick_frame`, `tick_ends` and `end_of` of that animation
abbrev pub row_count : Animation → Float
row_count r = of_int binary32 (pos r.frames)

abbrev pub row_wraps : Animation → Bool
row_wraps r = r.looping && lt zero' (row_count r)

abbrev pub row_frame : Animation → Float → Float
row_frame r sum = cond (le (row_count r) sum) (cond (row_wraps r) (rem binary32 sum (row_count r)) (row_count r)) sum

abbrev pub row_ends : Animation → Float → Bool
row_ends r sum = le (row_count r) sum && not (row_wraps r)

abbrev pub row_end : Animation → Tick
row_end r = cond r.next Next Ended

abbrev pub stepped_of : List ℕ → Player → Float → Float → Stepped
stepped_of s p dt fps = record { answer = tick_answer s dt fps (view_of p); player = with_view p (tick_view s dt fps (view_of p)) }

-- a checked sheet, and a selection of it or none
pub record Selected (s : List ℕ) (p : Player) : Type 0 where
  pub sheet : Checked s
  pub selection : (p.selection ≡ none → ⊥) → p.selection < animation_count s

-- a playing tick has an animation of the sheet
pub tick_animation : {s : List ℕ} {p : Player} → Selected s p → ticks (view_of p) ≡ true → Checked s × (p.selection < animation_count s)
unfolding ticks
tick_animation {s} {p} w e =
    (w.sheet, w.selection (λ z. eqb-false p.selection none (not-true (eqb p.selection none) (and_1 (not (eqb p.selection none)) p.playing e)) z))

-- its test, from what the calls give; an idle tick passes
pub moves_is : (s : List ℕ) (p : Player) (dt fps : Float) {sum frame : Float} {a b : Bool} → ticks (view_of p) ≡ true → sum ≡ tick_sum (view_of p) dt fps → a ≡ finite sum
    → frame ≡ tick_frame s p.selection sum → b ≡ finite frame → (a && b) ≡ tick_moves s (view_of p) dt fps
unfolding tick_moves
moves_is s p dt fps t q a f b = rw (t, ← q, ← f, a, b)

pub idle_moves : (s : List ℕ) (p : Player) (dt fps : Float) → ticks (view_of p) ≡ false → true ≡ tick_moves s (view_of p) dt fps
unfolding tick_moves
idle_moves s p dt fps t = rw t
