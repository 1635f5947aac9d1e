-- What play, pose and tick move (document 01, "Playing and editing"): frame, playing, preview and selection, and nothing else. Assumes nothing.
use Rattle.std.specs.Prelude.{ℕ, Bool, true, false, not, ◌&&◌, ◌||◌, cond, List, eqb, ltb, pos, Float}
use Rattle.std.specs.Float.{binary32}
use Rattle.std.specs.Float.Ieee.{le, lt, rem, of_int}
use Rattle.float.specs.Numbers.{zero', ◌⊕◌, ◌⊗◌, finite}
use Rattle.sheet.specs.Sizes.{animation_count}
use Rattle.sheet.specs.Rows.{animation_row}
use Rattle.player.specs.declared.Tick.{Tick}
use Rattle.player.specs.declared.Tick.TheVariants.{Idle, Running, Ended, Next}
use Rattle.edit.specs.Edit.{none}
use Rattle.player.specs.Parts.{View, no_view}

-- Play: the animation from frame +0, playing, preview on; play of none does nothing.
unfoldable pub play_view : ℕ → View → View
play_view a v = cond (eqb a none) v (record { selection = a; playing = true; preview = true; frame = zero' })

-- Pose: the animation at the frame, not playing, preview on; pose of none, or from A up, clears the selection and sets frame to +0.
unfoldable pub pose_view : List ℕ → ℕ → Float → View
pose_view s a x = cond (ltb a (animation_count s)) (record { selection = a; playing = false; preview = true; frame = x }) no_view

-- ---- tick

-- a playing tick: something is selected, and plays
unfoldable pub ticks : View → Bool
ticks v = not (eqb v.selection none) && v.playing

-- frame + dt · fps
unfoldable pub tick_sum : View → Float → Float → Float
tick_sum v dt fps = v.frame ⊕ dt ⊗ fps

-- animation a's frame count
unfoldable pub count_of : List ℕ → ℕ → Float
count_of s a = of_int binary32 (pos (animation_row s a).frames)

-- at the frame count or past it, a looping animation of at least a frame goes on from the remainder, and any other ends at its frame count
unfoldable pub wraps : List ℕ → ℕ → Bool
wraps s a = (animation_row s a).looping && lt zero' (count_of s a)

unfoldable pub tick_frame : List ℕ → ℕ → Float → Float
tick_frame s a sum = cond (le (count_of s a) sum) (cond (wraps s a) (rem binary32 sum (count_of s a)) (count_of s a)) sum

unfoldable pub tick_ends : List ℕ → ℕ → Float → Bool
tick_ends s a sum = le (count_of s a) sum && not (wraps s a)

-- row 8: in a playing tick the sum, and the frame that it would leave, are finite
unfoldable pub tick_moves : List ℕ → View → Float → Float → Bool
tick_moves s v dt fps = not (ticks v) || finite (tick_sum v dt fps) && finite (tick_frame s v.selection (tick_sum v dt fps))

-- how an animation ends
unfoldable pub end_of : List ℕ → ℕ → Tick
end_of s a = cond (animation_row s a).next Next Ended

-- where a playing tick leaves the view, and what a tick answers
unfoldable pub tick_view : List ℕ → Float → Float → View → View
tick_view s dt fps v =
    cond (ticks v)
    (record { selection = v.selection; playing = not (tick_ends s v.selection (tick_sum v dt fps)); preview = v.preview; frame = tick_frame s v.selection (tick_sum v dt fps) })
    v

unfoldable pub tick_answer : List ℕ → Float → Float → View → Tick
tick_answer s dt fps v =
    cond (ticks v)
    (cond (tick_ends s v.selection (tick_sum v dt fps)) (end_of s v.selection) Running)
    Idle
