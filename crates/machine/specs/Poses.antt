-- Document 01, "Known poses" and its misreadings: one table, in that section's order. Each row names what is computed (specs/Computed) and what it must
-- be. Behind them stand cases of "Playing and editing" and "Channels", and of document 02, in which the player and the plain machine use the same
-- definition, so that the claim over lists can't notice a wrong one. Definitions only.
use Rattle.std.specs.Prelude.{ℕ, Bool, true, false, ◌&&◌, List, [], ◌∷◌, ◌++◌, map, eqb, replicate, Float}
use Rattle.std.specs.Float.{nan}
use Rattle.float.specs.Numbers.{zero', minus_zero}
use Rattle.curve.specs.Curve.{kind_constant, kind_step, kind_hermite}
use Rattle.edit.specs.declared.request.Request.TheVariants as request
use Rattle.edit.specs.Edit.{none}
use Rattle.menu.specs.Calls.{play_of}
use Rattle.machine.specs.Calls.{Call, edit, undo, redo, open_drag, drag, drop_drag, abandon_drag}
use Rattle.machine.specs.Small.{over, below, minus, whole, name}
use Rattle.machine.specs.Computed.{bits, played, viewing, visible, influences, read_pane, read_material, key, visible_channel, white_red, moves, still, shows, colours, curve_at, tick_at, play_from5, pose_from5, tick_on, end_from, read_by, edit_to, slopes, save_into, answered, left, dragged, uv_under, top_left, child_alpha}

-- ---- the table

-- what is computed, and what it must be
pub record Pose : Type 0 where
  pub computed : List ℕ
  pub stated : List ℕ

infix 68 ◌gives◌
abbrev pub ◌gives◌ : List ℕ → List ℕ → Pose
computed gives stated = record { computed = computed; stated = stated }

-- accepted, and read as a number; a frame that runs on, and one that ended
abbrev pub number : Float → List ℕ
number x = 0 ∷ 1 ∷ bits x ∷ []

abbrev pub running : Float → List ℕ
running x = 0 ∷ 1 ∷ bits x ∷ []

abbrev pub ended : Float → List ℕ
ended x = 0 ∷ 2 ∷ bits x ∷ []

-- accepted, with these numbers
abbrev pub accepted : List Float → List ℕ
accepted xs = 0 ∷ map bits xs

-- a view as `seen` has it: nothing selected, not playing, preview off, frame +0; and one of animation 0 or of none
abbrev pub cleared : List ℕ
cleared = none ∷ 0 ∷ 0 ∷ bits zero' ∷ []

abbrev pub view_on : ℕ → ℕ → ℕ → Float → List ℕ
view_on selection plays preview x = selection ∷ plays ∷ preview ∷ bits x ∷ []

abbrev pub nothing : List ℕ
nothing = 0 ∷ 0 ∷ []

abbrev pub hidden : List ℕ
hidden = 0 ∷ 2 ∷ 0 ∷ []

abbrev pub level : ℕ → List ℕ
level l = 0 ∷ 4 ∷ l ∷ []

-- two keys at these frames with these values and the slopes of `slopes`, after such counts
abbrev pub keyed : List Float → List Float → List ℕ
keyed fs vs = map bits fs ++ map bits vs ++ map bits (whole 3 ∷ minus 2 ∷ [])

-- an edit that is made, and one that is unchanged
abbrev pub made : List ℕ
made = 0 ∷ 0 ∷ []

abbrev pub unchanged : List ℕ
unchanged = 0 ∷ 1 ∷ []

-- key 0 is asked for a frame and a value, and for a slope
abbrev pub key_to : Float → Float → Call
key_to x v = edit 0 0 (request.Key x v)

abbrev pub slope_to : Float → Call
slope_to m = edit 0 0 (request.Slope m)

-- a curve of one key at frame +0, with slope +0
abbrev pub only : ℕ → Float → List ℕ
only curve v = moves curve (key zero' v zero' ∷ [])

-- document 02, 4/13
unfoldable pub returned : List Pose
returned =
    -- Return pressed on a key: unchanged. Another value or another slope: made.
    answered (slopes zero' (whole 1)) (key_to zero' (whole 1) ∷ key_to zero' (whole 2) ∷ slope_to (whole 3) ∷ slope_to (whole 2) ∷ []) gives (unchanged ++ made ++ unchanged ++ made)
    -- −0 and +0 differ, but a Step value's zero is +0. A Step value becomes a whole number, a Constant keeps its frame.
    ∷ answered (only kind_hermite zero') (key_to zero' minus_zero ∷ key_to zero' minus_zero ∷ slope_to minus_zero ∷ []) gives (made ++ unchanged ++ made)
    ∷ answered (only kind_step zero') (key_to zero' minus_zero ∷ key_to zero' (over 2 5) ∷ key_to zero' (over 3 5) ∷ []) gives (unchanged ++ unchanged ++ made)
    ∷ answered (only kind_constant (whole 7)) (key_to (whole 40) (whole 7) ∷ key_to (whole 40) (whole 6) ∷ []) gives (unchanged ++ made)
    -- The clamped frame is compared: below 0, and beyond the next key's.
    ∷ answered (slopes zero' (whole 1)) (key_to (minus 4) (whole 1) ∷ key_to (whole 9) (whole 1) ∷ key_to (whole 100) (whole 1) ∷ []) gives (unchanged ++ made ++ unchanged)
    -- Refusals come first.
    ∷ answered (only kind_step zero') (key_to zero' nan ∷ slope_to zero' ∷ []) gives (8 ∷ 0 ∷ 10 ∷ 0 ∷ [])
    -- Five undos, return on a key, five redos: all five come back.
    ∷ left (slopes zero' (whole 1))
    (key_to zero' (whole 2) ∷ key_to zero' (whole 3) ∷ key_to zero' (whole 4) ∷ key_to zero' (whole 5) ∷ key_to zero' (whole 6)
    ∷ undo ∷ undo ∷ undo ∷ undo ∷ undo ∷ key_to zero' (whole 1) ∷ redo ∷ redo ∷ redo ∷ redo ∷ redo ∷ [])
    gives ((5 ∷ 0 ∷ 5 ∷ 5 ∷ 5 ∷ 5 ∷ 0 ∷ []) ++ keyed (zero' ∷ whole 8 ∷ []) (whole 6 ∷ whole 16 ∷ []))
    -- A drop on the starting bits is unchanged, counts nothing and keeps redo, and so is one with no accepted drag; a drag is compared with the key as it is now.
    ∷ answered (slopes zero' (whole 1)) (open_drag 0 0 ∷ drag zero' (whole 1) ∷ drag (whole 4) (whole 9) ∷ drag (whole 4) (whole 9) ∷ drag zero' (whole 1) ∷ drop_drag ∷ open_drag 0 0 ∷ drop_drag ∷ drop_drag ∷ [])
    gives (unchanged ++ made ++ unchanged ++ made ++ unchanged ++ unchanged ++ (15 ∷ 0 ∷ []))
    ∷ dragged (drag (whole 4) (whole 9) ∷ drag zero' (whole 1) ∷ drop_drag ∷ []) gives ((0 ∷ 1 ∷ 1 ∷ 1 ∷ 0 ∷ 0 ∷ 0 ∷ []) ++ keyed (zero' ∷ whole 8 ∷ []) (whole 1 ∷ whole 16 ∷ []))
    ∷ []

-- cases that the player and the plain machine share
unfoldable pub shared : List Pose
shared =
    -- Play as the Rust: from frame +0, playing, preview on; play of none does nothing; play from A up is declined by 6.
    play_from5 0 gives (0 ∷ view_on 0 1 1 zero')
    ∷ played (play_of (still 0) (viewing none false false (whole 5)) 0) gives (0 ∷ view_on 0 1 1 zero')
    ∷ play_from5 none gives (0 ∷ view_on 0 0 1 (whole 5))
    ∷ play_from5 1 gives (6 ∷ view_on 0 0 1 (whole 5))
    -- Pose: at the frame, not playing, preview on. Pose from A up clears the selection and sets frame to +0, as does pose of none.
    ∷ pose_from5 0 (whole 7) gives (0 ∷ view_on 0 0 1 (whole 7))
    ∷ pose_from5 none (whole 7) gives (0 ∷ cleared)
    ∷ pose_from5 1 (whole 7) gives (0 ∷ cleared)
    ∷ pose_from5 65534 (whole 7) gives (0 ∷ cleared)
    -- With nothing active, or preview off, nothing is overridden.
    ∷ read_by (viewing 0 false true zero') gives number (whole 7)
    ∷ read_by (viewing 0 false false zero') gives nothing
    ∷ read_by (viewing none false true zero') gives nothing
    -- Idle: nothing selected or not playing; only its arguments are checked, nothing moves.
    ∷ tick_on (still 0) (viewing none true true (whole 5)) (over 1 2) gives (0 ∷ 0 ∷ view_on none 1 1 (whole 5))
    ∷ tick_on (still 0) (viewing 0 false true (whole 5)) (over 1 2) gives (0 ∷ 0 ∷ view_on 0 0 1 (whole 5))
    ∷ tick_on (still 0) (viewing 0 false true (whole 5)) nan gives (8 ∷ 0 ∷ view_on 0 0 1 (whole 5))
    -- Running: preview stays as it is. Ended: at the frame count, no longer playing.
    ∷ tick_on (still 1) (viewing 0 true false (whole 2)) (over 1 2) gives (0 ∷ 1 ∷ view_on 0 1 0 (whole 6))
    ∷ tick_on (still 0) (viewing 0 true true (whole 58)) (over 1 2) gives (0 ∷ 2 ∷ view_on 0 0 1 (whole 60))
    -- Ended with a next name: that of the animation that ended, all 24 bytes of it.
    ∷ end_from (whole 58) gives ((0 ∷ 3 ∷ view_on 1 0 1 (whole 60)) ++ name 5)
    -- Document 02, 1/13: a saved sheet is laid out as one that has the edited key; a buffer of another length is declined by 14, and left.
    ∷ save_into (slopes zero' (whole 1)) (replicate 106 0) gives (0 ∷ slopes (whole 4) (over 1 2))
    ∷ save_into (slopes zero' (whole 1)) (replicate 105 7) gives (14 ∷ replicate 105 7)
    -- Document 02, 2/13: while a drag is open, the key is where it is and nothing is counted. A drop is one edit, and redo is emptied; one undo gives the
    -- key of the opening back. A drop with no accepted drag, and an abandonment, count nothing and keep redo.
    ∷ dragged (drag (whole 4) (over 1 2) ∷ []) gives ((0 ∷ 1 ∷ 1 ∷ 1 ∷ 0 ∷ 0 ∷ 1 ∷ []) ++ keyed (whole 4 ∷ whole 8 ∷ []) (over 1 2 ∷ whole 16 ∷ []))
    ∷ dragged (drag (whole 2) (whole 9) ∷ drag (whole 4) (over 1 2) ∷ drop_drag ∷ [])
    gives ((1 ∷ 0 ∷ 2 ∷ 1 ∷ 0 ∷ 1 ∷ 0 ∷ []) ++ keyed (whole 4 ∷ whole 8 ∷ []) (over 1 2 ∷ whole 16 ∷ []))
    ∷ dragged (drag (whole 2) (whole 9) ∷ drag (whole 4) (over 1 2) ∷ drop_drag ∷ undo ∷ [])
    gives ((0 ∷ 1 ∷ 2 ∷ 2 ∷ 0 ∷ 0 ∷ 0 ∷ []) ++ keyed (zero' ∷ whole 8 ∷ []) (whole 1 ∷ whole 16 ∷ []))
    ∷ dragged (drop_drag ∷ []) gives ((0 ∷ 1 ∷ 1 ∷ 1 ∷ 0 ∷ 0 ∷ 0 ∷ []) ++ keyed (zero' ∷ whole 8 ∷ []) (whole 1 ∷ whole 16 ∷ []))
    ∷ dragged (drag (whole 4) (over 1 2) ∷ abandon_drag ∷ []) gives ((0 ∷ 1 ∷ 1 ∷ 1 ∷ 0 ∷ 0 ∷ 0 ∷ []) ++ keyed (zero' ∷ whole 8 ∷ []) (whole 1 ∷ whole 16 ∷ []))
    -- The remainder has the dividend's sign and is taken at the frame count or past it alone: a negative dt leaves frames below 0 as they are.
    ∷ tick_on (still 1) (viewing 0 true true (whole 2)) (below 1 2) gives (0 ∷ 1 ∷ view_on 0 1 1 (minus 2))
    ∷ tick_on (still 0) (viewing 0 true true (whole 2)) (below 1 2) gives (0 ∷ 1 ∷ view_on 0 1 1 (minus 2))
    ∷ tick_on (still 1) (viewing 0 true true (whole 130)) (below 1 2) gives (0 ∷ 1 ∷ view_on 0 1 1 (whole 6))
    ∷ returned

unfoldable pub poses : List Pose
poses =
    -- Keys (0,0,0),(8,16,0): frame 4 gives 8, frame 2 gives 2.5.
    curve_at kind_hermite (key zero' zero' zero' ∷ key (whole 8) (whole 16) zero' ∷ []) (whole 4) gives number (whole 8)
    ∷ curve_at kind_hermite (key zero' zero' zero' ∷ key (whole 8) (whole 16) zero' ∷ []) (whole 2) gives number (over 5 2)
    -- (0,1,2),(4,5,−2) at 2: 5.
    ∷ curve_at kind_hermite (key zero' (whole 1) (whole 2) ∷ key (whole 4) (whole 5) (minus 2) ∷ []) (whole 2) gives number (whole 5)
    -- No keys: 0.
    ∷ curve_at kind_constant [] (whole 3) gives number zero'
    ∷ curve_at kind_step [] (whole 3) gives number zero'
    ∷ curve_at kind_hermite [] (whole 3) gives number zero'
    -- Step 10→7, frame 3: 7.
    ∷ curve_at kind_step (key (whole 10) (whole 7) zero' ∷ []) (whole 3) gives number (whole 7)
    -- Constant 4, 6 at 9.9: 6; at −1: 4.
    ∷ curve_at kind_constant (key zero' (whole 4) zero' ∷ key zero' (whole 6) zero' ∷ []) (over 99 10) gives number (whole 6)
    ∷ curve_at kind_constant (key zero' (whole 4) zero' ∷ key zero' (whole 6) zero' ∷ []) (minus 1) gives number (whole 4)
    -- Frame 58, dt 0.5, fps 8, count 60: looping 2, else 60 and ended.
    ∷ tick_at (still 1) (whole 58) (over 1 2) (whole 8) gives running (whole 2)
    ∷ tick_at (still 0) (whole 58) (over 1 2) (whole 8) gives ended (whole 60)
    -- Looping 60 of 60: 0.
    ∷ tick_at (still 1) (whole 58) (over 1 4) (whole 8) gives running zero'
    -- Key 0, next 5, edit −4: 0.
    ∷ edit_to (moves kind_hermite (key (whole 2) (whole 1) zero' ∷ key (whole 5) (whole 3) zero' ∷ [])) (minus 4) gives accepted (zero' ∷ whole 5 ∷ [])
    -- UV (1,0), translate (0.25,0), rotate 0, scale (2,1): (1.75,0).
    ∷ uv_under (over 1 4 ∷ zero' ∷ zero' ∷ whole 2 ∷ whole 1 ∷ []) (whole 1) zero' gives accepted (over 7 4 ∷ zero' ∷ [])
    -- Centre (10,20), size (4,2), Center: top left (8,19); Left, Top: (10,20).
    ∷ top_left 0 0 gives accepted (whole 8 ∷ whole 19 ∷ [])
    ∷ top_left 1 1 gives accepted (whole 10 ∷ whole 20 ∷ [])
    -- Parent and child alpha 0.5: child 0.25, or 0.5 if the parent's bit 1 is off.
    ∷ child_alpha influences gives accepted (over 1 4 ∷ [])
    ∷ child_alpha visible gives accepted (over 1 2 ∷ [])
    -- Misreadings: rounding the visible value (0.9 hides);
    ∷ read_pane (shows (over 9 10)) zero' visible_channel gives hidden
    -- taking the last of two equal frames at a Hermite start (it is the first);
    ∷ curve_at kind_hermite (key (whole 2) (whole 3) zero' ∷ key (whole 2) (whole 5) zero' ∷ key (whole 6) (whole 9) zero' ∷ []) (whole 2) gives number (whole 3)
    -- holding Color0..Color4 in places of their own. (Their reds are the raw numbers 8, 12, .. 24; all stand in white's place.)
    ∷ read_material (colours 8) zero' white_red gives level 7
    ∷ read_material (colours 12) zero' white_red gives level 7
    ∷ read_material (colours 16) zero' white_red gives level 7
    ∷ read_material (colours 20) zero' white_red gives level 7
    ∷ read_material (colours 24) zero' white_red gives level 7
    ∷ shared

unfoldable pub same : List ℕ → List ℕ → Bool
same [] [] = true
same [] (y ∷ ys) = false
same (x ∷ xs) [] = false
same (x ∷ xs) (y ∷ ys) = eqb x y && same xs ys

-- each row of a table is as stated
unfoldable pub right : List Pose → Bool
right [] = true
right (p ∷ ps) = same p.computed p.stated && right ps
