-- A tick that ends with a next name, and the call that reads the name (document 01, "Playing and editing": a tick answers "ended with a next name";
-- the Rust's tick returns that name): after such a tick `next_name` of the player's selection is the field that the sheet has for the animation
-- that ended. Assumes nothing.
use Rattle.std.specs.Prelude.{ℕ, ◌≡◌, refl, Bool, true, false, not, ◌&&◌, cond, List, eqb, ltb, Float}
use Rattle.std.proofs.Common.{◌∙◌, ap, arith, eqb-true}
use Rattle.laws.specs.Rows.{declines, passes, no_rows, first_held}
use Rattle.sheet.specs.Sizes.{animation_count}
use Rattle.sheet.specs.Sheet.{sheet_ok}
use Rattle.sheet.specs.Rows.{next_name}
use Rattle.player.specs.declared.Player.{Player}
use Rattle.player.specs.declared.Tick.TheVariants.{Idle, Running, Next}
use Rattle.edit.specs.Edit.{none}
use Rattle.player.specs.Player.{selection_ok}
use Rattle.player.specs.Sound.{sound}
use Rattle.player.specs.Parts.{View, view_of, with_view}
use Rattle.player.specs.View.{ticks, tick_sum, tick_ends, tick_frame, end_of, tick_view, tick_answer}
use Rattle.menu_checks.specs.Rows.{player_rows}
use Rattle.menu.specs.Rows.{tick_table, next_name_table}
use Rattle.menu.specs.Calls.{tick_of, next_name_of}

-- a name that is not declined is the sheet's field
pub next_name_is : (s : List ℕ) (a : ℕ) → sheet_ok s ≡ true → ltb a (animation_count s) ≡ true → next_name_of s a ≡ next_name s a
unfolding next_name_of next_name_table
next_name_is s a ok l = let e = passes 1 _ ok (passes 6 _ l no_rows) in rw (← e)

-- a tick leaves the selection
pub tick_selects : (s : List ℕ) (dt fps : Float) (v : View) → (tick_view s dt fps v).selection ≡ v.selection
unfolding tick_view
tick_selects s dt fps v = go (ticks v)
  where
    go : (b : Bool) →
        (cond b (record { selection = v.selection; playing = not (tick_ends s v.selection (tick_sum v dt fps)); preview = v.preview; frame = tick_frame s v.selection (tick_sum v dt fps) }) v).selection
        ≡ v.selection
    go true = refl
    go false = refl

-- a view whose tick ends with a next name has one of the animations selected
ends_selected : (s : List ℕ) (dt fps : Float) (v : View) → selection_ok s v.selection ≡ true → tick_answer s dt fps v ≡ Next → ltb v.selection (animation_count s) ≡ true
unfolding tick_answer ticks selection_ok
ends_selected s dt fps v k e = go (eqb v.selection none) refl e
  where
    go : (b : Bool) → eqb v.selection none ≡ b
        → cond (not b && v.playing) (cond (tick_ends s v.selection (tick_sum v dt fps)) (end_of s v.selection) Running) Idle ≡ Next → ltb v.selection (animation_count s) ≡ true
    go true q f = let z : ◌≡◌ {A = ℕ} 0 1 = cc in absurd (omega arith)
    go false q f = rw q at k

pub next_named : (s : List ℕ) (dt fps : Float) (v : View) → sheet_ok s ≡ true → selection_ok s v.selection ≡ true → tick_answer s dt fps v ≡ Next
    → next_name_of s (tick_view s dt fps v).selection ≡ next_name s v.selection
next_named s dt fps v ok k e = ap (next_name_of s) (tick_selects s dt fps v) ∙ next_name_is s v.selection ok (ends_selected s dt fps v k e)

-- of any sheet and player that the call is made with
pub next_after_tick : (s : List ℕ) (p : Player) (dt fps : Float) → (tick_of s p dt fps).answer ≡ Next
    → next_name_of s (tick_of s p dt fps).player.selection ≡ next_name s p.selection
unfolding tick_of tick_table
next_after_tick s p dt fps e = go (eqb (declines (tick_table s p dt fps)) 0) refl e
  where
    go : (b : Bool) → eqb (declines (tick_table s p dt fps)) 0 ≡ b → cond b (tick_answer s dt fps (view_of p)) Idle ≡ Next
        → next_name_of s (cond b (with_view p (tick_view s dt fps (view_of p))) p).selection ≡ next_name s p.selection
    go true q f =
        let h = (first_held (player_rows s p) _ tt (eqb-true _ 0 q)).0 in
        next_named s dt fps (view_of p) h.0 (sound s p h.1.0).selection f
    go false q f = let z : ◌≡◌ {A = ℕ} 0 1 = cc in absurd (omega arith)
