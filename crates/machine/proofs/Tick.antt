-- A tick keeps the player an image of the machine; where it ends with a next name, `next_name` answers the machine's. Assumes nothing.
use mathlib.Core.Path.{◌≡◌, refl}
use mathlib.Core.Bool.{Bool, true, false, not, ◌&&◌, ◌||◌, cond}
use mathlib.Core.List.{List}
use Prim.Native.Nat.{ℕ, zero, suc, ◌<◌, ◌^◌}
use native.Mathlib.Omega.{arith}
use lib.Dec.{eqb}
use lib.Ieee.{Float}
use Rattle.laws.specs.Rows.{declines, held_at, row_in}
use Rattle.laws.specs.Tests.{and_2}
use Rattle.float.specs.Numbers.{finite}
use Rattle.sheet.specs.Rows.{next_name}
use Rattle.sheet.specs.Sheet.{sheet_ok}
use Rattle.player.specs.declared.Tick.{Tick}
use Rattle.player.specs.declared.Tick.TheVariants.{Idle, Running, Ended, Next}
use Rattle.player.specs.declared.journal.Journal.{Journal}
use Rattle.player.specs.Parts.{View}
use Rattle.player.specs.View.{tick_view, tick_answer, ticks, tick_sum, tick_frame, tick_ends, tick_moves}
use Rattle.menu.specs.Rows.{tick_rows, tick_table}
use Rattle.menu.specs.Calls.{tick_of, next_name_of}
use Rattle.menu.specs.Named.{next_named}
use Rattle.machine.specs.Calls.{tick, Answer, ticked, State, on_next}
use Rattle.machine.specs.Plain.{Plain, keys_of, viewed, ticks_on}
use Rattle.machine.proofs.Invariant.{Seen, image, Good}
use Rattle.machine.proofs.Checks.{player_passes}
use Rattle.machine.proofs.Kept.{state_of, Kept, suc_not, viewed_good, later}

tick_seen : (s : List ℕ) (dt fps : Float) (v : View) → Seen s v → declines (tick_rows s v dt fps) ≡ 0 → Seen s (tick_view s dt fps v)
unfolding tick_rows tick_moves tick_view
tick_seen s dt fps v w e = go (ticks v) refl
  where
    finite_left : (b c d : Bool) → b ≡ true → (not b || c && d) ≡ true → d ≡ true
    finite_left b c d q h = and_2 c d (rw q at h)

    go : (b : Bool) → ticks v ≡ b →
        Seen s (cond b (record { selection = v.selection; playing = not (tick_ends s v.selection (tick_sum v dt fps)); preview = v.preview; frame = tick_frame s v.selection (tick_sum v dt fps) }) v)
    go true q =
        record {
          selection = w.selection;
          frame = finite_left (ticks v) (finite (tick_sum v dt fps)) (finite (tick_frame s v.selection (tick_sum v dt fps))) q (held_at 8 (tick_rows s v dt fps) (search row_in) tt e);
        }
    go false q = w

-- both sides name the same where a tick ends with a next name, and nothing where it doesn't
same_name : (t : Tick) (x y : List ℕ) → (t ≡ Next → x ≡ y) → on_next t x ≡ on_next t y
same_name Idle x y h = refl
same_name Running x y h = refl
same_name Ended x y h = refl
same_name Next x y h = h refl

module _ (s : List ℕ) (n : ℕ) (m : Plain) (j : Journal) (ok : sheet_ok s ≡ true) (few : n < 2 ^ 40) (g : Good s n m j) where
  pub tick_kept : (dt fps : Float) → Kept s n (tick dt fps) m j
  unfolding tick_of tick_table
  tick_kept dt fps =
      record {
        journal = j;
        same = rw (player_passes s n m j ok (omega arith) g (tick_rows s m.view dt fps)) (by_refusal (declines (tick_rows s m.view dt fps)));
        good = ticked_good (declines (tick_rows s m.view dt fps)) (tick_seen s dt fps m.view g.seen);
      }
    where
      v : View
      v = tick_view s dt fps m.view

      t : Tick
      t = tick_answer s dt fps m.view

      by_refusal : (k : ℕ) →
          ◌≡◌ {A = State × Answer} (
            record { player = cond (eqb k 0) (image s (viewed m v) j) (image s m j); keys = keys_of s m },
            ticked k (cond (eqb k 0) t Idle) (on_next (cond (eqb k 0) t Idle) (next_name_of s (cond (eqb k 0) (image s (viewed m v) j) (image s m j)).selection)),
          )
          (state_of s (ticks_on k s dt fps m).0 j, (ticks_on k s dt fps m).1)
      by_refusal zero = rw (same_name t (next_name_of s v.selection) (next_name s m.view.selection) (next_named s dt fps m.view ok g.seen.selection))
      by_refusal (suc k) = rw (suc_not k)

      ticked_good : (k : ℕ) → (k ≡ 0 → Seen s v) → Good s (suc n) (ticks_on k s dt fps m).0 j
      ticked_good zero w = viewed_good s n m j g v (w refl)
      ticked_good (suc k) w = later s n m j g
