-- Rows 1, 3, 4 and 5 decline no call on an image of the machine. Assumes nothing.
use mathlib.Core.Path.{◌≡◌, refl, ◌∙◌, ap}
use mathlib.Core.Bool.{Bool, true, false}
use mathlib.Core.List.{List, [], ◌∷◌, ◌++◌}
use Prim.Native.Nat.{ℕ, ◌+◌, ◌-◌, ◌≤◌, ◌<◌, ◌^◌}
use native.Mathlib.Omega.{arith}
use borrow.Author.Tests.{le-leb, eq-eqb, leb-true, leb-false}
use lib.Dec.{leb}
use lib.ListN.{length}
use Rattle.laws.specs.Rows.{Row, row, unless, declines, joined}
use Rattle.laws.specs.Below.{all_below, all_of}
use Rattle.sheet.specs.Sheet.{sheet_ok}
use Rattle.player.specs.declared.journal.Journal.{Journal}
use Rattle.player.specs.Journal.{row_of, rows}
use Rattle.player.specs.Player.{entry_ok, used_ok, counts_ok, player_ok, most}
use Rattle.player.specs.Drag.{drag_fits}
use Rattle.book.specs.Book.{book_ok}
use Rattle.menu_checks.specs.Rows.{array_rows, broken_rows, player_rows, state_rows, reading_rows}
use Rattle.machine.specs.Plain.{Plain, standing_keys, keys_of}
use Rattle.machine.proofs.Invariant.{Sane, Good, drag_image, image, back_ok, fore_ok}
use Rattle.machine.proofs.Dragged.{held_sane, drag_ok_lem, drag_fits_lem}

module _ (s : List ℕ) (n : ℕ) (m : Plain) (j : Journal) (ok : sheet_ok s ≡ true) (few : n ≤ 2 ^ 40) (g : Good s n m j) where
  counts : counts_ok m.reach (length m.redo) m.accepted m.undone m.redone (length m.standing) ≡ true
  unfolding counts_ok
  counts =
      rw (
        le-leb (m.reach + length m.redo) rows g.room,
        le-leb m.reach (length m.standing) g.below,
        le-leb m.accepted most (omega arith),
        le-leb m.undone most (omega arith),
        le-leb m.redone most (omega arith),
        le-leb (length m.standing) most (omega arith),
        eq-eqb (m.accepted + m.redone) (m.undone + length m.standing) g.sums,
      )

  used : all_below (m.reach + length m.redo) (used_ok s j (length m.standing - m.reach)) ≡ true
  unfolding used_ok
  used = all_of _ (used_ok s j (length m.standing - m.reach)) each
    where
      side : (i : ℕ) (b : Bool) → leb m.reach i ≡ b → i < m.reach + length m.redo → entry_ok s (row_of j (length m.standing - m.reach + i)) ≡ true
      side i true e l = fore_ok s j m.loaded m.standing m.redo _ g.fore (omega (arith, leb-true m.reach i e)) (omega (arith, leb-true m.reach i e))
      side i false e l = back_ok s j m.loaded m.standing m.reach _ g.back (omega arith) (omega (arith, leb-false m.reach i e))

      each : (i : ℕ) → i < m.reach + length m.redo → entry_ok s (row_of j (length m.standing - m.reach + i)) ≡ true
      each i l = side i (leb m.reach i) refl l

  pub player_ok_lem : player_ok s (image s m j) ≡ true
  unfolding player_ok
  player_ok_lem = rw (g.seen.selection, g.seen.frame, counts, used, drag_ok_lem s (standing_keys s m) m.drag g.drag)

  now_sane : Sane s (keys_of s m)
  now_sane = held_sane s (standing_keys s m) m.drag g.sane g.drag

  back_fits : drag_fits s (keys_of s m) (drag_image s (standing_keys s m) m.drag) ≡ true
  back_fits = drag_fits_lem s (standing_keys s m) m.drag g.sane

  -- so what a call's own rows say decides
  pub player_passes : (own : List Row) → declines (player_rows s (image s m j) ++ own) ≡ declines own
  player_passes own = joined (player_rows s (image s m j)) own (ok, (player_ok_lem, tt))

  pub state_passes : (own : List Row) → declines (state_rows s (image s m j) (keys_of s m) ++ own) ≡ declines own
  state_passes own = joined (state_rows s (image s m j) (keys_of s m)) own (ok, (now_sane.long, (now_sane.rules, (player_ok_lem, (back_fits, tt)))))

  -- a reading is declined by what it alone looks at: the book, and its own rows
  pub reading_passes : (b : List ℕ) (own : List Row) → declines (reading_rows s b (image s m j) (keys_of s m) ++ own) ≡ declines (row 2 (book_ok b) ∷ own)
  unfolding declines
  reading_passes b own =
      let behind = array_rows s (keys_of s m) ++ broken_rows s (image s m j) (keys_of s m) in
      joined (row 1 (sheet_ok s) ∷ []) (row 2 (book_ok b) ∷ (behind ++ own)) (ok, tt) ∙
      ap (unless (book_ok b) 2) (joined behind own (now_sane.long, (now_sane.rules, (player_ok_lem, (back_fits, tt)))))
