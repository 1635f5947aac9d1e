-- An edit keeps the player an image of the machine. Assumes nothing.
use mathlib.Core.Path.{◌≡◌, refl}
use mathlib.Core.Bool.{Bool, true, false, false≢true}
use mathlib.Core.List.{List}
use Prim.Native.Nat.{ℕ, zero, suc, ◌+◌, ◌<◌, ◌^◌, min}
use native.Mathlib.Omega.{arith}
use native.Mathlib.Numerals.{add-one}
use lib.ListN.{length}
use Rattle.laws.specs.Rows.{declines, first_held, hold_at, held_at, row_in}
use Rattle.sheet.specs.Sheet.{sheet_ok}
use Rattle.player.specs.declared.journal.Journal.{Journal}
use Rattle.edit.specs.declared.request.Request.{Request}
use Rattle.edit.specs.Keys.{Keys}
use Rattle.player.specs.Journal.{with_row, row_same, whole_write, rows}
use Rattle.edit.specs.Edit.{Edit, spot_of, unchanged, made_edit, request_rows, track_rows, edit_rows}
use Rattle.edit.specs.Accepted.{HeldRequest, accepted_key}
use Rattle.player.specs.Edited.{edited_player}
use Rattle.menu.specs.Rows.{edit_table}
use Rattle.menu.specs.Calls.{entry_for, edit_of}
use Rattle.machine.specs.Calls.{edit}
use Rattle.machine.specs.Plain.{Dragging, closed, opened, dragged, is_open, Plain, replay, standing_keys, keys_of, appended, asked, holding}
use Rattle.machine.proofs.Invariant.{Fair, drag_image, Good, less, kept}
use Rattle.machine.proofs.Dragged.{open_is}
use Rattle.machine.proofs.Checks.{state_passes}
use Rattle.machine.proofs.Allows.{allows}
use Rattle.machine.proofs.Kept.{Kept, suc_not, later}

module _ (s : List ℕ) (n : ℕ) (m : Plain) (j : Journal) (g : Good s n m j) where
  -- an edit is appended: its row is written, and the rows of the newest 127 before it stay
  pub append_good : (e : Edit) → Fair s (standing_keys s m) e → unchanged s (standing_keys s m) e.track e.key e.request ≡ false
      → Good s (suc n) (appended m e) (with_row j (length m.standing) (entry_for s (standing_keys s m) e.track e.key e.request))
  unfolding replay
  append_good e f u =
      let k = length m.standing in
      let x = entry_for s (standing_keys s m) e.track e.key e.request in
      let grows : min (m.reach + 1) rows ≡ suc (min m.reach 127) = omega arith in
      record {
        whole = whole_write j k x g.whole;
        sane = f.made;
        drag = tt;
        seen = g.seen;
        back =
            rw grows (
              record { is = row_same j k x g.whole; fair = f; changed = u },
              kept s j m.loaded k x m.standing (min m.reach 127) (omega arith) (omega arith)
                  (less s j m.loaded m.standing m.reach (min m.reach 127) (omega arith) g.back),
            );
        fore = tt;
        room = omega arith;
        below = omega arith;
        sums = omega arith;
        few = omega arith;
      }

-- nothing is opened or edited while a drag is open: row 15, if not row 6
pub none_opened : (s : List ℕ) (selection track key : ℕ) → declines (track_rows s selection true track key) ≡ 0 → ⊥
unfolding track_rows
none_opened s selection track key e = false≢true (held_at 15 (track_rows s selection true track key) (search row_in) tt e)

none_edited : (s : List ℕ) (selection : ℕ) (ks : Keys) (track key : ℕ) (r : Request) → declines (edit_rows s selection true ks track key r) ≡ 0 → ⊥
unfolding edit_rows track_rows
none_edited s selection ks track key r e =
    let rs = track_rows s selection true track key in
    false≢true (hold_at 15 rs (search row_in) (first_held rs (request_rows ks.frames (spot_of s track key) r) tt e).0)

module _ (s : List ℕ) (n : ℕ) (m : Plain) (j : Journal) (ok : sheet_ok s ≡ true) (few : n < 2 ^ 40) (track key : ℕ) (r : Request) (held : HeldRequest r) where
  abbrev M : Dragging → Plain
  M d = holding m d

  abbrev refusal : Dragging → ℕ
  refusal d = declines (edit_rows s m.view.selection (is_open d) (keys_of s (M d)) track key r)

  -- nothing is declined: an unchanged edit leaves all as it is, any other is appended
  by_unchanged : (same : Bool) → Good s n (M closed) j → refusal closed ≡ 0 → unchanged s (standing_keys s m) track key r ≡ same → Kept s n (edit track key r) (M closed) j
  unfolding edit_of edit_table
  by_unchanged true g e u =
      record {
        journal = j;
        same = rw (state_passes s n (M closed) j ok (omega arith) g _, e, u);
        good = rw (e, u) (later s n (M closed) j g);
      }
  by_unchanged false g e u =
      let a = accepted_key s m.view.selection false track key (standing_keys s m) r e in
      record {
        journal = with_row j (length m.standing) (entry_for s (standing_keys s m) track key r);
        same = unfold replay made_edit edited_player in rw (state_passes s n (M closed) j ok (omega arith) g _, e, u) (cc (add-one (length m.standing)));
        good = rw (e, u) (append_good s n (M closed) j g (asked m track key r) (allows s ok (standing_keys s m) g.sane (asked m track key r) held a.0 a.1) u);
      }

  by_refusal : (d : Dragging) (k : ℕ) → Good s n (M d) j → refusal d ≡ k → Kept s n (edit track key r) (M d) j
  unfolding edit_of edit_table
  by_refusal d (suc k) g e =
      let q : declines (edit_rows s m.view.selection (drag_image s (standing_keys s m) d).«open» (keys_of s (M d)) track key r) ≡ suc k = rw (open_is s (standing_keys s m) d) e in
      record {
        journal = j;
        same = rw (state_passes s n (M d) j ok (omega arith) g _, q, e, suc_not k);
        good = rw e (later s n (M d) j g);
      }
  by_refusal closed zero g e = by_unchanged (unchanged s (standing_keys s m) track key r) g e refl
  by_refusal (opened a t q) zero g e = absurd (none_edited s m.view.selection _ track key r e)
  by_refusal (dragged a t q x v) zero g e = absurd (none_edited s m.view.selection _ track key r e)

  pub edit_kept : (d : Dragging) → Good s n (M d) j → Kept s n (edit track key r) (M d) j
  edit_kept d g = by_refusal d (refusal d) g refl
