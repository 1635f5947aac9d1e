-- Opening, dragging, dropping and abandoning keep the player an image of the machine. Assumes nothing.
use mathlib.Core.Path.{◌≡◌, refl}
use mathlib.Core.Bool.{Bool, true, false}
use mathlib.Core.List.{List}
use Prim.Native.Nat.{ℕ, zero, suc, ◌<◌, ◌^◌}
use native.Mathlib.Omega.{arith}
use native.Mathlib.Numerals.{add-one}
use lib.Dec.{T}
use lib.ListN.{length}
use lib.Ieee.{Float, binary32, fits}
use Rattle.laws.specs.Rows.{unless, declines}
use Rattle.sheet.specs.Sheet.{sheet_ok}
use Rattle.player.specs.declared.journal.Journal.{Journal}
use Rattle.edit.specs.declared.request.Request.{Request}
use Rattle.edit.specs.declared.request.Request.TheVariants as request
use Rattle.edit.specs.Keys.{Keys, key_at, put_key, same_key, get_put}
use Rattle.edit.specs.Edit.{has_key, place, spot_of, edited, unchanged, made_edit, request_rows, track_rows}
use Rattle.edit.specs.Accepted.{tracked_key}
use Rattle.edit.specs.Over.{rows_over, made_over}
use Rattle.edit.proofs.Unchanged.{unchanged_leaves}
use Rattle.player.specs.Journal.{with_row}
use Rattle.player.specs.Edited.{edited_player}
use Rattle.player.specs.Drag.{drop_unchanged}
use Rattle.player.specs.Dragged.{dropped_player}
use Rattle.menu.specs.Rows.{open_table, drag_rows, drag_table, close_table}
use Rattle.menu.specs.Calls.{entry_for, open_of, drag_of, drop_of, abandon_of}
use Rattle.machine.specs.Calls.{open_drag, drag, drop_drag, abandon_drag}
use Rattle.machine.specs.Plain.{Dragging, closed, opened, dragged, is_open, dragged_to, Plain, replay, standing_keys, with_dragged, holding}
use Rattle.machine.proofs.Invariant.{Holds, drag_image, Good}
use Rattle.machine.proofs.Dragged.{open_is, put_back_lem}
use Rattle.machine.proofs.Checks.{state_passes}
use Rattle.machine.proofs.Allows.{allows}
use Rattle.machine.proofs.Edit.{append_good, none_opened}
use Rattle.machine.proofs.Kept.{Kept, suc_not, later}

module _ (s : List ℕ) (n : ℕ) (m : Plain) (j : Journal) (ok : sheet_ok s ≡ true) (few : n < 2 ^ 40) where
  abbrev M : Dragging → Plain
  M d = holding m d

  abbrev ks : Keys
  ks = standing_keys s m

  -- another drag: all else stays
  holding_good : (d d' : Dragging) → Good s n (M d) j → Holds s ks d' → Good s (suc n) (M d') j
  holding_good d d' g h =
      record { whole = g.whole; sane = g.sane; drag = h; seen = g.seen; back = g.back; fore = g.fore; room = g.room; below = g.below; sums = g.sums; few = omega arith }

  -- ---- opening
  module _ (track key : ℕ) where
    abbrev refusal : Dragging → ℕ
    refusal d = declines (track_rows s m.view.selection (is_open d) track key)

    by_refusal : (d : Dragging) (k : ℕ) → Good s n (M d) j → refusal d ≡ k → Kept s n (open_drag track key) (M d) j
    unfolding open_of open_table
    by_refusal d (suc k) g e =
        let q : declines (track_rows s m.view.selection (drag_image s ks d).«open» track key) ≡ suc k = rw (open_is s ks d) e in
        record {
          journal = j;
          same = rw (state_passes s n (M d) j ok (omega arith) g _, q, e, suc_not k);
          good = rw e (later s n (M d) j g);
        }
    by_refusal closed zero g e =
        record {
          journal = j;
          same = rw (state_passes s n (M closed) j ok (omega arith) g _, e);
          good = rw e (holding_good closed (opened m.view.selection track key) g (tracked_key s m.view.selection false track key e));
        }
    by_refusal (opened a t q) zero g e = absurd (none_opened s m.view.selection track key e)
    by_refusal (dragged a t q x v) zero g e = absurd (none_opened s m.view.selection track key e)

    pub open_kept : (d : Dragging) → Good s n (M d) j → Kept s n (open_drag track key) (M d) j
    open_kept d g = by_refusal d (refusal d) g refl

  -- ---- dragging
  module _ (x v : Float) (held : T (fits binary32 x) × T (fits binary32 v)) where
    -- the key, where it is open: the request is declined alike wherever it was dragged to, and its key is the one that it makes of the standing keys
    abbrev asks : ℕ → ℕ → ℕ
    asks track key = declines (request_rows ks.frames (spot_of s track key) (request.Key x v))

    drag_good : (d : Dragging) (a track key : ℕ) → Good s n (M d) j → has_key s track key ≡ true → asks track key ≡ 0 → Good s (suc n) (M (dragged a track key x v)) j
    drag_good d a track key g has e = holding_good d (dragged a track key x v) g (allows s ok ks g.sane (dragged_to a track key x v) held has e)

    from_opened : (a track key k : ℕ) → Good s n (M (opened a track key)) j → asks track key ≡ k → Kept s n (drag x v) (M (opened a track key)) j
    unfolding drag_of drag_table drag_rows declines unless
    from_opened a track key zero g e =
        record {
          journal = j;
          same = unfold made_edit in rw (state_passes s n (M (opened a track key)) j ok (omega arith) g _, e);
          good = rw e (drag_good (opened a track key) a track key g g.drag e);
        }
    from_opened a track key (suc k) g e =
        record {
          journal = j;
          same = rw (state_passes s n (M (opened a track key)) j ok (omega arith) g _, e, suc_not k);
          good = rw e (later s n (M (opened a track key)) j g);
        }

    abbrev moved : ℕ → ℕ → ℕ → Float → Float → Keys
    moved a track key y w = with_dragged s ks (dragged a track key y w)

    same_rows : (a track key : ℕ) (y w : Float) → request_rows (moved a track key y w).frames (spot_of s track key) (request.Key x v) ≡ request_rows ks.frames (spot_of s track key) (request.Key x v)
    unfolding made_edit
    same_rows a track key y w = rows_over s ks track key (edited s ks track key (request.Key y w)) (request.Key x v)

    same_keys : (a track key : ℕ) (y w : Float) →
        put_key (moved a track key y w) (place s track key) (edited s (moved a track key y w) track key (request.Key x v)) ≡ moved a track key x v
    same_keys a track key y w = unfold made_edit in made_over s ks track key a a (request.Key y w) (request.Key x v) tt

    from_dragged : (a track key : ℕ) (y w : Float) (k : ℕ) → Good s n (M (dragged a track key y w)) j → asks track key ≡ k → Kept s n (drag x v) (M (dragged a track key y w)) j
    unfolding drag_of drag_table drag_rows declines unless
    from_dragged a track key y w zero g e =
        record {
          journal = j;
          same = rw (state_passes s n (M (dragged a track key y w)) j ok (omega arith) g _, same_rows a track key y w, e, same_keys a track key y w);
          good = rw (same_rows a track key y w, e) (drag_good (dragged a track key y w) a track key g (unfold entry_for in g.drag.entry) e);
        }
    from_dragged a track key y w (suc k) g e =
        record {
          journal = j;
          same = rw (state_passes s n (M (dragged a track key y w)) j ok (omega arith) g _, same_rows a track key y w, e, suc_not k);
          good = rw (same_rows a track key y w, e) (later s n (M (dragged a track key y w)) j g);
        }

    pub drag_kept : (d : Dragging) → Good s n (M d) j → Kept s n (drag x v) (M d) j
    unfolding drag_of drag_table drag_rows declines unless
    drag_kept closed g = record { journal = j; same = rw (state_passes s n (M closed) j ok (omega arith) g _); good = later s n (M closed) j g }
    drag_kept (opened a track key) g = from_opened a track key (asks track key) g refl
    drag_kept (dragged a track key y w) g = from_dragged a track key y w (asks track key) g refl

  -- ---- dropping
  -- of a dragged key: unchanged, it is the key of the opening, so the keys are the standing ones again; any other drop is appended
  module _ (a track key : ℕ) (x v : Float) (g : Good s n (M (dragged a track key x v)) j) where
    abbrev r : Request
    r = request.Key x v

    -- the key now and the key of the opening, where the last request made another
    other_bits : unchanged s ks track key r ≡ false → same_key (edited s ks track key r) (key_at ks (place s track key)) ≡ false
    unfolding unchanged
    other_bits u = u

    dropped_by : (same : Bool) → unchanged s ks track key r ≡ same → Kept s n drop_drag (M (dragged a track key x v)) j
    unfolding drop_of close_table dropped_player drop_unchanged declines unless
    dropped_by true u =
        let f = g.drag in
        let back = unchanged_leaves s ks track key r g.sane.held f.f32 u in
        record {
          journal = j;
          same = unfold made_edit in rw (state_passes s n (M (dragged a track key x v)) j ok (omega arith) g _, back, f.old, u);
          good = rw u (holding_good (dragged a track key x v) closed g tt);
        }
    dropped_by false u =
        record {
          journal = with_row j (length m.standing) (entry_for s ks track key r);
          same =
              unfold replay made_edit edited_player entry_for in
              rw (state_passes s n (M (dragged a track key x v)) j ok (omega arith) g _, get_put ks (place s track key) (edited s ks track key r) g.drag.within, other_bits u, u)
              (cc (add-one (length m.standing)));
          good = rw u (append_good s n (M (dragged a track key x v)) j g (dragged_to a track key x v) g.drag u);
        }

  pub drop_kept : (d : Dragging) → Good s n (M d) j → Kept s n drop_drag (M d) j
  unfolding drop_of close_table dropped_player drop_unchanged declines unless
  drop_kept closed g = record { journal = j; same = rw (state_passes s n (M closed) j ok (omega arith) g _); good = later s n (M closed) j g }
  drop_kept (opened a track key) g =
      record { journal = j; same = rw (state_passes s n (M (opened a track key)) j ok (omega arith) g _); good = holding_good (opened a track key) closed g tt }
  drop_kept (dragged a track key x v) g = dropped_by a track key x v g (unchanged s ks track key (request.Key x v)) refl

  -- ---- abandoning
  pub abandon_kept : (d : Dragging) → Good s n (M d) j → Kept s n abandon_drag (M d) j
  unfolding abandon_of close_table declines unless
  abandon_kept closed g = record { journal = j; same = rw (state_passes s n (M closed) j ok (omega arith) g _); good = later s n (M closed) j g }
  abandon_kept (opened a track key) g =
      record {
        journal = j;
        same = rw (state_passes s n (M (opened a track key)) j ok (omega arith) g _, put_back_lem s ks (opened a track key) refl);
        good = holding_good (opened a track key) closed g tt;
      }
  abandon_kept (dragged a track key x v) g =
      record {
        journal = j;
        same = rw (state_passes s n (M (dragged a track key x v)) j ok (omega arith) g _, put_back_lem s ks (dragged a track key x v) refl);
        good = holding_good (dragged a track key x v) closed g tt;
      }
