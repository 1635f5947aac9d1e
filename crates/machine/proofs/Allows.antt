-- An edit or a drag that is not declined may be made. Assumes nothing.
use Prim.Native.Nat.{ℕ, ◌<◌}
use mathlib.Core.Path.{◌≡◌}
use mathlib.Core.Bool.{true}
use mathlib.Core.List.{List}
use Rattle.laws.specs.Rows.{declines}
use Rattle.sheet.specs.Sheet.{sheet_ok}
use Rattle.sheet.specs.Sizes.{target_count}
use Rattle.sheet.specs.Rows.{target_row}
use Rattle.sheet.specs.Checked.{Checked, checked}
use Rattle.keys.specs.Load.{arrays_ok, lengths_ok}
use Rattle.edit.specs.Keys.{Keys, put_length}
use Rattle.edit.specs.Edit.{Edit, has_key, place, edited, spot_of, made_edit, request_rows}
use Rattle.edit.specs.Put.{has_key_lem, place_within, here_fits, fits_same}
use Rattle.edit.specs.Accepted.{HeldRequest, edit_fits, edit_keeps, request_held, edit_held}
use Rattle.menu.specs.Calls.{entry_for}
use Rattle.machine.proofs.Invariant.{Sane, Fair}

module _ (s : List ℕ) (ok : sheet_ok s ≡ true) (ks : Keys) (sane : Sane s ks) (e : Edit) (held : HeldRequest e.request) (has : has_key s e.track e.key ≡ true)
    (n : declines (request_rows ks.frames (spot_of s e.track e.key) e.request) ≡ 0) where
  abbrev w : Checked s
  w = checked s ok

  abbrev there : (e.track < target_count s) × (e.key < (target_row s e.track).count)
  there = has_key_lem s e.track e.key has

  -- an edit leaves the lengths
  long_kept : let made = made_edit s ks e in lengths_ok s made.frames made.values made.slopes ≡ true
  unfolding arrays_ok lengths_ok made_edit
  long_kept =
      let k = put_length ks (place s e.track e.key) (edited s ks e.track e.key e.request) in
      rw (k.0, k.1, k.2) sane.long

  pub allows : Fair s ks e
  unfolding entry_for made_edit
  allows =
      record {
        within = place_within w ks sane.rules e.track e.key there.0 there.1;
        entry = has;
        old = fits_same ks.frames (spot_of s e.track e.key) _ (here_fits w ks sane.rules e.track e.key there.0 there.1);
        new = fits_same ks.frames (spot_of s e.track e.key) _ (edit_fits w ks sane.rules sane.held.frames e.track e.key has e.request held n);
        f32 = request_held s ks e.track e.key e.request sane.held held n;
        sane = sane;
        made =
            record {
              long = long_kept;
              rules = edit_keeps w ks sane.rules sane.held.frames e.track e.key has e.request held n;
              held = edit_held s ks e.track e.key e.request sane.held held n;
            };
      }
