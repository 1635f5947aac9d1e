-- Row 5's question of an open drag as one about its key and its neighbours, where sheet, keys and the drag's row passed their checks. Assumes nothing.
use Rattle.std.specs.Prelude.{ℕ, ◌≡◌, true, List, Float}
use Rattle.sheet.specs.Checked.{Checked}
use Rattle.keys.specs.Checked.{KeysChecked}
use Rattle.edit.specs.Keys.{Keys, keys}
use Rattle.edit.specs.Edit.{spot_of}
use Rattle.edit.specs.Put.{fits_at, put_fits, checked_ok}
use Rattle.player.specs.declared.drag.Drag.{Drag}
use Rattle.player.specs.Drag.{start_of, drag_ok, put_back, drag_fits}
use Rattle.player.specs.Dragged.{Draggable, drag_key}

module _ {s : List ℕ} {ks : Keys} {d : Drag} (w : Draggable s ks d) (o : d.«open» ≡ true) where
  pub fits_by_spot : drag_fits s ks d ≡ fits_at ks.frames (spot_of s d.track d.key) (start_of d)
  unfolding drag_fits put_back
  fits_by_spot = rw o (put_fits w.sheet ks w.rules d.track d.key (drag_key w o).0 (drag_key w o).1 (start_of d))

-- the same of keys that are checked
pub fits_checked : (s : List ℕ) (fs vs ss : List Float) (d : Drag) → Checked s → KeysChecked s fs vs ss → drag_ok s d ≡ true → d.«open» ≡ true
    → drag_fits s (keys fs vs ss) d ≡ fits_at fs (spot_of s d.track d.key) (start_of d)
fits_checked s fs vs ss d w c row o = fits_by_spot (record { sheet = w; rules = checked_ok w c; row = row }) o
