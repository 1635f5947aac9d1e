-- The drag of an image of the machine: it is open where the machine's is, its row is one of the sheet's, and its starting key put back gives the standing
-- keys. Assumes nothing.
use Prim.Native.Nat.{ℕ}
use mathlib.Core.Path.{◌≡◌, refl, ◌∙◌}
use mathlib.Core.Bool.{true, false≢true}
use mathlib.Core.List.{List}
use Rattle.edit.specs.Keys.{Keys, key_at, put_put, put_get}
use Rattle.edit.specs.Edit.{place, edited, made_edit}
use Rattle.edit.specs.declared.request.Request.TheVariants as request
use Rattle.player.specs.Drag.{drag_ok, put_back, drag_fits}
use Rattle.menu.specs.Calls.{entry_for}
use Rattle.machine.specs.Plain.{Dragging, closed, opened, dragged, is_open, with_dragged}
use Rattle.machine.proofs.Invariant.{Sane, Holds, drag_image}

module _ (s : List ℕ) (ks : Keys) where
  pub open_is : (d : Dragging) → (drag_image s ks d).«open» ≡ is_open d
  open_is closed = refl
  open_is (opened a track key) = refl
  open_is (dragged a track key x v) = refl

  -- the keys that a call finds are as they should be
  pub held_sane : (d : Dragging) → Sane s ks → Holds s ks d → Sane s (with_dragged s ks d)
  held_sane closed w h = w
  held_sane (opened a track key) w h = w
  held_sane (dragged a track key x v) w h = h.made

  pub drag_ok_lem : (d : Dragging) → Holds s ks d → drag_ok s (drag_image s ks d) ≡ true
  unfolding drag_ok
  drag_ok_lem closed h = refl
  drag_ok_lem (opened a track key) h = h
  drag_ok_lem (dragged a track key x v) h = unfold entry_for in h.entry

  -- the starting key put back gives the standing keys
  pub put_back_lem : (d : Dragging) → is_open d ≡ true → put_back s (with_dragged s ks d) (drag_image s ks d) ≡ ks
  unfolding put_back made_edit
  put_back_lem closed o = absurd (false≢true o)
  put_back_lem (opened a track key) o = put_get ks (place s track key)
  put_back_lem (dragged a track key x v) o =
      put_put ks (place s track key) (edited s ks track key (request.Key x v)) (key_at ks (place s track key)) ∙ put_get ks (place s track key)

  -- so it keeps the key rules
  pub drag_fits_lem : (d : Dragging) → Sane s ks → drag_fits s (with_dragged s ks d) (drag_image s ks d) ≡ true
  unfolding drag_fits
  drag_fits_lem closed w = refl
  drag_fits_lem (opened a track key) w = rw (put_back_lem (opened a track key) refl) w.rules
  drag_fits_lem (dragged a track key x v) w = rw (put_back_lem (dragged a track key x v) refl) w.rules
