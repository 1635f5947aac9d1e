-- Saving after any list of calls (document 02, 1/13), under the premises of the claim on standing edits: "a sheet with no standing edit is written as the
-- same bytes" (which, by 2/13, "also needs no open drag"), "and loading a written sheet gives the keys held". Assumes nothing.
use mathlib.Core.Path.{◌≡◌, refl, sym, ◌∙◌, ap, subst}
use mathlib.Core.Bool.{true, false, false≢true}
use mathlib.Core.List.{List, [], ◌∷◌}
use Prim.Native.Nat.{ℕ, ◌≤◌, ◌^◌}
use native.Mathlib.Omega.{arith}
use borrow.Author.Tests.{eq-eqb}
use lib.ListN.{length}
use Rattle.laws.specs.Rows.{passes, no_rows}
use Rattle.field.specs.Word.{Bytes}
use Rattle.sheet.specs.Sizes.{key_count}
use Rattle.sheet.specs.Sheet.{sheet_ok}
use Rattle.sheet.specs.Checked.{checked}
use Rattle.sheet.specs.Alike.{Alike, keys_same, sheet_same}
use Rattle.keys.specs.Checked.{KeysChecked, keys_checked}
use Rattle.keys.specs.Keys.{keys_ok}
use Rattle.keys.specs.Alike.{rules_same}
use Rattle.keys.specs.Stored.{stored_frames, stored_values, stored_slopes}
use Rattle.keys.specs.Load.{arrays_ok, load_table, load_of}
use Rattle.keys.specs.Loading.{loadable}
use Rattle.saved.proofs.Back.{saved_long, saved_alike, saved_again, saved_frames, saved_values, saved_slopes, saved_same}
use Rattle.player.specs.declared.drag.Drag.{Drag}
use Rattle.player.specs.Player.{fresh_player}
use Rattle.edit.specs.Keys.{Keys, keys}
use Rattle.edit.specs.Edit.{Edit}
use Rattle.menu.specs.Rows.{save_rows, save_table}
use Rattle.menu.specs.Calls.{Changed, wrote, written_by, saved_with, save_of, loaded_of}
use Rattle.machine.specs.Runs.{last, Each}
use Rattle.machine.specs.Calls.{Call, HeldCall, State, step_p}
use Rattle.machine.specs.Plain.{Dragging, closed, opened, dragged, Plain, replay, standing_keys, with_dragged, keys_of, step_m, fresh_m}
use Rattle.machine.proofs.Invariant.{Sane, drag_image, image}
use Rattle.machine.proofs.Dragged.{held_sane}
use Rattle.machine.proofs.Checks.{state_passes}
use Rattle.machine.proofs.Loaded.{not_declined, loaded_sheet, loaded_sane, loaded_keys}
use Rattle.machine.proofs.Stays.{loaded_stays}
use Rattle.machine.proofs.Theorem.{Related, related, the_player_is_the_machine}

-- ---- a written sheet, whatever keys it was written with
module _ (s : List ℕ) (ok : sheet_ok s ≡ true) (ks : Keys) (w : Sane s ks) where
  abbrev k : KeysChecked s ks.frames ks.values ks.slopes
  k = keys_checked s ks.frames ks.values ks.slopes w.rules

  abbrev out : List ℕ
  out = saved_with s ks

  alike : Alike s out
  alike = saved_alike s (checked s ok) ks.frames ks.values ks.slopes k

  frames_back : stored_frames out ≡ ks.frames
  frames_back = saved_frames s (checked s ok) ks.frames ks.values ks.slopes k w.held.frames w.held.values w.held.slopes

  values_back : stored_values out ≡ ks.values
  values_back = saved_values s (checked s ok) ks.frames ks.values ks.slopes k w.held.frames w.held.values w.held.slopes

  slopes_back : stored_slopes out ≡ ks.slopes
  slopes_back = saved_slopes s (checked s ok) ks.frames ks.values ks.slopes k w.held.frames w.held.values w.held.slopes

  rules_back : keys_ok out (stored_frames out) (stored_values out) (stored_slopes out) ≡ true
  rules_back = rw (frames_back, values_back, slopes_back) (rules_same alike ks.frames ks.values ks.slopes ∙ w.rules)

  -- no row of loading declines it, and its keys are those
  pub written_loads : (room : Keys) → length room.frames ≡ key_count s → length room.values ≡ key_count s → length room.slopes ≡ key_count s
      → loaded_of out room ≡ record { refusal = 0; player = fresh_player; keys = ks }
  unfolding loaded_of load_of load_table arrays_ok
  written_loads room f v z =
      let q = keys_same alike in
      let long : arrays_ok out (length room.frames) (length room.values) (length room.slopes) ≡ true = rw (f, v, z, q, eq-eqb (key_count s) (key_count s) refl) in
      let e = passes 1 _ (sheet_same alike ∙ ok) (passes 3 _ long (passes 4 _ rules_back no_rows)) in
      rw (← e, frames_back, values_back, slopes_back)

-- ---- after any list of calls
module _ (s : List ℕ) (arrays : Keys) (e : (loaded_of s arrays).refusal ≡ 0) (cs : List Call) (held : Each HeldCall cs) (few : length cs ≤ 2 ^ 40) where
  abbrev first : State
  first = record { player = (loaded_of s arrays).player; keys = (loaded_of s arrays).keys }

  abbrev t : State
  t = last (step_p s) cs first

  abbrev m : Plain
  m = last (step_m s) cs (fresh_m (loaded_of s arrays).keys)

  ok : sheet_ok s ≡ true
  ok = loaded_sheet s arrays e

  r : Related s (length cs) t m
  unfolding loaded_of
  r = (related s ok (loaded_of s arrays).keys (loaded_sane s arrays e) cs held few).0

  sane : Sane s t.keys
  sane = rw r.is (held_sane s (standing_keys s m) m.drag r.good.sane r.good.drag)

  -- a buffer as long as the sheet is filled with the keys held
  image_writes : (o : List ℕ) → length o ≡ length s → save_of s (image s m r.journal) (keys_of s m) o ≡ wrote 0 (saved_with s (keys_of s m))
  unfolding save_of save_table save_rows written_by
  image_writes o l =
      let none = passes 14 _ (eq-eqb (length o) (length s) l) no_rows in
      rw (state_passes s (length cs) m r.journal ok few r.good (save_rows s (length o)), ← none)

  pub save_writes : (o : List ℕ) → length o ≡ length s → save_of s t.player t.keys o ≡ wrote 0 (saved_with s t.keys)
  save_writes o l = subst (λ (x : State). save_of s x.player x.keys o ≡ wrote 0 (saved_with s x.keys)) (sym r.is) (image_writes o l)

  -- loading what was written is not declined, and gives the keys held
  pub a_written_sheet_loads : (o : List ℕ) → length o ≡ length s → (room : Keys) → length room.frames ≡ key_count s → length room.values ≡ key_count s → length room.slopes ≡ key_count s
      → loaded_of (save_of s t.player t.keys o).out room ≡ record { refusal = 0; player = fresh_player; keys = t.keys }
  a_written_sheet_loads o l room f v z = rw (save_writes o l) (written_loads s ok t.keys sane room f v z)

  -- with no standing edit and no open drag, it is the loaded sheet. (`Bytes`: the sheet's elements are bytes, as those of a lent slice are; a list here holds numbers.)
  pub an_untouched_sheet_is_the_same : Bytes s → t.player.standing ≡ 0 → t.player.drag.«open» ≡ false → (o : List ℕ) → length o ≡ length s → save_of s t.player t.keys o ≡ wrote 0 s
  unfolding replay loaded_of
  an_untouched_sheet_is_the_same b none shut o l = save_writes o l ∙ ap (wrote 0) (ap (saved_with s) own ∙ saved_same s b (loadable s _ _ _ (not_declined s arrays e)).stored)
    where
      empty : (es : List Edit) → length es ≡ 0 → replay s m.loaded es ≡ m.loaded
      empty [] q = refl
      empty (e ∷ es) q = absurd (omega arith)

      unheld : (ks : Keys) (d : Dragging) → (drag_image s ks d).«open» ≡ false → with_dragged s ks d ≡ ks
      unheld ks closed q = refl
      unheld ks (opened a track key) q = refl
      unheld ks (dragged a track key x v) q = absurd (false≢true (sym q))

      own : t.keys ≡ keys (stored_frames s) (stored_values s) (stored_slopes s)
      own =
          let a = (the_player_is_the_machine s ok (loaded_of s arrays).keys (loaded_sane s arrays e) cs held few).0 in
          a.keys ∙ unheld (standing_keys s m) m.drag (ap (λ (d : Drag). d.«open») (sym a.drag) ∙ shut) ∙ empty m.standing (sym a.standing ∙ none) ∙ loaded_stays s cs (fresh_m (loaded_of s arrays).keys) ∙ loaded_keys s arrays e

-- ---- saving, loading and saving again gives the same sheet
module _ (s : List ℕ) (ok : sheet_ok s ≡ true) (ks : Keys) (w : Sane s ks) (room : Keys) (f : length room.frames ≡ key_count s) (v : length room.values ≡ key_count s) (z : length room.slopes ≡ key_count s) where
  written_again : (o : List ℕ) → length o ≡ length s → let sheet = saved_with s ks in save_of sheet (loaded_of sheet room).player (loaded_of sheet room).keys o ≡ wrote 0 sheet
  written_again o l =
      let c = checked s ok in
      let q = keys_checked s ks.frames ks.values ks.slopes w.rules in
      let g = written_loads s ok ks w room f v z in
      save_writes (saved_with s ks) room (ap (λ (r : Changed). r.refusal) g) [] tt (omega arith) o (l ∙ sym (saved_long s c ks.frames ks.values ks.slopes q)) ∙
      ap (wrote 0) (ap (λ (r : Changed). saved_with (saved_with s ks) r.keys) g ∙ saved_again s c ks.frames ks.values ks.slopes q ks.frames ks.values ks.slopes)

pub saving_again_is_the_same : (s : List ℕ) (arrays : Keys) → (loaded_of s arrays).refusal ≡ 0 → (cs : List Call) → Each HeldCall cs → length cs ≤ 2 ^ 40
    → (o : List ℕ) → length o ≡ length s → (room : Keys) → length room.frames ≡ key_count s → length room.values ≡ key_count s → length room.slopes ≡ key_count s
    → (again : List ℕ) → length again ≡ length s →
    let t = last (step_p s) cs (record { player = (loaded_of s arrays).player; keys = (loaded_of s arrays).keys }) in
    let sheet = (save_of s t.player t.keys o).out in
    save_of sheet (loaded_of sheet room).player (loaded_of sheet room).keys again ≡ wrote 0 sheet
saving_again_is_the_same s arrays e cs held few o l room f v z again n =
    rw (save_writes s arrays e cs held few o l) (written_again s (loaded_sheet s arrays e) _ (sane s arrays e cs held few) room f v z again n)
