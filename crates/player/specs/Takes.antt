-- The entry that an undo or a redo takes names one of the sheet's keys, and row 5's question of it is one about that key and its neighbours
-- (document 01, "What a call declines"). Assumes nothing.
use Rattle.std.specs.Prelude.{ℕ, ◌-◌, ◌<◌, ◌≡◌, refl, Bool, true, false, ◌&&◌, List, Float}
use Rattle.std.proofs.Common.{arith}
use borrow.Author.Tests.{ne_eqb}
use Rattle.sheet.specs.Sizes.{target_count}
use Rattle.sheet.specs.Rows.{target_row}
use Rattle.sheet.specs.Checked.{Checked}
use Rattle.keys.specs.Checked.{KeysChecked}
use Rattle.edit.specs.Keys.{Keys, keys, key_at, keys_ok_of, same_key}
use Rattle.edit.specs.Edit.{spot_of}
use Rattle.edit.specs.Spot.{InsideAll}
use Rattle.edit.specs.Put.{fits_at, has_key_lem, spot_inside, put_fits, checked_ok}
use Rattle.player.specs.declared.Player.{Player}
use Rattle.player.specs.declared.journal.Entry.{Entry}
use Rattle.player.specs.declared.undo.Way.{Way}
use Rattle.player.specs.declared.undo.Way.TheVariants.{Undo, Redo}
use Rattle.player.specs.Player.{entry_ok, player_ok}
use Rattle.player.specs.Undo.{entries, entry_of, takes_ok, take_fits}
use Rattle.player.specs.Sound.{Sound, sound, used_ok_lem}

-- ---- one entry: sheet, keys and entry passed their checks
pub record Returnable (s : List ℕ) (ks : Keys) (e : Entry) : Type 0 where
  pub sheet : Checked s
  pub rules : keys_ok_of s ks ≡ true
  pub entry : entry_ok s e ≡ true

module _ {s : List ℕ} {ks : Keys} {e : Entry} (w : Returnable s ks e) where
  pub entry_key : (e.track < target_count s) × (e.key < (target_row s e.track).count)
  entry_key = has_key_lem s e.track e.key w.entry

  pub entry_inside : InsideAll ks.frames ks.values ks.slopes (spot_of s e.track e.key)
  entry_inside = spot_inside w.sheet ks w.rules e.track e.key entry_key.0 entry_key.1

  pub takes_by : takes_ok s ks e ≡ (same_key (key_at ks (spot_of s e.track e.key).at) e.before && fits_at ks.frames (spot_of s e.track e.key) e.after)
  unfolding takes_ok
  takes_by = rw (put_fits w.sheet ks w.rules e.track e.key entry_key.0 entry_key.1 e.after) (unfold spot_of in refl)

-- the same of keys that are checked
pub takes_checked : (s : List ℕ) (fs vs ss : List Float) (e : Entry) → Checked s → KeysChecked s fs vs ss → entry_ok s e ≡ true
    → takes_ok s (keys fs vs ss) e ≡ (same_key (key_at (keys fs vs ss) (spot_of s e.track e.key).at) e.before && fits_at fs (spot_of s e.track e.key) e.after)
takes_checked s fs vs ss e w c row = takes_by (record { sheet = w; rules = checked_ok w c; entry = row })

-- ---- of n entries the first: it is asked where there is one
pub record Takeable (s : List ℕ) (ks : Keys) (n : ℕ) (e : Entry) : Type 0 where
  pub sheet : Checked s
  pub rules : keys_ok_of s ks ≡ true
  pub entry : (n ≡ 0 → ⊥) → entry_ok s e ≡ true

-- the entry that a player takes, whose state is not broken, names a key of the sheet
pub entry_used : {s : List ℕ} {p : Player} → Sound s p → (way : Way) → (entries way p ≡ 0 → ⊥) → entry_ok s (entry_of way p) ≡ true
unfolding entry_of
entry_used {s} {p} w Undo d = used_ok_lem w (p.standing - 1) (omega (arith, w.counts.below)) (omega (arith, w.counts.below))
entry_used {s} {p} w Redo d = used_ok_lem w p.standing (omega arith) (omega arith)

pub entry_sound : (s : List ℕ) (p : Player) → player_ok s p ≡ true → (way : Way) → (entries way p ≡ 0 → ⊥) → entry_ok s (entry_of way p) ≡ true
entry_sound s p e way d = entry_used (sound s p e) way d

pub returnable : {s : List ℕ} {ks : Keys} {n : ℕ} {e : Entry} → Takeable s ks n e → (n ≡ 0 → ⊥) → Returnable s ks e
returnable w d = record { sheet = w.sheet; rules = w.rules; entry = w.entry d }

-- row 5's test, from what the calls give
module _ (s : List ℕ) (ks : Keys) (dragging : Bool) (n : ℕ) (e : Entry) where
  pub take_open : dragging ≡ true → true ≡ take_fits s ks dragging n e
  unfolding take_fits
  take_open o = rw o

  pub take_none : dragging ≡ false → n ≡ 0 → true ≡ take_fits s ks dragging n e
  unfolding take_fits
  take_none o z = rw (o, z)

  pub take_some : {r : Bool} → dragging ≡ false → (n ≡ 0 → ⊥) → r ≡ takes_ok s ks e → r ≡ take_fits s ks dragging n e
  unfolding take_fits
  take_some o d h = rw (o, ne_eqb n 0 d) h
