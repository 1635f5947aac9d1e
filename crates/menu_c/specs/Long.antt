-- A name that a call hands out has 24 bytes, so that row 13 declines exactly the outputs of another length. Assumes nothing.
use Rattle.std.specs.Prelude.{ℕ, ◌+◌, ◌*◌, ◌<◌, ◌≤◌, Bool, true, false, cond, List, [], ◌≡◌, refl, eqb, ltb, length, Float}
use Rattle.std.proofs.Common.{arith, ltb-true, eqb-true, length-take, length-drop}
use Rattle.laws.specs.Rows.{declines, held, first_held}
use Rattle.laws.specs.Tests.{both}
use Rattle.std.specs.Prelude.{Option}
use Rattle.std.specs.Prelude.{Some, None}
use Rattle.field.specs.Name.{name_at, name_bytes}
use Rattle.sheet.specs.Sizes.{animation_bytes, row_name, animation_count, animations_at, textures_at}
use Rattle.sheet.specs.Rows.{next_name, texture_name}
use Rattle.sheet.specs.Checked.{Checked, checked}
use Rattle.book.specs.Sizes.{material_bytes, material_count, materials_at}
use Rattle.book.specs.Rows.{material_texture}
use Rattle.book.specs.Checked.{CheckedBook, checked_book}
use Rattle.channel.specs.Channel.{slot_channel, of_material}
use Rattle.reading.specs.Reading.{reading}
use Rattle.reading.specs.Active.{Active}
use Rattle.resolve.specs.Resolve.{row_in, name_for, texture_of}
use Rattle.resolve.specs.Textures.{named_below}
use Rattle.player.specs.declared.Player.{Player}
use Rattle.edit.specs.Keys.{Keys}
use Rattle.player.specs.Parts.{view_of}
use Rattle.menu_checks.specs.Rows.{reading_rows}
use Rattle.menu_readings.specs.Rows.{layer_rows, texture_name_table}
use Rattle.menu.specs.Rows.{next_name_table}
use Rattle.menu.specs.Calls.{next_name_of}
use Rattle.menu_readings.specs.Readings.{active_in, texture_name_of}

field_long : (s : List ℕ) (i : ℕ) → i + name_bytes ≤ length s → length (name_at s i) ≡ name_bytes
field_long s i h = simp (length-take, length-drop) (omega arith)

-- the name that follows an animation
pub next_long : (s : List ℕ) (a : ℕ) → declines (next_name_table s a) ≡ 0 → length (next_name_of s a) ≡ name_bytes
unfolding next_name_table next_name_of next_name
next_long s a e =
    let h = held (next_name_table s a) tt e in
    let w = checked s h.0 in
    let l = ltb-true a (animation_count s) h.1.0 in
    rw e (field_long s (animations_at + a * animation_bytes + row_name) (omega arith))

-- the texture name of a slot of a checked book, under a checked sheet
texture_of_long : (s b : List ℕ) (fs vs ss : List Float) (a : Active) (m slot : ℕ) → Checked s → CheckedBook b → m < material_count b → slot < 3
    → length (texture_of s b fs vs ss a m slot) ≡ name_bytes
unfolding texture_of texture_name material_texture
texture_of_long s b fs vs ss a m slot w v h k = go (row_in (reading s b fs vs ss a (of_material b m (slot_channel slot)))) refl
  where
    go : (f : Option ℕ) → row_in (reading s b fs vs ss a (of_material b m (slot_channel slot))) ≡ f → length (name_for s b fs vs ss a f m slot) ≡ name_bytes
    go (Some n) e = let l = named_below s b fs vs ss a (of_material b m (slot_channel slot)) n e in field_long s (textures_at s + n * name_bytes) (omega arith)
    go None e = field_long b (materials_at b + m * material_bytes + name_bytes + slot * name_bytes) (omega arith)

pub texture_long : (s b : List ℕ) (p : Player) (ks : Keys) (m slot : ℕ) → declines (texture_name_table s b p ks m slot) ≡ 0
    → length (texture_name_of s b p ks m slot) ≡ name_bytes
unfolding texture_name_of texture_name_table layer_rows
texture_long s b p ks m slot e =
    let k = first_held (reading_rows s b p ks) (layer_rows b m slot) tt e in
    let q = both (ltb m (material_count b)) (ltb slot 3) (held (layer_rows b m slot) tt k.1).0 in
    rw e
    (texture_of_long s b ks.frames ks.values ks.slopes (active_in (view_of p)) m slot (checked s k.0.0) (checked_book b k.0.1.0) (ltb-true _ _ q.0)
    (ltb-true _ _ q.1))

-- and a texture name of that length is not declined
pub texture_given : (s b : List ℕ) (p : Player) (ks : Keys) (m slot : ℕ) {name : List ℕ} → name ≡ texture_name_of s b p ks m slot → length name ≡ name_bytes
    → declines (texture_name_table s b p ks m slot) ≡ 0
unfolding texture_name_of
texture_given s b p ks m slot q l = go (eqb (declines (texture_name_table s b p ks m slot)) 0) refl (rw q at l)
  where
    go : (d : Bool) → eqb (declines (texture_name_table s b p ks m slot)) 0 ≡ d → length (cond d (texture_of s b ks.frames ks.values ks.slopes (active_in (view_of p)) m slot) []) ≡ name_bytes
        → declines (texture_name_table s b p ks m slot) ≡ 0
    go true e h = eqb-true _ 0 e
    go false e h = absurd (omega arith)
