-- The number of a declined texture name (document 01, "Channels": "where that call would be declined it is an empty part, and the number comes from
-- reading the slot"): for every slot it is what a single reading of the slot's channel answers. Assumes nothing.
use Rattle.std.specs.Prelude.{ℕ, ◌+◌, ◌<◌, ◌≤◌, ◌≡◌, refl, List, ltb}
use Rattle.std.proofs.Math.Bool.{and-false}
use Rattle.std.proofs.Math.Path.{sym}
use Rattle.std.proofs.Common.{◌∙◌, lt-ltb, le-ltb}
use Rattle.std.specs.Prelude.{Some}
use Rattle.laws.specs.Rows.{Hold, declines, fails, passes, no_rows, joined}
use Rattle.book.specs.Sizes.{material_count}
use Rattle.channel.specs.Channel.{material_layers, first_texture, listed, material_channel, slot_channel}
use Rattle.channel.specs.declared.Family.TheVariants.{IndirectSrt}
use Rattle.channel.specs.Slot.{slot_exactly}
use Rattle.player.specs.declared.Player.{Player}
use Rattle.edit.specs.Keys.{Keys}
use Rattle.menu_checks.specs.Rows.{reading_rows}
use Rattle.menu_readings.specs.Rows.{material_channel_rows, layer_rows, read_material_table, texture_name_table}
use Rattle.menu_readings.specs.Readings.{one_of, read_material_of}

module _ (s b : List ℕ) (p : Player) (ks : Keys) (m : ℕ) where
  pub slot_number : (slot : ℕ) → (read_material_of s b p ks m (slot_channel slot)).refusal ≡ declines (texture_name_table s b p ks m slot)
  unfolding read_material_of read_material_table texture_name_table material_channel_rows layer_rows one_of
  slot_number slot = rw (slot_exactly slot)

  -- a slot that there isn't is declined by 7, where no earlier row declines
  pub no_such_slot : (slot : ℕ) → material_layers ≤ slot → Hold (reading_rows s b p ks) → declines (texture_name_table s b p ks m slot) ≡ 7
  unfolding texture_name_table layer_rows
  no_such_slot slot l h = joined (reading_rows s b p ks) _ h ∙ sym (fails 7 _ (rw (le-ltb slot material_layers l) (and-false (ltb m (material_count b)))))

  -- though the channel that comes next is one, and a reading of it is not declined
  pub next_channel_reads : Hold (reading_rows s b p ks) → m < material_count b → declines (read_material_table s b p ks m (first_texture + material_layers)) ≡ 0
  unfolding read_material_table material_channel_rows
  next_channel_reads h l = joined (reading_rows s b p ks) _ h ∙ sym (passes 7 _ (rw (lt-ltb m (material_count b) l)) no_rows)

-- it is the indirect rotation's
pub next_channel_is : (layer : ℕ) → material_channel IndirectSrt 0 layer ≡ Some (first_texture + material_layers)
unfolding material_channel listed
next_channel_is layer = refl
