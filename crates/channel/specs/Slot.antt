-- A material's texture slots (three textures, after three layers of five). Assumes nothing.
use Rattle.std.specs.Prelude.{ℕ, ◌+◌, ◌<◌, ◌≤◌, Bool, true, false, cond, ◌≡◌, refl, ltb}
use Rattle.std.proofs.Common.{arith, ltb-true, lt-ltb, le-ltb}
use Rattle.std.specs.Prelude.{Some}
use Rattle.channel.specs.Channel.{material_channels, material_layers, first_texture, slot_channel, material_channel}
use Rattle.channel.specs.declared.Family.TheVariants.{TexturePattern}

pub slot_is : (slot : ℕ) → slot < material_layers → slot_channel slot ≡ first_texture + slot
unfolding slot_channel
slot_is slot l = rw (lt-ltb slot material_layers l)

pub slot_none : (slot : ℕ) → material_layers ≤ slot → slot_channel slot ≡ material_channels
unfolding slot_channel
slot_none slot l = rw (le-ltb slot material_layers l)

pub slot_below : (slot : ℕ) → slot < material_layers → slot_channel slot < material_channels
slot_below slot l = rw (slot_is slot l) (omega arith)

-- its number is a material's channel exactly where the slot is one of the three
pub slot_exactly : (slot : ℕ) → ltb (slot_channel slot) material_channels ≡ ltb slot material_layers
unfolding slot_channel
slot_exactly slot = go (ltb slot material_layers) refl
  where
    go : (x : Bool) → ltb slot material_layers ≡ x → ltb (cond x (first_texture + slot) material_channels) material_channels ≡ x
    go true e = let l = ltb-true slot material_layers e in lt-ltb (first_texture + slot) material_channels (omega arith)
    go false e = refl

-- and a target of the texture family addresses the channel of its layer's slot
pub slot_addressed : (raw slot : ℕ) → slot < material_layers → material_channel TexturePattern raw slot ≡ Some (slot_channel slot)
unfolding material_channel
slot_addressed raw slot l = rw (lt-ltb slot material_layers l)
