-- Every channel that is addressed in a material's row is one of the material's, and every one that a target addresses one of the book's. Assumes nothing.
use Rattle.std.specs.Prelude.{ℕ, ◌+◌, ◌%◌, ◌<◌, List, Bool, true, false, cond, ◌≡◌, refl, ltb}
use Rattle.std.proofs.Common.{arith, ltb-true}
use Rattle.std.specs.Prelude.{Option}
use Rattle.std.specs.Prelude.{Some, None}
use Rattle.sheet.specs.Rows.{target_row}
use Rattle.channel.specs.Channel.{colour_variants, listed, pane_channel, colour_place, material_channel, pane_channels, material_channels, channel_count, in_pane, in_material, address, row_channel, target_channel}
use Rattle.channel.specs.Slot.{slot_below}
use Rattle.channel.specs.declared.Family.{Family}
use Rattle.channel.specs.declared.Family.TheVariants.{PaneSrt, Visibility, VertexColor, TextureSrt, TexturePattern, IndirectSrt, AlphaCompare, MaterialColor, Other}
use Rattle.channel.specs.declared.Reached.{Reached}
use Rattle.channel.specs.declared.Reached.TheVariants as reached
use Rattle.channel.specs.Within.{listed_below, Below, at, nowhere, either, pane_channel_below, SomeIn, active_in_lem, pane_below, material_below}

-- ---- channels of one row

pub colour_below : (i : ℕ) → colour_place i < 8
unfolding colour_place
colour_below i = go (ltb i 4) refl
  where
    go : (b : Bool) → ltb i 4 ≡ b → cond b i (4 + i % 4) < 8
    go true e = omega (arith, ltb-true i 4 e)
    go false e = omega arith

pub material_channel_below : (f : Family) (raw layer : ℕ) → Below (material_channel f raw layer) material_channels
unfolding material_channel
material_channel_below PaneSrt raw layer = nowhere _
material_channel_below Visibility raw layer = nowhere _
material_channel_below VertexColor raw layer = nowhere _
material_channel_below TextureSrt raw layer =
    either (ltb layer 3) _ _ _ (λ e. at _ _ (omega (arith, ltb-true layer 3 e, listed_below 5 raw (omega arith)))) (λ e. nowhere _)
material_channel_below TexturePattern raw layer = either (ltb layer 3) _ _ _ (λ e. at _ _ (slot_below layer (ltb-true layer 3 e))) (λ e. nowhere _)
material_channel_below IndirectSrt raw layer = at _ _ (omega (arith, listed_below 3 raw (omega arith)))
material_channel_below AlphaCompare raw layer = at _ _ (omega arith)
material_channel_below MaterialColor raw layer = at _ _ (omega (arith, colour_below (listed colour_variants raw)))
material_channel_below Other raw layer = nowhere _

-- ---- channels of the book

pub address_below : (b : List ℕ) (o : Option Reached) (f : Family) (raw layer : ℕ) → SomeIn b o → Below (address b o f raw layer) (channel_count b)
unfolding address
address_below b (Some (reached.Pane p)) f raw layer h = go (pane_channel f raw) (pane_channel_below f raw)
  where
    go : (o : Option ℕ) → Below o pane_channels → Below (in_pane p o) (channel_count b)
    go (Some c) k = at _ _ (pane_below b p c ((h.some _ refl).pane p refl) (k.below c refl))
    go None k = nowhere _
address_below b (Some (reached.Material m)) f raw layer h = go (material_channel f raw layer) (material_channel_below f raw layer)
  where
    go : (o : Option ℕ) → Below o material_channels → Below (in_material b m o) (channel_count b)
    go (Some c) k = at _ _ (material_below b m c ((h.some _ refl).material m refl) (k.below c refl))
    go None k = nowhere _
address_below b None f raw layer h = nowhere _

pub target_within : (s b : List ℕ) (a t c : ℕ) → target_channel s b a t ≡ Some c → c < channel_count b
unfolding target_channel row_channel
target_within s b a t c e = (address_below b _ _ _ _ (active_in_lem s b a (target_row s t).content)).below c e
