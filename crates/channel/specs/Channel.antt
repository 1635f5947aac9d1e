-- Which channel a target addresses: by the family of its four-letter code, its raw number and its layer, in the pane or
-- material that its content reaches. Definitions only.
use Rattle.std.specs.Prelude.{ℕ, ◌+◌, ◌*◌, ◌%◌, cond, ◌||◌, List, eqb, ltb}
use Rattle.std.specs.Prelude.{Option}
use Rattle.std.specs.Prelude.{Some, None}
use Rattle.field.specs.Name.{find_name}
use Rattle.sheet.specs.Sizes.{content_count, content_bytes, row_name, contents_at}
use Rattle.sheet.specs.Rows.{content_row, target_row}
use Rattle.sheet.specs.declared.rows.Target.{Target}
use Rattle.book.specs.Sizes.{pane_count, material_count, pane_bytes, material_bytes, panes_at, materials_at}
use Rattle.channel.specs.declared.Family.{Family}
use Rattle.channel.specs.declared.Family.TheVariants.{PaneSrt, Visibility, VertexColor, TextureSrt, TexturePattern, IndirectSrt, AlphaCompare, MaterialColor, Other}
use Rattle.channel.specs.declared.Reached.{Reached}
use Rattle.channel.specs.declared.Reached.TheVariants as reached

-- ---- families

-- four letters as the number that their bytes are, little-endian
abbrev pub letters : ℕ → ℕ → ℕ → ℕ → ℕ
letters a b c d = a + b * 256 + c * 65536 + d * 16777216

-- Pane families are FLPA, FLVI, FLVC; material families FLTS, FLTP, FLIM, FLAC, FLMC.
unfoldable pub family_of : ℕ → Family
family_of code =
    cond (eqb code (letters 70 76 80 65)) PaneSrt
    (cond (eqb code (letters 70 76 86 73)) Visibility
    (cond (eqb code (letters 70 76 86 67)) VertexColor
    (cond (eqb code (letters 70 76 84 83)) TextureSrt
    (cond (eqb code (letters 70 76 84 80)) TexturePattern
    (cond (eqb code (letters 70 76 73 77)) IndirectSrt
    (cond (eqb code (letters 70 76 65 67)) AlphaCompare
    (cond (eqb code (letters 70 76 77 67)) MaterialColor Other)))))))

-- ---- channels of one pane and of one material, family by family, enum order inside a family

-- how many channels a pane has, and a material
abbrev pub pane_channels : ℕ
pane_channels = 28

abbrev pub material_channels : ℕ
material_channels = 30

-- a pane's channels after its SRT's ten; the corner colours follow
abbrev pub visible_channel : ℕ
visible_channel = 10

abbrev pub alpha_channel : ℕ
alpha_channel = 11

-- how many layers a material has, each with a texture slot, and the first slot's channel
abbrev pub material_layers : ℕ
material_layers = 3

abbrev pub first_texture : ℕ
first_texture = 15

-- how many variants the enum of material colours has
abbrev pub colour_variants : ℕ
colour_variants = 28

-- a raw number of an enum with n variants: one that targets.rs doesn't list gives the first variant
unfoldable pub listed : ℕ → ℕ → ℕ
listed n raw = cond (ltb raw n) raw 0

-- a pane's: SRT 0..9, visible 10, alpha 11, corner colours 12..27. PaneAlpha is the last of VertexColorTarget's 17.
unfoldable pub pane_channel : Family → ℕ → Option ℕ
pane_channel PaneSrt raw = Some (listed 10 raw)
pane_channel Visibility raw = Some visible_channel
pane_channel VertexColor raw = cond (eqb (listed 17 raw) 16) (Some alpha_channel) (Some (12 + listed 17 raw))
pane_channel TextureSrt raw = None
pane_channel TexturePattern raw = None
pane_channel IndirectSrt raw = None
pane_channel AlphaCompare raw = None
pane_channel MaterialColor raw = None
pane_channel Other raw = None

-- colour index below 4 is black, every other white, place index mod 4
unfoldable pub colour_place : ℕ → ℕ
colour_place i = cond (ltb i 4) i (4 + i % 4)

-- The channel of a material's texture slot. A slot that there isn't has no channel: its number is one past the last.
unfoldable pub slot_channel : ℕ → ℕ
slot_channel slot = cond (ltb slot material_layers) (first_texture + slot) material_channels

-- a material's: three layers of five 0..14, textures 15..17, indirect rotation and two scales 18..20, alpha reference 21, colours 22..29.
-- Layers from 3 up are skipped where the family has layers.
unfoldable pub material_channel : Family → ℕ → ℕ → Option ℕ
material_channel PaneSrt raw layer = None
material_channel Visibility raw layer = None
material_channel VertexColor raw layer = None
material_channel TextureSrt raw layer = cond (ltb layer material_layers) (Some (layer * 5 + listed 5 raw)) None
material_channel TexturePattern raw layer = cond (ltb layer material_layers) (Some (slot_channel layer)) None
material_channel IndirectSrt raw layer = Some (18 + listed 3 raw)
material_channel AlphaCompare raw layer = Some 21
material_channel MaterialColor raw layer = Some (22 + colour_place (listed colour_variants raw))
material_channel Other raw layer = None

-- ---- the channels of a book: panes first, then materials

unfoldable pub channel_count : List ℕ → ℕ
channel_count b = pane_count b * pane_channels + material_count b * material_channels

-- channel c of pane p, and of material m
unfoldable pub of_pane : ℕ → ℕ → ℕ
of_pane p c = p * pane_channels + c

unfoldable pub of_material : List ℕ → ℕ → ℕ → ℕ
of_material b m c = pane_count b * pane_channels + m * material_channels + c

-- ---- contents

-- what is found, as a pane's row, and as a material's
abbrev pub as_pane : Option ℕ → Option Reached
as_pane (Some i) = Some (reached.Pane i)
as_pane None = None

abbrev pub as_material : Option ℕ → Option Reached
as_material (Some i) = Some (reached.Material i)
as_material None = None

-- the pane with the content's name as its label, and the material of its name
unfoldable pub pane_named : List ℕ → List ℕ → ℕ → Option ℕ
pane_named s b c = find_name b panes_at pane_bytes (pane_count b) s (contents_at s + c * content_bytes + row_name)

unfoldable pub material_named : List ℕ → List ℕ → ℕ → Option ℕ
material_named s b c = find_name b (materials_at b) material_bytes (material_count b) s (contents_at s + c * content_bytes + row_name)

-- content types: 0 Pane and 3 PaneExt reach the pane, 1 Material the material, any other nothing
unfoldable pub content_reach : List ℕ → List ℕ → ℕ → Option Reached
content_reach s b c =
    cond (eqb (content_row s c).kind 0 || eqb (content_row s c).kind 3) (as_pane (pane_named s b c))
    (cond (eqb (content_row s c).kind 1) (as_material (material_named s b c)) None)

-- the same where the content is one of the animation's, and nothing where it isn't
unfoldable pub active_reach : List ℕ → List ℕ → ℕ → ℕ → Option Reached
active_reach s b a c = cond (ltb c (content_count s)) (cond (eqb (content_row s c).animation a) (content_reach s b c) None) None

-- ---- targets

-- a channel of the row that is reached
abbrev pub in_pane : ℕ → Option ℕ → Option ℕ
in_pane p (Some c) = Some (of_pane p c)
in_pane p None = None

abbrev pub in_material : List ℕ → ℕ → Option ℕ → Option ℕ
in_material b m (Some c) = Some (of_material b m c)
in_material b m None = None

-- the channel that a family, a raw number and a layer address in the row that is reached; any other pairing addresses nothing
unfoldable pub address : List ℕ → Option Reached → Family → ℕ → ℕ → Option ℕ
address b (Some (reached.Pane p)) f raw layer = in_pane p (pane_channel f raw)
address b (Some (reached.Material m)) f raw layer = in_material b m (material_channel f raw layer)
address b None f raw layer = None

-- the channel that a target's row addresses in the row that is reached
unfoldable pub row_channel : List ℕ → Option Reached → Target → Option ℕ
row_channel b r row = address b r (family_of row.code) row.raw row.layer

-- the channel that target t addresses while animation a is active
unfoldable pub target_channel : List ℕ → List ℕ → ℕ → ℕ → Option ℕ
target_channel s b a t = row_channel b (active_reach s b a (target_row s t).content) (target_row s t)
