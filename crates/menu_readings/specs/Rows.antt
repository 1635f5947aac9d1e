-- The rows of document 01's table "What a call declines" that look at the arguments and outputs of the readings, and each reading's whole list, in the
-- order in which its rows are looked at. `..Rows` is a part of a list, `..Table` a call's list. Definitions only.
use Rattle.std.specs.Prelude.{ℕ, ◌&&◌, List, [], ◌∷◌, ◌++◌, eqb, ltb, length, Float}
use Rattle.laws.specs.Rows.{Row, row}
use Rattle.book.specs.Sizes.{pane_count, material_count}
use Rattle.channel.specs.Channel.{pane_channels, material_channels, material_layers, channel_count}
use Rattle.channel.specs.declared.Reached.{Reached}
use Rattle.channel.specs.declared.Reached.TheVariants as reached
use Rattle.edit.specs.Keys.{Keys}
use Rattle.player.specs.declared.Player.{Player}
use Rattle.menu_checks.specs.Rows.{reading_rows}

-- ---- the rows of the arguments and outputs

-- row 7: no such pane, material or channel
unfoldable pub pane_rows : List ℕ → ℕ → List Row
pane_rows b pane = row 7 (ltb pane (pane_count b)) ∷ []

unfoldable pub pane_channel_rows : List ℕ → ℕ → ℕ → List Row
pane_channel_rows b pane c = row 7 (ltb pane (pane_count b) && ltb c pane_channels) ∷ []

unfoldable pub material_channel_rows : List ℕ → ℕ → ℕ → List Row
material_channel_rows b m c = row 7 (ltb m (material_count b) && ltb c material_channels) ∷ []

-- either, of a row of the book
abbrev pub row_channel_rows : List ℕ → Reached → ℕ → List Row
row_channel_rows b (reached.Pane p) c = pane_channel_rows b p c
row_channel_rows b (reached.Material m) c = material_channel_rows b m c

-- a material's layer, and its texture slot: as many of each
unfoldable pub layer_rows : List ℕ → ℕ → ℕ → List Row
layer_rows b m layer = row 7 (ltb m (material_count b) && ltb layer material_layers) ∷ []

-- row 13: outputs not exactly as long
unfoldable pub tables_rows : List ℕ → List ℕ → List Float → List Row
tables_rows b marks numbers = row 13 (eqb (length marks) (channel_count b) && eqb (length numbers) (channel_count b)) ∷ []

unfoldable pub cascade_rows : List ℕ → List ℕ → List Float → List Float → List Row
cascade_rows b visible alpha influence =
    row 13 (eqb (length visible) (pane_count b) && eqb (length alpha) (pane_count b) && eqb (length influence) (pane_count b)) ∷ []

-- ---- each call's list
module _ (s b : List ℕ) (p : Player) (ks : Keys) where
  unfoldable pub read_pane_table : ℕ → ℕ → List Row
  read_pane_table pane c = reading_rows s b p ks ++ pane_channel_rows b pane c

  unfoldable pub read_material_table : ℕ → ℕ → List Row
  read_material_table m c = reading_rows s b p ks ++ material_channel_rows b m c

  -- either, of a row of the book
  unfoldable pub read_table : Reached → ℕ → List Row
  read_table row c = reading_rows s b p ks ++ row_channel_rows b row c

  unfoldable pub read_all_table : List ℕ → List Float → List Row
  read_all_table marks numbers = reading_rows s b p ks ++ tables_rows b marks numbers

  unfoldable pub resolve_pane_table : ℕ → List Row
  resolve_pane_table pane = reading_rows s b p ks ++ pane_rows b pane

  unfoldable pub resolve_srt_table : ℕ → ℕ → List Row
  resolve_srt_table m layer = reading_rows s b p ks ++ layer_rows b m layer

  unfoldable pub texture_name_table : ℕ → ℕ → List Row
  texture_name_table m slot = reading_rows s b p ks ++ layer_rows b m slot

  unfoldable pub cascade_table : List ℕ → List Float → List Float → List Row
  cascade_table visible alpha influence = reading_rows s b p ks ++ cascade_rows b visible alpha influence
