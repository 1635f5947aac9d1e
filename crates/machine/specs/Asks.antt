-- The readings that demand 3 speaks of (document 01: single, whole, resolving, resolved name and cascade): what each takes beside the book, player
-- and keys, what it answers, and its rows 7 and 13 of the table. Definitions only.
use Rattle.std.specs.Prelude.{ℕ, List, ◌∷◌, Float}
use Rattle.laws.specs.Rows.{Row, row, declines}
use Rattle.book.specs.Book.{book_ok}
use Rattle.player.specs.declared.Player.{Player}
use Rattle.edit.specs.Keys.{Keys}
use Rattle.player.specs.Parts.{View}
use Rattle.menu_readings.specs.declared.single.ReadOne.{ReadOne}
use Rattle.menu_readings.specs.declared.resolved.ResolvedPane.{ResolvedPane}
use Rattle.menu_readings.specs.declared.resolved.ResolvedSrt.{ResolvedSrt}
use Rattle.menu_readings.specs.Rows.{pane_rows, pane_channel_rows, material_channel_rows, layer_rows, tables_rows, cascade_rows, read_pane_table, read_material_table, read_all_table, resolve_pane_table, resolve_srt_table, texture_name_table, cascade_table}
use Rattle.menu_readings.specs.Readings.{Tables, Cascaded, read_pane_in, read_material_in, read_all_in, resolve_pane_in, resolve_srt_in, texture_name_in, cascade_in, read_pane_of, read_material_of, read_all_of, resolve_pane_of, resolve_srt_of, texture_name_of, cascade_of}

-- a reading, with the outputs that are lent to it as they are
pub data Ask : Type 0 where
  pane_channel : ℕ → ℕ → Ask
  material_channel : ℕ → ℕ → Ask
  all : List ℕ → List Float → Ask
  pane : ℕ → Ask
  layer : ℕ → ℕ → Ask
  texture : ℕ → ℕ → Ask
  cascade : List ℕ → List Float → List Float → Ask

-- what it answers, its outputs with it
pub data Told : Type 0 where
  one : ReadOne → Told
  tables : Tables → Told
  resolved_pane : ResolvedPane → Told
  resolved_layer : ResolvedSrt → Told
  name : List ℕ → Told
  cascaded : Cascaded → Told

-- rows 7 and 13
unfoldable pub ask_rows : List ℕ → Ask → List Row
ask_rows b (pane_channel i c) = pane_channel_rows b i c
ask_rows b (material_channel m c) = material_channel_rows b m c
ask_rows b (all marks numbers) = tables_rows b marks numbers
ask_rows b (pane i) = pane_rows b i
ask_rows b (layer m k) = layer_rows b m k
ask_rows b (texture m k) = layer_rows b m k
ask_rows b (cascade visible alpha influence) = cascade_rows b visible alpha influence

-- row 2, and then those: what a reading declines where sheet, keys and player are as they should be
unfoldable pub ask_refusal : List ℕ → Ask → ℕ
ask_refusal b q = declines (row 2 (book_ok b) ∷ ask_rows b q)

-- the list of the call: the definition that the contract of crate menu cites
unfoldable pub ask_table : List ℕ → List ℕ → Player → Keys → Ask → List Row
ask_table s b p ks (pane_channel i c) = read_pane_table s b p ks i c
ask_table s b p ks (material_channel m c) = read_material_table s b p ks m c
ask_table s b p ks (all marks numbers) = read_all_table s b p ks marks numbers
ask_table s b p ks (pane i) = resolve_pane_table s b p ks i
ask_table s b p ks (layer m k) = resolve_srt_table s b p ks m k
ask_table s b p ks (texture m k) = texture_name_table s b p ks m k
ask_table s b p ks (cascade visible alpha influence) = cascade_table s b p ks visible alpha influence

-- the answer for a view over keys, by the refusal n
unfoldable pub tell_in : List ℕ → List ℕ → View → Keys → ℕ → Ask → Told
tell_in s b v ks n (pane_channel i c) = one (read_pane_in s b v ks n i c)
tell_in s b v ks n (material_channel m c) = one (read_material_in s b v ks n m c)
tell_in s b v ks n (all marks numbers) = tables (read_all_in s b v ks n marks numbers)
tell_in s b v ks n (pane i) = resolved_pane (resolve_pane_in s b v ks n i)
tell_in s b v ks n (layer m k) = resolved_layer (resolve_srt_in s b v ks n m k)
tell_in s b v ks n (texture m k) = name (texture_name_in s b v ks n m k)
tell_in s b v ks n (cascade visible alpha influence) = cascaded (cascade_in s b v ks n visible alpha influence)

-- the answer of the call: the definition that the contract of crate menu cites
unfoldable pub tell_of : List ℕ → List ℕ → Player → Keys → Ask → Told
tell_of s b p ks (pane_channel i c) = one (read_pane_of s b p ks i c)
tell_of s b p ks (material_channel m c) = one (read_material_of s b p ks m c)
tell_of s b p ks (all marks numbers) = tables (read_all_of s b p ks marks numbers)
tell_of s b p ks (pane i) = resolved_pane (resolve_pane_of s b p ks i)
tell_of s b p ks (layer m k) = resolved_layer (resolve_srt_of s b p ks m k)
tell_of s b p ks (texture m k) = name (texture_name_of s b p ks m k)
tell_of s b p ks (cascade visible alpha influence) = cascaded (cascade_of s b p ks visible alpha influence)
