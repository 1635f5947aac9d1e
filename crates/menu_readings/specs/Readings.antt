-- What each reading gives (document 01, "Channels" and "What a call declines"): the number of the first row of its list that doesn't hold
-- (specs/Rows), and the answer where each does. What is answered depends on the player only by its view. Definitions only.
use Rattle.std.specs.Prelude.{ℕ, Bool, false, not, ◌&&◌, cond, List, [], eqb, Float, None}
use Rattle.laws.specs.Rows.{declines}
use Rattle.float.specs.Numbers.{zero'}
use Rattle.float.specs.declared.vector.Srt.{Srt}
use Rattle.channel.specs.Channel.{of_pane, of_material}
use Rattle.reading.specs.Reading.{reading, marks_of, numbers_of}
use Rattle.reading.specs.Active.{Active, active_at}
use Rattle.reading.specs.declared.Reading.{Reading}
use Rattle.reading.specs.declared.Reading.TheVariants.{Nothing}
use Rattle.resolve.specs.Resolve.{transform_of, visible_of, alpha_of, srt_of, texture_of}
use Rattle.resolve.specs.Cascade.{visibles, alphas, influences}
use Rattle.resolve.specs.declared.Transform.{Transform}
use Rattle.player.specs.declared.Player.{Player}
use Rattle.edit.specs.Keys.{Keys}
use Rattle.edit.specs.Edit.{none}
use Rattle.player.specs.Parts.{View, view_of}
use Rattle.menu_readings.specs.Rows.{read_pane_table, read_material_table, read_all_table, resolve_pane_table, resolve_srt_table, texture_name_table, cascade_table}
use Rattle.menu_readings.specs.declared.single.ReadOne.{ReadOne}
use Rattle.menu_readings.specs.declared.resolved.ResolvedPane.{ResolvedPane}
use Rattle.menu_readings.specs.declared.resolved.ResolvedSrt.{ResolvedSrt}

-- With nothing selected, or preview off, nothing is active.
unfoldable pub active_in : View → Active
active_in v = cond (v.preview && not (eqb v.selection none)) (active_at v.selection v.frame) None

-- ---- the answers, by the refusal n. Refused numbers are +0, and what was lent is as it was.

abbrev pub no_transform : Transform
no_transform =
    record {
      translation = record { x = zero'; y = zero'; z = zero' };
      rotation = record { x = zero'; y = zero'; z = zero' };
      scale = record { x = zero'; y = zero' };
      size = record { x = zero'; y = zero' };
    }

abbrev pub no_srt : Srt
no_srt = record { translate = record { x = zero'; y = zero' }; rotate = zero'; scale = record { x = zero'; y = zero' } }

-- a refused pane, and a refused layer
abbrev pub no_pane : ℕ → ResolvedPane
no_pane n = record { refusal = n; visible = false; alpha = zero'; transform = no_transform }

abbrev pub no_layer : ℕ → ResolvedSrt
no_layer n = record { refusal = n; srt = no_srt }

unfoldable pub one_of : ℕ → Reading → ReadOne
one_of n r = record { refusal = n; reading = cond (eqb n 0) r Nothing }

unfoldable pub pane_of : ℕ → Transform → Bool → Float → ResolvedPane
pane_of n t v a =
    record { refusal = n; visible = eqb n 0 && v; alpha = cond (eqb n 0) a zero'; transform = cond (eqb n 0) t no_transform }

unfoldable pub layer_of : ℕ → Srt → ResolvedSrt
layer_of n t = record { refusal = n; srt = cond (eqb n 0) t no_srt }

-- what a call leaves in two tables, and in three
pub record Tables : Type 0 where
  pub refusal : ℕ
  pub marks : List ℕ
  pub numbers : List Float

abbrev pub gave_tables : ℕ → List ℕ → List Float → Tables
gave_tables n marks numbers = record { refusal = n; marks = marks; numbers = numbers }

unfoldable pub tables_of : ℕ → List ℕ → List Float → List ℕ → List Float → Tables
tables_of n made made' marks numbers = record { refusal = n; marks = cond (eqb n 0) made marks; numbers = cond (eqb n 0) made' numbers }

pub record Cascaded : Type 0 where
  pub refusal : ℕ
  pub visible : List ℕ
  pub alpha : List Float
  pub influence : List Float

abbrev pub gave_cascade : ℕ → List ℕ → List Float → List Float → Cascaded
gave_cascade n visible alpha influence = record { refusal = n; visible = visible; alpha = alpha; influence = influence }

unfoldable pub cascaded_of : ℕ → List ℕ → List Float → List Float → List ℕ → List Float → List Float → Cascaded
cascaded_of n made made' made'' visible alpha influence =
    record { refusal = n; visible = cond (eqb n 0) made visible; alpha = cond (eqb n 0) made' alpha; influence = cond (eqb n 0) made'' influence }

-- ---- the readings of a view over keys, each with the refusal n
module _ (s b : List ℕ) (v : View) (ks : Keys) (n : ℕ) where
  abbrev pub read_pane_in : ℕ → ℕ → ReadOne
  read_pane_in pane c = one_of n (reading s b ks.frames ks.values ks.slopes (active_in v) (of_pane pane c))

  abbrev pub read_material_in : ℕ → ℕ → ReadOne
  read_material_in m c = one_of n (reading s b ks.frames ks.values ks.slopes (active_in v) (of_material b m c))

  abbrev pub read_all_in : List ℕ → List Float → Tables
  read_all_in marks numbers =
      tables_of n (marks_of s b ks.frames ks.values ks.slopes (active_in v)) (numbers_of s b ks.frames ks.values ks.slopes (active_in v)) marks numbers

  abbrev pub resolve_pane_in : ℕ → ResolvedPane
  resolve_pane_in pane =
      pane_of n (transform_of s b ks.frames ks.values ks.slopes (active_in v) pane) (visible_of s b ks.frames ks.values ks.slopes (active_in v) pane)
      (alpha_of s b ks.frames ks.values ks.slopes (active_in v) pane)

  abbrev pub resolve_srt_in : ℕ → ℕ → ResolvedSrt
  resolve_srt_in m layer = layer_of n (srt_of s b ks.frames ks.values ks.slopes (active_in v) m layer)

  -- a resolved texture name is a part of the sheet or of the book, empty where the call is declined
  abbrev pub texture_name_in : ℕ → ℕ → List ℕ
  texture_name_in m slot = cond (eqb n 0) (texture_of s b ks.frames ks.values ks.slopes (active_in v) m slot) []

  abbrev pub cascade_in : List ℕ → List Float → List Float → Cascaded
  cascade_in visible alpha influence =
      cascaded_of n (visibles s b ks.frames ks.values ks.slopes (active_in v)) (alphas s b ks.frames ks.values ks.slopes (active_in v))
      (influences s b ks.frames ks.values ks.slopes (active_in v)) visible alpha influence

-- ---- the calls
module _ (s b : List ℕ) (p : Player) (ks : Keys) where
  unfoldable pub read_pane_of : ℕ → ℕ → ReadOne
  read_pane_of pane c = read_pane_in s b (view_of p) ks (declines (read_pane_table s b p ks pane c)) pane c

  unfoldable pub read_material_of : ℕ → ℕ → ReadOne
  read_material_of m c = read_material_in s b (view_of p) ks (declines (read_material_table s b p ks m c)) m c

  unfoldable pub read_all_of : List ℕ → List Float → Tables
  read_all_of marks numbers = read_all_in s b (view_of p) ks (declines (read_all_table s b p ks marks numbers)) marks numbers

  unfoldable pub resolve_pane_of : ℕ → ResolvedPane
  resolve_pane_of pane = resolve_pane_in s b (view_of p) ks (declines (resolve_pane_table s b p ks pane)) pane

  unfoldable pub resolve_srt_of : ℕ → ℕ → ResolvedSrt
  resolve_srt_of m layer = resolve_srt_in s b (view_of p) ks (declines (resolve_srt_table s b p ks m layer)) m layer

  unfoldable pub texture_name_of : ℕ → ℕ → List ℕ
  texture_name_of m slot = texture_name_in s b (view_of p) ks (declines (texture_name_table s b p ks m slot)) m slot

  unfoldable pub cascade_of : List ℕ → List Float → List Float → Cascaded
  cascade_of visible alpha influence = cascade_in s b (view_of p) ks (declines (cascade_table s b p ks visible alpha influence)) visible alpha influence
