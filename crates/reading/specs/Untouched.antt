-- An edit reaches only its own channel: two sets of keys of one sheet read the same in every channel that no track with other keys decides (the
-- last-target rule), single and whole, at every animation and every frame. Where one track alone has
-- other keys, see proofs/Untouched. Assumes nothing.
use Rattle.std.specs.Prelude.{ℕ, ◌<◌, List, ◌≡◌, get_or, Float}
use Rattle.std.proofs.Math.Path.{refl, sym, ap}
use Rattle.std.proofs.Common.{◌∙◌}
use Rattle.laws.specs.Table.{table_at}
use Rattle.std.specs.Prelude.{Option}
use Rattle.std.specs.Prelude.{Some, None}
use Rattle.float.specs.Numbers.{zero'}
use Rattle.sheet.specs.Rows.{target_row}
use Rattle.curve.specs.Keys.{part_of}
use Rattle.channel.specs.Channel.{channel_count}
use Rattle.reading.specs.Reading.{value_at, value16_at, row_reading, target_reading, last_target, reading, mark_of, number_of, marks_of, numbers_of}
use Rattle.reading.specs.Active.{Active}

-- track t has the same keys in both sets: its part of each of the three lists
pub record SameKeys (s : List ℕ) (fs vs ss gs us ts : List Float) (t : ℕ) : Type 0 where
  pub frames : part_of (target_row s t).first (target_row s t).count gs ≡ part_of (target_row s t).first (target_row s t).count fs
  pub values : part_of (target_row s t).first (target_row s t).count us ≡ part_of (target_row s t).first (target_row s t).count vs
  pub slopes : part_of (target_row s t).first (target_row s t).count ts ≡ part_of (target_row s t).first (target_row s t).count ss

module _ (s b : List ℕ) (fs vs ss gs us ts : List Float) where
  -- the track then reads the same at every frame
  pub track_reads : (t : ℕ) (x : Float) → SameKeys s fs vs ss gs us ts t → target_reading s gs us ts x t ≡ target_reading s fs vs ss x t
  unfolding target_reading row_reading value_at value16_at
  track_reads t x k = rw (k.frames, k.values, k.slopes)

  -- Untouched: the track that decides channel c while an animation is active, if there is one, has the same keys.
  abbrev pub Untouched : Active → ℕ → Type 0
  Untouched (Some v) c = (t : ℕ) → last_target s b v.animation c ≡ Some t → SameKeys s fs vs ss gs us ts t
  Untouched None c = Unit {0}

  -- an untouched channel reads the same
  pub untouched_reads : (a : Active) (c : ℕ) → Untouched a c → reading s b gs us ts a c ≡ reading s b fs vs ss a c
  unfolding reading
  untouched_reads None c h = refl
  untouched_reads (Some v) c h = go (last_target s b v.animation c) refl
    where
      go : (o : Option ℕ) → last_target s b v.animation c ≡ o → reading s b gs us ts (Some v) c ≡ reading s b fs vs ss (Some v) c
      go (Some t) e = rw e (track_reads t v.frame (h t e))
      go None e = rw e

  -- and so has the same mark and number in the whole reading
  pub untouched_whole : (a : Active) (c : ℕ) → c < channel_count b → Untouched a c
      → (get_or (marks_of s b gs us ts a) c 0 ≡ get_or (marks_of s b fs vs ss a) c 0) × (get_or (numbers_of s b gs us ts a) c zero' ≡ get_or (numbers_of s b fs vs ss a) c zero')
  unfolding marks_of numbers_of
  untouched_whole a c l h =
      let e = untouched_reads a c h in (
        table_at (channel_count b) c _ 0 l ∙ ap mark_of e ∙ sym (table_at (channel_count b) c _ 0 l),
        table_at (channel_count b) c _ zero' l ∙ ap number_of e ∙ sym (table_at (channel_count b) c _ zero' l),
      )
