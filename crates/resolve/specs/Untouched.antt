-- An edit reaches only its own channel, resolved: a transform, a layer, a texture name, visible and alpha depend on their own channels alone. Of two sets of keys, the first is before an edit and the second after it. The cascade is in proofs/Untouched. Assumes nothing.
use Rattle.std.specs.Prelude.{ℕ, ◌+◌, ◌*◌, ◌<◌, List, map, ◌≡◌, get_or, Float}
use native.Mathlib.Omega.{arith}
use Rattle.std.proofs.Math.ListN.{get_or-map}
use Rattle.book.specs.Sizes.{no_parent}
use Rattle.book.specs.Rows.{pane_row}
use Rattle.channel.specs.Channel.{visible_channel, alpha_channel, slot_channel, of_pane, of_material}
use Rattle.reading.specs.Reading.{reading}
use Rattle.reading.specs.Active.{Active}
use Rattle.resolve.specs.Resolve.{pane_number, material_number, transform_of, visible_of, alpha_of, srt_of, texture_of}
use Rattle.resolve.specs.Cascade.{root}
use Rattle.resolve.specs.declared.Cascaded.{Cascaded}

-- ---- resolving

module _ (s b : List ℕ) (fs vs ss gs us ts : List Float) (a : Active) where
  -- channel c reads the same before and after
  abbrev pub Reads : ℕ → Type 0
  Reads c = reading s b gs us ts a c ≡ reading s b fs vs ss a c

  pub transform_same : (p : ℕ) → ((k : ℕ) → k < 10 → Reads (of_pane p k)) → transform_of s b gs us ts a p ≡ transform_of s b fs vs ss a p
  unfolding transform_of pane_number
  transform_same p h =
      rw (
        h 0 (omega arith),
        h 1 (omega arith),
        h 2 (omega arith),
        h 3 (omega arith),
        h 4 (omega arith),
        h 5 (omega arith),
        h 6 (omega arith),
        h 7 (omega arith),
        h 8 (omega arith),
        h 9 (omega arith),
      )

  pub visible_same : (p : ℕ) → Reads (of_pane p visible_channel) → visible_of s b gs us ts a p ≡ visible_of s b fs vs ss a p
  unfolding visible_of
  visible_same p h = rw h

  pub alpha_same : (p : ℕ) → Reads (of_pane p alpha_channel) → alpha_of s b gs us ts a p ≡ alpha_of s b fs vs ss a p
  unfolding alpha_of pane_number
  alpha_same p h = rw h

  -- a layer's five channels
  pub srt_same : (m layer : ℕ) → ((k : ℕ) → k < 5 → Reads (of_material b m (layer * 5 + k))) → srt_of s b gs us ts a m layer ≡ srt_of s b fs vs ss a m layer
  unfolding srt_of material_number
  srt_same m layer h =
      let z : layer * 5 + 0 ≡ layer * 5 = omega arith in
      let f : layer * 5 + 4 ≡ layer * 5 + 3 + 1 = omega arith in
      rw (rw z at (h 0 (omega arith)), h 1 (omega arith), h 2 (omega arith), h 3 (omega arith), rw f at (h 4 (omega arith)))

  pub texture_same : (m slot : ℕ) → Reads (of_material b m (slot_channel slot)) → texture_of s b gs us ts a m slot ≡ texture_of s b fs vs ss a m slot
  unfolding texture_of
  texture_same m slot h = rw h

-- ---- at or below a pane

pub data AtOrBelow (b : List ℕ) (q : ℕ) : ℕ → Type 0 where
  at : AtOrBelow b q q
  below : {p : ℕ} → ((pane_row b p).parent ≡ no_parent → ⊥) → AtOrBelow b q (pane_row b p).parent → AtOrBelow b q p

-- ---- the cascade before and after

-- an output of the cascade has at each pane a part of the pane's row
pub outputs_are : {B : Type 0} (g : Cascaded → B) (rows : List Cascaded) (i : ℕ) → get_or (map g rows) i (g root) ≡ g (get_or rows i root)
outputs_are g rows i = get_or-map g rows i root
