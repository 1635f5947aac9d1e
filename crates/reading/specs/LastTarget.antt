-- The last-target rule as a reader expects it: its words, and what a target that addresses a channel reads. That readings keep
-- the rule is shown in proofs/LastTarget. Assumes nothing.
use Rattle.std.specs.Prelude.{ℕ, ◌<◌, ◌≤◌, List, Bool, true, false, cond, ◌≡◌, refl, ltb, Float}
use Rattle.std.proofs.lemmas.Bool.{false≢true}
use Rattle.std.proofs.Common.{arith}
use borrow.Author.Tests.{ltb-false, le-ltb}
use Rattle.laws.specs.Swept.{is_at}
use Rattle.std.specs.Prelude.{Option, Some, None}
use Rattle.sheet.specs.Sizes.{target_count, texture_count}
use Rattle.sheet.specs.Rows.{target_row}
use Rattle.channel.specs.Channel.{family_of, pane_channel, material_channel, address, row_channel, target_channel}
use Rattle.channel.specs.declared.Family.{Family}
use Rattle.channel.specs.declared.Family.TheVariants as family
use Rattle.channel.specs.declared.Reached.{Reached}
use Rattle.channel.specs.declared.Reached.TheVariants as reached
use Rattle.reading.specs.Reading.{value16_at, row_of, read_as, row_reading, target_reading}
use Rattle.reading.specs.declared.Reading.TheVariants.{Nothing, Row}

-- ---- the words

-- target t of the sheet is the last that addresses channel c while animation a is active
pub record LastTarget (s b : List ℕ) (a c t : ℕ) : Type 0 where
  pub within : t < target_count s
  pub addresses : is_at (target_channel s b a t) c ≡ true
  pub later : (u : ℕ) → t < u → u < target_count s → is_at (target_channel s b a u) c ≡ false

-- no target of the sheet addresses it
pub record NoTarget (s b : List ℕ) (a c : ℕ) : Type 0 where
  pub none : (t : ℕ) → t < target_count s → is_at (target_channel s b a t) c ≡ false

-- target t names a texture from X up at frame x: "a texture index from X up leaves that slot with no override"
pub record TextureException (s : List ℕ) (fs vs ss : List Float) (x : Float) (t : ℕ) : Type 0 where
  pub texture : family_of (target_row s t).code ≡ family.TexturePattern
  pub past : texture_count s ≤ value16_at fs vs ss x (target_row s t)

-- some target addresses channel c while animation a is active at frame x, and the exception doesn't apply to the last such one
pub record Overridden (s b : List ℕ) (fs vs ss : List Float) (a : ℕ) (x : Float) (c : ℕ) : Type 0 where
  pub target : ℕ
  pub last : LastTarget s b a c target
  pub kept : TextureException s fs vs ss x target → ⊥

module _ (s b : List ℕ) (a c : ℕ) where
  -- one of the two is so: no target addresses the channel, or there is a last one
  pub data LastOrNone : Type 0 where
    no_target : NoTarget s b a c → LastOrNone
    last_target_lem : (t : ℕ) → LastTarget s b a c t → LastOrNone

-- ---- what a target that addresses a channel reads

-- a code of no family addresses nothing
other_addresses : (b : List ℕ) (r : Option Reached) (raw layer : ℕ) → address b r family.Other raw layer ≡ None
unfolding address pane_channel material_channel
other_addresses b (Some (reached.Pane p)) raw layer = refl
other_addresses b (Some (reached.Material m)) raw layer = refl
other_addresses b None raw layer = refl

-- so the family of a target that addresses a channel is one of the eight
pub addressing_family : (s b : List ℕ) (a c t : ℕ) → is_at (target_channel s b a t) c ≡ true → family_of (target_row s t).code ≡ family.Other → ⊥
unfolding target_channel row_channel
addressing_family s b a c t h e = false≢true (rw (e, other_addresses) at h)

-- what one of the eight reads is nothing only past the textures
read_nothing : (f : Family) (v : Float) (n x : ℕ) → (f ≡ family.Other → ⊥) → read_as f v n x ≡ Nothing → (f ≡ family.TexturePattern) × (x ≤ n)
unfolding row_of
read_nothing family.PaneSrt v n x h e = let z : ◌≡◌ {A = ℕ} 0 1 = cc in absurd (omega arith)
read_nothing family.Visibility v n x h e = let z : ◌≡◌ {A = ℕ} 0 1 = cc in absurd (omega arith)
read_nothing family.VertexColor v n x h e = let z : ◌≡◌ {A = ℕ} 0 1 = cc in absurd (omega arith)
read_nothing family.TextureSrt v n x h e = let z : ◌≡◌ {A = ℕ} 0 1 = cc in absurd (omega arith)
read_nothing family.TexturePattern v n x h e = (refl, go (ltb n x) refl e)
  where
    go : (q : Bool) → ltb n x ≡ q → cond q (Row n) Nothing ≡ Nothing → x ≤ n
    go true p f = let z : ◌≡◌ {A = ℕ} 0 1 = cc in absurd (omega arith)
    go false p f = ltb-false n x p
read_nothing family.IndirectSrt v n x h e = let z : ◌≡◌ {A = ℕ} 0 1 = cc in absurd (omega arith)
read_nothing family.AlphaCompare v n x h e = let z : ◌≡◌ {A = ℕ} 0 1 = cc in absurd (omega arith)
read_nothing family.MaterialColor v n x h e = let z : ◌≡◌ {A = ℕ} 0 1 = cc in absurd (omega arith)
read_nothing family.Other v n x h e = absurd (h refl)

module _ (s : List ℕ) (fs vs ss : List Float) (x : Float) (t : ℕ) where
  -- the exception reads nothing
  pub exception_then : TextureException s fs vs ss x t → target_reading s fs vs ss x t ≡ Nothing
  unfolding target_reading row_reading row_of
  exception_then h = rw (h.texture, le-ltb (value16_at fs vs ss x (target_row s t)) (texture_count s) h.past)

  -- and of the targets that address a channel it alone does
  pub exception_only : (b : List ℕ) (a c : ℕ) → is_at (target_channel s b a t) c ≡ true → target_reading s fs vs ss x t ≡ Nothing → TextureException s fs vs ss x t
  unfolding target_reading row_reading
  exception_only b a c h e =
      let p = read_nothing (family_of (target_row s t).code) _ (value16_at fs vs ss x (target_row s t)) (texture_count s) (addressing_family s b a c t h) e in
      record { texture = p.0; past = p.1 }
