-- Every row that is reached is one of the book's, and every channel that a target addresses in a pane one of the pane's. Of materials and of the whole book
-- that is shown in proofs/Inside. Assumes nothing.
use Rattle.std.specs.Prelude.{ℕ, ◌+◌, ◌*◌, ◌<◌, List, Bool, true, false, cond, ◌||◌, ◌≡◌, refl, eqb, ltb}
use Rattle.std.proofs.Common.{arith, ltb-true}
use Rattle.std.proofs.lemmas.Bool.{eqb-false}
use Rattle.std.specs.Prelude.{Option}
use Rattle.std.specs.Prelude.{Some, None}
use Rattle.field.specs.Table.{found_within}
use Rattle.sheet.specs.Sizes.{content_count, content_bytes, row_name, contents_at}
use Rattle.sheet.specs.Rows.{content_row}
use Rattle.book.specs.Sizes.{pane_count, material_count, pane_bytes, material_bytes, panes_at, materials_at}
use Rattle.channel.specs.Channel.{listed, pane_channel, pane_channels, material_channels, channel_count, of_pane, of_material, as_pane, as_material, pane_named, material_named, content_reach, active_reach}
use Rattle.channel.specs.declared.Family.{Family}
use Rattle.channel.specs.declared.Family.TheVariants.{PaneSrt, Visibility, VertexColor, TextureSrt, TexturePattern, IndirectSrt, AlphaCompare, MaterialColor, Other}
use Rattle.channel.specs.declared.Reached.{Reached}
use Rattle.channel.specs.declared.Reached.TheVariants as reached

-- ---- channels of one row

pub listed_below : (n raw : ℕ) → 0 < n → listed n raw < n
unfolding listed
listed_below n raw h = go (ltb raw n) refl
  where
    go : (b : Bool) → ltb raw n ≡ b → cond b raw 0 < n
    go true e = ltb-true raw n e
    go false e = h

-- where a place is found, it is below n
pub record Below (o : Option ℕ) (n : ℕ) : Type 0 where
  pub below : (c : ℕ) → o ≡ Some c → c < n

pub at : (i n : ℕ) → i < n → Below (Some i) n
at i n l = record { below = λ c e. let q : i ≡ c = cc in omega arith }

pub nowhere : (n : ℕ) → Below None n
nowhere n = record { below = λ c e. let z : ◌≡◌ {A = ℕ} 0 1 = cc in absurd (omega arith) }

pub either : (b : Bool) (o p : Option ℕ) (n : ℕ) → (b ≡ true → Below o n) → (b ≡ false → Below p n) → Below (cond b o p) n
either true o p n h k = h refl
either false o p n h k = k refl

pub pane_channel_below : (f : Family) (raw : ℕ) → Below (pane_channel f raw) pane_channels
unfolding pane_channel
pane_channel_below PaneSrt raw = at _ _ (omega (arith, listed_below 10 raw (omega arith)))
pane_channel_below Visibility raw = at _ _ (omega arith)
pane_channel_below VertexColor raw =
    either (eqb (listed 17 raw) 16) _ _ _ (λ e. at _ _ (omega arith)) (λ e. at _ _ (omega (arith, eqb-false (listed 17 raw) 16 e, listed_below 17 raw (omega arith))))
pane_channel_below TextureSrt raw = nowhere _
pane_channel_below TexturePattern raw = nowhere _
pane_channel_below IndirectSrt raw = nowhere _
pane_channel_below AlphaCompare raw = nowhere _
pane_channel_below MaterialColor raw = nowhere _
pane_channel_below Other raw = nowhere _

-- ---- rows of the book

-- what is reached is a row of the book
pub record ReachedIn (b : List ℕ) (r : Reached) : Type 0 where
  pub pane : (p : ℕ) → r ≡ reached.Pane p → p < pane_count b
  pub material : (m : ℕ) → r ≡ reached.Material m → m < material_count b

-- where a row is reached
pub record SomeIn (b : List ℕ) (o : Option Reached) : Type 0 where
  pub some : (r : Reached) → o ≡ Some r → ReachedIn b r

none_in : (b : List ℕ) → SomeIn b None
none_in b = record { some = λ r e. let z : ◌≡◌ {A = ℕ} 0 1 = cc in absurd (omega arith) }

pane_in_lem : (b : List ℕ) (o : Option ℕ) → Below o (pane_count b) → SomeIn b (as_pane o)
pane_in_lem b (Some i) h =
    record {
      some = λ r k.
          record {
            pane = λ p e. let q : i ≡ p = cc in omega (arith, h.below i refl);
            material = λ m e. let z : ◌≡◌ {A = ℕ} 0 1 = cc in absurd (omega arith);
          };
    }
pane_in_lem b None h = none_in b

material_in : (b : List ℕ) (o : Option ℕ) → Below o (material_count b) → SomeIn b (as_material o)
material_in b (Some i) h =
    record {
      some = λ r k.
          record {
            pane = λ p e. let z : ◌≡◌ {A = ℕ} 0 1 = cc in absurd (omega arith);
            material = λ m e. let q : i ≡ m = cc in omega (arith, h.below i refl);
          };
    }
material_in b None h = none_in b

either_in : (b : List ℕ) (t : Bool) (r q : Option Reached) → SomeIn b r → SomeIn b q → SomeIn b (cond t r q)
either_in b true r q h k = h
either_in b false r q h k = k

pane_named_below : (s b : List ℕ) (c : ℕ) → Below (pane_named s b c) (pane_count b)
unfolding pane_named
pane_named_below s b c = record { below = λ p e. found_within b panes_at pane_bytes (pane_count b) s (contents_at s + c * content_bytes + row_name) p e }

material_named_below : (s b : List ℕ) (c : ℕ) → Below (material_named s b c) (material_count b)
unfolding material_named
material_named_below s b c = record { below = λ m e. found_within b (materials_at b) material_bytes (material_count b) s (contents_at s + c * content_bytes + row_name) m e }

pub content_in : (s b : List ℕ) (c : ℕ) → SomeIn b (content_reach s b c)
unfolding content_reach
content_in s b c =
    either_in b (eqb (content_row s c).kind 0 || eqb (content_row s c).kind 3) _ _
    (pane_in_lem b (pane_named s b c) (pane_named_below s b c))
    (either_in b (eqb (content_row s c).kind 1) _ _ (material_in b (material_named s b c) (material_named_below s b c)) (none_in b))

pub active_in_lem : (s b : List ℕ) (a c : ℕ) → SomeIn b (active_reach s b a c)
unfolding active_reach
active_in_lem s b a c = either_in b (ltb c (content_count s)) _ _ (either_in b (eqb (content_row s c).animation a) _ _ (content_in s b c) (none_in b)) (none_in b)

-- ---- channels of the book

pub pane_below : (b : List ℕ) (p c : ℕ) → p < pane_count b → c < pane_channels → of_pane p c < channel_count b
unfolding of_pane channel_count
pane_below b p c h k = omega arith

pub material_below : (b : List ℕ) (m c : ℕ) → m < material_count b → c < material_channels → of_material b m c < channel_count b
unfolding of_material channel_count
material_below b m c h k = omega arith
