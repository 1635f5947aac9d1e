-- One given channel: where it stands in the book, and whether a target addresses it, told from the names of its row and of the target's content.
-- That a target addresses it exactly then is shown in proofs/Places. Assumes nothing.
use Rattle.std.specs.Prelude.{ℕ, ◌+◌, ◌-◌, ◌*◌, ◌/◌, ◌%◌, ◌<◌, List, Bool, cond, ◌&&◌, ◌||◌, ◌≡◌, ltb}
use Rattle.std.proofs.Math.Bool.{true, false}
use Rattle.std.proofs.Math.Path.{refl}
use Rattle.std.proofs.Common.{sym, ◌∙◌, arith}
use borrow.Author.Tests.{ltb-true, ltb-false, lt-ltb, eqb-true, eq-eqb}
use Rattle.std.proofs.Math.Dec.{eqb}
use Rattle.laws.specs.Below.{all_at, all_of}
use Rattle.laws.specs.Swept.{is_at}
use Rattle.laws.specs.Only.{first_only}
use Rattle.std.specs.Prelude.{Option}
use Rattle.std.specs.Prelude.{Some, None}
use Rattle.field.specs.Read.{byte_at}
use Rattle.field.specs.Name.{name_bytes, same_byte, same_name, row_named, find_name, names_ok}
use Rattle.field.specs.Table.{distinct}
use Rattle.sheet.specs.Sizes.{content_count, content_bytes, row_name, contents_at}
use Rattle.sheet.specs.Rows.{content_row}
use Rattle.sheet.specs.declared.rows.Target.{Target}
use Rattle.book.specs.Sizes.{pane_count, material_count, pane_bytes, material_bytes, panes_at, materials_at}
use Rattle.book.specs.Checked.{CheckedBook}
use Rattle.channel.specs.Channel.{family_of, pane_channel, material_channel, pane_channels, material_channels, channel_count, as_pane, as_material, pane_named, material_named, content_reach, active_reach}
use Rattle.channel.specs.declared.Reached.{Reached}
use Rattle.channel.specs.declared.Reached.TheVariants as reached
use Rattle.channel.specs.declared.place.Place.{Place}
use Rattle.channel.specs.declared.place.Place.TheVariants.{Pane, Material}

-- channel c's row of the book, and its number there: panes first
unfoldable pub place_of : List ℕ → ℕ → Place
place_of b c =
    cond (ltb c (pane_count b * pane_channels)) (Pane (c / pane_channels) (c % pane_channels))
    (Material ((c - pane_count b * pane_channels) / material_channels) ((c - pane_count b * pane_channels) % material_channels))

-- the row of a place is one of the book's
pub record PlacedIn (b : List ℕ) (l : Place) : Type 0 where
  pub pane : (p k : ℕ) → l ≡ Pane p k → p < pane_count b
  pub material : (m k : ℕ) → l ≡ Material m k → m < material_count b

-- what is reached is pane p, is material m
abbrev pub is_pane : Option Reached → ℕ → Bool
is_pane (Some (reached.Pane q)) p = eqb q p
is_pane (Some (reached.Material n)) p = false
is_pane None p = false

abbrev pub is_material : Option Reached → ℕ → Bool
is_material (Some (reached.Pane q)) m = false
is_material (Some (reached.Material n)) m = eqb n m
is_material None m = false

-- what is reached is a given row
abbrev pub is_row : Option Reached → Reached → Bool
is_row o (reached.Pane p) = is_pane o p
is_row o (reached.Material m) = is_material o m

-- a target's row addresses the channel at a place: its family, raw number and layer give the channel's number, and its content reaches the row
unfoldable pub hits : List ℕ → List ℕ → ℕ → Place → Target → Bool
hits s b a (Pane p k) row = is_at (pane_channel (family_of row.code) row.raw) k && is_pane (active_reach s b a row.content) p
hits s b a (Material m k) row = is_at (material_channel (family_of row.code) row.raw row.layer) k && is_material (active_reach s b a row.content) m

-- the row of a channel's place is one of the book's
pub placed : (b : List ℕ) (c : ℕ) → c < channel_count b → PlacedIn b (place_of b c)
unfolding place_of channel_count
placed b c l = go (ltb c (pane_count b * pane_channels)) refl
  where
    go : (x : Bool) → ltb c (pane_count b * pane_channels) ≡ x →
        PlacedIn b (cond x (Pane (c / pane_channels) (c % pane_channels)) (Material ((c - pane_count b * pane_channels) / material_channels) ((c - pane_count b * pane_channels) % material_channels)))
    go true e =
        record {
          pane = λ p k q. let r : c / pane_channels ≡ p = cc in omega (arith, ltb-true c _ e);
          material = λ m k q. let z : ◌≡◌ {A = ℕ} 0 1 = cc in absurd (omega arith);
        }
    go false e =
        record {
          pane = λ p k q. let z : ◌≡◌ {A = ℕ} 0 1 = cc in absurd (omega arith);
          material = λ m k q. let r : (c - pane_count b * pane_channels) / material_channels ≡ m = cc in omega (arith, ltb-false c _ e);
        }

-- ---- a content reaches a given row exactly when it has the row's name: the book's names are distinct

same_chain : (b : List ℕ) (x y : ℕ) (s : List ℕ) (at : ℕ) → same_name b x s at ≡ true → same_name b y s at ≡ true → same_name b x b y ≡ true
unfolding same_name same_byte
same_chain b x y s at p q =
    all_of name_bytes (same_byte b x b y)
    (λ k l.
    eq-eqb (byte_at b (x + k)) (byte_at b (y + k))
    (eqb-true (byte_at b (x + k)) (byte_at s (at + k)) (all_at name_bytes (same_byte b x s at) k p l) ∙
    sym (eqb-true (byte_at b (y + k)) (byte_at s (at + k)) (all_at name_bytes (same_byte b y s at) k q l))))

-- in a table whose names are distinct, the search for a name is at row i exactly when row i has it
found_is : (b : List ℕ) (base stride rows : ℕ) (s : List ℕ) (at i : ℕ) → names_ok b base stride rows ≡ true → i < rows → is_at (find_name b base stride rows s at) i ≡ same_name b (base + i * stride) s at
unfolding find_name row_named
found_is b base stride rows s at i h l =
    first_only rows (row_named b base stride s at)
    (λ j k m n p q. distinct b base stride rows h j k m n (same_chain b (base + j * stride) (base + k * stride) s at p q)) i l

as_pane_is : (o : Option ℕ) (p : ℕ) → is_pane (as_pane o) p ≡ is_at o p
as_pane_is (Some i) p = refl
as_pane_is None p = refl

as_material_is : (o : Option ℕ) (m : ℕ) → is_material (as_material o) m ≡ is_at o m
as_material_is (Some i) m = refl
as_material_is None m = refl

-- the place of content c's name
abbrev pub content_name_at : List ℕ → ℕ → ℕ
content_name_at s c = contents_at s + c * content_bytes + row_name

module _ (s : List ℕ) {b : List ℕ} (w : CheckedBook b) (a c : ℕ) (h : c < content_count s) where
  pane_named_lem : (p : ℕ) → p < pane_count b → is_pane (as_pane (pane_named s b c)) p ≡ same_name b (panes_at + p * pane_bytes) s (content_name_at s c)
  unfolding pane_named
  pane_named_lem p l = as_pane_is (pane_named s b c) p ∙ found_is b panes_at pane_bytes (pane_count b) s (content_name_at s c) p w.labelled l

  material_named_lem : (m : ℕ) → m < material_count b → is_material (as_material (material_named s b c)) m ≡ same_name b (materials_at b + m * material_bytes) s (content_name_at s c)
  unfolding material_named
  material_named_lem m l = as_material_is (material_named s b c) m ∙ found_is b (materials_at b) material_bytes (material_count b) s (content_name_at s c) m w.named l

  -- a pane is reached by the contents of the animation, of type Pane or PaneExt, that have its label
  pub pane_reached : (p : ℕ) → p < pane_count b →
      is_pane (active_reach s b a c) p ≡ (eqb (content_row s c).animation a && ((eqb (content_row s c).kind 0 || eqb (content_row s c).kind 3) && same_name b (panes_at + p * pane_bytes) s (content_name_at s c)))
  unfolding active_reach content_reach
  pane_reached p l = rw (lt-ltb c (content_count s) h) (go (eqb (content_row s c).animation a) (eqb (content_row s c).kind 0 || eqb (content_row s c).kind 3) (eqb (content_row s c).kind 1))
    where
      none : (z : Bool) (o : Option ℕ) → is_pane (cond z (as_material o) None) p ≡ false
      none true (Some i) = refl
      none true None = refl
      none false o = refl

      go : (x y z : Bool) → is_pane (cond x (cond y (as_pane (pane_named s b c)) (cond z (as_material (material_named s b c)) None)) None) p ≡ (x && (y && same_name b (panes_at + p * pane_bytes) s (content_name_at s c)))
      go true true z = pane_named_lem p l
      go true false z = none z (material_named s b c)
      go false y z = refl

  -- a material by those of type Material that have its name
  pub material_reached : (m : ℕ) → m < material_count b →
      is_material (active_reach s b a c) m ≡ (eqb (content_row s c).animation a && (eqb (content_row s c).kind 1 && same_name b (materials_at b + m * material_bytes) s (content_name_at s c)))
  unfolding active_reach content_reach
  material_reached m l = rw (lt-ltb c (content_count s) h) (go (eqb (content_row s c).animation a) (eqb (content_row s c).kind 1) refl)
    where
      kinds : (k : ℕ) → k ≡ 1 → (eqb k 0 || eqb k 3) ≡ false
      kinds k e = rw e

      none : (z : Bool) (o : Option ℕ) → is_material (cond z (as_pane o) None) m ≡ false
      none true (Some i) = refl
      none true None = refl
      none false o = refl

      go : (x z : Bool) → eqb (content_row s c).kind 1 ≡ z →
          is_material (cond x (cond (eqb (content_row s c).kind 0 || eqb (content_row s c).kind 3) (as_pane (pane_named s b c)) (cond z (as_material (material_named s b c)) None)) None) m ≡
          (x && (z && same_name b (materials_at b + m * material_bytes) s (content_name_at s c)))
      go true true e = rw (kinds (content_row s c).kind (eqb-true (content_row s c).kind 1 e)) (material_named_lem m l)
      go true false e = none (eqb (content_row s c).kind 0 || eqb (content_row s c).kind 3) (pane_named s b c)
      go false z e = refl
