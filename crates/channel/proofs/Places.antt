-- A channel is addressed exactly when the channel at its place is. Assumes nothing.
use Rattle.std.specs.Prelude.{ℕ, ◌+◌, ◌-◌, ◌*◌, ◌/◌, ◌%◌, ◌<◌, ◌≤◌, List, Bool, cond, ◌&&◌, ◌≡◌, ltb}
use Rattle.std.proofs.Math.Bool.{true, false}
use Rattle.std.proofs.Math.Path.{refl}
use Rattle.std.proofs.Common.{sym, ◌∙◌, ap, arith, div-add-mod'}
use borrow.Author.Tests.{ltb-true, ltb-false, lt-ltb, eqb-true, eqb-false, eq-eqb, ne_eqb}
use Rattle.std.proofs.Math.Arith.{digits_div, digits_mod}
use Rattle.std.proofs.Math.Dec.{eqb}
use Rattle.laws.specs.Swept.{is_at}
use Rattle.std.specs.Prelude.{Option}
use Rattle.std.specs.Prelude.{Some, None}
use Rattle.sheet.specs.Rows.{target_row}
use Rattle.sheet.specs.declared.rows.Target.{Target}
use Rattle.book.specs.Sizes.{pane_count}
use Rattle.channel.specs.Channel.{family_of, pane_channel, material_channel, pane_channels, material_channels, of_pane, of_material, active_reach, in_pane, in_material, address, row_channel, target_channel}
use Rattle.channel.specs.Within.{Below, pane_channel_below, SomeIn, active_in_lem}
use Rattle.channel.proofs.Inside.{material_channel_below}
use Rattle.channel.specs.declared.Family.{Family}
use Rattle.channel.specs.declared.Reached.{Reached}
use Rattle.channel.specs.declared.Reached.TheVariants as reached
use Rattle.channel.specs.declared.place.Place.TheVariants.{Pane, Material}
use Rattle.channel.specs.Place.{place_of, is_pane, is_material, hits}

-- ---- channel c is addressed exactly when the channel at its place is

-- q * m + j is c exactly when j is c's last digit and q the rest
digits : (m q j c : ℕ) → j < m → eqb (q * m + j) c ≡ (eqb j (c % m) && eqb q (c / m))
digits m q j c l = go (eqb j (c % m)) refl (eqb q (c / m)) refl
  where
    go : (x : Bool) → eqb j (c % m) ≡ x → (y : Bool) → eqb q (c / m) ≡ y → eqb (q * m + j) c ≡ (x && y)
    go true e true f = eq-eqb (q * m + j) c (rw (eqb-true j (c % m) e, eqb-true q (c / m) f) (div-add-mod' c m))
    go true e false f = ne_eqb (q * m + j) c (λ h. eqb-false q (c / m) f (sym (digits_div q l) ∙ ap (λ (n : ℕ). n / m) h))
    go false e y f = ne_eqb (q * m + j) c (λ h. eqb-false j (c % m) e (sym (digits_mod q l) ∙ ap (λ (n : ℕ). n % m) h))

and_no : (x : Bool) → false ≡ (x && false)
and_no true = refl
and_no false = refl

module _ (b : List ℕ) (f : Family) (raw layer c : ℕ) where
  in_panes : c < pane_count b * pane_channels → (r : Option Reached) → is_at (address b r f raw layer) c ≡ (is_at (pane_channel f raw) (c % pane_channels) && is_pane r (c / pane_channels))
  unfolding address of_pane of_material
  in_panes l (Some (reached.Pane q)) = go (pane_channel f raw) (pane_channel_below f raw)
    where
      go : (o : Option ℕ) → Below o pane_channels → is_at (in_pane q o) c ≡ (is_at o (c % pane_channels) && eqb q (c / pane_channels))
      go (Some j) h = digits pane_channels q j c (h.below j refl)
      go None h = refl
  in_panes l (Some (reached.Material n)) = go (material_channel f raw layer) ∙ and_no (is_at (pane_channel f raw) (c % pane_channels))
    where
      go : (o : Option ℕ) → is_at (in_material b n o) c ≡ false
      go (Some j) = ne_eqb (pane_count b * pane_channels + n * material_channels + j) c (λ e. omega arith)
      go None = refl
  in_panes l None = and_no (is_at (pane_channel f raw) (c % pane_channels))

  -- what is left of c past the panes' channels
  abbrev past : ℕ
  past = c - pane_count b * pane_channels

  in_materials : pane_count b * pane_channels ≤ c → (r : Option Reached) → SomeIn b r → is_at (address b r f raw layer) c ≡ (is_at (material_channel f raw layer) (past % material_channels) && is_material r (past / material_channels))
  unfolding address of_pane of_material
  in_materials l (Some (reached.Pane q)) i = go (pane_channel f raw) (pane_channel_below f raw) ∙ and_no (is_at (material_channel f raw layer) (past % material_channels))
    where
      go : (o : Option ℕ) → Below o pane_channels → is_at (in_pane q o) c ≡ false
      go (Some j) h = ne_eqb (q * pane_channels + j) c (λ e. omega (arith, h.below j refl, (i.some _ refl).pane q refl))
      go None h = refl
  in_materials l (Some (reached.Material n)) i = go (material_channel f raw layer) (material_channel_below f raw layer)
    where
      shift : (j : ℕ) → eqb (pane_count b * pane_channels + n * material_channels + j) c ≡ eqb (n * material_channels + j) past
      shift j = same (eqb (n * material_channels + j) past) refl
        where
          same : (x : Bool) → eqb (n * material_channels + j) past ≡ x → eqb (pane_count b * pane_channels + n * material_channels + j) c ≡ x
          same true e = eq-eqb (pane_count b * pane_channels + n * material_channels + j) c (omega (arith, eqb-true (n * material_channels + j) past e))
          same false e = ne_eqb (pane_count b * pane_channels + n * material_channels + j) c (λ q. eqb-false (n * material_channels + j) past e (omega arith))

      go : (o : Option ℕ) → Below o material_channels → is_at (in_material b n o) c ≡ (is_at o (past % material_channels) && eqb n (past / material_channels))
      go (Some j) h = shift j ∙ digits material_channels n j past (h.below j refl)
      go None h = refl
  in_materials l None i = and_no (is_at (material_channel f raw layer) (past % material_channels))

pub place_hit : (s b : List ℕ) (a t c : ℕ) → is_at (target_channel s b a t) c ≡ hits s b a (place_of b c) (target_row s t)
unfolding target_channel row_channel place_of hits
place_hit s b a t c = go (target_row s t) (ltb c (pane_count b * pane_channels)) refl
  where
    go : (row : Target) (x : Bool) → ltb c (pane_count b * pane_channels) ≡ x →
        is_at (address b (active_reach s b a row.content) (family_of row.code) row.raw row.layer) c ≡
        hits s b a (cond x (Pane (c / pane_channels) (c % pane_channels)) (Material ((c - pane_count b * pane_channels) / material_channels) ((c - pane_count b * pane_channels) % material_channels))) row
    go row true e = in_panes b (family_of row.code) row.raw row.layer c (ltb-true c _ e) (active_reach s b a row.content)
    go row false e = in_materials b (family_of row.code) row.raw row.layer c (ltb-false c _ e) (active_reach s b a row.content) (active_in_lem s b a row.content)

-- the place of a pane's channel
place_of_pane : (b : List ℕ) (p k : ℕ) → p < pane_count b → k < pane_channels → place_of b (of_pane p k) ≡ Pane p k
unfolding place_of of_pane
place_of_pane b p k l h = rw (lt-ltb (p * pane_channels + k) (pane_count b * pane_channels) (omega arith), digits_div p h, digits_mod p h)

-- a target addresses channel k of pane p exactly when its family and raw number give k and its content reaches p
pub pane_hit : (s b : List ℕ) (a t p k : ℕ) → p < pane_count b → k < pane_channels →
    is_at (target_channel s b a t) (of_pane p k) ≡ (is_at (pane_channel (family_of (target_row s t).code) (target_row s t).raw) k && is_pane (active_reach s b a (target_row s t).content) p)
unfolding hits
pane_hit s b a t p k l h = place_hit s b a t (of_pane p k) ∙ rw (place_of_pane b p k l h)
