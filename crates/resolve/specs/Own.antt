-- A pane's own visible and alpha, before the cascade: the tables that a pass over the targets makes of them. Assumes nothing.
use Rattle.std.specs.Prelude.{ℕ, ◌<◌, List, Bool, true, false, cond, ◌&&◌, ◌||◌, ◌≡◌, refl, eqb, set, Float}
use Rattle.std.proofs.Common.{sym, ◌∙◌, ap, eqb-true}
use Rattle.laws.specs.Last.{last_same}
use Rattle.laws.specs.Swept.{is_at, last_to}
use Rattle.laws.specs.Table.{table}
use Rattle.std.specs.Prelude.{Option}
use Rattle.std.specs.Prelude.{Some, None}
use Rattle.sheet.specs.Sizes.{target_count}
use Rattle.sheet.specs.Rows.{target_row}
use Rattle.sheet.specs.declared.rows.Target.{Target}
use Rattle.book.specs.Sizes.{pane_count}
use Rattle.book.specs.Rows.{pane_row}
use Rattle.channel.specs.Channel.{visible_channel, alpha_channel, family_of, pane_channel, pane_channels, of_pane, active_reach, target_channel}
use Rattle.channel.specs.Place.{is_pane}
use Rattle.channel.proofs.Places.{pane_hit}
use Rattle.channel.specs.declared.Reached.{Reached}
use Rattle.channel.specs.declared.Reached.TheVariants as reached
use Rattle.reading.specs.Reading.{last_target}
use Rattle.reading.specs.Active.{Active}
use Rattle.resolve.specs.Resolve.{visible_of, alpha_of}
use Rattle.resolve.specs.declared.own.Own.{Own}
use Rattle.resolve.specs.declared.own.Own.TheVariants.{Visible, Alpha}

-- shown is 1, hidden 0
abbrev pub bit_of : Bool → ℕ
bit_of b = cond b 1 0

-- what the book has
abbrev pub book_bit : List ℕ → ℕ → ℕ
book_bit b p = bit_of (pane_row b p).visible

module _ (s b : List ℕ) (fs vs ss : List Float) (a : Active) where
  -- each pane's own, resolved
  abbrev pub own_bit : ℕ → ℕ
  own_bit p = bit_of (visible_of s b fs vs ss a p)

  unfoldable pub own_bits : List ℕ
  own_bits = table (pane_count b) own_bit

  unfoldable pub own_alphas : List Float
  own_alphas = table (pane_count b) (alpha_of s b fs vs ss a)

-- ---- which targets matter

-- that channel, where a target's row is for visible or for alpha, and nothing where it is for neither
abbrev pub only_own : Option ℕ → Option ℕ
only_own (Some k) = cond (eqb k visible_channel || eqb k alpha_channel) (Some k) None
only_own None = None

unfoldable pub own_channel : Target → Option ℕ
own_channel row = only_own (pane_channel (family_of row.code) row.raw)

-- the channel of a pane that is one of the two, by number
abbrev pub own_number : Own → ℕ
own_number Visible = visible_channel
own_number Alpha = alpha_channel

abbrev pub own_numbers : Option Own → Option ℕ
own_numbers (Some o) = Some (own_number o)
own_numbers None = None

-- the pane that is reached
abbrev pub pane_in : Option Reached → Option ℕ
pane_in (Some (reached.Pane p)) = Some p
pane_in (Some (reached.Material m)) = None
pane_in None = None

-- the pane whose channel j target t addresses while animation a is active, j being visible or alpha
unfoldable pub own_pane : List ℕ → List ℕ → ℕ → ℕ → ℕ → Option ℕ
own_pane s b a j t = cond (is_at (own_channel (target_row s t)) j) (pane_in (active_reach s b a (target_row s t).content)) None

-- a store where the test holds
abbrev pub put_if : {A : Type 0} → Bool → ℕ → A → List A → List A
put_if true p v l = set l p v
put_if false p v l = l

-- ---- they are the targets that address the two channels

own_is : (o : Option ℕ) (j : ℕ) → (eqb j visible_channel || eqb j alpha_channel) ≡ true → is_at (only_own o) j ≡ is_at o j
own_is (Some k) j h = go (eqb k visible_channel || eqb k alpha_channel) refl (eqb k j) refl
  where
    go : (x : Bool) → (eqb k visible_channel || eqb k alpha_channel) ≡ x → (y : Bool) → eqb k j ≡ y → is_at (cond x (Some k) None) j ≡ y
    go true e y f = f
    go false e true f = let q : (eqb k visible_channel || eqb k alpha_channel) ≡ true = rw (eqb-true k j f) h in cc
    go false e false f = refl
own_is None j h = refl

in_is : (x : Bool) (r : Option Reached) (p : ℕ) → is_at (cond x (pane_in r) None) p ≡ (x && is_pane r p)
in_is true (Some (reached.Pane q)) p = refl
in_is true (Some (reached.Material m)) p = refl
in_is true None p = refl
in_is false r p = refl

own_hit : (s b : List ℕ) (a t p j : ℕ) → (eqb j visible_channel || eqb j alpha_channel) ≡ true → p < pane_count b → j < pane_channels → is_at (own_pane s b a j t) p ≡ is_at (target_channel s b a t) (of_pane p j)
unfolding own_pane own_channel
own_hit s b a t p j h l k =
    in_is (is_at (own_channel (target_row s t)) j) (active_reach s b a (target_row s t).content) p ∙
    ap (λ (x : Bool). x && is_pane (active_reach s b a (target_row s t).content) p) (own_is (pane_channel (family_of (target_row s t).code) (target_row s t).raw) j h) ∙
    sym (pane_hit s b a t p j l k)

-- so the last of them is the channel's last target
pub own_last : (s b : List ℕ) (a p j : ℕ) → (eqb j visible_channel || eqb j alpha_channel) ≡ true → p < pane_count b → j < pane_channels → last_to (own_pane s b a j) (target_count s) p ≡ last_target s b a (of_pane p j)
unfolding last_target
own_last s b a p j h l k = last_same (target_count s) (λ t. is_at (own_pane s b a j t) p) (λ t. is_at (target_channel s b a t) (of_pane p j)) (λ t m. own_hit s b a t p j h l k)
