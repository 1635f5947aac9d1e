-- What the pass over the targets keeps of each pane's own visible and alpha, and its laws: one for each way through a turn, whose premises are
-- what the calls ensure. Assumes nothing.
use Prim.Native.Nat.{ℕ, ◌+◌, ◌<◌, ◌≤◌}
use mathlib.Core.List.{List}
use mathlib.Core.Bool.{Bool, true, false, not, ◌||◌, cond}
use mathlib.Core.Path.{◌≡◌, refl, sym, ◌∙◌, ap}
use native.Mathlib.Omega.{arith}
use borrow.Author.Tests.{eqb-true}
use lib.Dec.{eqb}
use lib.Ieee.{Float}
use Rattle.laws.specs.Table.{table, table_same}
use Rattle.laws.specs.Swept.{Swept, swept_none, swept_past, swept_at, is_at}
use Rattle.std.specs.Prelude.{Option}
use Rattle.std.specs.Prelude.{Some, None}
use Rattle.sheet.specs.Sizes.{target_count, texture_count}
use Rattle.sheet.specs.Rows.{target_row}
use Rattle.sheet.specs.declared.rows.Target.{Target}
use Rattle.book.specs.Sizes.{pane_count}
use Rattle.book.specs.Rows.{pane_row}
use Rattle.channel.specs.Channel.{visible_channel, alpha_channel, family_of, pane_channel, active_reach}
use Rattle.channel.specs.Within.{SomeIn, active_in_lem}
use Rattle.channel.specs.Held.{held_for}
use Rattle.channel.specs.declared.Reached.{Reached}
use Rattle.channel.specs.declared.Reached.TheVariants as reached
use Rattle.channel.specs.declared.reach.Held.{Held}
use Rattle.reading.specs.Reading.{row_reading, target_reading, reading_of, reading}
use Rattle.reading.specs.Active.{active_at}
use Rattle.reading.specs.declared.Reading.{Reading}
use Rattle.resolve.specs.Resolve.{or_number, or_shown, book_alpha, pane_number, visible_of, alpha_of}
use Rattle.resolve.specs.Own.{bit_of, book_bit, own_bits, own_alphas, only_own, own_channel, pane_in, own_pane, put_if, own_last}

-- ---- with nothing active

pub none_shown : (s b : List ℕ) (fs vs ss : List Float) → table (pane_count b) (book_bit b) ≡ own_bits s b fs vs ss None
unfolding own_bits visible_of reading
none_shown s b fs vs ss = refl

pub none_faded : (s b : List ℕ) (fs vs ss : List Float) → table (pane_count b) (book_alpha b) ≡ own_alphas s b fs vs ss None
unfolding own_alphas alpha_of pane_number reading
none_faded s b fs vs ss = refl

-- ---- the pass

module _ (s b : List ℕ) (fs vs ss : List Float) (a : ℕ) (x : Float) where
  -- what the tables have for pane p where the channel's last target is o
  abbrev pub shown_at : ℕ → Option ℕ → ℕ
  shown_at p o = bit_of (or_shown (reading_of s fs vs ss x o) (pane_row b p).visible)

  abbrev pub faded_at : ℕ → Option ℕ → Float
  faded_at p o = or_number (reading_of s fs vs ss x o) (book_alpha b p)

  -- the first i targets are passed
  pub record Pass (visible : List ℕ) (alpha : List Float) (i : ℕ) : Type 0 where
    pub within : i ≤ target_count s
    pub shown : Swept (own_pane s b a visible_channel) shown_at (pane_count b) visible i
    pub faded : Swept (own_pane s b a alpha_channel) faded_at (pane_count b) alpha i

-- a channel that is kept and is not visible's is alpha's
only_alpha : (o : Option ℕ) (k : ℕ) → only_own o ≡ Some k → eqb k visible_channel ≡ false → k ≡ alpha_channel
only_alpha (Some n) k e f = go (eqb n visible_channel || eqb n alpha_channel) refl e
  where
    go : (y : Bool) → (eqb n visible_channel || eqb n alpha_channel) ≡ y → cond y (Some n) None ≡ Some k → k ≡ alpha_channel
    go true g q = let r : n ≡ k = cc in eqb-true k alpha_channel (rw f at (rw r at g))
    go false g q = cc
only_alpha None k e f = cc

own_alpha : (row : Target) (k : ℕ) → own_channel row ≡ Some k → eqb k visible_channel ≡ false → k ≡ alpha_channel
unfolding own_channel
own_alpha row k e f = only_alpha (pane_channel (family_of row.code) row.raw) k e f

in_panes : (b : List ℕ) (r : Option Reached) (p : ℕ) → SomeIn b r → pane_in r ≡ Some p → p < pane_count b
in_panes b (Some (reached.Pane q)) p h e = let z : q ≡ p = cc in omega (arith, (h.some _ refl).pane q refl)
in_panes b (Some (reached.Material m)) p h e = let z : ◌≡◌ {A = ℕ} 0 1 = cc in absurd (omega arith)
in_panes b None p h e = let z : ◌≡◌ {A = ℕ} 0 1 = cc in absurd (omega arith)

-- the pane that a content reaches is one of the book's
pub pane_within : (s b : List ℕ) (a c p : ℕ) {h : Held} {o : Option ℕ} → h ≡ held_for s b a c → o ≡ pane_in h.reached → o ≡ Some p → p < pane_count b
pane_within s b a c p k e q = in_panes b (active_reach s b a c) p (active_in_lem s b a c) (rw k at (sym e ∙ q))

module _ {s b : List ℕ} {fs vs ss : List Float} {a : ℕ} {x : Float} {visible : List ℕ} {alpha : List Float} where
  pub pass_none : visible ≡ table (pane_count b) (book_bit b) → alpha ≡ table (pane_count b) (book_alpha b) → Pass s b fs vs ss a x visible alpha 0
  pass_none p q =
      record { within = omega arith; shown = swept_none _ _ _ (book_bit b) p (λ c. refl); faded = swept_none _ _ _ (book_alpha b) q (λ c. refl) }

  module _ {i : ℕ} (w : Pass s b fs vs ss a x visible alpha i) where
    -- a target that is for neither channel
    other : {row : Target} {o : Option ℕ} (j : ℕ) → row ≡ target_row s i → o ≡ own_channel row → o ≡ None → own_pane s b a j i ≡ None
    unfolding own_pane
    other j e q z = rw (ap own_channel (sym e) ∙ sym q ∙ z)

    pub pass_other : {row : Target} {o : Option ℕ} → i < target_count s → row ≡ target_row s i → o ≡ own_channel row → o ≡ None → Pass s b fs vs ss a x visible alpha (i + 1)
    pass_other l e q z = record { within = omega arith; shown = swept_past w.shown (other visible_channel e q z); faded = swept_past w.faded (other alpha_channel e q z) }

    -- a target whose content reaches no pane
    beside : {row : Target} {h : Held} {n : Option ℕ} (j : ℕ) → row ≡ target_row s i → h ≡ held_for s b a row.content → n ≡ pane_in h.reached → n ≡ None → own_pane s b a j i ≡ None
    unfolding own_pane
    beside j e k q z = go (is_at (own_channel (target_row s i)) j) (rw (k, e) at (sym q ∙ z))
      where
        go : (y : Bool) → pane_in (active_reach s b a (target_row s i).content) ≡ None → cond y (pane_in (active_reach s b a (target_row s i).content)) None ≡ None
        go true f = f
        go false f = refl

    pub pass_beside : {row : Target} {h : Held} {n : Option ℕ} → i < target_count s → row ≡ target_row s i → h ≡ held_for s b a row.content → n ≡ pane_in h.reached → n ≡ None → Pass s b fs vs ss a x visible alpha (i + 1)
    pass_beside {row} l e k q z =
        record { within = omega arith; shown = swept_past w.shown (beside visible_channel e k q z); faded = swept_past w.faded (beside alpha_channel e k q z) }

    -- a target for channel k of pane p
    pub pass_at : {row : Target} {o n : Option ℕ} {h : Held} {k p m : ℕ} {r : Reading} {visible' : List ℕ} {alpha' : List Float} → i < target_count s → row ≡ target_row s i → o ≡ own_channel row → o ≡ Some k →
        h ≡ held_for s b a row.content → n ≡ pane_in h.reached → n ≡ Some p → m ≡ texture_count s → r ≡ row_reading m fs vs ss x row →
        (visible' ≡ put_if (eqb k visible_channel) p (bit_of (or_shown r (pane_row b p).visible)) visible) × (alpha' ≡ put_if (not (eqb k visible_channel)) p (or_number r (book_alpha b p)) alpha) → Pass s b fs vs ss a x visible' alpha' (i + 1)
    unfolding target_reading own_pane
    pass_at {row} {h = h} {k} {p} {r = r} {visible'} {alpha'} l e q z d n f m g u =
        go (eqb k visible_channel) refl u
      where
        at_k : own_channel (target_row s i) ≡ Some k
        at_k = ap own_channel (sym e) ∙ sym q ∙ z

        at_p : pane_in (active_reach s b a (target_row s i).content) ≡ Some p
        at_p = rw (d, e) at (sym n ∙ f)

        below : p < pane_count b
        below = pane_within s b a row.content p d n f

        read : r ≡ target_reading s fs vs ss x i
        read = unfold target_reading in rw (m, e) at g

        go : (y : Bool) → eqb k visible_channel ≡ y → (visible' ≡ put_if y p (bit_of (or_shown r (pane_row b p).visible)) visible) × (alpha' ≡ put_if (not y) p (or_number r (book_alpha b p)) alpha) → Pass s b fs vs ss a x visible' alpha' (i + 1)
        go true c v =
            let shows : k ≡ visible_channel = eqb-true k visible_channel c in
            record {
              within = omega arith;
              shown = rw v.0 (swept_at w.shown (unfold own_pane in rw (at_k, shows) at_p) below (ap (λ (r : Reading). bit_of (or_shown r (pane_row b p).visible)) read));
              faded = rw v.1 (swept_past w.faded (unfold own_pane in rw (at_k, shows)));
            }
        go false c v =
            let fades : k ≡ alpha_channel = own_alpha (target_row s i) k at_k c in
            record {
              within = omega arith;
              shown = rw v.0 (swept_past w.shown (unfold own_pane in rw (at_k, fades)));
              faded = rw v.1 (swept_at w.faded (unfold own_pane in rw (at_k, fades) at_p) below (ap (λ (r : Reading). or_number r (book_alpha b p)) read));
            }

    pub pass_all : target_count s ≤ i → (visible ≡ own_bits s b fs vs ss (active_at a x)) × (alpha ≡ own_alphas s b fs vs ss (active_at a x))
    unfolding own_bits own_alphas visible_of alpha_of pane_number reading
    pass_all l =
        let e : i ≡ target_count s = omega arith in (
          rw e at w.shown.made ∙ table_same (pane_count b) _ _ (λ p m. ap (shown_at s b fs vs ss a x p) (own_last s b a p visible_channel refl m (omega arith))),
          rw e at w.faded.made ∙ table_same (pane_count b) _ _ (λ p m. ap (faded_at s b fs vs ss a x p) (own_last s b a p alpha_channel refl m (omega arith))),
        )
