-- An edit reaches only its own channel, in the cascade: a row depends on the visible and the alpha of its pane and of those above it. Of two sets of keys, the first is before an edit and the second after it. Assumes nothing.
use Rattle.std.specs.Prelude.{ℕ, zero, suc, ◌<◌, Bool, cond, ◌&&◌, ◌||◌, List, ◌≡◌, get_or, Float}
use Rattle.std.proofs.Math.Bool.{true, false}
use Rattle.std.proofs.lemmas.Bool.{false≢true}
use Rattle.std.proofs.Math.Path.{refl, sym, ap}
use Rattle.std.proofs.Common.{◌∙◌, not-suc-le-zero}
use native.Mathlib.Omega.{arith}
use borrow.Author.Tests.{eqb-true, eqb-false}
use Rattle.std.proofs.Math.Dec.{eqb}
use Rattle.laws.specs.Grown.{grow, grow_at, grow_same, grow_ext}
use Rattle.laws.specs.Tests.{and_2}
use Rattle.float.specs.Numbers.{◌⊗◌}
use Rattle.book.specs.Sizes.{pane_count, no_parent}
use Rattle.book.specs.Rows.{pane_row}
use Rattle.book.specs.Checked.{CheckedBook, pane_parent_lem}
use Rattle.channel.specs.Channel.{visible_channel, alpha_channel, of_pane}
use Rattle.reading.specs.Active.{Active}
use Rattle.resolve.specs.Resolve.{visible_of, alpha_of}
use Rattle.resolve.specs.Cascade.{root, under, above, row_from, cascade}
use Rattle.resolve.specs.Follow.{Handed, fixed, handed_under, handed_above, handed_from, handed, follows}
use Rattle.resolve.specs.declared.Cascaded.{Cascaded}
use Rattle.resolve.specs.Untouched.{Reads, visible_same, alpha_same, AtOrBelow, at, below}

-- ---- the cascade

-- what holds of each pane where it holds of the pane above it, if there is one, holds of all
by_parent : {b : List ℕ} → CheckedBook b → (P : ℕ → Type 0) → ((i : ℕ) → i < pane_count b → (((pane_row b i).parent ≡ no_parent → ⊥) → P (pane_row b i).parent) → P i) → (i : ℕ) → i < pane_count b → P i
by_parent {b} w P step i l = go (suc i) i (omega arith) l
  where
    go : (n i : ℕ) → i < n → i < pane_count b → P i
    go zero i m l = absurd (not-suc-le-zero m)
    go (suc n) i m l = step i l (λ d. go n (pane_row b i).parent (omega (arith, pane_parent_lem w i l d)) (omega (arith, pane_parent_lem w i l d)))

module _ {b : List ℕ} (w : CheckedBook b) where
  -- a row by the row above it, both of all rows
  row_is : (v : ℕ → Bool) (f : ℕ → Float) (i : ℕ) → i < pane_count b → get_or (grow (pane_count b) (row_from b v f)) i root ≡ under (above (grow (pane_count b) (row_from b v f)) (pane_row b i).parent) (v i) (f i) (pane_row b i).influences
  row_is v f i l = grow_at (pane_count b) i (row_from b v f) root l ∙ unfold row_from in ap (λ (u : Cascaded). under u (v i) (f i) (pane_row b i).influences) (go (eqb (pane_row b i).parent no_parent) refl)
    where
      go : (q : Bool) → eqb (pane_row b i).parent no_parent ≡ q → above (grow i (row_from b v f)) (pane_row b i).parent ≡ above (grow (pane_count b) (row_from b v f)) (pane_row b i).parent
      go true e = unfold above in rw e
      go false e = let m = pane_parent_lem w i l (eqb-false _ no_parent e) in unfold above in rw (e, grow_same i (pane_count b) (pane_row b i).parent (row_from b v f) root m (omega arith))

  handed_is : (v f : ℕ → Bool) (i : ℕ) → i < pane_count b → get_or (handed b v f) i fixed ≡ handed_under (handed_above (handed b v f) (pane_row b i).parent) (v i) (f i) (pane_row b i).influences
  unfolding handed
  handed_is v f i l = grow_at (pane_count b) i (handed_from b v f) fixed l ∙ unfold handed_from in ap (λ (u : Handed). handed_under u (v i) (f i) (pane_row b i).influences) (go (eqb (pane_row b i).parent no_parent) refl)
    where
      go : (q : Bool) → eqb (pane_row b i).parent no_parent ≡ q → handed_above (grow i (handed_from b v f)) (pane_row b i).parent ≡ handed_above (grow (pane_count b) (handed_from b v f)) (pane_row b i).parent
      go true e = unfold handed_above in rw e
      go false e = let m = pane_parent_lem w i l (eqb-false _ no_parent e) in unfold handed_above in rw (e, grow_same i (pane_count b) (pane_row b i).parent (handed_from b v f) fixed m (omega arith))

neither : (a b : Bool) → (a || b) ≡ false → (a ≡ false) × (b ≡ false)
neither true b e = absurd (false≢true (sym e))
neither false b e = (refl, e)

-- two rows are the same in what can't change of what is handed on
record HandedSame (h : Handed) (r r' : Cascaded) : Type 0 where
  visible : h.visible ≡ false → r'.visible ≡ r.visible
  influence : h.influence ≡ false → r'.influence ≡ r.influence

-- a row under such a one
under_same : (h : Handed) (r r' : Cascaded) (x x' : Bool) (y y' : Float) (p q i : Bool) → HandedSame h r r' → (p ≡ false → x' ≡ x) → (q ≡ false → y' ≡ y) → HandedSame (handed_under h p q i) (under r x y i) (under r' x' y' i)
unfolding handed_under under
under_same h r r' x x' y y' p q i w f g =
    record { visible = λ e. let n = neither h.visible p e in cc (w.visible n.0, f n.1); influence = λ e. let n = neither h.influence (i && q) e in go i (w.influence n.0) n.1 }
  where
    go : (i : Bool) → r'.influence ≡ r.influence → (i && q) ≡ false → cond i (r'.influence ⊗ y') r'.influence ≡ cond i (r.influence ⊗ y) r.influence
    go true e n = rw (e, g n)
    go false e n = e

module _ {b : List ℕ} (w : CheckedBook b) (v v' : ℕ → Bool) (f f' : ℕ → Float) (visible alpha : ℕ → Bool)
    (shows : (p : ℕ) → p < pane_count b → visible p ≡ false → v' p ≡ v p) (fades : (p : ℕ) → p < pane_count b → alpha p ≡ false → f' p ≡ f p) where
  abbrev rows : List Cascaded
  rows = grow (pane_count b) (row_from b v f)

  abbrev rows' : List Cascaded
  rows' = grow (pane_count b) (row_from b v' f')

  abbrev At : ℕ → Type 0
  At i = HandedSame (get_or (handed b visible alpha) i fixed) (get_or rows i root) (get_or rows' i root)

  over_same : (p : ℕ) → ((p ≡ no_parent → ⊥) → At p) → HandedSame (handed_above (handed b visible alpha) p) (above rows p) (above rows' p)
  unfolding handed_above above
  over_same p h = go (eqb p no_parent) refl
    where
      go : (q : Bool) → eqb p no_parent ≡ q → HandedSame (cond q fixed (get_or (handed b visible alpha) p fixed)) (cond q root (get_or rows p root)) (cond q root (get_or rows' p root))
      go true e = record { visible = λ z. refl; influence = λ z. refl }
      go false e = h (eqb-false p no_parent e)

  step : (i : ℕ) → i < pane_count b → (((pane_row b i).parent ≡ no_parent → ⊥) → At (pane_row b i).parent) → At i
  step i l h = rw (handed_is w visible alpha i l, row_is w v f i l, row_is w v' f' i l) (under_same _ _ _ (v i) (v' i) (f i) (f' i) (visible i) (alpha i) (pane_row b i).influences (over_same (pane_row b i).parent h) (shows i l) (fades i l))

  all_same : (i : ℕ) → i < pane_count b → At i
  all_same = by_parent w At step

  over : (i : ℕ) → i < pane_count b → HandedSame (handed_above (handed b visible alpha) (pane_row b i).parent) (above rows (pane_row b i).parent) (above rows' (pane_row b i).parent)
  over i l = over_same (pane_row b i).parent (λ d. all_same (pane_row b i).parent (omega (arith, pane_parent_lem w i l d)))

  -- a row is the same where it follows nothing and its own visible and alpha can't change
  pub rows_same : (i : ℕ) → i < pane_count b → follows b visible alpha i ≡ false → visible i ≡ false → alpha i ≡ false → get_or rows' i root ≡ get_or rows i root
  unfolding follows
  rows_same i l e p q =
      let n = neither _ _ e in
      let o = over i l in
      row_is w v' f' i l ∙ by (above rows (pane_row b i).parent) (above rows' (pane_row b i).parent) (o.visible n.0) (o.influence n.1) (shows i l p) (fades i l q) ∙ sym (row_is w v f i l)
    where
      by : (r r' : Cascaded) → r'.visible ≡ r.visible → r'.influence ≡ r.influence → v' i ≡ v i → f' i ≡ f i → under r' (v' i) (f' i) (pane_row b i).influences ≡ under r (v i) (f i) (pane_row b i).influences
      by r r' c d x y = unfold under in rw (c, d, x, y)

-- ---- at or below a pane

-- what of this is handed on at pane i only where i is at q or below it
record Reached (b : List ℕ) (q : ℕ) (h : Handed) (i : ℕ) : Type 0 where
  visible : h.visible ≡ true → AtOrBelow b q i
  influence : h.influence ≡ true → AtOrBelow b q i

-- Where only pane q's own visible and alpha can change, what is handed on can change only at q and below it.
module _ {b : List ℕ} (w : CheckedBook b) (q : ℕ) (visible alpha : ℕ → Bool) (shows : (p : ℕ) → visible p ≡ true → p ≡ q) (fades : (p : ℕ) → alpha p ≡ true → p ≡ q) where
  abbrev Reaches : ℕ → Type 0
  Reaches i = Reached b q (get_or (handed b visible alpha) i fixed) i

  from_above : (i : ℕ) → (((pane_row b i).parent ≡ no_parent → ⊥) → Reaches (pane_row b i).parent) → Reached b q (handed_above (handed b visible alpha) (pane_row b i).parent) i
  unfolding handed_above
  from_above i h = go (eqb (pane_row b i).parent no_parent) refl
    where
      go : (c : Bool) → eqb (pane_row b i).parent no_parent ≡ c → Reached b q (cond c fixed (get_or (handed b visible alpha) (pane_row b i).parent fixed)) i
      go true e = record { visible = λ z. absurd (false≢true z); influence = λ z. absurd (false≢true z) }
      go false e = let d = eqb-false (pane_row b i).parent no_parent e in record { visible = λ z. below d ((h d).visible z); influence = λ z. below d ((h d).influence z) }

  here : (i : ℕ) → i ≡ q → AtOrBelow b q i
  here i e = rw e at

  handed_reaches : (i : ℕ) → i < pane_count b → Reaches i
  handed_reaches = by_parent w Reaches step
    where
      either : {A : Type 0} (x y : Bool) → (x ≡ true → A) → (y ≡ true → A) → (x || y) ≡ true → A
      either true y f g e = f refl
      either false y f g e = g e

      under : (i : ℕ) (h : Handed) (e : Bool) → Reached b q h i → Reached b q (handed_under h (visible i) (alpha i) e) i
      under i h e u =
          unfold handed_under in
          record {
            visible = λ z. either h.visible (visible i) u.visible (λ y. here i (shows i y)) z;
            influence = λ z. either h.influence (e && alpha i) u.influence (λ y. here i (fades i (and_2 e (alpha i) y))) z;
          }

      step : (i : ℕ) → i < pane_count b → (((pane_row b i).parent ≡ no_parent → ⊥) → Reaches (pane_row b i).parent) → Reaches i
      step i l h = rw (handed_is w visible alpha i l) (under i (handed_above (handed b visible alpha) (pane_row b i).parent) (pane_row b i).influences (from_above i h))

  -- so a row that is neither at q nor below it follows nothing
  pub not_below_lem : (i : ℕ) → i < pane_count b → (AtOrBelow b q i → ⊥) → (follows b visible alpha i ≡ false) × (visible i ≡ false) × (alpha i ≡ false)
  unfolding follows
  not_below_lem i l d =
      let u = from_above i (λ n. handed_reaches (pane_row b i).parent (omega (arith, pane_parent_lem w i l n))) in
      (nor _ _ (no _ u.visible) (no _ u.influence), no (visible i) (λ z. here i (shows i z)), no (alpha i) (λ z. here i (fades i z)))
    where
      no : (x : Bool) → (x ≡ true → AtOrBelow b q i) → x ≡ false
      no true f = absurd (d (f refl))
      no false f = refl

      nor : (x y : Bool) → x ≡ false → y ≡ false → (x || y) ≡ false
      nor x y e f = rw (e, f)

-- ---- the cascade before and after

module _ (s : List ℕ) {b : List ℕ} (w : CheckedBook b) (fs vs ss gs us ts : List Float) (a : Active) where
  -- by tests that tell of each pane whether its own visible and alpha can change
  pub cascade_untouched : (visible alpha : ℕ → Bool)
      → ((p : ℕ) → p < pane_count b → visible p ≡ false → Reads s b fs vs ss gs us ts a (of_pane p visible_channel))
      → ((p : ℕ) → p < pane_count b → alpha p ≡ false → Reads s b fs vs ss gs us ts a (of_pane p alpha_channel))
      → (i : ℕ) → i < pane_count b → follows b visible alpha i ≡ false → visible i ≡ false → alpha i ≡ false
      → get_or (cascade s b gs us ts a) i root ≡ get_or (cascade s b fs vs ss a) i root
  unfolding cascade
  cascade_untouched visible alpha f g =
      rows_same w (visible_of s b fs vs ss a) (visible_of s b gs us ts a) (alpha_of s b fs vs ss a) (alpha_of s b gs us ts a) visible alpha
      (λ p l e. visible_same s b fs vs ss gs us ts a p (f p l e)) (λ p l e. alpha_same s b fs vs ss gs us ts a p (g p l e))

  -- no row changes that is neither at q nor below it, where every other pane's visible and alpha read the same
  pub cascade_elsewhere : (q : ℕ)
      → ((p : ℕ) → p < pane_count b → (p ≡ q → ⊥) → Reads s b fs vs ss gs us ts a (of_pane p visible_channel) × Reads s b fs vs ss gs us ts a (of_pane p alpha_channel))
      → (i : ℕ) → i < pane_count b → (AtOrBelow b q i → ⊥) → get_or (cascade s b gs us ts a) i root ≡ get_or (cascade s b fs vs ss a) i root
  cascade_elsewhere q h i l d =
      let n = not_below_lem w q (λ p. eqb p q) (λ p. eqb p q) (λ p e. eqb-true p q e) (λ p e. eqb-true p q e) i l d in
      cascade_untouched (λ p. eqb p q) (λ p. eqb p q) (λ p m e. (h p m (eqb-false p q e)).0) (λ p m e. (h p m (eqb-false p q e)).1) i l n.0 n.1 n.2

  -- nothing of it changes where every pane's visible and alpha read the same
  pub cascade_same : ((p : ℕ) → p < pane_count b → Reads s b fs vs ss gs us ts a (of_pane p visible_channel) × Reads s b fs vs ss gs us ts a (of_pane p alpha_channel))
      → cascade s b gs us ts a ≡ cascade s b fs vs ss a
  unfolding cascade row_from
  cascade_same h = grow_ext (pane_count b) _ _ (λ rows i l. rw (visible_same s b fs vs ss gs us ts a i (h i l).0, alpha_same s b fs vs ss gs us ts a i (h i l).1))
