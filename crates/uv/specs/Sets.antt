-- Document 01, "UVs and corners", by UV sets: a layer's set is its pair at each of the four corners, as the Rust's `get_uv_set` makes it. The code takes a layer's set out of the block, transforms it and puts it back; the law below says that this is the layer's turn.
use Rattle.std.specs.Prelude.{ℕ, ◌+◌, ◌*◌, ◌≡◌, Bool, length, get_or, set, Float}
use Rattle.std.proofs.Math.Path.{refl}
use Rattle.std.proofs.Common.{sym, ap, ◌∙◌, ext_get_or}
use Rattle.std.proofs.Math.Bool.{true, false, cond}
use mathlib.Core.List.{List, [], ◌∷◌}
use Rattle.std.proofs.Math.Seq.{set-get_or}
use Rattle.std.specs.Float.{nan}
use Rattle.float.specs.declared.turn.SinCos.{SinCos}
use Rattle.float.specs.declared.vector.Srt.{Srt}
use Rattle.laws.specs.Table.{table, table_at}
use Rattle.uv.specs.Uvs.{Pair, Block, layer_numbers, has_layer, layer_uv, corner_uvs, base_uvs, has_srt, srt_at, srt_turn, moved, transform_of, corner_done, layer_done, layer_applied}
use Rattle.uv.specs.Layers.{pair_at}

-- a function's values at the four corners, one by one as the code writes them
abbrev pub four : {A : Type 0} → (ℕ → A) → List A
four f = f 0 ∷ f 1 ∷ f 2 ∷ f 3 ∷ []

pub four_same : {A : Type 0} (f : ℕ → A) {a b c d : A} → a ≡ f 0 → b ≡ f 1 → c ≡ f 2 → d ≡ f 3 → a ∷ b ∷ c ∷ d ∷ [] ≡ four f
four_same f p q r s = rw (p, q, r, s)

-- the set of layer l, lent or the unit square
abbrev pub lent_set : List Float → ℕ → List Pair
lent_set ls l = four (layer_uv ls l)

-- the set of layer l of a block
abbrev pub set_of : Block → ℕ → List Pair
set_of b l = four (λ v. pair_at b v l)

-- a set of layer l, transformed where that layer has an SRT
unfoldable pub set_transformed : List Float → ℕ → List Pair → List Pair
set_transformed ss l s = cond (has_srt ss l) (four (λ v. transform_of (srt_at ss l) (get_or s v []))) s

-- the block with the set s as its layer l
abbrev pub with_set : Block → ℕ → List Pair → Block
with_set b l s = four (λ v. set (get_or b v []) l (get_or s v []))

-- a pair of a lent layer is read where it stands
pub lent_pair : (ls : List Float) (l v : ℕ) {i j : ℕ} → has_layer ls l ≡ true → i ≡ l * layer_numbers + v * 2 → j ≡ l * layer_numbers + v * 2 + 1 → get_or ls i nan ∷ get_or ls j nan ∷ [] ≡ layer_uv ls l v
unfolding layer_uv
lent_pair ls l v h p q = rw (h, p, q)

-- a set whose layer has an SRT, as the code makes it: with one sine and cosine
pub set_made : (ss : List Float) (l : ℕ) (s : List Pair) {srt : Srt} {turn : SinCos} {a b c d : Pair} → has_srt ss l ≡ true → srt ≡ srt_at ss l → turn ≡ srt_turn srt
    → a ≡ moved srt turn (get_or s 0 []) → b ≡ moved srt turn (get_or s 1 []) → c ≡ moved srt turn (get_or s 2 []) → d ≡ moved srt turn (get_or s 3 []) → a ∷ b ∷ c ∷ d ∷ [] ≡ set_transformed ss l s
unfolding set_transformed transform_of
set_made ss l s h e q p0 p1 p2 p3 = rw (h, p0, p1, p2, p3, q, e)

-- a list of four is its elements, one by one
four_own : {A : Type 0} (l : List A) (d : A) → length l ≡ 4 → four (λ i. get_or l i d) ≡ l
unfolding table
four_own l d e = ext_get_or d (table 4 (λ i. get_or l i d)) l (sym e) (λ i h. table_at 4 i (λ i. get_or l i d) d h)

module _ (ss : List Float) (l : ℕ) (b : Block) where
  -- a layer's set taken out, transformed and put back is that layer's turn
  set_applied : length b ≡ 4 → with_set b l (set_transformed ss l (set_of b l)) ≡ layer_applied ss l b
  unfolding set_transformed layer_applied corner_done table
  set_applied e = go (has_srt ss l)
    where
      go : (t : Bool) → with_set b l (cond t (four (λ v. transform_of (srt_at ss l) (pair_at b v l))) (set_of b l)) ≡ cond t (layer_done (srt_at ss l) l b) b
      go true = refl
      go false = simp set-get_or (four_own b [] e)

  -- the same of what the code's three calls give: the set s, the transformed set t, and the block r
  pub set_turn : {s t : List Pair} {r : Block} → length b ≡ 4 → s ≡ set_of b l → t ≡ set_transformed ss l s → r ≡ with_set b l t → r ≡ layer_applied ss l b
  set_turn h p q e = e ∙ ap (with_set b l) (q ∙ ap (set_transformed ss l) p) ∙ set_applied h

-- the block of the three lent sets, corner by corner
pub sets_base : (ls : List Float) → four (λ v. get_or (lent_set ls 0) v [] ∷ get_or (lent_set ls 1) v [] ∷ get_or (lent_set ls 2) v [] ∷ []) ≡ base_uvs ls
unfolding table corner_uvs
sets_base ls = refl
