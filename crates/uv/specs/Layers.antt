-- What the UV block holds, pair by pair: the equation that a reader of document 01, "UVs and corners", expects. `applied` goes layer by layer, as the Rust does.
use Rattle.std.specs.Prelude.{ℕ, zero, suc, ◌+◌, ◌*◌, ◌/◌, ◌%◌, ◌<◌, ◌≡◌, Bool, set, Float}
use Rattle.std.proofs.Math.Path.{refl, ap}
use Rattle.std.proofs.Common.{subst, ◌∙◌}
use Rattle.std.proofs.Math.Bool.{true, false, cond}
use mathlib.Core.List.{List, []}
use native.Mathlib.Omega.{arith}
use Rattle.std.proofs.Math.ListN.{length, get_or, length-set}
use Rattle.std.proofs.Math.Seq.{get_or-set_same, get_or-set_other}
use Rattle.std.specs.Float.{nan}
use Rattle.laws.specs.Table.{table_at, table_length, Filled, filled_more}
use Rattle.uv.specs.Uvs.{Pair, Block, layer_uv, corner_uvs, base_uvs, has_srt, srt_at, transform_of, corner_done, layer_done, layer_applied, applied, block_numbers, number_of}

-- the pair of corner v and layer l
abbrev pub pair_at : Block → ℕ → ℕ → Pair
pair_at b v l = get_or (get_or b v []) l []

-- a pair of layer l, transformed where that layer has an SRT
abbrev pub transformed : List Float → ℕ → Pair → Pair
transformed ss l p = cond (has_srt ss l) (transform_of (srt_at ss l) p) p

-- the block has four corners of three layers
pub record Whole (b : Block) : Type 0 where
  pub corners : length b ≡ 4
  pub layers : (v : ℕ) → v < 4 → length (get_or b v []) ≡ 3

module _ (ss : List Float) (l : ℕ) (b : Block) where
  layer_whole : Whole b → Whole (layer_applied ss l b)
  unfolding layer_applied corner_done
  layer_whole w = go (has_srt ss l)
    where
      go : (t : Bool) → Whole (cond t (layer_done (srt_at ss l) l b) b)
      go true =
          record {
            corners = table_length 4 (corner_done (srt_at ss l) l b);
            layers = λ v h. ap length (table_at 4 v (corner_done (srt_at ss l) l b) [] h) ∙ length-set (get_or b v []) l (transform_of (srt_at ss l) (pair_at b v l)) ∙ w.layers v h;
          }
      go false = w

  -- a layer's turn transforms its own pairs
  layer_own : Whole b → (v : ℕ) → v < 4 → l < 3 → pair_at (layer_applied ss l b) v l ≡ transformed ss l (pair_at b v l)
  unfolding layer_applied corner_done
  layer_own w v h k = go (has_srt ss l)
    where
      go : (t : Bool) → pair_at (cond t (layer_done (srt_at ss l) l b) b) v l ≡ cond t (transform_of (srt_at ss l) (pair_at b v l)) (pair_at b v l)
      go true =
          ap (λ (c : List Pair). get_or c l []) (table_at 4 v (corner_done (srt_at ss l) l b) [] h)
          ∙ get_or-set_same (get_or b v []) l (transform_of (srt_at ss l) (pair_at b v l)) [] (rw (w.layers v h) k)
      go false = refl

  -- and leaves the others
  layer_other : (v k : ℕ) → v < 4 → (k ≡ l → ⊥) → pair_at (layer_applied ss l b) v k ≡ pair_at b v k
  unfolding layer_applied corner_done
  layer_other v k h n = go (has_srt ss l)
    where
      go : (t : Bool) → pair_at (cond t (layer_done (srt_at ss l) l b) b) v k ≡ pair_at b v k
      go true =
          ap (λ (c : List Pair). get_or c k []) (table_at 4 v (corner_done (srt_at ss l) l b) [] h)
          ∙ get_or-set_other (get_or b v []) l k (transform_of (srt_at ss l) (pair_at b v l)) [] n
      go false = refl

-- `apply_srt_to_uvs` transforms each pair by its layer's SRT, and leaves it where there is none
pub applied_pair : (b : Block) (ss : List Float) → Whole b → (v l : ℕ) → v < 4 → l < 3 → pair_at (applied b ss) v l ≡ transformed ss l (pair_at b v l)
applied_pair b ss w v zero h k =
    let b0 = layer_applied ss 0 b in
    let b1 = layer_applied ss 1 b0 in
    layer_other ss 2 b1 v 0 h (λ e. omega arith) ∙ layer_other ss 1 b0 v 0 h (λ e. omega arith) ∙ layer_own ss 0 b w v h k
applied_pair b ss w v (suc zero) h k =
    let b0 = layer_applied ss 0 b in
    let b1 = layer_applied ss 1 b0 in
    layer_other ss 2 b1 v 1 h (λ e. omega arith) ∙ layer_own ss 1 b0 (layer_whole ss 0 b w) v h k ∙ ap (transformed ss 1) (layer_other ss 0 b v 1 h (λ e. omega arith))
applied_pair b ss w v (suc (suc zero)) h k =
    let b0 = layer_applied ss 0 b in
    let b1 = layer_applied ss 1 b0 in
    layer_own ss 2 b1 (layer_whole ss 1 b0 (layer_whole ss 0 b w)) v h k
    ∙ ap (transformed ss 2) (layer_other ss 1 b0 v 2 h (λ e. omega arith) ∙ layer_other ss 0 b v 2 h (λ e. omega arith))
applied_pair b ss w v (suc (suc (suc l))) h k = absurd (far l k)
  where
    far : (l : ℕ) → suc (suc (suc l)) < 3 → ⊥
    far l h = omega arith

-- `compute_uvs` holds the layers' pairs
base_whole : (ls : List Float) → Whole (base_uvs ls)
unfolding corner_uvs
base_whole ls = record { corners = table_length 4 (corner_uvs ls); layers = λ v h. ap length (table_at 4 v (corner_uvs ls) [] h) }

base_pair : (ls : List Float) (v l : ℕ) → v < 4 → l < 3 → pair_at (base_uvs ls) v l ≡ layer_uv ls l v
base_pair ls v l h k = ap (λ (c : List Pair). get_or c l []) (table_at 4 v (corner_uvs ls) [] h) ∙ corner l k
  where
    corner : (l : ℕ) → l < 3 → get_or (corner_uvs ls v) l [] ≡ layer_uv ls l v
    corner zero k = unfold corner_uvs in refl
    corner (suc zero) k = unfold corner_uvs in refl
    corner (suc (suc zero)) k = unfold corner_uvs in refl
    corner (suc (suc (suc l))) k = let z : ⊥ = omega arith in absurd z

-- So each pair of the answer is the layer's, or the unit square's, under the layer's SRT.
pub uvs_pair : (ls ss : List Float) (v l : ℕ) → v < 4 → l < 3 → pair_at (applied (base_uvs ls) ss) v l ≡ transformed ss l (layer_uv ls l v)
uvs_pair ls ss v l h k = applied_pair (base_uvs ls) ss (base_whole ls) v l h k ∙ ap (transformed ss l) (base_pair ls v l h k)

-- Pair i of the block, counted as its numbers are, is that of corner i / 3 and layer i % 3.
module _ (b : Block) (i : ℕ) where
  pair_number : (k n : ℕ) → k < 2 → n ≡ i * 2 + k → get_or (pair_at b (i / 3) (i % 3)) k nan ≡ number_of b n
  unfolding number_of
  pair_number k n h e = let v : n / 6 ≡ i / 3 = omega arith in let l : n % 6 / 2 ≡ i % 3 = omega arith in let m : n % 2 ≡ k = omega arith in rw (v, l, m)

  -- so its two numbers, stored there, fill the output further
  pub pair_stored : {out : List Float} {x y : Float} → Filled block_numbers (number_of b) out (i * 2) → i * 2 < block_numbers → x ≡ get_or (pair_at b (i / 3) (i % 3)) 0 nan → y ≡ get_or (pair_at b (i / 3) (i % 3)) 1 nan
      → Filled block_numbers (number_of b) (set (set out (i * 2) x) (i * 2 + 1) y) ((i + 1) * 2)
  pair_stored {out} {x} {y} h l p q =
      subst (Filled block_numbers (number_of b) (set (set out (i * 2) x) (i * 2 + 1) y)) (omega arith)
      (filled_more (filled_more h l (p ∙ pair_number 0 (i * 2) (omega arith) (omega arith))) (omega arith) (q ∙ pair_number 1 (i * 2 + 1) (omega arith) (omega arith)))
