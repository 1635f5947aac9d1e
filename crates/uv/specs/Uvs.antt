-- Document 01, "UVs and corners": the UV block, four corners of three layers of a pair. Definitions only.
use Rattle.std.specs.Prelude.{ℕ, ◌+◌, ◌*◌, ◌/◌, ◌%◌, Bool, cond, List, [], ◌∷◌, leb, length, get_or, set, Float}
use Rattle.std.specs.Float.{nan}
use Rattle.laws.specs.Table.{table}
use Rattle.float.specs.Numbers.{◌⊕◌, ◌⊖◌, ◌⊗◌, zero', half, one'}
use Rattle.float.specs.Turn.{radians_of}
use Rattle.float.specs.SinCos.{sin_cos_of}
use Rattle.float.specs.declared.turn.SinCos.{SinCos}
use Rattle.float.specs.declared.vector.Srt.{Srt}

-- a UV pair is a list of two, u and v; a corner is three of them, one a layer; the block is four corners
abbrev pub Pair : Type 0
Pair = List Float

abbrev pub Block : Type 0
Block = List (List Pair)

-- a pair scaled and turned about (0.5, 0.5), with this sine and cosine, then moved
abbrev pub moved : Srt → SinCos → Pair → Pair
moved srt t uv =
    let su = (get_or uv 0 nan ⊖ half) ⊗ srt.scale.x in
    let sv = (get_or uv 1 nan ⊖ half) ⊗ srt.scale.y in
    let ru = su ⊗ t.cos ⊖ sv ⊗ t.sin in
    let rv = su ⊗ t.sin ⊕ sv ⊗ t.cos in
    (ru ⊕ srt.translate.x ⊕ half) ∷ (rv ⊕ srt.translate.y ⊕ half) ∷ []

-- the sine and cosine of an SRT's angle
abbrev pub srt_turn : Srt → SinCos
srt_turn srt = sin_cos_of (radians_of srt.rotate)

-- `transform_uv_srt`, with the sine and cosine of its own angle
unfoldable pub transform_of : Srt → Pair → Pair
transform_of srt uv = moved srt (srt_turn srt) uv

-- ---- how many numbers a lent layer has, a lent SRT, and the block
abbrev pub layer_numbers : ℕ
layer_numbers = 8

abbrev pub srt_numbers : ℕ
srt_numbers = 5

abbrev pub block_numbers : ℕ
block_numbers = 24

-- ---- layers, eight numbers each: u and v of top left, top right, bottom left, bottom right
-- the Rust's unit square, for a layer that is missing
unfoldable pub unit_square : List Pair
unit_square = (zero' ∷ zero' ∷ []) ∷ (one' ∷ zero' ∷ []) ∷ (zero' ∷ one' ∷ []) ∷ (one' ∷ one' ∷ []) ∷ []

-- layer l is given
abbrev pub has_layer : List Float → ℕ → Bool
has_layer ls l = leb (l * layer_numbers + layer_numbers) (length ls)

-- corner v of layer l
unfoldable pub layer_uv : List Float → ℕ → ℕ → Pair
layer_uv ls l v = cond (has_layer ls l) (get_or ls (l * layer_numbers + v * 2) nan ∷ get_or ls (l * layer_numbers + v * 2 + 1) nan ∷ []) (get_or unit_square v [])

-- the three layers of corner v
unfoldable pub corner_uvs : List Float → ℕ → List Pair
corner_uvs ls v = layer_uv ls 0 v ∷ layer_uv ls 1 v ∷ layer_uv ls 2 v ∷ []

-- `compute_uvs`: the four corners
abbrev pub base_uvs : List Float → Block
base_uvs ls = table 4 (corner_uvs ls)

-- ---- SRTs, five numbers each: translate u, v, rotate, scale u, v
-- SRT l is given
abbrev pub has_srt : List Float → ℕ → Bool
has_srt ss l = leb (l * srt_numbers + srt_numbers) (length ss)

-- SRT l
abbrev pub srt_at : List Float → ℕ → Srt
srt_at ss l =
    record {
      translate = record { x = get_or ss (l * srt_numbers) nan; y = get_or ss (l * srt_numbers + 1) nan };
      rotate = get_or ss (l * srt_numbers + 2) nan;
      scale = record { x = get_or ss (l * srt_numbers + 3) nan; y = get_or ss (l * srt_numbers + 4) nan };
    }

-- corner v of the block with its layer l transformed
unfoldable pub corner_done : Srt → ℕ → Block → ℕ → List Pair
corner_done srt l b v = set (get_or b v []) l (transform_of srt (get_or (get_or b v []) l []))

-- the block with layer l of each corner transformed
abbrev pub layer_done : Srt → ℕ → Block → Block
layer_done srt l b = table 4 (corner_done srt l b)

-- the same where SRT l is given; a layer without one is left as it is
unfoldable pub layer_applied : List Float → ℕ → Block → Block
layer_applied ss l b = cond (has_srt ss l) (layer_done (srt_at ss l) l b) b

-- `apply_srt_to_uvs`, layer by layer
abbrev pub applied : Block → List Float → Block
applied b ss = layer_applied ss 2 (layer_applied ss 1 (layer_applied ss 0 b))

-- number i of the block: corner by corner, in each layer by layer, in each u and v
unfoldable pub number_of : Block → ℕ → Float
number_of b i = get_or (get_or (get_or b (i / 6) []) (i % 6 / 2) []) (i % 2) nan

-- the block's 24 numbers
abbrev pub numbers : Block → List Float
numbers b = table block_numbers (number_of b)
