-- Small sheets and books for the known poses, byte by byte as document 01, "Sheet and book", lays them out. Definitions only.
use Rattle.std.specs.Prelude.{ℕ, suc, ◌+◌, ◌/◌, ◌%◌, true, false, List, [], ◌∷◌, ◌++◌, length, replicate, Float}
use Rattle.std.specs.Float.{binary32}
use Rattle.std.specs.Float.Ieee.{round, to_bits}
use Rattle.book.specs.Sizes.{no_parent}
use Rattle.curve.specs.declared.Key.{Key}

-- ---- numbers

-- the f32 nearest to a / b, and the same below zero; whole numbers likewise
unfoldable pub over : ℕ → ℕ → Float
over a b = round binary32 false a b

unfoldable pub below : ℕ → ℕ → Float
below a b = round binary32 true a b

unfoldable pub minus : ℕ → Float
minus n = below n 1

unfoldable pub whole : ℕ → Float
whole n = over n 1

-- little-endian
unfoldable pub u16 : ℕ → List ℕ
u16 n = n % 256 ∷ n / 256 ∷ []

unfoldable pub f32 : Float → List ℕ
f32 x = let n = to_bits binary32 x in u16 (n % 65536) ++ u16 (n / 65536)

-- a name of one byte in its field
unfoldable pub name : ℕ → List ℕ
name n = n ∷ replicate 23 0

-- ---- sheets

-- a target with a content of its own: the content's type and name, the target's four letters and raw number, its curve and its keys
pub record Track : Type 0 where
  pub kind : ℕ
  pub named : ℕ
  pub code : List ℕ
  pub raw : ℕ
  pub curve : ℕ
  pub keys : List Key

unfoldable pub all_keys : List Track → List Key
all_keys [] = []
all_keys (t ∷ ts) = t.keys ++ all_keys ts

-- contents, all of animation 0
unfoldable pub contents : List Track → List ℕ
contents [] = []
contents (t ∷ ts) = (0 ∷ t.kind ∷ 0 ∷ 0 ∷ name t.named) ++ contents ts

-- targets on layer 0, from content c and key `first` on
unfoldable pub targets : ℕ → ℕ → List Track → List ℕ
targets c first [] = []
targets c first (t ∷ ts) =
    u16 c ++ (0 ∷ t.raw ∷ t.code) ++ (t.curve ∷ 0 ∷ u16 first) ++ u16 (length t.keys) ++ targets (suc c) (first + length t.keys) ts

unfoldable pub frames : List Key → List ℕ
frames [] = []
frames (k ∷ ks) = f32 k.frame ++ frames ks

unfoldable pub points : List Key → List ℕ
points [] = []
points (k ∷ ks) = f32 k.value ++ f32 k.slope ++ points ks

-- one animation of n frames, looping (1) or not (0), with no next name; and no texture
unfoldable pub sheet : ℕ → ℕ → List Track → List ℕ
sheet n looping ts =
    u16 1 ++ u16 (length ts) ++ u16 (length ts) ++ u16 (length (all_keys ts)) ++ u16 0 ++ u16 0
    ++ u16 n ++ (looping ∷ 0 ∷ replicate 24 0)
    ++ contents ts ++ targets 0 0 ts ++ frames (all_keys ts) ++ points (all_keys ts)

-- animations of n frames that don't loop and have these next names; nothing is moved
unfoldable pub followed : ℕ → List ℕ → List ℕ
followed n [] = []
followed n (k ∷ ks) = u16 n ++ (0 ∷ 1 ∷ name k) ++ followed n ks

unfoldable pub following : ℕ → List ℕ → List ℕ
following n ks = u16 (length ks) ++ replicate 10 0 ++ followed n ks

-- ---- a book

-- a pane: its label, parent and flags; alpha 255, origins 0, and +0 throughout
unfoldable pub pane : ℕ → ℕ → ℕ → List ℕ
pane label parent flags = name label ++ u16 parent ++ (flags ∷ 255 ∷ replicate 44 0)

-- the labels of parent and child, and the material's name
abbrev pub parent : ℕ
parent = 1

abbrev pub child : ℕ
child = 2

abbrev pub material : ℕ
material = 3

-- a parent with these flags and its child, which is visible and influences alpha; and a material, with +0 throughout
unfoldable pub book : ℕ → List ℕ
book flags = u16 2 ++ u16 1 ++ pane parent no_parent flags ++ pane child 0 3 ++ name material ++ replicate 132 0
