-- Document 01, "Known poses", for UVs, computed by antt and compared bit for bit: UV (1, 0), translate (0.25, 0), rotate 0, scale (2, 1) gives (1.75, 0).
-- The rows after that are turned; their answers are the Rust's.
use mathlib.Core.Bool.{Bool, true, false, ◌&&◌}
use mathlib.Core.List.{List, [], ◌∷◌, map}
use Prim.Native.Nat.{ℕ}
use lib.Dec.{T, eqb}
use lib.Ieee.{binary32, of_bits, to_bits, lt, add, sub, mul, div, neg, round, of_int}
use Rattle.float.specs.Numbers.{#}
use Rattle.float.specs.Whole.{whole_of}
use Rattle.float.specs.Turn.{third, quotient, reduced, sine_of, cosine_of, whole_part, mod4}
use Rattle.float.specs.SinCos.{sin_cos_of}
use Rattle.uv.specs.Uvs.{srt_at, transform_of}

same : List ℕ → List ℕ → Bool
same [] [] = true
same [] (y ∷ ys) = false
same (x ∷ xs) [] = false
same (x ∷ xs) (y ∷ ys) = eqb x y && same xs ys

-- ---- a UV pair under an SRT
record Uv : Type 0 where
  srt : List ℕ
  from : List ℕ
  gives : List ℕ

moved : Uv → List ℕ
unfolding to_bits of_bits transform_of sin_cos_of reduced third quotient sine_of cosine_of whole_part mod4 whole_of of_int lt add sub mul div neg round
moved u = map (to_bits binary32) (transform_of (srt_at (map # u.srt) 0) (map # u.from))

uvs : List Uv
uvs =
    record { srt = 0x3e80_0000 ∷ 0x0000_0000 ∷ 0x0000_0000 ∷ 0x4000_0000 ∷ 0x3f80_0000 ∷ []; from = 0x3f80_0000 ∷ 0x0000_0000 ∷ []; gives = 0x3fe0_0000 ∷ 0x0000_0000 ∷ [] }
    ∷ record { srt = 0x3e80_0000 ∷ 0xbf00_0000 ∷ 0x42b4_0000 ∷ 0x4000_0000 ∷ 0x3f80_0000 ∷ []; from = 0x3f80_0000 ∷ 0x0000_0000 ∷ []; gives = 0x3fa0_0000 ∷ 0x3f80_0000 ∷ [] }
    ∷ record { srt = 0x0000_0000 ∷ 0x0000_0000 ∷ 0xc1f0_0000 ∷ 0x3f80_0000 ∷ 0x3f80_0000 ∷ []; from = 0x3e80_0000 ∷ 0x3f40_0000 ∷ []; gives = 0x3ed1_2614 ∷ 0x3f57_6cf6 ∷ [] }
    ∷ []

moved_right : List Uv → Bool
unfolding moved same
moved_right [] = true
moved_right (u ∷ us) = same (moved u) u.gives && moved_right us

uvs_right : T (moved_right uvs)
unfolding moved_right uvs
uvs_right = tt
