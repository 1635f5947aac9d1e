-- Document 01, "Known poses", for corners, computed by antt and compared bit for bit: centre (10, 20), size (4, 2), Center has its top left at (8, 19), and
-- Left, Top at (10, 20). The rows after those are turned; their answers are the Rust's.
use mathlib.Core.Bool.{Bool, true, false, ◌&&◌}
use mathlib.Core.List.{List, [], ◌∷◌}
use Prim.Native.Nat.{ℕ}
use lib.Dec.{T, eqb}
use lib.ListN.{get_or}
use lib.Ieee.{Float, binary32, of_bits, to_bits, lt, eq, add, sub, mul, div, neg, round, of_int}
use Rattle.float.specs.Numbers.{#}
use Rattle.float.specs.Whole.{whole_of}
use Rattle.float.specs.Turn.{third, quotient, reduced, sine_of, cosine_of, whole_part, mod4}
use Rattle.float.specs.SinCos.{sin_cos_of}
use Rattle.corner.specs.Corners.{start_of, rotated, corners_of}

same : List ℕ → List ℕ → Bool
same [] [] = true
same [] (y ∷ ys) = false
same (x ∷ xs) [] = false
same (x ∷ xs) (y ∷ ys) = eqb x y && same xs ys

-- ---- corners of the pane with centre (10, 20) and size (4, 2)
record Pane : Type 0 where
  across : ℕ
  down : ℕ
  turn : List ℕ
  gives : List ℕ

placed : Pane → List ℕ
unfolding to_bits of_bits corners_of start_of rotated sin_cos_of reduced third quotient sine_of cosine_of whole_part mod4 whole_of of_int lt eq add sub mul div neg round
placed p =
    let at : ℕ → Float = λ (i : ℕ). # (get_or p.turn i 0) in
    let k = corners_of (record { x = # 0x4120_0000; y = # 0x41a0_0000 }) (record { x = # 0x4080_0000; y = # 0x4000_0000 }) p.across p.down (record { x = at 0; y = at 1; z = at 2 }) in
    to_bits binary32 k.topleft.x ∷ to_bits binary32 k.topleft.y
    ∷ to_bits binary32 k.topright.x ∷ to_bits binary32 k.topright.y
    ∷ to_bits binary32 k.bottomleft.x ∷ to_bits binary32 k.bottomleft.y
    ∷ to_bits binary32 k.bottomright.x ∷ to_bits binary32 k.bottomright.y ∷ []

panes : List Pane
panes =
    record { across = 0; down = 0; turn = 0x0000_0000 ∷ 0x0000_0000 ∷ 0x0000_0000 ∷ []; gives = 0x4100_0000 ∷ 0x4198_0000 ∷ 0x4140_0000 ∷ 0x4198_0000 ∷ 0x4100_0000 ∷ 0x41a8_0000 ∷ 0x4140_0000 ∷ 0x41a8_0000 ∷ [] }
    ∷ record { across = 1; down = 1; turn = 0x0000_0000 ∷ 0x0000_0000 ∷ 0x0000_0000 ∷ []; gives = 0x4120_0000 ∷ 0x41a0_0000 ∷ 0x4160_0000 ∷ 0x41a0_0000 ∷ 0x4120_0000 ∷ 0x41b0_0000 ∷ 0x4160_0000 ∷ 0x41b0_0000 ∷ [] }
    ∷ record { across = 2; down = 2; turn = 0x8000_0000 ∷ 0x0000_0000 ∷ 0x0000_0000 ∷ []; gives = 0x40c0_0000 ∷ 0x4190_0000 ∷ 0x4120_0000 ∷ 0x4190_0000 ∷ 0x40c0_0000 ∷ 0x41a0_0000 ∷ 0x4120_0000 ∷ 0x41a0_0000 ∷ [] }
    ∷ record { across = 1; down = 1; turn = 0x41f0_0000 ∷ 0xc234_0000 ∷ 0x42b4_0000 ∷ []; gives = 0x4120_0000 ∷ 0x41a0_0000 ∷ 0x4120_0000 ∷ 0x4184_4985 ∷ 0x4136_a09e ∷ 0x419a_57d8 ∷ 0x4136_a09e ∷ 0x417d_42bb ∷ [] }
    ∷ record { across = 0; down = 2; turn = 0x0000_0000 ∷ 0x0000_0000 ∷ 0x4348_0000 ∷ []; gives = 0x4149_03ca ∷ 0x41a9_9011 ∷ 0x410c_dfde ∷ 0x41b4_81e5 ∷ 0x413e_11f6 ∷ 0x419a_8716 ∷ 0x4101_ee0a ∷ 0x41a5_78ea ∷ [] }
    ∷ []

placed_right : List Pane → Bool
unfolding placed same
placed_right [] = true
placed_right (p ∷ ps) = same (placed p) p.gives && placed_right ps

panes_right : T (placed_right panes)
unfolding placed_right panes
panes_right = tt
