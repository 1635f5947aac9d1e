-- An output that is filled in three parts: the first a bytes of a list, then two lists that fill what is left, from p on the second. Assumes nothing.
use Prim.Native.Nat.{ℕ, ◌-◌, ◌≤◌}
use mathlib.Core.Path.{◌≡◌, sym, ◌∙◌, ap}
use mathlib.Core.List.{List, [], ◌++◌, append_assoc, append-nil}
use native.Mathlib.Omega.{arith}
use lib.ListN.{length, take, drop, length-append, length-drop}
use lib.Seq.{length-take-le, take-length, take_at, drop-length}
use borrow.Rule.Slice.PartMut.{mid_of, post_of, put_mid, same_len_mid, mid_len, Post-is}
use Rattle.sheet.specs.Sizes.{frames_at, points_at}
use Rattle.sheet.specs.Checked.{Checked}

-- l is the output after the first part: the first a bytes of s, copied over out
pub record Started (s out l : List ℕ) (a p : ℕ) : Type 0 where
  pub before : a ≤ p
  pub inside : p ≤ length s
  pub same : length out ≡ length s
  pub copied : l ≡ take (length (take a s)) (take a s) ++ drop (length (take a s)) out

-- so it is where a sheet was copied up to its frames
pub copied_sheet : {s out l : List ℕ} {a p : ℕ} → Checked s → length out ≡ length s → a ≡ frames_at s → p ≡ points_at s → l ≡ take a s ++ drop (length (take a s)) out → Started s out l a p
copied_sheet w e f q k = record { before = omega (arith, f, q); inside = omega (arith, q, w); same = e; copied = k ∙ sym (rw take-length) }

module _ {s out l : List ℕ} {a p : ℕ} (w : Started s out l a p) where
  start_long : length (take a s) ≡ a
  start_long = length-take-le a s (omega (arith, w))

  start : l ≡ take a s ++ drop a out
  start = w.copied ∙ rw (take-length (take a s), start_long)

  long : length l ≡ length s
  long = rw (start, length-append, start_long, length-drop) (omega (arith, w))

  -- the second part
  pub middle : length (mid_of a (p - a) l) ≡ p - a
  middle = mid_len a p l (omega (arith, w, long))

  module _ (x : List ℕ) (fills : length x ≡ p - a) where
    abbrev filled : List ℕ
    filled = put_mid a (p - a) l x

    filled_long : length filled ≡ length s
    filled_long = same_len_mid a (p - a) l x (fills ∙ sym middle) ∙ long

    -- the third
    pub rest : length (mid_of p (length filled - p) filled) ≡ length s - p
    rest = mid_len p (length filled) filled (omega arith) ∙ ap (λ (n : ℕ). n - p) filled_long

    first_two : take p filled ≡ take a s ++ x
    first_two =
        let e : take a l ≡ take a s = ap (take a) start ∙ take_at (take a s) (drop a out) a start_long in
        let h : length (take a s ++ x) ≡ p = length-append (take a s) x ∙ rw (start_long, fills) (omega (arith, w)) in
        rw (e, ← append_assoc) (take_at (take a s ++ x) (post_of a (p - a) l) p h)

    -- all three
    pub in_three : (y : List ℕ) → put_mid p (length filled - p) filled y ≡ take a s ++ (x ++ y)
    in_three y =
        let e : post_of p (length filled - p) filled ≡ [] = Post-is p (length filled) filled (omega (arith, w, filled_long)) ∙ drop-length filled in
        rw (e, append-nil, first_two) (append_assoc (take a s) x y)
