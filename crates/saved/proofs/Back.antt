-- What a written sheet is: a sheet as long as the one that it was written from, with the same rows, whose keys are those that were written; and a sheet
-- with its own keys is written as it is. Assumes nothing.
use Rattle.std.specs.Prelude.{ℕ, zero, suc, ◌+◌, ◌*◌, ◌/◌, ◌%◌, ◌<◌, ◌≡◌, true, T, get_or, Float}
use Rattle.std.proofs.Math.Path.{sym, ap}
use Rattle.std.proofs.Common.{◌∙◌, subst, arith, length-drop, length-take-le, take_all, drop-drop, ext_get_or}
use mathlib.Core.List.{List, [], ◌++◌, append_assoc, append-nil}
use Rattle.std.proofs.Math.ListN.{length, take, drop, length-append, take-append-drop, get_or-append}
use Rattle.std.proofs.Math.Seq.{take_at, get_or-take}
use Rattle.std.specs.Float.{nan, binary32}
use Rattle.std.specs.Float.Ieee.{fits}
use Rattle.laws.specs.Table.{table, table_length, table_at}
use Rattle.field.specs.Read.{float_at, finite_at}
use Rattle.field.specs.Word.{Bytes}
use Rattle.field.specs.Write.{float_bytes, bytes_long, floats_back, bytes_back}
use Rattle.sheet.specs.Sizes.{key_count, frames_at, points_at}
use Rattle.sheet.specs.Checked.{Checked}
use Rattle.sheet.specs.Alike.{Alike, keys_same, frames_same, points_same}
use Rattle.curve.specs.Before.{Held}
use Rattle.keys.specs.Checked.{KeysChecked}
use Rattle.keys.specs.Stored.{stored_frames, stored_values, stored_slopes, frames_long, values_long, slopes_long, frame_is, value_is, slope_is, Stored, stored_frame, stored_value, stored_slope}
use Rattle.saved.specs.Saved.{points_of, points_long, point_value, point_slope, saved_of}

-- ---- the sheet s with other keys, as many as it has
module _ (s : List ℕ) (w : Checked s) (fs vs ss : List Float) (k : KeysChecked s fs vs ss) where
  abbrev written : List ℕ
  written = saved_of s fs vs ss

  start_long : length (take (frames_at s) s) ≡ frames_at s
  start_long = length-take-le (frames_at s) s (omega (arith, w))

  frame_bytes : length (float_bytes fs) ≡ key_count s * 4
  frame_bytes = bytes_long fs ∙ ap (λ (n : ℕ). n * 4) k.frames

  point_bytes : length (float_bytes (points_of vs ss)) ≡ key_count s * 8
  point_bytes = bytes_long (points_of vs ss) ∙ omega (arith, points_long vs ss (k.slopes ∙ sym k.values), k)

  pub saved_long : length written ≡ length s
  unfolding saved_of
  saved_long = simp (length-append, start_long, frame_bytes, point_bytes) (omega (arith, w))

  -- it differs in the key arrays at most
  pub saved_alike : Alike s written
  unfolding saved_of
  saved_alike =
      record {
        long = saved_long;
        same = λ i l. get_or-append (take (frames_at s) s) _ 0 i (rw start_long l) ∙ get_or-take (frames_at s) s i 0 l;
      }

  start_same : take (frames_at written) written ≡ take (frames_at s) s
  unfolding saved_of
  start_same = ap (λ (n : ℕ). take n written) (frames_same saved_alike) ∙ take_at (take (frames_at s) s) _ (frames_at s) start_long

  -- so what is written over it is what is written over s: saving, loading and saving again gives the same sheet
  pub saved_again : (gs us zs : List Float) → saved_of written gs us zs ≡ saved_of s gs us zs
  saved_again gs us zs = unfold saved_of in ap (λ (l : List ℕ). l ++ (float_bytes gs ++ float_bytes (points_of us zs))) start_same

  -- ---- its keys are fs, vs and ss
  module _ (hf : Held fs) (hv : Held vs) (hs : Held ss) where
    -- a list that loading makes is the one that was written where each of its numbers is
    list_back : (xs ys : List Float) → length xs ≡ key_count written → length ys ≡ key_count s → ((i : ℕ) → i < key_count written → i < key_count s → get_or xs i nan ≡ get_or ys i nan) → xs ≡ ys
    list_back xs ys p q h = let e = keys_same saved_alike in ext_get_or nan xs ys (p ∙ e ∙ sym q) (λ i l. h i (omega arith) (omega arith))

    frame_back : (i j : ℕ) → i ≡ frames_at s + j * 4 → j < key_count s → float_at written i ≡ get_or fs j nan
    unfolding saved_of
    frame_back i j e l = floats_back (take (frames_at s) s) (float_bytes (points_of vs ss)) fs i j (omega (arith, start_long)) (omega (arith, k)) (hf j)

    pub saved_frames : stored_frames written ≡ fs
    saved_frames =
        list_back (stored_frames written) fs (frames_long written) k.frames
        (λ i m n. frame_is written i m ∙ frame_back _ i (omega (arith, frames_same saved_alike)) n)

    -- number 2 i of the points is value i, and number 2 i + 1 its slope
    point_back : (i j : ℕ) → i ≡ points_at s + j * 4 → j < key_count s * 2 → T (fits binary32 (get_or (points_of vs ss) j nan)) → float_at written i ≡ get_or (points_of vs ss) j nan
    unfolding saved_of
    point_back i j e l h =
        let q : length (take (frames_at s) s ++ float_bytes fs) ≡ points_at s = length-append (take (frames_at s) s) (float_bytes fs) ∙ omega (arith, start_long, frame_bytes) in
        let p : take (frames_at s) s ++ (float_bytes fs ++ float_bytes (points_of vs ss)) ≡ (take (frames_at s) s ++ float_bytes fs) ++ (float_bytes (points_of vs ss) ++ []) =
        rw append-nil (sym (append_assoc (take (frames_at s) s) (float_bytes fs) (float_bytes (points_of vs ss)))) in
        ap (λ (l : List ℕ). float_at l i) p ∙ floats_back (take (frames_at s) s ++ float_bytes fs) [] (points_of vs ss) i j (omega arith) (omega (arith, points_long vs ss (k.slopes ∙ sym k.values), k)) h

    twin : length ss ≡ length vs
    twin = k.slopes ∙ sym k.values

    pub saved_values : stored_values written ≡ vs
    saved_values =
        list_back (stored_values written) vs (values_long written) k.values
        (λ i m n. let e = point_value vs ss i twin (omega (arith, k)) in
        value_is written i m ∙ point_back _ (i * 2) (omega (arith, points_same saved_alike)) (omega arith) (rw e (hv i)) ∙ e)

    pub saved_slopes : stored_slopes written ≡ ss
    saved_slopes =
        list_back (stored_slopes written) ss (slopes_long written) k.slopes
        (λ i m n. let e = point_slope vs ss i twin (omega (arith, k)) in
        slope_is written i m ∙ point_back _ (i * 2 + 1) (omega (arith, points_same saved_alike)) (omega arith) (rw e (hs i)) ∙ e)

-- ---- a sheet with its own keys is written as it is

-- what holds of each value's place and of each slope's holds of each f32 of n points
by_twos : (n : ℕ) (P : ℕ → Type 0) → ((i : ℕ) → i < n → P (i * 2)) → ((i : ℕ) → i < n → P (i * 2 + 1)) → (j : ℕ) → j < n * 2 → P j
by_twos n P even odd j l = go (j % 2) (omega arith) (omega arith)
  where
    go : (r : ℕ) → r < 2 → j ≡ j / 2 * 2 + r → P j
    go zero h e = let q : j / 2 * 2 ≡ j = omega arith in subst P q (even (j / 2) (omega arith))
    go (suc zero) h e = subst P (sym e) (odd (j / 2) (omega arith))
    go (suc (suc r)) h e = absurd (omega arith)

module _ (s : List ℕ) (b : Bytes s) (w : Stored s) where
  own_frames : float_bytes (stored_frames s) ≡ take (key_count s * 4) (drop (frames_at s) s)
  unfolding stored_frames
  own_frames = bytes_back s b (frames_at s) (key_count s) (omega (arith, w.checked)) (stored_frame w)

  -- the f32s from its points on: its values and slopes in turn
  abbrev point : ℕ → Float
  point j = float_at s (points_at s + j * 4)

  twin_own : length (stored_slopes s) ≡ length (stored_values s)
  twin_own = slopes_long s ∙ sym (values_long s)

  own_long : length (points_of (stored_values s) (stored_slopes s)) ≡ key_count s * 2
  own_long = points_long (stored_values s) (stored_slopes s) twin_own ∙ ap (λ (n : ℕ). n * 2) (values_long s)

  own_point : (j : ℕ) → j < key_count s * 2 → get_or (points_of (stored_values s) (stored_slopes s)) j nan ≡ point j
  own_point =
      by_twos (key_count s) (λ j. get_or (points_of (stored_values s) (stored_slopes s)) j nan ≡ point j)
      (λ i l. point_value (stored_values s) (stored_slopes s) i twin_own (omega (arith, values_long s)) ∙ value_is s i l ∙ ap (float_at s) (omega arith))
      (λ i l. point_slope (stored_values s) (stored_slopes s) i twin_own (omega (arith, values_long s)) ∙ slope_is s i l ∙ ap (float_at s) (omega arith))

  point_finite : (j : ℕ) → j < key_count s * 2 → finite_at s (points_at s + j * 4) ≡ true
  point_finite =
      by_twos (key_count s) (λ j. finite_at s (points_at s + j * 4) ≡ true)
      (λ i l. let q : points_at s + i * 2 * 4 ≡ points_at s + i * 8 = omega arith in rw q (stored_value w i l))
      (λ i l. let q : points_at s + (i * 2 + 1) * 4 ≡ points_at s + 4 + i * 8 = omega arith in rw q (stored_slope w i l))

  own_points : float_bytes (points_of (stored_values s) (stored_slopes s)) ≡ drop (points_at s) s
  own_points =
      let n = key_count s * 2 in
      let e : points_of (stored_values s) (stored_slopes s) ≡ table n point =
      ext_get_or nan (points_of (stored_values s) (stored_slopes s)) (table n point) (own_long ∙ sym (table_length n point))
      (λ j l. let m : j < n = omega (arith, own_long) in own_point j m ∙ sym (table_at n j point nan m)) in
      ap float_bytes e ∙ bytes_back s b (points_at s) n (omega (arith, w.checked)) point_finite ∙ take_all (n * 4) (drop (points_at s) s) (rw length-drop (omega (arith, w.checked)))

  pub saved_same : saved_of s (stored_frames s) (stored_values s) (stored_slopes s) ≡ s
  unfolding saved_of
  saved_same =
      let e : take (key_count s * 4) (drop (frames_at s) s) ++ drop (points_at s) s ≡ drop (frames_at s) s =
      ap (λ (l : List ℕ). take (key_count s * 4) (drop (frames_at s) s) ++ l) (sym (drop-drop (key_count s * 4) (frames_at s) s)) ∙ take-append-drop (key_count s * 4) (drop (frames_at s) s) in
      rw (own_frames, own_points, e) (take-append-drop (frames_at s) s)
