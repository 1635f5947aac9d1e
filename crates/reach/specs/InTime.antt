-- The law of reach in time: where keys i to j of a track alone differ, its curve gives the same strictly outside the span from the previous key's frame to
-- the next key's, and a Constant curve wherever the frame picks another key; so then does every channel. One edited key is i = j. Assumes nothing.
use Rattle.std.specs.Prelude.{ℕ, ◌+◌, ◌<◌, ◌≤◌, Bool, List, ◌≡◌, T, length, get_or, Float}
use Rattle.std.proofs.Math.Bool.{true, false}
use Rattle.std.proofs.Math.Path.{refl}
use Rattle.std.proofs.Common.{sym, ◌∙◌, arith}
use borrow.Author.Tests.{ltb-true, ltb-false, eqb-true, eqb-false}
use Rattle.std.proofs.Math.Dec.{eqb, ltb}
use Rattle.std.proofs.Math.ListN.{get_or-eq_default}
use Rattle.std.specs.Float.{nan, binary32}
use Rattle.std.specs.Float.Ieee.{fits}
use Rattle.std.specs.Prelude.{Option}
use Rattle.std.specs.Prelude.{Some, None}
use Rattle.float.specs.Rising.{part_rising}
use Rattle.sheet.specs.Sizes.{target_count}
use Rattle.sheet.specs.Rows.{target_row}
use Rattle.sheet.specs.Checked.{target_keys}
use Rattle.keys.specs.Checked.{track_rising}
use Rattle.curve.specs.Keys as curve
use Rattle.curve.specs.Keys.{part_of}
use Rattle.curve.specs.Parts.{part_length, part_at}
use Rattle.curve.specs.Before.{Held}
use Rattle.curve.specs.Curve.{kind_constant, eval_part}
use Rattle.curve.specs.Outside.{outside, picked, Besides, picks_same}
use Rattle.curve.proofs.Outside.{outside_same}
use Rattle.reading.specs.Reading.{value_at, value16_at, row_reading, target_reading, last_target, reading}
use Rattle.reading.proofs.LastTarget.{last_target_only}
use Rattle.reading.specs.Untouched.{track_reads}
use Rattle.reading.specs.Active.{active_at}
use Rattle.edit.specs.Keys.{Keys, key_at, HeldKeys}
use Rattle.edit.specs.Edit.{place}
use Rattle.reach.specs.Ready.{Compared}
use Rattle.reach.specs.Law.{SameTrack, SameReading}

-- past the end there is no key
part_past : (first count : ℕ) (fs : List Float) (k : ℕ) → first + count ≤ length fs → count ≤ k → get_or (part_of first count fs) k nan ≡ nan
part_past first count fs k l m = get_or-eq_default (part_of first count fs) nan (omega (arith, part_length first count fs l))

part_held : (first count : ℕ) (fs : List Float) → first + count ≤ length fs → Held fs → Held (part_of first count fs)
part_held first count fs l h k = go (ltb k count) refl
  where
    go : (b : Bool) → ltb k count ≡ b → T (fits binary32 (get_or (part_of first count fs) k nan))
    go true e = rw (part_at first count fs k (ltb-true k count e)) (h (first + k))
    go false e = rw (part_past first count fs k l (ltb-false k count e)) (unfold fits in tt)

module _ {s : List ℕ} {ks ls : Keys} (w : Compared s ks ls) (hk : HeldKeys ks) (hl : HeldKeys ls) (t : ℕ) (lt : t < target_count s) (i j : ℕ) (order : i ≤ j) (within : j < (target_row s t).count)
    (same : (k : ℕ) → k < (target_row s t).count → (i ≤ k → k ≤ j → ⊥) → key_at ls (place s t k) ≡ key_at ks (place s t k)) where
  abbrev first : ℕ
  first = (target_row s t).first

  abbrev count : ℕ
  count = (target_row s t).count

  -- the track's part of a list
  abbrev own : List Float → List Float
  own fs = part_of first count fs

  own_key : (k : ℕ) → (i ≤ k → k ≤ j → ⊥) → curve.key_at (own ls.frames) (own ls.values) (own ls.slopes) k ≡ curve.key_at (own ks.frames) (own ks.values) (own ks.slopes) k
  unfolding key_at place
  own_key k d = go (ltb k count) refl
    where
      go : (b : Bool) → ltb k count ≡ b → curve.key_at (own ls.frames) (own ls.values) (own ls.slopes) k ≡ curve.key_at (own ks.frames) (own ks.values) (own ks.slopes) k
      go true e =
          let m = ltb-true k count e in
          rw (
            part_at first count ls.frames k m,
            part_at first count ls.values k m,
            part_at first count ls.slopes k m,
            part_at first count ks.frames k m,
            part_at first count ks.values k m,
            part_at first count ks.slopes k m,
          )
          (same k m d)
      go false e =
          let m = ltb-false k count e in
          let o = w.old in
          let q = w.new in
          rw (
            part_past first count ls.frames k (omega (arith, target_keys w.sheet t lt)) m,
            part_past first count ls.values k (omega (arith, target_keys w.sheet t lt)) m,
            part_past first count ls.slopes k (omega (arith, target_keys w.sheet t lt)) m,
            part_past first count ks.frames k (omega (arith, target_keys w.sheet t lt)) m,
            part_past first count ks.values k (omega (arith, target_keys w.sheet t lt)) m,
            part_past first count ks.slopes k (omega (arith, target_keys w.sheet t lt)) m,
          )

  long : (fs : List Float) → first + count ≤ length fs → length (own fs) ≡ count
  long fs l = part_length first count fs l

  besides : Besides i j (own ks.frames) (own ks.values) (own ks.slopes) (own ls.frames) (own ls.values) (own ls.slopes)
  besides =
      let o = w.old in
      let q = w.new in
      let n = target_keys w.sheet t lt in
      let a = long ks.frames (omega arith) in
      let b = long ls.frames (omega arith) in
      record { order = order; within = omega arith; long = b ∙ sym a; same = own_key }

  -- what the curve gives decides what the track reads
  reads_by : (x : Float) → eval_part (target_row s t).curve first count ls.frames ls.values ls.slopes x ≡ eval_part (target_row s t).curve first count ks.frames ks.values ks.slopes x
      → target_reading s ls.frames ls.values ls.slopes x t ≡ target_reading s ks.frames ks.values ks.slopes x t
  unfolding target_reading row_reading value_at value16_at
  reads_by x e = rw e

  -- Step and Hermite, strictly outside the span
  pub outside_reads : (x : Float) → T (fits binary32 x) → ((target_row s t).curve ≡ kind_constant → ⊥) → outside (part_of (target_row s t).first (target_row s t).count ks.frames) i j x ≡ true
      → target_reading s ls.frames ls.values ls.slopes x t ≡ target_reading s ks.frames ks.values ks.slopes x t
  outside_reads x hx d e =
      let o = w.old in
      let q = w.new in
      let n = target_keys w.sheet t lt in
      reads_by x
      (outside_same i j (own ks.frames) (own ks.values) (own ks.slopes) (own ls.frames) (own ls.values) (own ls.slopes) besides
      (part_held first count ks.frames (omega arith) hk.frames)
      (part_held first count ls.frames (omega arith) hl.frames)
      (part_rising ks.frames first count (omega arith) (track_rising w.old t lt d))
      (part_rising ls.frames first count (omega arith) (track_rising w.new t lt d)) x hx (target_row s t).curve d e)

  -- Constant, where the frame picks another key
  pub picked_reads : (x : Float) → (target_row s t).curve ≡ kind_constant → (i ≤ picked (part_of (target_row s t).first (target_row s t).count ks.frames) x → picked (part_of (target_row s t).first (target_row s t).count ks.frames) x ≤ j → ⊥)
      → target_reading s ls.frames ls.values ls.slopes x t ≡ target_reading s ks.frames ks.values ks.slopes x t
  picked_reads x e d =
      reads_by x
      (rw e (picks_same i j (own ks.frames) (own ks.values) (own ks.slopes) (own ls.frames) (own ls.values) (own ls.slopes) besides x d))

  -- So where t alone has other keys, and reads the same at x, everything does.
  pub then_all : (others : (u : ℕ) → u < target_count s → (u ≡ t → ⊥) → SameTrack s ks ls u) (x : Float)
      → target_reading s ls.frames ls.values ls.slopes x t ≡ target_reading s ks.frames ks.values ks.slopes x t
      → (b : List ℕ) (a c : ℕ) → SameReading s b ks ls (active_at a x) c
  unfolding reading
  then_all others x e b a c = go (last_target s b a c) refl
    where
      same_track_lem : (u : ℕ) → last_target s b a c ≡ Some u → (q : Bool) → eqb u t ≡ q → target_reading s ls.frames ls.values ls.slopes x u ≡ target_reading s ks.frames ks.values ks.slopes x u
      same_track_lem u f true q = rw (eqb-true u t q) e
      same_track_lem u f false q =
          track_reads s b ks.frames ks.values ks.slopes ls.frames ls.values ls.slopes u x (others u (last_target_only s b a c u f).within (eqb-false u t q))

      go : (o : Option ℕ) → last_target s b a c ≡ o → reading s b ls.frames ls.values ls.slopes (active_at a x) c ≡ reading s b ks.frames ks.values ks.slopes (active_at a x) c
      go (Some u) f = rw f (same_track_lem u f (eqb u t) refl)
      go None f = rw f
