-- The law of reach. Of two sets of keys of one sheet, ks before some edits and ls after them, an untouched channel reads the same at every frame, single
-- and whole, and a pane whose mark is 0 has the same channels, transform, visible, alpha and row of the cascade. "A pane elsewhere that comes out half
-- faded" is marked. Assumes nothing.
use Rattle.std.specs.Prelude.{ℕ, ◌+◌, ◌*◌, ◌<◌, ◌≤◌, Bool, true, false, List, ◌≡◌, refl, ltb, length, get_or, set, Float}
use Rattle.std.proofs.Math.Bool.{not}
use Rattle.std.proofs.Math.Path.{sym, ap}
use Rattle.std.proofs.Common.{◌∙◌, arith, ext_get_or}
use borrow.Author.Tests.{eqb-true, ltb-true, ltb-false, not-true, not-false}
use Rattle.std.specs.Float.{nan}
use Rattle.laws.specs.Below.{all_at}
use Rattle.laws.specs.Table.{table_at}
use Rattle.std.specs.Prelude.{Some}
use Rattle.float.specs.Numbers.{zero'}
use Rattle.sheet.specs.Sizes.{target_count}
use Rattle.sheet.specs.Rows.{target_row}
use Rattle.sheet.specs.Checked.{Checked, target_keys, target_apart}
use Rattle.book.specs.Sizes.{pane_count}
use Rattle.book.specs.Checked.{CheckedBook}
use Rattle.curve.specs.declared.Key.{Key}
use Rattle.curve.specs.Keys.{part_of}
use Rattle.curve.specs.Parts.{part_length, part_at, part_before, part_after}
use Rattle.channel.specs.Channel.{pane_channels, visible_channel, alpha_channel, slot_channel, channel_count, of_pane, of_material}
use Rattle.channel.specs.Within.{pane_below}
use Rattle.reading.specs.Reading.{last_target, reading, marks_of, numbers_of}
use Rattle.reading.proofs.LastTarget.{last_target_only}
use Rattle.reading.specs.Untouched.{SameKeys, untouched_reads, untouched_whole}
use Rattle.reading.specs.Active.{Active, active_at}
use Rattle.resolve.specs.Resolve.{transform_of, visible_of, alpha_of, srt_of, texture_of}
use Rattle.resolve.specs.Own.{bit_of}
use Rattle.resolve.specs.Cascade.{root, cascade}
use Rattle.resolve.specs.Follow.{follows}
use Rattle.resolve.specs.Untouched.{transform_same, visible_same, alpha_same, srt_same, texture_same}
use Rattle.resolve.proofs.Untouched.{cascade_untouched}
use Rattle.edit.specs.Keys.{Keys, key_at, put_key, HeldKeys}
use Rattle.edit.specs.Edit.{has_key, place}
use Rattle.edit.specs.Put.{has_key_lem}
use Rattle.edit.specs.Unchanged.{at_held}
use Rattle.edit.proofs.Unchanged.{same_key_equal}
use Rattle.reach.specs.Touched.{same_at, same_track, touched, channel_marks, marked, visible_marked, alpha_marked, own_marked, pane_mark, pane_marks}
use Rattle.reach.specs.Ready.{Compared}

-- a track has the same keys in both
abbrev pub SameTrack : List ℕ → Keys → Keys → ℕ → Type 0
SameTrack s ks ls t = SameKeys s ks.frames ks.values ks.slopes ls.frames ls.values ls.slopes t

-- channel c reads the same with both
abbrev pub SameReading : List ℕ → List ℕ → Keys → Keys → Active → ℕ → Type 0
SameReading s b ks ls a c = reading s b ls.frames ls.values ls.slopes a c ≡ reading s b ks.frames ks.values ks.slopes a c

-- pane p is the same with both: its channels, what is resolved of it, and its row of the cascade
pub record PaneSame (s b : List ℕ) (ks ls : Keys) (a : Active) (p : ℕ) : Type 0 where
  pub channels : (k : ℕ) → k < pane_channels → SameReading s b ks ls a (of_pane p k)
  pub transform : transform_of s b ls.frames ls.values ls.slopes a p ≡ transform_of s b ks.frames ks.values ks.slopes a p
  pub visible : visible_of s b ls.frames ls.values ls.slopes a p ≡ visible_of s b ks.frames ks.values ks.slopes a p
  pub alpha : alpha_of s b ls.frames ls.values ls.slopes a p ≡ alpha_of s b ks.frames ks.values ks.slopes a p
  pub row : get_or (cascade s b ls.frames ls.values ls.slopes a) p root ≡ get_or (cascade s b ks.frames ks.values ks.slopes a) p root

-- marks of 0
bit_none : (x : Bool) → bit_of x ≡ 0 → x ≡ false
bit_none true e = absurd (omega arith)
bit_none false e = refl

bits_none : (x y : Bool) → bit_of x + 2 * bit_of y ≡ 0 → (x ≡ false) × (y ≡ false)
bits_none true y e = absurd (omega arith)
bits_none false true e = absurd (omega arith)
bits_none false false e = (refl, refl)

module _ {s : List ℕ} {ks ls : Keys} (w : Compared s ks ls) (hk : HeldKeys ks) (hl : HeldKeys ls) where
  -- ---- a track whose keys are the same, bit for bit, has the same keys
  module _ (t : ℕ) (l : t < target_count s) (e : same_track s ks ls t ≡ true) where
    abbrev first : ℕ
    first = (target_row s t).first

    abbrev count : ℕ
    count = (target_row s t).count

    key : (i : ℕ) → i < count → key_at ls (first + i) ≡ key_at ks (first + i)
    unfolding same_track place
    key i m = sym (same_key_equal (key_at ks (first + i)) (key_at ls (first + i)) (at_held ks (first + i) hk) (at_held ls (first + i) hl) (all_at count (same_at s ks ls t) i e m))

    part : (fs gs : List Float) → first + count ≤ length fs → first + count ≤ length gs → ((i : ℕ) → i < count → get_or gs (first + i) nan ≡ get_or fs (first + i) nan) → part_of first count gs ≡ part_of first count fs
    part fs gs m n h =
        ext_get_or nan (part_of first count gs) (part_of first count fs) (part_length first count gs n ∙ sym (part_length first count fs m))
        (λ i q. let r : i < count = omega (arith, part_length first count gs n) in part_at first count gs i r ∙ h i r ∙ sym (part_at first count fs i r))

    pub same_keys : SameTrack s ks ls t
    unfolding key_at
    same_keys =
        let k = target_keys w.sheet t l in
        let o = w.old in
        let n = w.new in
        record {
          frames = part ks.frames ls.frames (omega arith) (omega arith) (λ i m. ap (λ (x : Key). x.frame) (key i m));
          values = part ks.values ls.values (omega arith) (omega arith) (λ i m. ap (λ (x : Key). x.value) (key i m));
          slopes = part ks.slopes ls.slopes (omega arith) (omega arith) (λ i m. ap (λ (x : Key). x.slope) (key i m));
        }

  -- ---- channels
  module _ (b : List ℕ) (a : ℕ) where
    -- what is not touched is decided by a track that has the same keys, if by any
    decided_same : (c : ℕ) → touched s b ks ls a c ≡ false → (t : ℕ) → last_target s b a c ≡ Some t → SameTrack s ks ls t
    unfolding touched
    decided_same c e t q = same_keys t (last_target_only s b a c t q).within (not-false (same_track s ks ls t) (rw q at e))

    module _ (x : Float) where
      -- it reads the same at every frame
      pub channel_same : (c : ℕ) → touched s b ks ls a c ≡ false → SameReading s b ks ls (active_at a x) c
      channel_same c e = untouched_reads s b ks.frames ks.values ks.slopes ls.frames ls.values ls.slopes (active_at a x) c (decided_same c e)

      -- and has the same mark and number in the whole reading
      pub whole_same : (c : ℕ) → c < channel_count b → touched s b ks ls a c ≡ false
          → (get_or (marks_of s b ls.frames ls.values ls.slopes (active_at a x)) c 0 ≡ get_or (marks_of s b ks.frames ks.values ks.slopes (active_at a x)) c 0)
          × (get_or (numbers_of s b ls.frames ls.values ls.slopes (active_at a x)) c zero' ≡ get_or (numbers_of s b ks.frames ks.values ks.slopes (active_at a x)) c zero')
      whole_same c l e = untouched_whole s b ks.frames ks.values ks.slopes ls.frames ls.values ls.slopes (active_at a x) c l (decided_same c e)

      -- a layer none of whose five channels is touched, and a texture slot whose channel isn't
      pub layer_same : (m layer : ℕ) → ((k : ℕ) → k < 5 → touched s b ks ls a (of_material b m (layer * 5 + k)) ≡ false)
          → srt_of s b ls.frames ls.values ls.slopes (active_at a x) m layer ≡ srt_of s b ks.frames ks.values ks.slopes (active_at a x) m layer
      layer_same m layer h = srt_same s b ks.frames ks.values ks.slopes ls.frames ls.values ls.slopes (active_at a x) m layer (λ k l. channel_same (of_material b m (layer * 5 + k)) (h k l))

      pub name_same : (m slot : ℕ) → touched s b ks ls a (of_material b m (slot_channel slot)) ≡ false
          → texture_of s b ls.frames ls.values ls.slopes (active_at a x) m slot ≡ texture_of s b ks.frames ks.values ks.slopes (active_at a x) m slot
      name_same m slot e = texture_same s b ks.frames ks.values ks.slopes ls.frames ls.values ls.slopes (active_at a x) m slot (channel_same (of_material b m (slot_channel slot)) e)

  -- ---- panes, by their marks
  module _ {b : List ℕ} (wb : CheckedBook b) (a : ℕ) where
    abbrev marks : List ℕ
    marks = channel_marks s b ks ls a

    -- a channel that is not marked is untouched
    unmarked : (p k : ℕ) → p < pane_count b → k < pane_channels → marked marks p k ≡ false → touched s b ks ls a (of_pane p k) ≡ false
    unfolding marked channel_marks
    unmarked p k l m e = bit_none (touched s b ks ls a (of_pane p k)) (sym (table_at (channel_count b) (of_pane p k) _ 0 (pane_below b p k l m)) ∙ eqb-true _ 0 (not-false _ e))

    module _ (p : ℕ) (l : p < pane_count b) (e : get_or (pane_marks b marks) p 0 ≡ 0) where
      mark_none : (own_marked marks p ≡ false) × (follows b (visible_marked marks) (alpha_marked marks) p ≡ false)
      unfolding pane_marks pane_mark
      mark_none = bits_none (own_marked marks p) (follows b (visible_marked marks) (alpha_marked marks) p) (sym (table_at (pane_count b) p (pane_mark b marks) 0 l) ∙ e)

      own : (k : ℕ) → k < pane_channels → marked marks p k ≡ false
      unfolding own_marked
      own k m = not-true _ (all_at pane_channels (λ k. not (marked marks p k)) k (not-false _ mark_none.0) m)

      -- A pane whose mark is 0 is the same at every frame.
      pub pane_untouched : (x : Float) → PaneSame s b ks ls (active_at a x) p
      pane_untouched x =
          record {
            channels = each;
            transform = transform_same s b ks.frames ks.values ks.slopes ls.frames ls.values ls.slopes (active_at a x) p (λ k m. each k (omega arith));
            visible = visible_same s b ks.frames ks.values ks.slopes ls.frames ls.values ls.slopes (active_at a x) p (each visible_channel (omega arith));
            alpha = alpha_same s b ks.frames ks.values ks.slopes ls.frames ls.values ls.slopes (active_at a x) p (each alpha_channel (omega arith));
            row =
                cascade_untouched s wb ks.frames ks.values ks.slopes ls.frames ls.values ls.slopes (active_at a x) (visible_marked marks) (alpha_marked marks)
                (λ q m z. channel_same b a x (of_pane q visible_channel) (unmarked q visible_channel m (omega arith) z))
                (λ q m z. channel_same b a x (of_pane q alpha_channel) (unmarked q alpha_channel m (omega arith) z))
                p l mark_none.1 (own visible_channel (omega arith)) (own alpha_channel (omega arith));
          }
        where
          each : (k : ℕ) → k < pane_channels → SameReading s b ks ls (active_at a x) (of_pane p k)
          each k m = channel_same b a x (of_pane p k) (unmarked p k l m (own k m))

-- ---- one key in another's place: every other track keeps its keys

module _ {s : List ℕ} (w : Checked s) (ks : Keys) (track i : ℕ) (k : Key) (h : has_key s track i ≡ true) (u : ℕ) (l : u < target_count s) (d : u ≡ track → ⊥) where
  abbrev at : ℕ
  at = (target_row s track).first + i

  -- a list with another number there
  kept : (fs : List Float) (x : Float) → part_of (target_row s u).first (target_row s u).count (set fs at x) ≡ part_of (target_row s u).first (target_row s u).count fs
  kept fs x = go (ltb u track) refl
    where
      q : (track < target_count s) × (i < (target_row s track).count)
      q = has_key_lem s track i h

      go : (b : Bool) → ltb u track ≡ b → part_of (target_row s u).first (target_row s u).count (set fs at x) ≡ part_of (target_row s u).first (target_row s u).count fs
      go true e = part_after (target_row s u).first (target_row s u).count fs at x (omega (arith, target_apart w u track (ltb-true u track e) q.0))
      go false e = part_before (target_row s u).first (target_row s u).count fs at x (omega (arith, target_apart w track u (omega (arith, ltb-false u track e)) l, q.1))

  pub put_others : SameTrack s ks (put_key ks (place s track i) k) u
  unfolding put_key place
  put_others = record { frames = kept ks.frames k.frame; values = kept ks.values k.value; slopes = kept ks.slopes k.slope }
