-- The law of reach where one track alone has other keys: at every animation and every frame only the channel that the track addresses can read
-- differently, single, whole and resolved; of the cascade only rows at or below the pane that the track reaches, and only where its channel is visible or
-- alpha; and nothing at all where it addresses nothing, belongs to another animation, or a later target decides its channel. Assumes nothing.
use Rattle.std.specs.Prelude.{ℕ, ◌+◌, ◌*◌, ◌<◌, Bool, true, false, List, ◌≡◌, refl, eqb, get_or, Float}
use Rattle.std.proofs.Common.{ap, ◌∙◌, arith, ne_eqb, eqb-true}
use Rattle.laws.specs.Swept.{is_at}
use Rattle.std.specs.Prelude.{Option}
use Rattle.std.specs.Prelude.{Some, None}
use Rattle.float.specs.Numbers.{zero'}
use Rattle.sheet.specs.Sizes.{target_count}
use Rattle.book.specs.Sizes.{pane_count}
use Rattle.book.specs.Checked.{CheckedBook}
use Rattle.channel.specs.Channel.{pane_channels, visible_channel, alpha_channel, slot_channel, channel_count, of_pane, of_material, target_channel}
use Rattle.channel.specs.Animation.{target_animation, other_animation}
use Rattle.reading.specs.Reading.{marks_of, numbers_of}
use Rattle.reading.specs.Untouched.{Untouched, untouched_reads, untouched_whole}
use Rattle.reading.proofs.Untouched.{not_addressed, decided_later}
use Rattle.reading.specs.Active.{active_at}
use Rattle.resolve.specs.Resolve.{transform_of, visible_of, alpha_of, srt_of, texture_of}
use Rattle.resolve.specs.Cascade.{root, cascade}
use Rattle.resolve.specs.Untouched.{transform_same, visible_same, alpha_same, srt_same, texture_same, AtOrBelow}
use Rattle.resolve.proofs.Untouched.{cascade_elsewhere, cascade_same}
use Rattle.edit.specs.Keys.{Keys}
use Rattle.reach.specs.Law.{SameTrack, SameReading}

-- Between two sets of keys, ks and ls, nothing but channel o, if it is one, can read differently while animation a is active at frame x.
pub record Reaches (s b : List ℕ) (ks ls : Keys) (a : ℕ) (x : Float) (o : Option ℕ) : Type 0 where
  -- single and whole readings
  pub channels : (c : ℕ) → is_at o c ≡ false → SameReading s b ks ls (active_at a x) c
  pub marks : (c : ℕ) → c < channel_count b → is_at o c ≡ false
      → get_or (marks_of s b ls.frames ls.values ls.slopes (active_at a x)) c 0 ≡ get_or (marks_of s b ks.frames ks.values ks.slopes (active_at a x)) c 0
  pub numbers : (c : ℕ) → c < channel_count b → is_at o c ≡ false
      → get_or (numbers_of s b ls.frames ls.values ls.slopes (active_at a x)) c zero' ≡ get_or (numbers_of s b ks.frames ks.values ks.slopes (active_at a x)) c zero'
  -- both resolves and texture names
  pub transforms : (p : ℕ) → ((k : ℕ) → k < 10 → is_at o (of_pane p k) ≡ false)
      → transform_of s b ls.frames ls.values ls.slopes (active_at a x) p ≡ transform_of s b ks.frames ks.values ks.slopes (active_at a x) p
  pub visibles : (p : ℕ) → is_at o (of_pane p visible_channel) ≡ false
      → visible_of s b ls.frames ls.values ls.slopes (active_at a x) p ≡ visible_of s b ks.frames ks.values ks.slopes (active_at a x) p
  pub alphas : (p : ℕ) → is_at o (of_pane p alpha_channel) ≡ false
      → alpha_of s b ls.frames ls.values ls.slopes (active_at a x) p ≡ alpha_of s b ks.frames ks.values ks.slopes (active_at a x) p
  pub layers : (m layer : ℕ) → ((k : ℕ) → k < 5 → is_at o (of_material b m (layer * 5 + k)) ≡ false)
      → srt_of s b ls.frames ls.values ls.slopes (active_at a x) m layer ≡ srt_of s b ks.frames ks.values ks.slopes (active_at a x) m layer
  pub names : (m slot : ℕ) → is_at o (of_material b m (slot_channel slot)) ≡ false
      → texture_of s b ls.frames ls.values ls.slopes (active_at a x) m slot ≡ texture_of s b ks.frames ks.values ks.slopes (active_at a x) m slot
  -- the cascade: where o is a channel of pane q, rows that are neither at q nor below it; all rows, where o is no pane's visible or alpha
  pub rows : (q k : ℕ) → k < pane_channels → o ≡ Some (of_pane q k) → (i : ℕ) → i < pane_count b → (AtOrBelow b q i → ⊥)
      → get_or (cascade s b ls.frames ls.values ls.slopes (active_at a x)) i root ≡ get_or (cascade s b ks.frames ks.values ks.slopes (active_at a x)) i root
  pub whole : ((p : ℕ) → p < pane_count b → (is_at o (of_pane p visible_channel) ≡ false) × (is_at o (of_pane p alpha_channel) ≡ false))
      → cascade s b ls.frames ls.values ls.slopes (active_at a x) ≡ cascade s b ks.frames ks.values ks.slopes (active_at a x)

-- channels of different panes are different
panes_apart : (q k p j : ℕ) → k < pane_channels → j < pane_channels → (p ≡ q → ⊥) → is_at (Some (of_pane q k)) (of_pane p j) ≡ false
unfolding of_pane
panes_apart q k p j l m d = ne_eqb (q * pane_channels + k) (p * pane_channels + j) (λ e. d (omega arith))

module _ (s : List ℕ) {b : List ℕ} (wb : CheckedBook b) (ks ls : Keys) (a : ℕ) (x : Float) where
  -- all of it, where every channel but o is untouched
  reaches_by : (o : Option ℕ) → ((c : ℕ) → is_at o c ≡ false → Untouched s b ks.frames ks.values ks.slopes ls.frames ls.values ls.slopes (active_at a x) c) → Reaches s b ks ls a x o
  reaches_by o h =
      record {
        channels = each;
        marks = λ c l e. (untouched_whole s b ks.frames ks.values ks.slopes ls.frames ls.values ls.slopes (active_at a x) c l (h c e)).0;
        numbers = λ c l e. (untouched_whole s b ks.frames ks.values ks.slopes ls.frames ls.values ls.slopes (active_at a x) c l (h c e)).1;
        transforms = λ p n. transform_same s b ks.frames ks.values ks.slopes ls.frames ls.values ls.slopes (active_at a x) p (λ k l. each (of_pane p k) (n k l));
        visibles = λ p e. visible_same s b ks.frames ks.values ks.slopes ls.frames ls.values ls.slopes (active_at a x) p (each (of_pane p visible_channel) e);
        alphas = λ p e. alpha_same s b ks.frames ks.values ks.slopes ls.frames ls.values ls.slopes (active_at a x) p (each (of_pane p alpha_channel) e);
        layers = λ m layer n. srt_same s b ks.frames ks.values ks.slopes ls.frames ls.values ls.slopes (active_at a x) m layer (λ k l. each (of_material b m (layer * 5 + k)) (n k l));
        names = λ m slot e. texture_same s b ks.frames ks.values ks.slopes ls.frames ls.values ls.slopes (active_at a x) m slot (each (of_material b m (slot_channel slot)) e);
        rows = λ q k l e i m d.
            cascade_elsewhere s wb ks.frames ks.values ks.slopes ls.frames ls.values ls.slopes (active_at a x) q
            (λ p n z. (each (of_pane p visible_channel) (rw e (panes_apart q k p visible_channel l (omega arith) z)), each (of_pane p alpha_channel) (rw e (panes_apart q k p alpha_channel l (omega arith) z)))) i m d;
        whole = λ n.
            cascade_same s wb ks.frames ks.values ks.slopes ls.frames ls.values ls.slopes (active_at a x)
            (λ p l. (each (of_pane p visible_channel) (n p l).0, each (of_pane p alpha_channel) (n p l).1));
      }
    where
      each : (c : ℕ) → is_at o c ≡ false → SameReading s b ks ls (active_at a x) c
      each c e = untouched_reads s b ks.frames ks.values ks.slopes ls.frames ls.values ls.slopes (active_at a x) c (h c e)

  -- ---- track t alone has other keys
  module _ (t : ℕ) (others : (u : ℕ) → u < target_count s → (u ≡ t → ⊥) → SameTrack s ks ls u) where
    -- nothing but the channel that it addresses
    pub track_reaches : Reaches s b ks ls a x (target_channel s b a t)
    track_reaches = reaches_by (target_channel s b a t) (λ c e. not_addressed s b ks.frames ks.values ks.slopes ls.frames ls.values ls.slopes t others a x c e)

    -- nothing, where it addresses nothing: as while another animation is active
    pub nothing_addressed : target_channel s b a t ≡ None → Reaches s b ks ls a x None
    nothing_addressed e = rw e at track_reaches

    pub other_animations : (target_animation s t ≡ a → ⊥) → Reaches s b ks ls a x None
    other_animations d = nothing_addressed (other_animation s b a t d)

    -- nor where a later target decides its channel
    pub overridden : (c u : ℕ) → target_channel s b a t ≡ Some c → t < u → u < target_count s → is_at (target_channel s b a u) c ≡ true → Reaches s b ks ls a x None
    overridden c u e l m h = reaches_by None (λ d z. go d (eqb c d) refl)
      where
        go : (d : ℕ) (q : Bool) → eqb c d ≡ q → Untouched s b ks.frames ks.values ks.slopes ls.frames ls.values ls.slopes (active_at a x) d
        go d true r = rw (← eqb-true c d r) (decided_later s b ks.frames ks.values ks.slopes ls.frames ls.values ls.slopes t others a x c u l m h)
        go d false r = not_addressed s b ks.frames ks.values ks.slopes ls.frames ls.values ls.slopes t others a x d (ap (λ (o : Option ℕ). is_at o d) e ∙ r)
