-- The last-target rule: a channel is overridden exactly when some target of the active animation addresses it; the value is
-- the last such target's, in sheet order, and the texture exception applies to that one. First for a single reading, then for the whole. Assumes nothing.
use Rattle.std.specs.Prelude.{ℕ, ◌<◌, List, Bool, ◌≡◌, refl, Float, get_or}
use Rattle.std.proofs.lemmas.Bool.{false≢true}
use Rattle.std.proofs.Common.{sym, ◌∙◌, ap, arith}
use Rattle.laws.specs.Last.{last_nothing, last_at, last_past, last_within, last_holds}
use Rattle.laws.specs.Swept.{is_at}
use Rattle.laws.specs.Table.{table_at}
use Rattle.std.specs.Prelude.{Option}
use Rattle.std.specs.Prelude.{Some, None}
use Rattle.float.specs.Numbers.{zero'}
use Rattle.sheet.specs.Sizes.{target_count}
use Rattle.channel.specs.Channel.{channel_count, target_channel}
use Rattle.reading.specs.Reading.{target_reading, last_target, reading, mark_of, number_of, marks_of, numbers_of}
use Rattle.reading.specs.Active.{Active, active_at}
use Rattle.reading.specs.declared.Reading.{Reading}
use Rattle.reading.specs.declared.Reading.TheVariants.{Nothing, Number, Shown, Row, Level}
use Rattle.reading.specs.LastTarget.{LastTarget, NoTarget, Overridden, LastOrNone, no_target, last_target_lem, exception_then, exception_only}

-- ---- the search for the last target

module _ (s b : List ℕ) (a c : ℕ) where
  abbrev addressing : ℕ → Bool
  addressing t = is_at (target_channel s b a t) c

  -- it finds nothing exactly where no target addresses the channel, and t exactly where t is the last that does
  pub no_target_then : NoTarget s b a c → last_target s b a c ≡ None
  unfolding last_target
  no_target_then h = last_nothing (target_count s) addressing h.none

  pub last_target_then : (t : ℕ) → LastTarget s b a c t → last_target s b a c ≡ Some t
  unfolding last_target
  last_target_then t h = last_at (target_count s) addressing t h.within h.addresses h.later

  pub no_target_only : last_target s b a c ≡ None → NoTarget s b a c
  unfolding last_target
  no_target_only e = record { none = λ t l. last_past (target_count s) addressing e t l (λ f. f) }

  pub last_target_only : (t : ℕ) → last_target s b a c ≡ Some t → LastTarget s b a c t
  unfolding last_target
  last_target_only t e =
      record {
        within = last_within (target_count s) addressing t e;
        addresses = last_holds (target_count s) addressing t e;
        later = λ u l m. last_past (target_count s) addressing e u m (λ f. omega arith);
      }

  pub decides_within : (t : ℕ) → last_target s b a c ≡ Some t → t < target_count s
  decides_within t e = (last_target_only t e).within

  -- one of the two is so
  pub last_or_none : LastOrNone s b a c
  last_or_none = go (last_target s b a c) refl
    where
      go : (o : Option ℕ) → last_target s b a c ≡ o → LastOrNone s b a c
      go (Some t) e = last_target_lem t (last_target_only t e)
      go None e = no_target (no_target_only e)

-- ---- a single reading

module _ (s b : List ℕ) (fs vs ss : List Float) (a : ℕ) (x : Float) (c : ℕ) where
  abbrev read : Reading
  read = reading s b fs vs ss (active_at a x) c

  -- where no target addresses the channel, nothing is read
  pub none_addresses : NoTarget s b a c → read ≡ Nothing
  unfolding reading
  none_addresses h = rw (no_target_then s b a c h)

  -- else the value is the last such target's
  pub last_reads : (t : ℕ) → LastTarget s b a c t → read ≡ target_reading s fs vs ss x t
  unfolding reading
  last_reads t h = rw (last_target_then s b a c t h)

  -- an override's target: the last that addresses the channel
  pub record ReadFrom : Type 0 where
    pub target : ℕ
    pub last : LastTarget s b a c target
    pub value : read ≡ target_reading s fs vs ss x target

  pub read_from : (read ≡ Nothing → ⊥) → ReadFrom
  read_from h = go (last_or_none s b a c)
    where
      go : LastOrNone s b a c → ReadFrom
      go (no_target n) = absurd (h (none_addresses n))
      go (last_target_lem t l) = record { target = t; last = l; value = last_reads t l }

  -- it is overridden exactly when some target addresses it and the exception doesn't apply to the last such one
  pub overridden_then : Overridden s b fs vs ss a x c → read ≡ Nothing → ⊥
  overridden_then h e = h.kept (exception_only s fs vs ss x h.target b a c h.last.addresses (sym (last_reads h.target h.last) ∙ e))

  pub overridden_only : (read ≡ Nothing → ⊥) → Overridden s b fs vs ss a x c
  overridden_only h =
      let f = read_from h in
      record { target = f.target; last = f.last; kept = λ e. h (f.value ∙ exception_then s fs vs ss x f.target e) }

  pub overridden_not : (Overridden s b fs vs ss a x c → ⊥) → read ≡ Nothing
  overridden_not h = go read refl
    where
      go : (r : Reading) → read ≡ r → read ≡ Nothing
      go Nothing e = e
      go (Number v) e = absurd (h (overridden_only (λ q. false≢true cc)))
      go (Shown v) e = absurd (h (overridden_only (λ q. false≢true cc)))
      go (Row k) e = absurd (h (overridden_only (λ q. false≢true cc)))
      go (Level l) e = absurd (h (overridden_only (λ q. false≢true cc)))

-- ---- the whole reading

-- a mark is 1 exactly where something is read
mark_read : (r : Reading) → (r ≡ Nothing → ⊥) → mark_of r ≡ 1
mark_read Nothing h = absurd (h refl)
mark_read (Number v) h = refl
mark_read (Shown b) h = refl
mark_read (Row k) h = refl
mark_read (Level l) h = refl

module _ (s b : List ℕ) (fs vs ss : List Float) (c : ℕ) (l : c < channel_count b) where
  -- both tables have the single reading
  pub whole_mark : (v : Active) → get_or (marks_of s b fs vs ss v) c 0 ≡ mark_of (reading s b fs vs ss v c)
  unfolding marks_of
  whole_mark v = table_at (channel_count b) c _ 0 l

  pub whole_number : (v : Active) → get_or (numbers_of s b fs vs ss v) c zero' ≡ number_of (reading s b fs vs ss v c)
  unfolding numbers_of
  whole_number v = table_at (channel_count b) c _ zero' l

  module _ (a : ℕ) (x : Float) where
    -- a mark is 1 exactly where its channel is overridden, and else 0
    pub marked_then : Overridden s b fs vs ss a x c → get_or (marks_of s b fs vs ss (active_at a x)) c 0 ≡ 1
    marked_then h = whole_mark (active_at a x) ∙ mark_read _ (overridden_then s b fs vs ss a x c h)

    pub marked_only : get_or (marks_of s b fs vs ss (active_at a x)) c 0 ≡ 1 → Overridden s b fs vs ss a x c
    marked_only e = overridden_only s b fs vs ss a x c (λ q. let z = sym (whole_mark (active_at a x) ∙ ap mark_of q) ∙ e in omega arith)

    pub marked_not : (Overridden s b fs vs ss a x c → ⊥) → get_or (marks_of s b fs vs ss (active_at a x)) c 0 ≡ 0
    marked_not h = whole_mark (active_at a x) ∙ ap mark_of (overridden_not s b fs vs ss a x c h)

    -- and the number is that of the last target's value, 0 where the channel isn't overridden
    pub numbered_last : (t : ℕ) → LastTarget s b a c t → get_or (numbers_of s b fs vs ss (active_at a x)) c zero' ≡ number_of (target_reading s fs vs ss x t)
    numbered_last t h = whole_number (active_at a x) ∙ ap number_of (last_reads s b fs vs ss a x c t h)

    pub numbered_not : (Overridden s b fs vs ss a x c → ⊥) → get_or (numbers_of s b fs vs ss (active_at a x)) c zero' ≡ zero'
    numbered_not h = whole_number (active_at a x) ∙ ap number_of (overridden_not s b fs vs ss a x c h)
