-- What the pass over the planned targets keeps, and its laws: one for each way through a turn, whose premises are what the calls ensure. Assumes nothing.
use Rattle.std.specs.Prelude.{ℕ, zero, suc, ◌+◌, ◌<◌, ◌≤◌}
use mathlib.Core.List.{List}
use mathlib.Core.Path.{◌≡◌, refl, sym, ◌∙◌, ap}
use native.Mathlib.Omega.{arith}
use lib.ListN.{length, set, get_or}
use lib.Ieee.{Float, to_unsigned}
use Rattle.laws.specs.Table.{table}
use Rattle.std.specs.Prelude.{replicate}
use Rattle.std.proofs.Common.{add-one}
use Rattle.std.proofs.lemmas.List.{replicate-append-replicate}
use Rattle.float.specs.Numbers.{zero'}
use Rattle.laws.specs.Swept.{Swept, swept_none, swept_past, swept_at, swept_to}
use Rattle.std.specs.Prelude.{Option}
use Rattle.std.specs.Prelude.{Some, None}
use Rattle.sheet.specs.Sizes.{target_count, texture_count}
use Rattle.sheet.specs.Rows.{target_row}
use Rattle.sheet.specs.declared.rows.Target.{Target}
use Rattle.book.specs.Checked.{CheckedBook}
use Rattle.channel.specs.Channel.{family_of, channel_count, target_channel}
use Rattle.channel.specs.Animation.{other_animation}
use Rattle.channel.proofs.Inside.{target_within}
use Rattle.channel.specs.declared.Family.{Family}
use Rattle.reading.specs.Reading.{value_at, value16_at, read_as, row_reading, target_reading, last_target, reading_of, reading, mark_of, number_of, marks_of, numbers_of, no_mark, no_number}
use Rattle.sheet.specs.Checked.{Checked}
use Rattle.keys.specs.Checked.{KeysChecked}
use Rattle.reading.specs.Ready.{ReadyRow, keys_row}
use Rattle.reading.specs.Overrides.{none_marked, none_numbered}
use Rattle.reading.specs.Plan.{numbered_channel, Run, Numbered}
use Rattle.reading.specs.Numbers.{number_back}
use Rattle.reading.specs.Active.{active_at}
use Rattle.reading.specs.declared.Reading.{Reading}
use Rattle.reading.specs.declared.plan.Plan.{Plan}

-- ---- one target

module _ (s : List ℕ) (i : ℕ) {row : Target} where
  pub row_ready : {fs vs ss : List Float} → Checked s → KeysChecked s fs vs ss → i < target_count s → row ≡ target_row s i → ReadyRow row fs vs ss
  row_ready w h l e = rw e (keys_row w h i l)

-- a row's value, as its family reads it, is what the row reads
pub read_is : (n : ℕ) (fs vs ss : List Float) (x : Float) (row : Target) {f : Family} {v : Float} {r : Reading} → v ≡ value_at fs vs ss x row → f ≡ family_of row.code → r ≡ read_as f v (to_unsigned 16 v) n → r ≡ row_reading n fs vs ss x row
unfolding row_reading value_at value16_at
read_is n fs vs ss x row e g h = rw (← e, ← g) h

-- a list of one value is a table of it
pub filled_table : {A : Type 0} (n : ℕ) (v : A) → replicate n v ≡ table n (λ c. v)
unfolding table
filled_table zero v = refl
filled_table (suc n) v = ap (λ (k : ℕ). replicate k v) (sym (add-one n)) ∙ sym (replicate-append-replicate n 1 v) ∙ rw (filled_table n v)

-- with nothing active both tables are cleared
pub nothing_marked : (s b : List ℕ) (fs vs ss : List Float) → replicate (channel_count b) 0 ≡ marks_of s b fs vs ss None
nothing_marked s b fs vs ss = filled_table (channel_count b) 0 ∙ none_marked s b fs vs ss

pub nothing_numbered : (s b : List ℕ) (fs vs ss : List Float) → replicate (channel_count b) zero' ≡ numbers_of s b fs vs ss None
nothing_numbered s b fs vs ss = filled_table (channel_count b) zero' ∙ none_numbered s b fs vs ss

-- ---- the pass over the planned targets

module _ (s b : List ℕ) (fs vs ss : List Float) (p : Plan) (x : Float) where
  -- what the tables have for a channel whose last target is o
  abbrev pub mark_at : ℕ → Option ℕ → ℕ
  mark_at c o = mark_of (reading_of s fs vs ss x o)

  abbrev pub number_at : ℕ → Option ℕ → Float
  number_at c o = number_of (reading_of s fs vs ss x o)

  -- the targets below i are passed
  pub record Pass (marks : List ℕ) (numbers : List Float) (i : ℕ) : Type 0 where
    pub from : p.from ≤ i
    pub to : i ≤ p.to
    pub marked : Swept (target_channel s b p.animation) mark_at (channel_count b) marks i
    pub numbered : Swept (target_channel s b p.animation) number_at (channel_count b) numbers i

-- no target before or behind the run is the animation's
before : {s : List ℕ} (b : List ℕ) {p : Plan} → Run s p → (t : ℕ) → 0 ≤ t → t < p.from → target_channel s b p.animation t ≡ None
before {s} b {p} r t f l = other_animation s b p.animation t (r.before t l)

behind : {s : List ℕ} (b : List ℕ) {p : Plan} {i : ℕ} → Run s p → p.to ≤ i → (t : ℕ) → i ≤ t → t < target_count s → target_channel s b p.animation t ≡ None
behind {s} b {p} r l t f m = other_animation s b p.animation t (r.behind t (omega arith) m)

module _ {s b : List ℕ} {fs vs ss : List Float} {p : Plan} {x : Float} {marks : List ℕ} {numbers : List Float} (r : Run s p) where
  pub pass_none : {i : ℕ} → i ≡ p.from → marks ≡ replicate (channel_count b) 0 → numbers ≡ replicate (channel_count b) zero' → Pass s b fs vs ss p x marks numbers i
  pass_none {i} e k q =
      rw e
      (record {
        from = omega arith;
        to = r.order;
        marked = swept_to (swept_none _ _ _ no_mark (k ∙ filled_table _ _) (λ c. refl)) (omega arith) (before b r);
        numbered = swept_to (swept_none _ _ _ no_number (q ∙ filled_table _ _) (λ c. refl)) (omega arith) (before b r);
      })

  module _ {channels : List ℕ} {i n : ℕ} {o : Option ℕ} (w : Pass s b fs vs ss p x marks numbers i) (h : Numbered s b p channels p.to) (l : i < p.to) (e : n ≡ get_or channels i 0) (k : CheckedBook b) (d : o ≡ numbered_channel n) where
    channel : o ≡ target_channel s b p.animation i
    channel = d ∙ ap numbered_channel (e ∙ h.numbered i w.from l) ∙ number_back s b p.animation i k

    -- a target that addresses nothing
    pub pass_past : o ≡ None → Pass s b fs vs ss p x marks numbers (i + 1)
    pass_past q =
        let g = sym channel ∙ q in
        record { from = omega (arith, w.from); to = omega arith; marked = swept_past w.marked g; numbered = swept_past w.numbered g }

    -- a target that addresses channel c
    pub pass_room : {c : ℕ} → o ≡ Some c → (c < length marks) × (c < length numbers)
    pass_room {c} q = let u = target_within s b p.animation i c (sym channel ∙ q) in (omega (arith, w.marked.long), omega (arith, w.numbered.long))

    pub pass_at : {c : ℕ} {row : Target} {m : ℕ} {v : Reading} {marks' : List ℕ} {numbers' : List Float} → o ≡ Some c → row ≡ target_row s i → m ≡ texture_count s → v ≡ row_reading m fs vs ss x row → (marks' ≡ set marks c (mark_of v)) × (numbers' ≡ set numbers c (number_of v)) → Pass s b fs vs ss p x marks' numbers' (i + 1)
    unfolding target_reading
    pass_at {c} q f m r z =
        let g = sym channel ∙ q in
        let u = target_within s b p.animation i c g in
        let v = rw (m, f) at r in
        record {
          from = omega (arith, w.from);
          to = omega arith;
          marked = rw z.0 (swept_at w.marked g u (ap mark_of v));
          numbered = rw z.1 (swept_at w.numbered g u (ap number_of v));
        }

  pub pass_all : {i : ℕ} → Pass s b fs vs ss p x marks numbers i → p.to ≤ i → (marks ≡ marks_of s b fs vs ss (active_at p.animation x)) × (numbers ≡ numbers_of s b fs vs ss (active_at p.animation x))
  unfolding marks_of numbers_of reading last_target
  pass_all w l = ((swept_to w.marked (omega (arith, r.within, w.to)) (behind b r l)).made, (swept_to w.numbered (omega (arith, r.within, w.to)) (behind b r l)).made)
