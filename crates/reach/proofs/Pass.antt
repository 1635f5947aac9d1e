-- What the pass over the planned targets keeps of the channels' marks, and its laws: one for each way through a turn, whose premises are what the calls
-- ensure. Assumes nothing.
use Prim.Native.Nat.{ℕ, ◌+◌, ◌<◌, ◌≤◌}
use mathlib.Core.Bool.{Bool, not}
use mathlib.Core.List.{List}
use mathlib.Core.Path.{◌≡◌, refl, sym, ◌∙◌, ap}
use native.Mathlib.Omega.{arith}
use lib.ListN.{length, set, get_or}
use Rattle.laws.specs.Swept.{Swept, swept_none, swept_past, swept_at, swept_to}
use Rattle.std.specs.Prelude.{Option}
use Rattle.std.specs.Prelude.{Some, None}
use Rattle.sheet.specs.Sizes.{target_count}
use Rattle.book.specs.Checked.{CheckedBook}
use Rattle.channel.specs.Channel.{channel_count, target_channel}
use Rattle.channel.proofs.Inside.{target_within}
use Rattle.reading.specs.Reading.{last_target, no_mark}
use Rattle.channel.specs.Animation.{other_animation}
use Rattle.reading.specs.Plan.{numbered_channel, Run, Numbered}
use Rattle.reading.specs.Numbers.{number_back}
use Rattle.reading.proofs.Pass.{filled_table}
use Rattle.reading.specs.declared.plan.Plan.{Plan}
use Rattle.std.specs.Prelude.{replicate}
use Rattle.std.specs.Int.{from_bool}
use Rattle.resolve.proofs.Down.{byte_is}
use Rattle.resolve.specs.Own.{bit_of}
use Rattle.edit.specs.Keys.{Keys}
use Rattle.reach.specs.Touched.{same_track, differs_at, touched, channel_marks}

module _ (s b : List ℕ) (ks ls : Keys) (p : Plan) where
  -- what the table has for a channel whose last target is o
  abbrev pub mark_at : ℕ → Option ℕ → ℕ
  mark_at c o = bit_of (differs_at s ks ls o)

  -- the targets below i are passed
  pub record Pass (marks : List ℕ) (i : ℕ) : Type 0 where
    pub from : p.from ≤ i
    pub to : i ≤ p.to
    pub marked : Swept (target_channel s b p.animation) mark_at (channel_count b) marks i

-- no target before or behind the run is the animation's
before : {s : List ℕ} (b : List ℕ) {p : Plan} → Run s p → (t : ℕ) → 0 ≤ t → t < p.from → target_channel s b p.animation t ≡ None
before {s} b {p} r t f l = other_animation s b p.animation t (r.before t l)

behind : {s : List ℕ} (b : List ℕ) {p : Plan} {i : ℕ} → Run s p → p.to ≤ i → (t : ℕ) → i ≤ t → t < target_count s → target_channel s b p.animation t ≡ None
behind {s} b {p} r l t f m = other_animation s b p.animation t (r.behind t (omega arith) m)

module _ {s b : List ℕ} {ks ls : Keys} {p : Plan} {marks : List ℕ} (r : Run s p) where
  pub pass_none : {i : ℕ} → i ≡ p.from → marks ≡ replicate (channel_count b) 0 → Pass s b ks ls p marks i
  pass_none {i} e k =
      rw e (record { from = omega arith; to = r.order; marked = swept_to (swept_none _ _ _ no_mark (k ∙ filled_table _ _) (λ c. refl)) (omega arith) (before b r) })

  module _ {numbers : List ℕ} {i n : ℕ} {o : Option ℕ} (w : Pass s b ks ls p marks i) (h : Numbered s b p numbers p.to) (l : i < p.to) (e : n ≡ get_or numbers i 0) (k : CheckedBook b) (d : o ≡ numbered_channel n) where
    channel : o ≡ target_channel s b p.animation i
    channel = d ∙ ap numbered_channel (e ∙ h.numbered i w.from l) ∙ number_back s b p.animation i k

    -- a target that addresses nothing
    pub pass_past : o ≡ None → Pass s b ks ls p marks (i + 1)
    pass_past q = record { from = omega (arith, w.from); to = omega arith; marked = swept_past w.marked (sym channel ∙ q) }

    -- a target that addresses channel c
    pub pass_room : {c : ℕ} → o ≡ Some c → c < length marks
    pass_room {c} q = let u = target_within s b p.animation i c (sym channel ∙ q) in omega (arith, w.marked.long)

    pub pass_at : {c : ℕ} {same : Bool} {m : ℕ} → o ≡ Some c → same ≡ same_track s ks ls i → m ≡ from_bool (not same) → Pass s b ks ls p (set marks c m) (i + 1)
    pass_at {c} q f r =
        let g = sym channel ∙ q in
        let u = target_within s b p.animation i c g in
        record { from = omega (arith, w.from); to = omega arith; marked = swept_at w.marked g u (rw f at (r ∙ byte_is _)) }

  pub pass_all : {i : ℕ} → Pass s b ks ls p marks i → p.to ≤ i → marks ≡ channel_marks s b ks ls p.animation
  unfolding channel_marks touched last_target
  pass_all w l = (swept_to w.marked (omega (arith, r.within, w.to)) (behind b r l)).made
