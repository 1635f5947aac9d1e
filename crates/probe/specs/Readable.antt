-- What a whole reading asks: checked bytes and keys, and outputs as long as the book has channels; and what the comparison of one track with two sets
-- of keys asks. Assumes nothing.
use Rattle.std.specs.Prelude.{ℕ, ◌<◌, ◌≡◌, true, false, List, ltb, Float}
use Rattle.std.proofs.Common.{sym, subst, arith, ltb-true}
use Rattle.sheet.specs.Sizes.{target_count}
use Rattle.sheet.specs.Rows.{target_row}
use Rattle.sheet.specs.declared.rows.Target.{Target}
use Rattle.channel.specs.Channel.{channel_count}
use Rattle.reading.specs.Ready.{Ready, ReadyRow, ready_row}

pub record CanReadAll (s b : List ℕ) (fs vs ss : List Float) (marks numbers : ℕ) : Type 0 where
  pub checked : Ready s b fs vs ss
  pub marked : marks ≡ channel_count b
  pub numbered : numbers ≡ channel_count b

-- both sets of keys, and a track that there is
pub record CanCompare (s b : List ℕ) (fs vs ss fs' vs' ss' : List Float) (t : ℕ) : Type 0 where
  pub before : Ready s b fs vs ss
  pub after : Ready s b fs' vs' ss'
  pub within : t < target_count s

pub track_within : (t n m : ℕ) → n ≡ m → ltb t n ≡ true → t < m
track_within t n m e l = let k : t < n = ltb-true t n l in omega arith

-- then its row can be read with both
pub both_rows : {s b : List ℕ} {fs vs ss fs' vs' ss' : List Float} {t : ℕ} (row : Target) → CanCompare s b fs vs ss fs' vs' ss' t → row ≡ target_row s t → ReadyRow row fs vs ss × ReadyRow row fs' vs' ss'
both_rows {s = s} {fs = fs} {vs = vs} {ss = ss} {fs' = fs'} {vs' = vs'} {ss' = ss'} {t = t} row k e =
    (subst (λ r. ReadyRow r fs vs ss) (sym e) (ready_row k.before t k.within), subst (λ r. ReadyRow r fs' vs' ss') (sym e) (ready_row k.after t k.within))

-- of a test that failed nothing is claimed
pub no_claim : {A : Type 0} → false ≡ true → A
no_claim e = let z : ◌≡◌ {A = ℕ} 0 1 = cc in absurd (omega arith)
