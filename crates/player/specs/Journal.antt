-- The journal's rows (document 01, "Playing and editing"): what stands in a row, and a journal with a row written. Row n % 128 belongs to
-- standing edit number n, so two edits fewer than 128 apart have different rows.
use Rattle.std.specs.Prelude.{ℕ, ◌%◌, ◌≡◌, refl, get_or, set, length, replicate}
use Rattle.std.proofs.Common.{arith, length-set, get_or-set_same, get_or-set_other}
use Rattle.std.specs.Float.{nan}
use Rattle.float.specs.Numbers.{zero'}
use Rattle.player.specs.declared.journal.Entry.{Entry}
use Rattle.player.specs.declared.journal.Journal.{Journal}

-- how many edits back an undo reaches
abbrev pub rows : ℕ
rows = 128

-- a journal of no edits
abbrev pub empty_journal : Journal
empty_journal =
    record {
      track = replicate rows 0;
      key = replicate rows 0;
      before_frame = replicate rows zero';
      before_value = replicate rows zero';
      before_slope = replicate rows zero';
      after_frame = replicate rows zero';
      after_value = replicate rows zero';
      after_slope = replicate rows zero';
    }

-- the entry of standing edit number n
unfoldable pub row_of : Journal → ℕ → Entry
row_of j n =
    record {
      track = get_or j.track (n % rows) 0;
      key = get_or j.key (n % rows) 0;
      before = record { frame = get_or j.before_frame (n % rows) nan; value = get_or j.before_value (n % rows) nan; slope = get_or j.before_slope (n % rows) nan };
      after = record { frame = get_or j.after_frame (n % rows) nan; value = get_or j.after_value (n % rows) nan; slope = get_or j.after_slope (n % rows) nan };
    }

-- the journal with e as the entry of edit number n
unfoldable pub with_row : Journal → ℕ → Entry → Journal
with_row j n e =
    record {
      track = set j.track (n % rows) e.track;
      key = set j.key (n % rows) e.key;
      before_frame = set j.before_frame (n % rows) e.before.frame;
      before_value = set j.before_value (n % rows) e.before.value;
      before_slope = set j.before_slope (n % rows) e.before.slope;
      after_frame = set j.after_frame (n % rows) e.after.frame;
      after_value = set j.after_value (n % rows) e.after.value;
      after_slope = set j.after_slope (n % rows) e.after.slope;
    }

-- every list of the journal has its places
pub record Whole (j : Journal) : Type 0 where
  pub track : length j.track ≡ rows
  pub key : length j.key ≡ rows
  pub before_frame : length j.before_frame ≡ rows
  pub before_value : length j.before_value ≡ rows
  pub before_slope : length j.before_slope ≡ rows
  pub after_frame : length j.after_frame ≡ rows
  pub after_value : length j.after_value ≡ rows
  pub after_slope : length j.after_slope ≡ rows

-- ---- laws
pub whole_empty : Whole empty_journal
whole_empty =
    record {
      track = refl;
      key = refl;
      before_frame = refl;
      before_value = refl;
      before_slope = refl;
      after_frame = refl;
      after_value = refl;
      after_slope = refl;
    }

pub whole_write : (j : Journal) (n : ℕ) (e : Entry) → Whole j → Whole (with_row j n e)
unfolding with_row
whole_write j n e w =
    record {
      track = simp length-set w.track;
      key = simp length-set w.key;
      before_frame = simp length-set w.before_frame;
      before_value = simp length-set w.before_value;
      before_slope = simp length-set w.before_slope;
      after_frame = simp length-set w.after_frame;
      after_value = simp length-set w.after_value;
      after_slope = simp length-set w.after_slope;
    }

-- the row that was written
pub row_same : (j : Journal) (n : ℕ) (e : Entry) → Whole j → row_of (with_row j n e) n ≡ e
unfolding row_of with_row
row_same j n e w =
    rw (
      get_or-set_same j.track (n % rows) e.track 0 (omega (arith, w.track)),
      get_or-set_same j.key (n % rows) e.key 0 (omega (arith, w.key)),
      get_or-set_same j.before_frame (n % rows) e.before.frame nan (omega (arith, w.before_frame)),
      get_or-set_same j.before_value (n % rows) e.before.value nan (omega (arith, w.before_value)),
      get_or-set_same j.before_slope (n % rows) e.before.slope nan (omega (arith, w.before_slope)),
      get_or-set_same j.after_frame (n % rows) e.after.frame nan (omega (arith, w.after_frame)),
      get_or-set_same j.after_value (n % rows) e.after.value nan (omega (arith, w.after_value)),
      get_or-set_same j.after_slope (n % rows) e.after.slope nan (omega (arith, w.after_slope)),
    )

-- another row
pub row_other : (j : Journal) (n k : ℕ) (e : Entry) → (k % rows ≡ n % rows → ⊥) → row_of (with_row j n e) k ≡ row_of j k
unfolding row_of with_row
row_other j n k e d =
    rw (
      get_or-set_other j.track (n % rows) (k % rows) e.track 0 d,
      get_or-set_other j.key (n % rows) (k % rows) e.key 0 d,
      get_or-set_other j.before_frame (n % rows) (k % rows) e.before.frame nan d,
      get_or-set_other j.before_value (n % rows) (k % rows) e.before.value nan d,
      get_or-set_other j.before_slope (n % rows) (k % rows) e.before.slope nan d,
      get_or-set_other j.after_frame (n % rows) (k % rows) e.after.frame nan d,
      get_or-set_other j.after_value (n % rows) (k % rows) e.after.value nan d,
      get_or-set_other j.after_slope (n % rows) (k % rows) e.after.slope nan d,
    )
