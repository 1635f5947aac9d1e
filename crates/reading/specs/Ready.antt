-- What a reading asks of what it is lent: a checked sheet, a checked book and checked keys. Assumes nothing.
use Rattle.std.specs.Prelude.{ℕ, ◌<◌, ◌≤◌, true, List, ◌≡◌, Float}
use Rattle.std.proofs.Common.{arith}
use Rattle.sheet.specs.Sizes.{target_count}
use Rattle.sheet.specs.Rows.{target_row}
use Rattle.sheet.specs.Sheet.{sheet_ok}
use Rattle.sheet.specs.Checked.{Checked, checked, target_curve_lem, target_keys}
use Rattle.sheet.specs.declared.rows.Target.{Target}
use Rattle.book.specs.Book.{book_ok}
use Rattle.book.specs.Checked.{CheckedBook, checked_book}
use Rattle.keys.specs.Keys.{keys_ok}
use Rattle.keys.specs.Checked.{KeysChecked, keys_checked, track_rising}
use Rattle.curve.specs.Curve.{ReadablePart}

pub record Ready (s b : List ℕ) (fs vs ss : List Float) : Type 0 where
  pub sheet : Checked s
  pub book : CheckedBook b
  pub keys : KeysChecked s fs vs ss

-- rows 1, 2 and 4 of the table of refusals passed
pub ready : (s b : List ℕ) (fs vs ss : List Float) → sheet_ok s ≡ true → book_ok b ≡ true → keys_ok s fs vs ss ≡ true → Ready s b fs vs ss
ready s b fs vs ss p q r = record { sheet = checked s p; book = checked_book b q; keys = keys_checked s fs vs ss r }

-- what the reading of one target's row asks: a curve of a kind that there is, and a part of the keys that it can be read from
pub record ReadyRow (row : Target) (fs vs ss : List Float) : Type 0 where
  pub curve : row.curve ≤ 2
  pub part : ReadablePart row.curve row.first row.count fs vs ss

pub keys_row : {s : List ℕ} {fs vs ss : List Float} → Checked s → KeysChecked s fs vs ss → (t : ℕ) → t < target_count s → ReadyRow (target_row s t) fs vs ss
keys_row w h t l =
    let k = target_keys w t l in
    record {
      curve = target_curve_lem w t l;
      part =
          record {
            frames = omega arith;
            values = omega arith;
            slopes = omega arith;
            ordered = λ n. track_rising h t l n;
          };
    }

pub ready_row : {s b : List ℕ} {fs vs ss : List Float} → Ready s b fs vs ss → (t : ℕ) → t < target_count s → ReadyRow (target_row s t) fs vs ss
ready_row h t l = keys_row h.sheet h.keys t l
