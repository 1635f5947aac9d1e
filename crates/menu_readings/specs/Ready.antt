-- What the rows that every reading asks tell where each holds. Assumes nothing.
use Rattle.std.specs.Prelude.{ℕ, ◌≡◌, List, ◌++◌, Float}
use Rattle.std.proofs.Common.{sym, ◌∙◌}
use Rattle.laws.specs.Rows.{Row, declines, first_held, hold_at, row_in}
use Rattle.reading.specs.Ready.{Ready, ready}
use Rattle.edit.specs.Keys.{Keys, keys}
use Rattle.player.specs.declared.Player.{Player}
use Rattle.player.specs.Sound.{Sound, sound}
use Rattle.menu_checks.specs.Rows.{broken_rows, book_rows, reading_rows}

pub record ReadingReady (s b : List ℕ) (p : Player) (ks : Keys) : Type 0 where
  pub ready : Ready s b ks.frames ks.values ks.slopes
  pub player : Sound s p

pub reading_ready : (s b : List ℕ) (p : Player) (fs vs ss : List Float) (more : List Row) {n : ℕ} → n ≡ declines (reading_rows s b p (keys fs vs ss) ++ more) → n ≡ 0
    → ReadingReady s b p (keys fs vs ss)
reading_ready s b p fs vs ss more e z =
    let k = first_held (book_rows s b (keys fs vs ss)) (broken_rows s p (keys fs vs ss) ++ more) tt (sym e ∙ z) in
    let rs = book_rows s b (keys fs vs ss) in
    record {
      ready = ready s b fs vs ss (hold_at 1 rs (search row_in) k.0) (hold_at 2 rs (search row_in) k.0) (hold_at 4 rs (search row_in) k.0);
      player = sound s p (hold_at 5 (broken_rows s p (keys fs vs ss)) (search row_in) (first_held (broken_rows s p (keys fs vs ss)) more tt k.1).0);
    }
