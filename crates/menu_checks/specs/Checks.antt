-- What the rows that calls share tell where each holds. How they are asked in two parts is shown in proofs/Behind. Assumes nothing.
use Rattle.std.specs.Prelude.{ℕ, ◌≡◌, true, cond, List, [], ◌++◌, T, eqb, length, Float}
use Rattle.std.proofs.Common.{sym, ◌∙◌, eqb-true, ne_eqb}
use Rattle.laws.specs.Rows.{Row, row, numbered, In, declines, first_held, hold_at, held_at, row_in, stops, goes}
use Rattle.laws.specs.Tests.{both}
use Rattle.sheet.specs.Sizes.{key_count}
use Rattle.sheet.specs.Sheet.{sheet_ok}
use Rattle.sheet.specs.Checked.{Checked, checked}
use Rattle.keys.specs.Load.{arrays_ok, lengths_ok}
use Rattle.reading.specs.Ready.{Ready, ready}
use Rattle.player.specs.declared.Player.{Player}
use Rattle.edit.specs.Keys.{Keys, keys, keys_ok_of}
use Rattle.player.specs.Player.{player_ok}
use Rattle.player.specs.Sound.{Sound, sound, selected_below}
use Rattle.player.specs.declared.journal.Entry.{Entry}
use Rattle.player.specs.declared.undo.Way.{Way}
use Rattle.player.specs.Undo.{entries, entry_of}
use Rattle.player.specs.Takes.{Takeable, entry_used}
use Rattle.player.specs.Ticked.{Selected}
use Rattle.player.specs.Drag.{drag_fits}
use Rattle.player.specs.Dragged.{Draggable}
use Rattle.menu_checks.specs.Rows.{sheet_rows, broken_rows, player_rows, keys_rows, state_rows, book_rows, reading_rows}

-- ---- calls that take sheet and player
pub record PlayerReady (s : List ℕ) (p : Player) : Type 0 where
  pub sheet : Checked s
  pub player : Sound s p

pub player_ready : (s : List ℕ) (p : Player) (more : List Row) {n : ℕ} → n ≡ declines (player_rows s p ++ more) → n ≡ 0 → PlayerReady s p
player_ready s p more e z =
    let h = (first_held (player_rows s p) more tt (sym e ∙ z)).0 in
    record { sheet = checked s (hold_at 1 (player_rows s p) (search row_in) h); player = sound s p (hold_at 5 (player_rows s p) (search row_in) h) }

pub selected : {s : List ℕ} {p : Player} → PlayerReady s p → Selected s p
selected w = record { sheet = w.sheet; selection = selected_below w.player }

-- ---- calls that take keys as well
pub record StateReady (s : List ℕ) (p : Player) (ks : Keys) : Type 0 where
  pub sheet : Checked s
  pub frames : length ks.frames ≡ key_count s
  pub values : length ks.values ≡ key_count s
  pub slopes : length ks.slopes ≡ key_count s
  pub rules : keys_ok_of s ks ≡ true
  pub player : Sound s p
  pub drag : drag_fits s ks p.drag ≡ true

pub state_ready : (s : List ℕ) (p : Player) (fs vs ss : List Float) (more : List Row) {n : ℕ} → n ≡ declines (state_rows s p (keys fs vs ss) ++ more) → n ≡ 0
    → StateReady s p (keys fs vs ss)
unfolding arrays_ok lengths_ok
state_ready s p fs vs ss more e z =
    let k = first_held (keys_rows s (keys fs vs ss)) (broken_rows s p (keys fs vs ss) ++ more) tt (sym e ∙ z) in
    let broken = broken_rows s p (keys fs vs ss) in
    let own = (first_held broken more tt k.1).0 in
    let long : lengths_ok s fs vs ss ≡ true = hold_at 3 (keys_rows s (keys fs vs ss)) (search row_in) k.0 in
    let b = both _ (eqb (length ss) (key_count s)) long in
    let a = both (eqb (length fs) (key_count s)) (eqb (length vs) (key_count s)) b.0 in
    record {
      sheet = checked s (hold_at 1 (keys_rows s (keys fs vs ss)) (search row_in) k.0);
      frames = eqb-true _ _ a.0;
      values = eqb-true _ _ a.1;
      slopes = eqb-true _ _ b.1;
      rules = hold_at 4 (keys_rows s (keys fs vs ss)) (search row_in) k.0;
      player = sound s p (hold_at 5 broken (search row_in) own);
      drag = hold_at 5 broken (search row_in) own;
    }

-- as a drag's calls ask it
pub draggable : {s : List ℕ} {p : Player} {ks : Keys} → StateReady s p ks → Draggable s ks p.drag
draggable w = record { sheet = w.sheet; rules = w.rules; row = w.player.drag }

-- as an undo and a redo ask it, of the entry that the player takes
pub takeable : {s : List ℕ} {p : Player} {ks : Keys} {n : ℕ} {e : Entry} (way : Way) → StateReady s p ks → n ≡ entries way p → e ≡ entry_of way p → Takeable s ks n e
takeable way w q h = record { sheet = w.sheet; rules = w.rules; entry = λ d. rw h (entry_used w.player way (rw q at d)) }

-- ---- calls that take a book as well
pub record ReadingReady (s b : List ℕ) (p : Player) (ks : Keys) : Type 0 where
  pub ready : Ready s b ks.frames ks.values ks.slopes
  pub player : Sound s p

pub reading_ready : (s b : List ℕ) (p : Player) (fs vs ss : List Float) (more : List Row) {n : ℕ} → n ≡ declines (reading_rows s b p (keys fs vs ss) ++ more) → n ≡ 0
    → ReadingReady s b p (keys fs vs ss)
reading_ready s b p fs vs ss more e z =
    let k = first_held (book_rows s b (keys fs vs ss)) (broken_rows s p (keys fs vs ss) ++ more) tt (sym e ∙ z) in
    let rs = book_rows s b (keys fs vs ss) in
    record {
      ready = ready s b fs vs ss (hold_at 1 rs (search row_in) k.0) (hold_at 2 rs (search row_in) k.0) (hold_at 4 rs (search row_in) k.0);
      player = sound s p (hold_at 5 (broken_rows s p (keys fs vs ss)) (search row_in) (first_held (broken_rows s p (keys fs vs ss)) more tt k.1).0);
    }

-- ---- the sheet alone, or sheet and keys, behind which row 5 is looked at
pub sheet_ready : (s : List ℕ) {n : ℕ} → n ≡ declines (sheet_rows s) → n ≡ 0 → Checked s
sheet_ready s e z = checked s (held_at 1 (sheet_rows s) (search row_in) tt (sym e ∙ z))

pub record KeysReady (s : List ℕ) (ks : Keys) : Type 0 where
  pub sheet : Checked s
  pub rules : keys_ok_of s ks ≡ true

-- rows among which both stand
rows_ready : {s : List ℕ} {ks : Keys} (rs : List Row) → In (row 1 (sheet_ok s)) rs → In (row 4 (keys_ok_of s ks)) rs → T (numbered rs) → declines rs ≡ 0 → KeysReady s ks
rows_ready {s} rs i k t e = record { sheet = checked s (held_at 1 rs i t e); rules = held_at 4 rs k t e }

pub keys_ready : (s : List ℕ) (fs vs ss : List Float) {n : ℕ} → n ≡ declines (keys_rows s (keys fs vs ss)) → n ≡ 0 → KeysReady s (keys fs vs ss)
keys_ready s fs vs ss e z = rows_ready (keys_rows s (keys fs vs ss)) (search row_in) (search row_in) tt (sym e ∙ z)

pub book_ready : (s b : List ℕ) (fs vs ss : List Float) {n : ℕ} → n ≡ declines (book_rows s b (keys fs vs ss)) → n ≡ 0 → KeysReady s (keys fs vs ss)
book_ready s b fs vs ss e z = rows_ready (book_rows s b (keys fs vs ss)) (search row_in) (search row_in) tt (sym e ∙ z)

-- with a player whose state is not broken, they are what a drag's question asks
pub held_open : {s : List ℕ} {ks : Keys} (p : Player) → KeysReady s ks → player_ok s p ≡ true → Draggable s ks p.drag
held_open {s} p w e = record { sheet = w.sheet; rules = w.rules; row = (sound s p e).drag }

-- ---- the readings that ask their own rows themselves
module _ (s b : List ℕ) (p : Player) (fs vs ss : List Float) (more : List Row) {n : ℕ} (e : n ≡ declines (reading_rows s b p (keys fs vs ss))) where
  -- `stops` and `goes` are said again for this list, since `search` finds where a named list ends in one that has computed, and not where any list does
  pub reading_stops : (n ≡ 0 → ⊥) → n ≡ declines (reading_rows s b p (keys fs vs ss) ++ more)
  reading_stops d = stops (reading_rows s b p (keys fs vs ss)) more e d

  pub reading_goes : {m : ℕ} → n ≡ 0 → m ≡ declines more → m ≡ declines (reading_rows s b p (keys fs vs ss) ++ more)
  reading_goes z h = goes (reading_rows s b p (keys fs vs ss)) more tt e z h

-- ---- names: empty where the call is declined
pub name_refused : {n m : ℕ} (x : List ℕ) → n ≡ m → (n ≡ 0 → ⊥) → [] ≡ cond (eqb m 0) x []
name_refused {n} x e d = rw (← e, ne_eqb n 0 d)

pub name_made : {m : ℕ} {x y : List ℕ} → 0 ≡ m → x ≡ y → x ≡ cond (eqb m 0) y []
name_made e h = rw (← e, h)
