-- How the rows that calls share are asked in two parts, and how a call's own rows follow them. Assumes nothing.
use Rattle.std.specs.Prelude.{ℕ, ◌≡◌, refl, Bool, true, false, cond, List, ◌++◌, T, eqb, Float}
use Rattle.std.proofs.Common.{sym, ◌∙◌, eqb-true, ne_eqb}
use Rattle.std.proofs.lemmas.Bool.{eqb-false}
use Rattle.laws.specs.Rows.{Row, numbered, declines, stops, goes, row_laws}
use Rattle.player.specs.declared.Player.{Player}
use Rattle.edit.specs.Keys.{keys}
use Rattle.menu_checks.specs.Rows.{sheet_rows, own_rows, broken_rows, player_rows, keys_rows, state_rows, book_rows, reading_rows, behind}
use Rattle.menu_checks.specs.Checks.{reading_stops, reading_goes}

-- ---- a call's own rows, asked by what those before them declined with
pub behind_stops : {n : ℕ} (m : ℕ) → (n ≡ 0 → ⊥) → n ≡ behind n m
unfolding behind
behind_stops {n} m d = rw (ne_eqb n 0 d)

pub behind_goes : {n m k : ℕ} → n ≡ 0 → k ≡ m → k ≡ behind n m
unfolding behind
behind_goes z h = rw z h

-- the first part's refusal, handed on
pub behind_first : {n k : ℕ} (m : ℕ) → k ≡ n → (k ≡ 0 → ⊥) → k ≡ behind n m
behind_first m e d = e ∙ behind_stops m (λ z. d (e ∙ z))

-- what closes a `return` of such a function
pub ruleset behind_laws = (row_laws, behind_stops, behind_goes)

-- nothing is declined by either
pub behind_none : {n m k : ℕ} → k ≡ behind n m → k ≡ 0 → (n ≡ 0) × (m ≡ 0)
unfolding behind
behind_none {n} {m} {k} e z = go (eqb n 0) refl e
  where
    go : (b : Bool) → eqb n 0 ≡ b → k ≡ cond b m n → (n ≡ 0) × (m ≡ 0)
    go true q h = (eqb-true n 0 q, sym h ∙ z)
    go false q h = absurd (eqb-false n 0 q (sym h ∙ z))

-- the whole list's number
behind_rows : (rs more : List Row) {n k : ℕ} → T (numbered rs) → n ≡ declines rs → k ≡ behind n (declines more) → k ≡ declines (rs ++ more)
unfolding behind
behind_rows rs more {n} {k} t e h = go (eqb n 0) refl h
  where
    go : (b : Bool) → eqb n 0 ≡ b → k ≡ cond b (declines more) n → k ≡ declines (rs ++ more)
    go true q g = goes rs more t e (eqb-true n 0 q) g
    go false q g = g ∙ stops rs more e (eqb-false n 0 q)

-- ---- the lists that calls share, by their two checks
pub player_by : (s : List ℕ) (p : Player) {n k : ℕ} → n ≡ declines (sheet_rows s) → k ≡ behind n (declines (own_rows s p)) → k ≡ declines (player_rows s p)
player_by s p e h = behind_rows (sheet_rows s) (own_rows s p) tt e h

pub state_by : (s : List ℕ) (p : Player) (fs vs ss : List Float) {n k : ℕ} → n ≡ declines (keys_rows s (keys fs vs ss)) → k ≡ behind n (declines (broken_rows s p (keys fs vs ss)))
    → k ≡ declines (state_rows s p (keys fs vs ss))
state_by s p fs vs ss e h = behind_rows (keys_rows s (keys fs vs ss)) (broken_rows s p (keys fs vs ss)) tt e h

pub reading_by : (s b : List ℕ) (p : Player) (fs vs ss : List Float) {n k : ℕ} → n ≡ declines (book_rows s b (keys fs vs ss)) → k ≡ behind n (declines (broken_rows s p (keys fs vs ss)))
    → k ≡ declines (reading_rows s b p (keys fs vs ss))
reading_by s b p fs vs ss e h = behind_rows (book_rows s b (keys fs vs ss)) (broken_rows s p (keys fs vs ss)) tt e h

-- ---- so a check that answers a list answers it by its two parts
pub player_parts : (s : List ℕ) (p : Player) {k : ℕ} → k ≡ declines (player_rows s p) → k ≡ behind (declines (sheet_rows s)) (declines (own_rows s p))
player_parts s p e = e ∙ sym (player_by s p refl refl)

pub state_parts : (s : List ℕ) (p : Player) (fs vs ss : List Float) {k : ℕ} → k ≡ declines (state_rows s p (keys fs vs ss))
    → k ≡ behind (declines (keys_rows s (keys fs vs ss))) (declines (broken_rows s p (keys fs vs ss)))
state_parts s p fs vs ss e = e ∙ sym (state_by s p fs vs ss refl refl)

pub reading_parts : (s b : List ℕ) (p : Player) (fs vs ss : List Float) {k : ℕ} → k ≡ declines (reading_rows s b p (keys fs vs ss))
    → k ≡ behind (declines (book_rows s b (keys fs vs ss))) (declines (broken_rows s p (keys fs vs ss)))
reading_parts s b p fs vs ss e = e ∙ sym (reading_by s b p fs vs ss refl refl)

-- ---- and a call's own rows behind them
pub player_behind : (s : List ℕ) (p : Player) (more : List Row) {n k : ℕ} → n ≡ declines (player_rows s p) → k ≡ behind n (declines more) → k ≡ declines (player_rows s p ++ more)
player_behind s p more e h = behind_rows (player_rows s p) more tt e h

pub state_behind : (s : List ℕ) (p : Player) (fs vs ss : List Float) (more : List Row) {n k : ℕ} → n ≡ declines (state_rows s p (keys fs vs ss)) → k ≡ behind n (declines more)
    → k ≡ declines (state_rows s p (keys fs vs ss) ++ more)
state_behind s p fs vs ss more e h = behind_rows (state_rows s p (keys fs vs ss)) more tt e h

module _ (s b : List ℕ) (p : Player) (fs vs ss : List Float) (more : List Row) {n : ℕ} (e : n ≡ declines (reading_rows s b p (keys fs vs ss))) where
  pub reading_behind : {k : ℕ} → k ≡ behind n (declines more) → k ≡ declines (reading_rows s b p (keys fs vs ss) ++ more)
  reading_behind h = behind_rows (reading_rows s b p (keys fs vs ss)) more tt e h

pub ruleset after_reading = (row_laws, reading_by, reading_stops, reading_goes)
