-- What ties a player to the plain machine: the player is an image of the machine, and its journal's used rows hold the entries of the edits. Assumes nothing.
use mathlib.Core.Path.{◌≡◌, sym, ◌∙◌, ap}
use mathlib.Core.Bool.{true, false}
use mathlib.Core.List.{List, [], ◌∷◌}
use mathlib.Core.Logic.{⊎_elim}
use Prim.Native.Nat.{ℕ, zero, suc, ◌+◌, ◌≤◌, ◌<◌, ◌%◌}
use native.Mathlib.Nat.{eq-or-lt_of_le, le_of_suc-le-suc}
use native.Mathlib.Omega.{arith}
use lib.ListN.{length}
use Rattle.float.specs.Numbers.{finite}
use Rattle.keys.specs.Load.{lengths_ok}
use Rattle.player.specs.declared.Player.{Player}
use Rattle.player.specs.declared.drag.Drag.{Drag}
use Rattle.player.specs.declared.journal.Entry.{Entry}
use Rattle.player.specs.declared.journal.Journal.{Journal}
use Rattle.edit.specs.Keys.{Keys, HeldKeys, HeldKey, key_at, Within, same_key, keys_ok_of}
use Rattle.player.specs.Journal.{row_of, with_row, Whole, row_other, rows}
use Rattle.player.specs.Player.{selection_ok, entry_ok}
use Rattle.player.specs.Parts.{player_of, View}
use Rattle.player.specs.Drag.{no_drag, opened_on, moved_on}
use Rattle.edit.specs.Edit.{Edit, has_key, place, edited, unchanged, made_edit}
use Rattle.menu.specs.Calls.{entry_for}
use Rattle.machine.specs.Plain.{Dragging, closed, opened, dragged, dragged_to, Plain, replay, standing_keys}

-- keys as each call finds and leaves them: as long as the sheet says, within the key rules, and f32 in all three arrays, as a lent slice is
pub record Sane (s : List ℕ) (ks : Keys) : Type 0 where
  pub long : lengths_ok s ks.frames ks.values ks.slopes ≡ true
  pub rules : keys_ok_of s ks ≡ true
  pub held : HeldKeys ks

-- an edit that may be made on ks
pub record Fair (s : List ℕ) (ks : Keys) (e : Edit) : Type 0 where
  pub within : Within ks (place s e.track e.key)
  pub entry : entry_ok s (entry_for s ks e.track e.key e.request) ≡ true
  pub old : same_key (key_at ks (place s e.track e.key)) (key_at ks (place s e.track e.key)) ≡ true
  pub new : same_key (edited s ks e.track e.key e.request) (edited s ks e.track e.key e.request) ≡ true
  pub f32 : HeldKey (edited s ks e.track e.key e.request)
  pub sane : Sane s ks
  pub made : Sane s (made_edit s ks e)

-- the row of the edit e, made after the edits es, holds its entry, and e changed the key
pub record JournalRow (s : List ℕ) (j : Journal) (ks : Keys) (es : List Edit) (e : Edit) : Type 0 where
  pub is : row_of j (length es) ≡ entry_for s (replay s ks es) e.track e.key e.request
  pub fair : Fair s (replay s ks es) e
  pub changed : unchanged s (replay s ks es) e.track e.key e.request ≡ false

-- the rows of the newest r edits that stand
abbrev pub Back : List ℕ → Journal → Keys → List Edit → ℕ → Type 0
Back s j ks es zero = Unit {0}
Back s j ks [] (suc r) = ⊥
Back s j ks (e ∷ es) (suc r) = JournalRow s j ks es e × Back s j ks es r

-- the rows of the edits that a redo makes again
abbrev pub Fore : List ℕ → Journal → Keys → List Edit → List Edit → Type 0
Fore s j ks es [] = Unit {0}
Fore s j ks es (e ∷ us) = JournalRow s j ks es e × Fore s j ks (e ∷ es) us

-- a drag that a call may find, over the standing keys
abbrev pub Holds : List ℕ → Keys → Dragging → Type 0
Holds s ks closed = Unit {0}
Holds s ks (opened a track key) = has_key s track key ≡ true
Holds s ks (dragged a track key x v) = Fair s ks (dragged_to a track key x v)

-- a view that a call may find
pub record Seen (s : List ℕ) (v : View) : Type 0 where
  pub selection : selection_ok s v.selection ≡ true
  pub frame : finite v.frame ≡ true

-- the drag that stands for the machine's: its starting key is the standing keys'
abbrev pub drag_image : List ℕ → Keys → Dragging → Drag
drag_image s ks closed = no_drag
drag_image s ks (opened a track key) = opened_on track key (key_at ks (place s track key))
drag_image s ks (dragged a track key x v) = moved_on (opened_on track key (key_at ks (place s track key)))

-- the player that stands for the machine m with the journal j
abbrev pub image : List ℕ → Plain → Journal → Player
image s m j =
    player_of m.view
    (record {
      reach = m.reach;
      redo = length m.redo;
      accepted = m.accepted;
      undone = m.undone;
      redone = m.redone;
      standing = length m.standing;
      journal = j;
    })
    (drag_image s (standing_keys s m) m.drag)

-- after n calls
pub record Good (s : List ℕ) (n : ℕ) (m : Plain) (j : Journal) : Type 0 where
  pub whole : Whole j
  pub sane : Sane s (standing_keys s m)
  pub drag : Holds s (standing_keys s m) m.drag
  pub seen : Seen s m.view
  pub back : Back s j m.loaded m.standing m.reach
  pub fore : Fore s j m.loaded m.standing m.redo
  pub room : m.reach + length m.redo ≤ rows
  pub below : m.reach ≤ length m.standing
  pub sums : m.accepted + m.redone ≡ m.undone + length m.standing
  pub few : m.accepted + m.undone + m.redone ≤ n

-- two edits fewer than 128 apart have different rows
pub apart : (i k : ℕ) → i < k → k < i + rows → i % rows ≡ k % rows → ⊥
apart i k h l e = omega arith

module _ (s : List ℕ) (j : Journal) (ks : Keys) where
  -- fewer rows of the same
  pub less : (es : List Edit) (r q : ℕ) → q ≤ r → Back s j ks es r → Back s j ks es q
  less es r zero h t = tt
  less [] zero (suc q) h t = absurd (omega arith)
  less [] (suc r) (suc q) h t = t
  less (e ∷ es) zero (suc q) h t = absurd (omega arith)
  less (e ∷ es) (suc r) (suc q) h t = (t.0, less es r q (omega arith) t.1)

  -- a row that is written for edit number k leaves the rows of the r edits before it, if they are fewer than 128
  pub kept : (k : ℕ) (x : Entry) (es : List Edit) (r : ℕ) → length es ≤ k → k + r < length es + rows → Back s j ks es r → Back s (with_row j k x) ks es r
  kept k x es zero h l t = tt
  kept k x [] (suc r) h l t = t
  kept k x (e ∷ es) (suc r) h l t = (
    record { is = row_other j k (length es) x (apart (length es) k (omega arith) (omega arith)) ∙ t.0.is; fair = t.0.fair; changed = t.0.changed },
    kept k x es r (omega arith) (omega arith) t.1,
  )

  -- the used rows name keys of the sheet
  row_ok : (es : List Edit) (e : Edit) → JournalRow s j ks es e → entry_ok s (row_of j (length es)) ≡ true
  row_ok es e r = ap (entry_ok s) r.is ∙ r.fair.entry

  pub back_ok : (es : List Edit) (r k : ℕ) → Back s j ks es r → length es ≤ k + r → k < length es → entry_ok s (row_of j k) ≡ true
  back_ok es zero k t h l = absurd (omega arith)
  back_ok [] (suc r) k t h l = absurd t
  back_ok (e ∷ es) (suc r) k t h l =
      ⊎_elim
      (λ (q : k ≡ length es). rw q (row_ok es e t.0))
      (λ (m : k < length es). back_ok es r k t.1 (omega arith) m)
      (eq-or-lt_of_le (le_of_suc-le-suc l))

  pub fore_ok : (es us : List Edit) (k : ℕ) → Fore s j ks es us → length es ≤ k → k < length es + length us → entry_ok s (row_of j k) ≡ true
  fore_ok es [] k t h l = absurd (omega arith)
  fore_ok es (e ∷ us) k t h l =
      ⊎_elim
      (λ (q : length es ≡ k). rw (sym q) (row_ok es e t.0))
      (λ (m : length es < k). fore_ok (e ∷ es) us k t.1 m (omega arith))
      (eq-or-lt_of_le h)
