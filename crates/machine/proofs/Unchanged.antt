-- Unchanged edits (document 02, 4/13) and what comes after them: an unchanged edit may as well not have been asked for, whatever the player and the keys;
-- and after any list of fewer than 2^40 calls from a freshly loaded player, each undo and each redo that is not declined changes the keys, since no edit in
-- the journal was unchanged. Assumes nothing.
use mathlib.Core.Path.{◌≡◌, sym, ap, subst, ◌∙◌}
use mathlib.Core.Bool.{true, false≢true}
use mathlib.Core.List.{List, [], ◌∷◌}
use Prim.Native.Nat.{ℕ, zero, suc, ◌≤◌, ◌^◌}
use native.Mathlib.Omega.{arith}
use borrow.Author.Tests.{eqb-true}
use lib.Dec.{eqb}
use lib.ListN.{length}
use Rattle.laws.specs.Rows.{unless, declines}
use Rattle.laws.specs.Tests.{both}
use Rattle.player.specs.declared.Player.{Player}
use Rattle.player.specs.declared.journal.Journal.{Journal}
use Rattle.player.specs.Parts.{View, with_drag}
use Rattle.player.specs.Drag.{no_drag, drop_unchanged}
use Rattle.player.specs.Dragged.{dropped_player}
use Rattle.edit.specs.declared.request.Request.{Request}
use Rattle.edit.specs.Keys.{Keys, key_at}
use Rattle.edit.specs.Edit.{Edit, unchanged, made_edit}
use Rattle.edit.proofs.Unchanged.{left_unchanged}
use Rattle.menu.specs.Rows.{edit_table, close_table}
use Rattle.menu.specs.Calls.{EditedKeys, edit_of, held_at, drop_of, undo_of, redo_of, loaded_of}
use Rattle.machine.specs.Runs.{last, Each}
use Rattle.machine.specs.Calls.{Call, edit, undo, redo, HeldCall, Answer, number, edit_answer, ticked, told, written, State, step_p}
use Rattle.machine.specs.Plain.{Dragging, closed, opened, dragged, Plain, replay, keys_of, step_m, fresh_m}
use Rattle.machine.proofs.Invariant.{JournalRow, Good}
use Rattle.machine.proofs.Kept.{suc_not}
use Rattle.machine.proofs.Steps.{step_kept}
use Rattle.machine.proofs.Loaded.{loaded_sheet, loaded_sane}
use Rattle.machine.proofs.Theorem.{Related, related}

-- ---- what an unchanged call leaves

module _ (s : List ℕ) (p : Player) (ks : Keys) where
  -- an edit: everything
  pub an_unchanged_edit_leaves_all : (track key : ℕ) (r : Request) → (edit_of s p ks track key r).unchanged ≡ true
      → edit_of s p ks track key r ≡ record { refusal = 0; unchanged = true; player = p; keys = ks }
  unfolding edit_of
  an_unchanged_edit_leaves_all track key r e =
      let n = declines (edit_table s p ks track key r) in
      let b = both (eqb n 0) (unchanged s ks track key r) e in
      rw (eqb-true n 0 b.0, b.1)

  -- a drop: everything but the drag, which is closed
  pub an_unchanged_drop_closes : (drop_of s p ks).unchanged ≡ true → drop_of s p ks ≡ record { refusal = 0; unchanged = true; player = with_drag p no_drag }
  unfolding drop_of dropped_player
  an_unchanged_drop_closes e =
      let n = declines (close_table s p ks) in
      let b = both (eqb n 0) (drop_unchanged p.drag (key_at ks (held_at s p))) e in
      rw (eqb-true n 0 b.0, b.1)

-- so any calls after an unchanged edit leave player and keys as they would without it
pub an_unchanged_edit_may_be_left_out : (s : List ℕ) (t : State) (track key : ℕ) (r : Request) → (edit_of s t.player t.keys track key r).unchanged ≡ true
    → (cs : List Call) → last (step_p s) (edit track key r ∷ cs) t ≡ last (step_p s) cs t
an_unchanged_edit_may_be_left_out s t track key r e cs =
    ap (λ (g : EditedKeys). last (step_p s) cs (record { player = g.player; keys = g.keys })) (an_unchanged_edit_leaves_all s t.player t.keys track key r e)

-- ---- an undo and a redo change the keys

-- the number that a call answers, readings apart, of which nothing below asks
abbrev number_of : Answer → ℕ
number_of (number n) = n
number_of (edit_answer n same) = n
number_of (ticked n t k) = n
number_of (told r) = 0
number_of (written r) = r.refusal

module _ (s : List ℕ) (n : ℕ) (j : Journal) where
  -- an edit with a row of its own is none that leaves the keys
  changes : (ks : Keys) (es : List Edit) (e : Edit) → JournalRow s j ks es e → replay s ks (e ∷ es) ≡ replay s ks es → ⊥
  unfolding replay made_edit
  changes ks es e row q =
      let f = row.fair in
      false≢true (sym row.changed ∙ left_unchanged s (replay s ks es) e.track e.key e.request f.within f.old q)

  module _ (ks : Keys) (a d c : ℕ) (v : View) where
    abbrev M : List Edit → List Edit → ℕ → Dragging → Plain
    M es us r g = record { loaded = ks; standing = es; redo = us; reach = r; accepted = a; undone = d; redone = c; view = v; drag = g }

    undo_changes : (es us : List Edit) (r : ℕ) (g : Dragging) → Good s n (M es us r g) j → let m = M es us r g in
        number_of (step_m s undo m).1 ≡ 0 → keys_of s (step_m s undo m).0 ≡ keys_of s m → ⊥
    unfolding declines unless
    undo_changes es us r (opened x t k) w e q = omega arith
    undo_changes es us r (dragged x t k y z) w e q = omega arith
    undo_changes es us zero closed w e q = omega arith
    undo_changes [] us (suc r) closed w e q = absurd w.back
    undo_changes (x ∷ es) us (suc r) closed w e q = changes ks es x w.back.0 (sym (rw (suc_not r) at q))

    redo_changes : (es us : List Edit) (r : ℕ) (g : Dragging) → Good s n (M es us r g) j → let m = M es us r g in
        number_of (step_m s redo m).1 ≡ 0 → keys_of s (step_m s redo m).0 ≡ keys_of s m → ⊥
    unfolding declines unless
    redo_changes es us r (opened x t k) w e q = omega arith
    redo_changes es us r (dragged x t k y z) w e q = omega arith
    redo_changes es [] r closed w e q = omega arith
    redo_changes es (x ∷ us) r closed w e q = changes ks es x w.fore.0 (rw (suc_not (length us)) at q)

module _ (s : List ℕ) (arrays : Keys) (e : (loaded_of s arrays).refusal ≡ 0) (cs : List Call) (held : Each HeldCall cs) (few : suc (length cs) ≤ 2 ^ 40) where
  abbrev t : State
  t = last (step_p s) cs (record { player = (loaded_of s arrays).player; keys = (loaded_of s arrays).keys })

  abbrev m : Plain
  m = last (step_m s) cs (fresh_m (loaded_of s arrays).keys)

  r : Related s (length cs) t m
  unfolding loaded_of
  r = (related s (loaded_sheet s arrays e) (loaded_of s arrays).keys (loaded_sane s arrays e) cs held (omega arith)).0

  -- where the machine's call changes its keys, the player's changes them too
  as_the_machine : (c : Call) → HeldCall c → (number_of (step_m s c m).1 ≡ 0 → keys_of s (step_m s c m).0 ≡ keys_of s m → ⊥)
      → number_of (step_p s c t).1 ≡ 0 → (step_p s c t).0.keys ≡ t.keys → ⊥
  as_the_machine c h f =
      let k = step_kept s (length cs) m r.journal (loaded_sheet s arrays e) (omega arith) r.good c h in
      subst (λ (x : State). number_of (step_p s c x).1 ≡ 0 → (step_p s c x).0.keys ≡ x.keys → ⊥) (sym r.is)
      (λ z q. f (sym (ap (λ y. number_of y.1) k.same) ∙ z) (sym (ap (λ y. y.0.keys) k.same) ∙ q))

  pub an_undo_changes_the_keys : (undo_of s t.player t.keys).refusal ≡ 0 → (undo_of s t.player t.keys).keys ≡ t.keys → ⊥
  an_undo_changes_the_keys =
      as_the_machine undo tt (undo_changes s (length cs) r.journal m.loaded m.accepted m.undone m.redone m.view m.standing m.redo m.reach m.drag r.good)

  pub a_redo_changes_the_keys : (redo_of s t.player t.keys).refusal ≡ 0 → (redo_of s t.player t.keys).keys ≡ t.keys → ⊥
  a_redo_changes_the_keys =
      as_the_machine redo tt (redo_changes s (length cs) r.journal m.loaded m.accepted m.undone m.redone m.view m.standing m.redo m.reach m.drag r.good)
