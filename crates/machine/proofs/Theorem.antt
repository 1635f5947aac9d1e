-- Demand 3: after every list of at most 2^40 calls, their numbers f32, the player is the plain machine, and has answered as it. Assumes nothing.
use mathlib.Core.Path.{◌≡◌, refl, ap, ◌∙◌}
use mathlib.Core.Bool.{true}
use mathlib.Core.List.{List}
use Prim.Native.Nat.{ℕ, suc, ◌+◌, ◌≤◌, ◌<◌, ◌^◌}
use native.Mathlib.Nat.{zero-add}
use native.Mathlib.Omega.{arith}
use lib.ListN.{length}
use lib.Ieee.{of_bits}
use Rattle.sheet.specs.Sheet.{sheet_ok}
use Rattle.player.specs.declared.journal.Journal.{Journal}
use Rattle.edit.specs.Keys.{Keys}
use Rattle.player.specs.Journal.{empty_journal, whole_empty, rows}
use Rattle.player.specs.Player.{fresh_player, selection_ok}
use Rattle.player.specs.Parts.{view_of}
use Rattle.machine.specs.Runs.{last, answers, Each}
use Rattle.machine.specs.Calls.{Call, HeldCall, State, step_p}
use Rattle.machine.specs.Plain.{Plain, replay, standing_keys, with_dragged, step_m, fresh_m}
use Rattle.menu.specs.Calls.{loaded_of}
use Rattle.machine.proofs.Loaded.{loaded_sheet, loaded_sane}
use Rattle.machine.proofs.Simulates.{runs}
use Rattle.machine.proofs.Invariant.{Sane, drag_image, Good}
use Rattle.machine.proofs.Kept.{state_of}
use Rattle.machine.proofs.Steps.{step_kept}

-- the player with its keys is the machine
pub record Agree (s : List ℕ) (t : State) (m : Plain) : Type 0 where
  -- the standing edits in order, then an open drag's last accepted request
  pub keys : t.keys ≡ with_dragged s (replay s m.loaded m.standing) m.drag
  pub view : view_of t.player ≡ m.view
  pub drag : t.player.drag ≡ drag_image s (standing_keys s m) m.drag
  pub reach : t.player.reach ≡ m.reach
  pub redo : t.player.redo ≡ length m.redo
  pub standing : t.player.standing ≡ length m.standing
  pub accepted : t.player.accepted ≡ m.accepted
  pub undone : t.player.undone ≡ m.undone
  pub redone : t.player.redone ≡ m.redone
  pub sums : t.player.accepted + t.player.redone ≡ t.player.undone + t.player.standing
  pub within : t.player.reach ≤ rows

-- after n calls
pub record Related (s : List ℕ) (n : ℕ) (t : State) (m : Plain) : Type 0 where
  pub journal : Journal
  pub is : t ≡ state_of s m journal
  pub good : Good s n m journal

module _ (s : List ℕ) (ok : sheet_ok s ≡ true) where
  keeps : (n : ℕ) (c : Call) (t : State) (m : Plain) → n < 2 ^ 40 → HeldCall c → Related s n t m → Related s (suc n) (step_p s c t).0 (step_m s c m).0 × ((step_p s c t).1 ≡ (step_m s c m).1)
  keeps n c t m h held r =
      let k = step_kept s n m r.journal ok h r.good c held in
      let e : step_p s c t ≡ (state_of s (step_m s c m).0 k.journal, (step_m s c m).1) = ap (step_p s c) r.is ∙ k.same in
      (record { journal = k.journal; is = ap (λ x. x.0) e; good = k.good }, ap (λ x. x.1) e)

  -- the fresh player
  start : (ks : Keys) → Sane s ks → Related s 0 (record { player = fresh_player; keys = ks }) (fresh_m ks)
  unfolding fresh_player replay selection_ok of_bits
  start ks w =
      record {
        journal = empty_journal;
        is = refl;
        good =
            record {
              whole = whole_empty;
              sane = w;
              drag = tt;
              seen = record { selection = refl; frame = refl };
              back = tt;
              fore = tt;
              room = omega arith;
              below = omega arith;
              sums = omega arith;
              few = omega arith;
            };
      }

  module _ (ks : Keys) (w : Sane s ks) (cs : List Call) (held : Each HeldCall cs) (h : length cs ≤ 2 ^ 40) where
    abbrev first : State
    first = record { player = fresh_player; keys = ks }

    pub related : Related s (length cs) (last (step_p s) cs first) (last (step_m s) cs (fresh_m ks)) × (answers (step_p s) cs first ≡ answers (step_m s) cs (fresh_m ks))
    related = rw zero-add at (runs (step_p s) (step_m s) HeldCall (Related s) (2 ^ 40) keeps cs held 0 first (fresh_m ks) (omega arith) (start ks w))

    pub the_player_is_the_machine : Agree s (last (step_p s) cs first) (last (step_m s) cs (fresh_m ks)) × (answers (step_p s) cs first ≡ answers (step_m s) cs (fresh_m ks))
    the_player_is_the_machine =
        let r = related in
        let i = r.0.is in (
          record {
            keys = ap (λ t. t.keys) i;
            view = ap (λ t. view_of t.player) i;
            drag = ap (λ t. t.player.drag) i;
            reach = ap (λ t. t.player.reach) i;
            redo = ap (λ t. t.player.redo) i;
            standing = ap (λ t. t.player.standing) i;
            accepted = ap (λ t. t.player.accepted) i;
            undone = ap (λ t. t.player.undone) i;
            redone = ap (λ t. t.player.redone) i;
            sums = rw i r.0.good.sums;
            within = rw i (let g = r.0.good.room in omega arith);
          },
          r.1,
        )

-- Demand 3, whole. Load any sheet into any arrays; where that is not declined, make any list of at most 2^40 calls, refused ones, damaged books,
-- NaNs and outputs of every length included: the keys are the loaded ones with the standing edits made in order and then, while a drag is open, its last
-- accepted request; drag, counts, selection, playing, preview and frame are the plain machine's, standing is the standing list's length, accepted + redone
-- = undone + standing, reach is at most 128, and every answer with every output is the machine's, a tick's next name too.
pub standing_edits_decide : (s : List ℕ) (arrays : Keys) → (loaded_of s arrays).refusal ≡ 0 → (cs : List Call) → Each HeldCall cs → length cs ≤ 2 ^ 40
    → Agree s (last (step_p s) cs (record { player = (loaded_of s arrays).player; keys = (loaded_of s arrays).keys })) (last (step_m s) cs (fresh_m (loaded_of s arrays).keys))
    × (answers (step_p s) cs (record { player = (loaded_of s arrays).player; keys = (loaded_of s arrays).keys }) ≡ answers (step_m s) cs (fresh_m (loaded_of s arrays).keys))
unfolding loaded_of
standing_edits_decide s arrays e cs held h = the_player_is_the_machine s (loaded_sheet s arrays e) (loaded_of s arrays).keys (loaded_sane s arrays e) cs held h
