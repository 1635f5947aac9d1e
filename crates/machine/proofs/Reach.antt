-- The law of reach over calls: a call moves the keys of one track at most, and so does a list of the tracks that its calls are about; every channel that
-- another track decides reads the same after it as before. Any state, any call: broken ones are declined, and then nothing moves. Assumes nothing.
use Prim.Native.Nat.{ℕ, ◌+◌, ◌<◌, ◌≤◌, ◌^◌}
use mathlib.Core.Bool.{Bool, true, false, cond}
use mathlib.Core.List.{List, [], ◌∷◌, ◌++◌}
use mathlib.Core.Path.{◌≡◌, refl, sym, ap, ◌∙◌}
use native.Mathlib.Omega.{arith}
use borrow.Author.Tests.{eqb-true, eqb-false, not-true}
use lib.Dec.{T, eqb}
use lib.ListN.{length, length-append}
use lib.Ieee.{Float, binary32, fits}
use Rattle.laws.specs.Rows.{Row, declines, held_at, first_held, hold_at, row_in}
use Rattle.std.specs.Prelude.{Some, None}
use Rattle.sheet.specs.Sizes.{target_count}
use Rattle.sheet.specs.Rows.{target_row}
use Rattle.sheet.specs.Checked.{Checked}
use Rattle.keys.specs.Checked.{keys_checked}
use Rattle.book.specs.Checked.{CheckedBook}
use Rattle.curve.specs.declared.Key.{Key}
use Rattle.curve.specs.Keys.{part_of}
use Rattle.curve.specs.Curve.{kind_constant}
use Rattle.curve.specs.Outside.{outside, picked}
use Rattle.channel.specs.Channel.{target_channel}
use Rattle.reading.specs.Reading.{last_target}
use Rattle.reading.proofs.LastTarget.{last_target_only}
use Rattle.reading.specs.Untouched.{untouched_reads}
use Rattle.reading.specs.Active.{Active, active_at}
use Rattle.edit.specs.Keys.{Keys, key_at, put_key, get_other, HeldKeys, keys_ok_of}
use Rattle.edit.specs.Edit.{has_key, place, edited, unchanged, edit_rows, request_rows, spot_of}
use Rattle.edit.specs.Put.{has_key_lem}
use Rattle.edit.specs.Accepted.{HeldRequest, accepted_key, edit_keeps, edit_held}
use Rattle.edit.specs.declared.request.Request.{Request}
use Rattle.edit.specs.declared.request.Request.TheVariants as request
use Rattle.player.specs.declared.Player.{Player}
use Rattle.player.specs.declared.undo.Way.{Way}
use Rattle.player.specs.declared.undo.Way.TheVariants.{Undo, Redo}
use Rattle.player.specs.Undo.{entry_of, take_rows, taken_keys}
use Rattle.player.specs.Takes.{entry_used}
use Rattle.player.specs.Drag.{drag_ok, put_back, start_of, open_rows}
use Rattle.menu_checks.specs.Rows.{state_rows}
use Rattle.menu_checks.specs.Checks.{StateReady, state_ready}
use Rattle.menu.specs.Rows.{edit_table, take_table, drag_table, drag_rows, close_table}
use Rattle.menu.specs.Calls.{edit_of, take_of, drag_of, abandon_of, loaded_of}
use Rattle.reach.specs.Ready.{Compared}
use Rattle.reach.specs.Law.{SameTrack, SameReading, put_others}
use Rattle.reach.specs.OneTrack.{Reaches, track_reaches}
use Rattle.reach.specs.InTime.{outside_reads, picked_reads, then_all}
use Rattle.machine.specs.Runs.{last, Each}
use Rattle.machine.specs.Calls.{Call, play, pose, tick, edit, undo, redo, open_drag, drag, drop_drag, abandon_drag, ask, save, HeldCall, State, step_p}
use Rattle.machine.specs.Plain.{keys_of, step_m, fresh_m}
use Rattle.machine.specs.Moved.{track_of, Spares, SparesAll}
use Rattle.machine.proofs.Theorem.{standing_edits_decide}

-- ---- the same keys

itself : (s : List ℕ) (ks : Keys) (u : ℕ) → SameTrack s ks ks u
itself s ks u = record { frames = refl; values = refl; slopes = refl }

chain : (s : List ℕ) (ks ls ms : Keys) (u : ℕ) → SameTrack s ks ls u → SameTrack s ls ms u → SameTrack s ks ms u
chain s ks ls ms u p q = record { frames = q.frames ∙ p.frames; values = q.values ∙ p.values; slopes = q.slopes ∙ p.slopes }

-- ---- what an accepted call has checked

module _ (s : List ℕ) (p : Player) (ks : Keys) where
  ready : (more : List Row) → declines (state_rows s p ks ++ more) ≡ 0 → StateReady s p ks
  ready more e = state_ready s p ks.frames ks.values ks.slopes more refl e

  own : (more : List Row) → declines (state_rows s p ks ++ more) ≡ 0 → declines more ≡ 0
  own more e = (first_held (state_rows s p ks) more tt e).1

  edit_key : (track key : ℕ) (r : Request) → declines (edit_table s p ks track key r) ≡ 0 → has_key s track key ≡ true
  unfolding edit_table
  edit_key track key r e = (accepted_key s p.selection p.drag.«open» track key ks r (own (edit_rows s p.selection p.drag.«open» ks track key r) e)).0

  take_key : (way : Way) → declines (take_table way s p ks) ≡ 0 → has_key s (entry_of way p).track (entry_of way p).key ≡ true
  unfolding take_table take_rows
  take_key way e =
      let o = own (take_rows way s p ks) e in
      entry_used (ready (take_rows way s p ks) e).player way (eqb-false _ 0 (not-true _ (held_at 11 (take_rows way s p ks) (search row_in) tt o)))

  open_key : drag_ok s p.drag ≡ true → p.drag.«open» ≡ true → has_key s p.drag.track p.drag.key ≡ true
  unfolding drag_ok
  open_key h o = rw o at h

  drag_key : (x v : Float) → declines (drag_table s p ks x v) ≡ 0 → has_key s p.drag.track p.drag.key ≡ true
  unfolding drag_table drag_rows
  drag_key x v e =
      let o = first_held (open_rows p.drag.«open») (request_rows ks.frames (spot_of s p.drag.track p.drag.key) (request.Key x v)) tt (own (drag_rows s ks p.drag x v) e) in
      open_key (ready (drag_rows s ks p.drag x v) e).player.drag (hold_at 15 (open_rows p.drag.«open») (search row_in) o.0)

  close_key : declines (close_table s p ks) ≡ 0 → has_key s p.drag.track p.drag.key ≡ true
  unfolding close_table
  close_key e = open_key (ready (open_rows p.drag.«open») e).player.drag (held_at 15 (open_rows p.drag.«open») (search row_in) tt (own (open_rows p.drag.«open») e))

-- ---- each call
module _ (s : List ℕ) (u : ℕ) (l : u < target_count s) where
  -- a key put in the place of another track's, where the call is not declined
  placed : (n : ℕ) (ks : Keys) (track key : ℕ) (k : Key) → (n ≡ 0 → Checked s) → (n ≡ 0 → has_key s track key ≡ true) → (eqb n 0 ≡ true → u ≡ track → ⊥)
      → SameTrack s ks (cond (eqb n 0) (put_key ks (place s track key) k) ks) u
  placed n ks track key k w h d = go (eqb n 0) refl
    where
      go : (b : Bool) → eqb n 0 ≡ b → SameTrack s ks (cond b (put_key ks (place s track key) k) ks) u
      go true e = let z = eqb-true n 0 e in put_others (w z) ks track key k (h z) u l (d e)
      go false e = itself s ks u

  edit_spares : (track key : ℕ) (r : Request) (t : State) → Spares s u (edit track key r) t → SameTrack s t.keys (edit_of s t.player t.keys track key r).keys u
  unfolding edit_of
  edit_spares track key r t d = go (unchanged s t.keys track key r) refl
    where
      either : (b : Bool) (ks : Keys) → SameTrack s ks (cond b ks ks) u
      either true ks = itself s ks u
      either false ks = itself s ks u

      moves : (b : Bool) → unchanged s t.keys track key r ≡ b → b ≡ false → u ≡ track → cond (unchanged s t.keys track key r) None (Some track) ≡ Some u
      moves b q f e = rw (q, f, e)

      go : (b : Bool) → unchanged s t.keys track key r ≡ b → SameTrack s t.keys (cond (eqb (declines (edit_table s t.player t.keys track key r)) 0) (cond b t.keys (put_key t.keys (place s track key) (edited s t.keys track key r))) t.keys) u
      go true q = either (eqb (declines (edit_table s t.player t.keys track key r)) 0) t.keys
      go false q =
          placed (declines (edit_table s t.player t.keys track key r)) t.keys track key (edited s t.keys track key r)
          (λ z. unfold edit_table in (ready s t.player t.keys (edit_rows s t.player.selection t.player.drag.«open» t.keys track key r) z).sheet)
          (edit_key s t.player t.keys track key r) (λ z e. d z (moves false q refl e))

  take_spares : (way : Way) (p : Player) (ks : Keys) → (eqb (declines (take_table way s p ks)) 0 ≡ true → u ≡ (entry_of way p).track → ⊥) → SameTrack s ks (take_of way s p ks).keys u
  unfolding take_of taken_keys
  take_spares way p ks d =
      placed (declines (take_table way s p ks)) ks (entry_of way p).track (entry_of way p).key (entry_of way p).after
      (λ z. unfold take_table in (ready s p ks (take_rows way s p ks) z).sheet) (take_key s p ks way) d

  drag_spares : (x v : Float) (p : Player) (ks : Keys) → (eqb (declines (drag_table s p ks x v)) 0 ≡ true → u ≡ p.drag.track → ⊥) → SameTrack s ks (drag_of s p ks x v).keys u
  unfolding drag_of
  drag_spares x v p ks d =
      placed (declines (drag_table s p ks x v)) ks p.drag.track p.drag.key (edited s ks p.drag.track p.drag.key (request.Key x v))
      (λ z. unfold drag_table in (ready s p ks (drag_rows s ks p.drag x v) z).sheet) (drag_key s p ks x v) d

  abandon_spares : (p : Player) (ks : Keys) → (eqb (declines (close_table s p ks)) 0 ≡ true → u ≡ p.drag.track → ⊥) → SameTrack s ks (abandon_of s p ks).keys u
  unfolding abandon_of put_back
  abandon_spares p ks d =
      placed (declines (close_table s p ks)) ks p.drag.track p.drag.key (start_of p.drag)
      (λ z. unfold close_table in (ready s p ks (open_rows p.drag.«open») z).sheet) (close_key s p ks) d

  -- a call leaves the keys of every track but the one that it moves
  pub call_spares : (c : Call) (t : State) → Spares s u c t → SameTrack s t.keys (step_p s c t).0.keys u
  call_spares (play a) t d = itself s t.keys u
  call_spares (pose a x) t d = itself s t.keys u
  call_spares (tick dt fps) t d = itself s t.keys u
  call_spares (edit track key r) t d = edit_spares track key r t d
  call_spares undo t d = take_spares Undo t.player t.keys (λ z e. unfold take_of in d z (ap Some (sym e)))
  call_spares redo t d = take_spares Redo t.player t.keys (λ z e. unfold take_of in d z (ap Some (sym e)))
  call_spares (open_drag track key) t d = itself s t.keys u
  call_spares (drag x v) t d = drag_spares x v t.player t.keys (λ z e. unfold drag_of in d z (ap Some (sym e)))
  call_spares drop_drag t d = itself s t.keys u
  call_spares abandon_drag t d = abandon_spares t.player t.keys (λ z e. unfold abandon_of in d z (ap Some (sym e)))
  call_spares (ask b q) t d = itself s t.keys u
  call_spares (save o) t d = itself s t.keys u

  -- and so does a list
  pub list_spares : (cs : List Call) (t : State) → SparesAll s u cs t → SameTrack s t.keys (last (step_p s) cs t).keys u
  list_spares [] t d = itself s t.keys u
  list_spares (c ∷ cs) t d = chain s t.keys (step_p s c t).0.keys (last (step_p s) cs (step_p s c t).0).keys u (call_spares c t d.0) (list_spares cs (step_p s c t).0 d.1)

-- ---- the law

-- One call that moves a key of track u, from any state: at every animation and frame nothing but the channel that u addresses can read differently.
-- (reach/specs/OneTrack says what that is, and when nothing does.)
module _ (s : List ℕ) (c : Call) (t : State) (u : ℕ) (about : track_of s c t ≡ Some u) where
  pub call_others : (v : ℕ) → v < target_count s → (v ≡ u → ⊥) → SameTrack s t.keys (step_p s c t).0.keys v
  call_others v l d = call_spares s v l c t (λ z e. d (same (sym about ∙ e)))
    where
      same : Some u ≡ Some v → v ≡ u
      same e = cc

  pub call_reaches : {b : List ℕ} → CheckedBook b → (a : ℕ) (x : Float) → Reaches s b t.keys (step_p s c t).0.keys a x (target_channel s b a u)
  call_reaches w a x = track_reaches s w t.keys (step_p s c t).0.keys a x u call_others

-- Over a list of calls, from any state: a channel reads the same afterwards, at the same animation and frame, where no call moved a key of the track that
-- decides it, if there is one.
pub list_reaches : (s b : List ℕ) (cs : List Call) (t : State) (a : ℕ) (x : Float) (c : ℕ) → ((u : ℕ) → last_target s b a c ≡ Some u → SparesAll s u cs t)
    → SameReading s b t.keys (last (step_p s) cs t).keys (active_at a x) c
list_reaches s b cs t a x c h =
    untouched_reads s b t.keys.frames t.keys.values t.keys.slopes (last (step_p s) cs t).keys.frames (last (step_p s) cs t).keys.values (last (step_p s) cs t).keys.slopes (active_at a x) c
    (λ u e. list_spares s u (last_target_only s b a c u e).within cs t (h u e))

-- ---- between two points of a list, from loading on: with the standing-edit statement (`standing_edits_decide`)

last_append : {S C A : Type 0} (f : C → S → S × A) (cs ds : List C) (t : S) → last f (cs ++ ds) t ≡ last f ds (last f cs t)
last_append f [] ds t = refl
last_append f (c ∷ cs) ds t = last_append f cs ds (f c t).0

each_first : {C : Type 0} (P : C → Type 0) (cs ds : List C) → Each P (cs ++ ds) → Each P cs
each_first P [] ds h = tt
each_first P (c ∷ cs) ds h = (h.0, each_first P cs ds h.1)

same_by : (s b : List ℕ) {ks ls ms ns : Keys} (a : Active) (c : ℕ) → ks ≡ ms → ls ≡ ns → SameReading s b ks ls a c → SameReading s b ms ns a c
same_by s b a c p q h = rw (← p, ← q) h

-- After the calls cs, and after cs and then ds, the keys are the loaded ones with the standing edits made in order (and an open drag's last accepted
-- request); a channel reads the same over both where no call of ds moved a key of the track that decides it.
pub between : (s b : List ℕ) (arrays : Keys) → (loaded_of s arrays).refusal ≡ 0 → (cs ds : List Call) → Each HeldCall (cs ++ ds) → length (cs ++ ds) ≤ 2 ^ 40
    → (a : ℕ) (x : Float) (c : ℕ)
    → ((u : ℕ) → last_target s b a c ≡ Some u → SparesAll s u ds (last (step_p s) cs (record { player = (loaded_of s arrays).player; keys = (loaded_of s arrays).keys })))
    → SameReading s b (keys_of s (last (step_m s) cs (fresh_m (loaded_of s arrays).keys))) (keys_of s (last (step_m s) (cs ++ ds) (fresh_m (loaded_of s arrays).keys))) (active_at a x) c
between s b arrays e cs ds held h a x c spared =
    let t : State = record { player = (loaded_of s arrays).player; keys = (loaded_of s arrays).keys } in
    let k = standing_edits_decide s arrays e cs (each_first HeldCall cs ds held) (omega (arith, length-append cs ds)) in
    let l = standing_edits_decide s arrays e (cs ++ ds) held h in
    same_by s b (active_at a x) c k.0.keys (sym (ap (λ (q : State). q.keys) (last_append (step_p s) cs ds t)) ∙ l.0.keys) (list_reaches s b ds (last (step_p s) cs t) a x c spared)

-- ---- in time: one key in another's place, as an edit, a drag, an undo, a redo and an abandonment put it, within the key rules before and after

module _ {s : List ℕ} (w : Checked s) (ks : Keys) (track key : ℕ) (k : Key) (has : has_key s track key ≡ true) (before : keys_ok_of s ks ≡ true) (after : keys_ok_of s (put_key ks (place s track key) k) ≡ true)
    (hk : HeldKeys ks) (hl : HeldKeys (put_key ks (place s track key) k)) where
  abbrev ls : Keys
  ls = put_key ks (place s track key) k

  compared : Compared s ks ls
  compared = record { sheet = w; old = keys_checked s ks.frames ks.values ks.slopes before; new = keys_checked s ls.frames ls.values ls.slopes after }

  other_keys : (j : ℕ) → j < (target_row s track).count → (key ≤ j → j ≤ key → ⊥) → key_at ls (place s track j) ≡ key_at ks (place s track j)
  other_keys j l d = get_other ks (place s track key) (place s track j) k (λ e. apart (unfold place in e))
    where
      apart : (target_row s track).first + j ≡ (target_row s track).first + key → ⊥
      apart e = d (omega arith) (omega arith)

  -- strictly outside the span from the previous key's frame to the next key's, every channel reads the same
  pub put_outside : (x : Float) → T (fits binary32 x) → ((target_row s track).curve ≡ kind_constant → ⊥) → outside (part_of (target_row s track).first (target_row s track).count ks.frames) key key x ≡ true
      → (b : List ℕ) (a c : ℕ) → SameReading s b ks (put_key ks (place s track key) k) (active_at a x) c
  put_outside x hx d e =
      let q = has_key_lem s track key has in
      then_all compared hk hl track q.0 key key (omega arith) q.1 other_keys (put_others w ks track key k has) x
      (outside_reads compared hk hl track q.0 key key (omega arith) q.1 other_keys x hx d e)

  -- and on a Constant curve wherever the frame picks another key
  pub put_picked : (x : Float) → (target_row s track).curve ≡ kind_constant
      → (key ≤ picked (part_of (target_row s track).first (target_row s track).count ks.frames) x → picked (part_of (target_row s track).first (target_row s track).count ks.frames) x ≤ key → ⊥)
      → (b : List ℕ) (a c : ℕ) → SameReading s b ks (put_key ks (place s track key) k) (active_at a x) c
  put_picked x e d =
      let q = has_key_lem s track key has in
      then_all compared hk hl track q.0 key key (omega arith) q.1 other_keys (put_others w ks track key k has) x
      (picked_reads compared hk hl track q.0 key key (omega arith) q.1 other_keys x e d)

-- so after every key edit, slope edit and drag whose request is not declined
pub edit_outside : {s : List ℕ} (w : Checked s) (ks : Keys) → keys_ok_of s ks ≡ true → HeldKeys ks → (track key : ℕ) → has_key s track key ≡ true
    → (r : Request) → HeldRequest r → declines (request_rows ks.frames (spot_of s track key) r) ≡ 0
    → (x : Float) → T (fits binary32 x) → ((target_row s track).curve ≡ kind_constant → ⊥) → outside (part_of (target_row s track).first (target_row s track).count ks.frames) key key x ≡ true
    → (b : List ℕ) (a c : ℕ) → SameReading s b ks (put_key ks (place s track key) (edited s ks track key r)) (active_at a x) c
edit_outside {s} w ks ok hk track key has r hr e =
    put_outside w ks track key (edited s ks track key r) has ok (edit_keeps w ks ok hk.frames track key has r hr e) hk (edit_held s ks track key r hk hr e)
