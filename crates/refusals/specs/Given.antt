-- What an outward call answers of its refusal, what else it answers where it is declined, and what it leaves of all that was lent to it, by the
-- definitions that the contracts cite. Definitions only.
use Rattle.std.specs.Prelude.{ℕ, ◌≡◌, false, List, [], ◌∷◌, length, Float}
use Rattle.uv.specs.Calls.{uvs_of}
use Rattle.corner.specs.Calls.{no_corners, no_point, placed_of, moved_of, turned_of}
use Rattle.reading.specs.declared.Reading.TheVariants.{Nothing}
use Rattle.player.specs.declared.Player.{Player}
use Rattle.player.specs.declared.Tick.TheVariants.{Idle}
use Rattle.player.specs.Player.{fresh_player}
use Rattle.edit.specs.Keys.{Keys}
use Rattle.menu_checks.specs.Counts.{no_sheet_counts, no_book_counts, sheet_counts_of, book_counts_of}
use Rattle.menu.specs.Calls.{loaded_of, next_name_of}
use Rattle.menu_readings.specs.Readings.{no_pane, no_layer}
use Rattle.reach.specs.Calls.{reach_of}
use Rattle.field.specs.Name.{name_bytes}
use Rattle.menu_c.specs.Naming.{next_name_into, texture_name_into}
use Rattle.machine.specs.Asks.{Ask, pane_channel, material_channel, all, pane, layer, texture, cascade, Told, one, tables, resolved_pane, resolved_layer, name, cascaded}
use Rattle.machine.specs.Calls.{Call, play, pose, tick, edit, undo, redo, open_drag, drag, drop_drag, abandon_drag, ask, save, Answer, number, edit_answer, ticked, told, written, State, step_p}
use Rattle.refusals.specs.Outward.{Outward, made, sheet_counts, book_counts, load, next_name, next_name_out, texture_name_out, reach, uvs, corners, translate, rotate_point}

-- ---- the number

-- A name that is handed out as a part of the sheet or of the book has no number: it is empty where the call is declined, and else a field of 24 bytes.
abbrev pub NameSays : List ℕ → ℕ → Type 0
NameSays k n = ((n ≡ 0 → ⊥) → k ≡ []) × (n ≡ 0 → length k ≡ name_bytes)

-- what an answer says of the refusal n
abbrev pub Says : Answer → ℕ → Type 0
Says (number m) n = m ≡ n
Says (edit_answer m same) n = m ≡ n
Says (ticked m a k) n = m ≡ n
Says (told (one r)) n = r.refusal ≡ n
Says (told (tables r)) n = r.refusal ≡ n
Says (told (resolved_pane r)) n = r.refusal ≡ n
Says (told (resolved_layer r)) n = r.refusal ≡ n
Says (told (cascaded r)) n = r.refusal ≡ n
Says (told (name k)) n = NameSays k n
Says (written r) n = r.refusal ≡ n

abbrev pub Answers : List ℕ → Outward → ℕ → Type 0
Answers s (made c t) n = Says (step_p s c t).1 n
Answers s sheet_counts n = (sheet_counts_of s).refusal ≡ n
Answers s (book_counts b) n = (book_counts_of b).refusal ≡ n
Answers s (load ks) n = (loaded_of s ks).refusal ≡ n
Answers s (next_name a) n = NameSays (next_name_of s a) n
Answers s (next_name_out a o) n = (next_name_into s a o).refusal ≡ n
Answers s (texture_name_out b m slot t o) n = (texture_name_into s b t.player t.keys m slot o).refusal ≡ n
Answers s (reach b ks ls a channels panes) n = (reach_of s b ks ls a channels panes).refusal ≡ n
Answers s (uvs ls ss o) n = (uvs_of ls ss o).refusal ≡ n
Answers s (corners c size ox oy r) n = (placed_of c size ox oy r).refusal ≡ n
Answers s (translate k d) n = (moved_of k d).refusal ≡ n
Answers s (rotate_point p c r) n = (turned_of p c r).refusal ≡ n

-- ---- what else is answered where a call is declined: "numbers alone come back"

-- not unchanged, a tick that met nothing and names nothing, a reading of nothing, +0 throughout, an empty name
abbrev pub Alone : Answer → Type 0
Alone (number m) = Unit {0}
Alone (edit_answer m same) = same ≡ false
Alone (ticked m a k) = (a ≡ Idle) × (k ≡ [])
Alone (told (one r)) = r.reading ≡ Nothing
Alone (told (tables r)) = Unit {0}
Alone (told (resolved_pane r)) = r ≡ no_pane r.refusal
Alone (told (resolved_layer r)) = r ≡ no_layer r.refusal
Alone (told (cascaded r)) = Unit {0}
Alone (told (name k)) = k ≡ []
Alone (written r) = Unit {0}

-- a load gives a fresh player: there is none before it that could come back
abbrev pub AnswersAlone : List ℕ → Outward → Type 0
AnswersAlone s (made c t) = Alone (step_p s c t).1
AnswersAlone s sheet_counts = sheet_counts_of s ≡ no_sheet_counts (sheet_counts_of s).refusal
AnswersAlone s (book_counts b) = book_counts_of b ≡ no_book_counts (book_counts_of b).refusal
AnswersAlone s (load ks) = (loaded_of s ks).player ≡ fresh_player
AnswersAlone s (next_name a) = next_name_of s a ≡ []
AnswersAlone s (next_name_out a o) = Unit {0}
AnswersAlone s (texture_name_out b m slot t o) = Unit {0}
AnswersAlone s (reach b ks ls a channels panes) = Unit {0}
AnswersAlone s (uvs ls ss o) = Unit {0}
AnswersAlone s (corners c size ox oy r) = (placed_of c size ox oy r).corners ≡ no_corners
AnswersAlone s (translate k d) = (moved_of k d).corners ≡ no_corners
AnswersAlone s (rotate_point p c r) = (turned_of p c r).point ≡ no_point

-- ---- what was lent

-- The player, which goes in by value and comes back; lent bytes, and lent numbers, keys first. A load takes no player.
pub record Lent : Type 0 where
  pub player : List Player
  pub bytes : List (List ℕ)
  pub numbers : List (List Float)

-- a player with its keys, and the outputs of a reading behind them
abbrev pub lent_with : State → List (List ℕ) → List (List Float) → Lent
lent_with t bs ns = record { player = t.player ∷ []; bytes = bs; numbers = t.keys.frames ∷ t.keys.values ∷ t.keys.slopes ∷ ns }

abbrev pub lent_keys : Keys → Lent
lent_keys ks = record { player = []; bytes = []; numbers = ks.frames ∷ ks.values ∷ ks.slopes ∷ [] }

abbrev pub lent_out : List (List ℕ) → List (List Float) → Lent
lent_out bs ns = record { player = []; bytes = bs; numbers = ns }

-- both sets of keys, and the outputs for channels and panes
abbrev pub lent_both : Keys → Keys → List ℕ → List ℕ → Lent
lent_both ks ls channels panes =
    record {
      player = [];
      bytes = channels ∷ panes ∷ [];
      numbers = ks.frames ∷ ks.values ∷ ks.slopes ∷ ls.frames ∷ ls.values ∷ ls.slopes ∷ [];
    }

-- before a reading, and after it
abbrev pub lent_to : State → Ask → Lent
lent_to t (pane_channel i c) = lent_with t [] []
lent_to t (material_channel m c) = lent_with t [] []
lent_to t (all marks numbers) = lent_with t (marks ∷ []) (numbers ∷ [])
lent_to t (pane i) = lent_with t [] []
lent_to t (layer m k) = lent_with t [] []
lent_to t (texture m k) = lent_with t [] []
lent_to t (cascade visible alpha influence) = lent_with t (visible ∷ []) (alpha ∷ influence ∷ [])

abbrev pub left_by : State → Told → Lent
left_by t (one r) = lent_with t [] []
left_by t (tables r) = lent_with t (r.marks ∷ []) (r.numbers ∷ [])
left_by t (resolved_pane r) = lent_with t [] []
left_by t (resolved_layer r) = lent_with t [] []
left_by t (name k) = lent_with t [] []
left_by t (cascaded r) = lent_with t (r.visible ∷ []) (r.alpha ∷ r.influence ∷ [])

abbrev pub call_before : Call → State → Lent
call_before (play a) t = lent_with t [] []
call_before (pose a x) t = lent_with t [] []
call_before (tick dt fps) t = lent_with t [] []
call_before (edit track key r) t = lent_with t [] []
call_before undo t = lent_with t [] []
call_before redo t = lent_with t [] []
call_before (open_drag track key) t = lent_with t [] []
call_before (drag x v) t = lent_with t [] []
call_before drop_drag t = lent_with t [] []
call_before abandon_drag t = lent_with t [] []
call_before (ask b q) t = lent_to t q
call_before (save o) t = lent_with t (o ∷ []) []

abbrev pub call_after : State × Answer → Lent
call_after (t, number m) = lent_with t [] []
call_after (t, edit_answer m same) = lent_with t [] []
call_after (t, ticked m a k) = lent_with t [] []
call_after (t, told r) = left_by t r
call_after (t, written r) = lent_with t (r.out ∷ []) []

abbrev pub before : Outward → Lent
before (made c t) = call_before c t
before sheet_counts = lent_out [] []
before (book_counts b) = lent_out [] []
before (load ks) = lent_keys ks
before (next_name a) = lent_out [] []
before (next_name_out a o) = lent_out (o ∷ []) []
before (texture_name_out b m slot t o) = lent_with t (o ∷ []) []
before (reach b ks ls a channels panes) = lent_both ks ls channels panes
before (uvs ls ss o) = lent_out [] (o ∷ [])
before (corners c size ox oy r) = lent_out [] []
before (translate k d) = lent_out [] []
before (rotate_point p c r) = lent_out [] []

-- counts, names, corners and turned points are answers, and no call changes a player that it doesn't hand back
abbrev pub after : List ℕ → Outward → Lent
after s (made c t) = call_after (step_p s c t)
after s sheet_counts = lent_out [] []
after s (book_counts b) = lent_out [] []
after s (load ks) = lent_keys (loaded_of s ks).keys
after s (next_name a) = lent_out [] []
after s (next_name_out a o) = lent_out ((next_name_into s a o).out ∷ []) []
after s (texture_name_out b m slot t o) = lent_with t ((texture_name_into s b t.player t.keys m slot o).out ∷ []) []
after s (reach b ks ls a channels panes) = let r = reach_of s b ks ls a channels panes in lent_both ks ls r.channels r.panes
after s (uvs ls ss o) = lent_out [] ((uvs_of ls ss o).out ∷ [])
after s (corners c size ox oy r) = lent_out [] []
after s (translate k d) = lent_out [] []
after s (rotate_point p c r) = lent_out [] []
