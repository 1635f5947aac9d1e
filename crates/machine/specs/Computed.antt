-- What the known poses compute (specs/Poses has the table): answers, keys and counts as lists of numbers, by the definitions that the contracts of the
-- outward functions cite. Readings, ticks, edits and the cascade are made by calls on whole sheets and books: the sheet is loaded, and played or posed by
-- its calls. Definitions only.
use Rattle.std.specs.Prelude.{ℕ, Bool, true, cond, List, [], ◌∷◌, ◌++◌, map, replicate, get_or, take, Float}
use Rattle.std.specs.Float.{binary32, nan}
use Rattle.std.specs.Float.Ieee.{to_bits}
use Rattle.float.specs.Numbers.{zero'}
use Rattle.sheet.specs.Sizes.{key_count}
use Rattle.curve.specs.declared.Key.{Key}
use Rattle.curve.specs.Curve.{kind_constant, kind_hermite}
use Rattle.uv.specs.Calls.{uvs_of}
use Rattle.corner.specs.Calls.{placed_of}
use Rattle.reading.specs.declared.Reading.{Reading}
use Rattle.reading.specs.declared.Reading.TheVariants.{Nothing, Number, Shown, Row, Level}
use Rattle.player.specs.declared.Player.{Player}
use Rattle.player.specs.declared.Tick.{Tick}
use Rattle.player.specs.declared.Tick.TheVariants.{Idle, Running, Ended, Next}
use Rattle.edit.specs.declared.request.Request.TheVariants as request
use Rattle.edit.specs.Keys.{Keys, keys}
use Rattle.player.specs.Player.{fresh_player}
use Rattle.player.specs.Parts.{with_view}
use Rattle.menu.specs.declared.playing.Played.{Played}
use Rattle.menu.specs.declared.playing.Ticked.{Ticked}
use Rattle.menu_readings.specs.declared.single.ReadOne.{ReadOne}
use Rattle.menu.specs.Calls.{loaded_of, play_of, pose_of, tick_of, edit_of, save_of, next_name_of}
use Rattle.menu_readings.specs.Readings.{read_pane_of, read_material_of, cascade_of}
use Rattle.machine.specs.Runs.{last, answers}
use Rattle.machine.specs.Calls as calls
use Rattle.machine.specs.Calls.{Call, edit, undo, open_drag, Answer, State, step_p}
use Rattle.machine.specs.Small.{over, minus, whole, Track, sheet, following, book, parent, child, material}

-- ---- answers as numbers: a refusal first, and an f32 by its bits

unfoldable pub bits : Float → ℕ
bits x = to_bits binary32 x

-- what a reading answers, by document 01's order: nothing, a number, shown or hidden, a texture row, a level
unfoldable pub told : Reading → List ℕ
told Nothing = 0 ∷ []
told (Number v) = 1 ∷ bits v ∷ []
told (Shown b) = 2 ∷ cond b 1 0 ∷ []
told (Row k) = 3 ∷ k ∷ []
told (Level l) = 4 ∷ l ∷ []

unfoldable pub read_one : ReadOne → List ℕ
read_one r = r.refusal ∷ told r.reading

-- what a tick answers: idle, running, ended, ended with a next name
unfoldable pub met : Tick → ℕ
met Idle = 0
met Running = 1
met Ended = 2
met Next = 3

unfoldable pub ticked : Ticked → List ℕ
ticked r = r.refusal ∷ met r.answer ∷ bits r.player.frame ∷ []

-- what a player selects, whether it plays, whether preview is on, and its frame
unfoldable pub seen : Player → List ℕ
seen p = p.selection ∷ cond p.playing 1 0 ∷ cond p.preview 1 0 ∷ bits p.frame ∷ []

-- its counts: reach, redo, accepted, undone, redone and standing; and whether a drag is open
unfoldable pub counted : Player → List ℕ
counted p = p.reach ∷ p.redo ∷ p.accepted ∷ p.undone ∷ p.redone ∷ p.standing ∷ cond p.drag.«open» 1 0 ∷ []

unfoldable pub played : Played → List ℕ
played r = r.refusal ∷ seen r.player

-- ---- calls on a sheet

-- its keys, loaded
unfoldable pub loaded : List ℕ → Keys
loaded s = let blank = replicate (key_count s) zero' in (loaded_of s (keys blank blank blank)).keys

-- a fresh player posed at x, and one that plays and has come to frame x
unfoldable pub posed : List ℕ → Float → Player
posed s x = (pose_of s fresh_player 0 x).player

unfoldable pub playing : List ℕ → Float → Player
playing s x = (tick_of s (play_of s fresh_player 0).player x (whole 1)).player

-- a player of this view, set by hand
unfoldable pub viewing : ℕ → Bool → Bool → Float → Player
viewing selection plays preview x = with_view fresh_player (record { selection = selection; playing = plays; preview = preview; frame = x })

-- flags of a pane: visible, and influencing alpha
abbrev pub visible : ℕ
visible = 1

abbrev pub influences : ℕ
influences = 3

-- channel c of the parent, and of the material, at x
unfoldable pub read_pane : List ℕ → Float → ℕ → List ℕ
read_pane s x c = read_one (read_pane_of s (book influences) (posed s x) (loaded s) 0 c)

unfoldable pub read_material : List ℕ → Float → ℕ → List ℕ
read_material s x c = read_one (read_material_of s (book influences) (posed s x) (loaded s) 0 c)

-- ---- the sheets

abbrev pub key : Float → Float → Float → Key
key frame value slope = record { frame = frame; value = value; slope = slope }

-- four letters, content types, raw numbers and channels
abbrev pub FLPA : List ℕ
FLPA = 70 ∷ 76 ∷ 80 ∷ 65 ∷ []

abbrev pub FLVI : List ℕ
FLVI = 70 ∷ 76 ∷ 86 ∷ 73 ∷ []

abbrev pub FLVC : List ℕ
FLVC = 70 ∷ 76 ∷ 86 ∷ 67 ∷ []

abbrev pub FLMC : List ℕ
FLMC = 70 ∷ 76 ∷ 77 ∷ 67 ∷ []

abbrev pub pane_type : ℕ
pane_type = 0

abbrev pub material_type : ℕ
material_type = 1

abbrev pub translate_x : ℕ
translate_x = 0

abbrev pub visible_channel : ℕ
visible_channel = 10

abbrev pub pane_alpha : ℕ
pane_alpha = 16

abbrev pub white_red : ℕ
white_red = 26

-- a track of the pane with this label, and of the material
unfoldable pub pane_track : ℕ → List ℕ → ℕ → ℕ → List Key → Track
pane_track label code raw curve ks = record { kind = pane_type; named = label; code = code; raw = raw; curve = curve; keys = ks }

unfoldable pub colour_track : ℕ → List Key → Track
colour_track raw ks = record { kind = material_type; named = material; code = FLMC; raw = raw; curve = kind_constant; keys = ks }

-- a curve that moves the parent
unfoldable pub moves : ℕ → List Key → List ℕ
moves curve ks = sheet 60 0 (pane_track parent FLPA translate_x curve ks ∷ [])

-- 60 frames of nothing, looping (1) or not (0)
unfoldable pub still : ℕ → List ℕ
still looping = sheet 60 looping []

-- the parent is shown by a curve of one value
unfoldable pub shows : Float → List ℕ
shows v = sheet 60 0 (pane_track parent FLVI 0 kind_constant (key zero' v zero' ∷ []) ∷ [])

-- the material's colour of this raw number is 7
unfoldable pub colours : ℕ → List ℕ
colours raw = sheet 60 0 (colour_track raw (key zero' (whole 7) zero' ∷ []) ∷ [])

-- parent and child have alpha 0.5, which is 127.5 / 255
unfoldable pub fades : List ℕ
fades =
    let half = key zero' (over 255 2) zero' ∷ [] in
    sheet 60 0 (pane_track parent FLVC pane_alpha kind_constant half ∷ pane_track child FLVC pane_alpha kind_constant half ∷ [])

-- ---- what is computed

-- a curve at x
unfoldable pub curve_at : ℕ → List Key → Float → List ℕ
curve_at curve ks x = read_pane (moves curve ks) x translate_x

-- a tick of a sheet that plays at frame x
unfoldable pub tick_at : List ℕ → Float → Float → Float → List ℕ
tick_at s x dt fps = ticked (tick_of s (playing s x) dt fps)

-- 60 frames of nothing, posed at 5: play and pose of it
unfoldable pub play_from5 : ℕ → List ℕ
play_from5 a = played (play_of (still 0) (posed (still 0) (whole 5)) a)

unfoldable pub pose_from5 : ℕ → Float → List ℕ
pose_from5 a x = played (pose_of (still 0) (posed (still 0) (whole 5)) a x)

-- dt seconds at 8 frames a second: what is met, and what is seen afterwards
unfoldable pub tick_on : List ℕ → Player → Float → List ℕ
tick_on s p dt = let r = tick_of s p dt (whole 8) in r.refusal ∷ met r.answer ∷ seen r.player

-- the last of two animations of 60 frames, with next names of their own, ticks from frame x: what is met and seen, and the name that `next_name`
-- then has for the selection
unfoldable pub end_from : Float → List ℕ
end_from x =
    let s = following 60 (4 ∷ 5 ∷ []) in
    let r = tick_of s (viewing 1 true true x) (over 1 2) (whole 8) in
    (r.refusal ∷ met r.answer ∷ seen r.player) ++ next_name_of s r.player.selection

-- channel x of the parent under a curve of the value 7, by a player of this view
unfoldable pub read_by : Player → List ℕ
read_by p = let s = moves kind_constant (key zero' (whole 7) zero' ∷ []) in read_one (read_pane_of s (book influences) p (loaded s) 0 translate_x)

-- key 0 moved to frame x, its value 1 kept: the frames that stand afterwards
unfoldable pub edit_to : List ℕ → Float → List ℕ
edit_to s x = let r = edit_of s (posed s zero') (loaded s) 0 0 (request.Key x (whole 1)) in r.refusal ∷ map bits r.keys.frames

-- a Hermite curve of two keys with slopes, the first at this frame with this value
unfoldable pub slopes : Float → Float → List ℕ
slopes x v = moves kind_hermite (key x v (whole 3) ∷ key (whole 8) (whole 16) (minus 2) ∷ [])

-- key 0 moved to frame 4 and value 1/2, and the sheet saved with these keys into a buffer: the refusal, and the buffer as it is left
unfoldable pub save_into : List ℕ → List ℕ → List ℕ
save_into s o =
    let r = edit_of s (posed s zero') (loaded s) 0 0 (request.Key (whole 4) (over 1 2)) in
    let g = save_of s (posed s zero') r.keys o in
    g.refusal ∷ g.out

-- calls on a sheet that is posed at its start: what each edit, drag and drop of them answers, and the state that they leave
unfoldable pub edits : List Answer → List ℕ
edits [] = []
edits (calls.edit_answer n same ∷ rest) = n ∷ cond same 1 0 ∷ edits rest
edits (calls.number n ∷ rest) = edits rest
edits (calls.ticked n t k ∷ rest) = edits rest
edits (calls.told r ∷ rest) = edits rest
edits (calls.written r ∷ rest) = edits rest

unfoldable pub start : List ℕ → State
start s = record { player = posed s zero'; keys = loaded s }

unfoldable pub answered : List ℕ → List Call → List ℕ
answered s cs = edits (answers (step_p s) cs (start s))

-- the counts, whether a drag is open, and frames, values and slopes of the keys
unfoldable pub left : List ℕ → List Call → List ℕ
left s cs =
    let t = last (step_p s) cs (start s) in
    counted t.player ++ map bits t.keys.frames ++ map bits t.keys.values ++ map bits t.keys.slopes

-- an edit of key 0 is made and undone, key 0 is opened, and then these calls are made
unfoldable pub dragged : List Call → List ℕ
dragged cs = left (slopes zero' (whole 1)) (edit 0 0 (request.Key (whole 2) (whole 9)) ∷ undo ∷ open_drag 0 0 ∷ cs)

-- a layer whose corners all have this pair, under an SRT: the pair of the top left corner
unfoldable pub uv_under : List Float → Float → Float → List ℕ
uv_under srt u v = let r = uvs_of (u ∷ v ∷ u ∷ v ∷ u ∷ v ∷ u ∷ v ∷ []) srt (replicate 24 zero') in r.refusal ∷ map bits (take 2 r.out)

-- centre (10, 20), size (4, 2), with these origins and no rotation: the top left corner
unfoldable pub top_left : ℕ → ℕ → List ℕ
top_left across down =
    let r = placed_of (record { x = whole 10; y = whole 20 }) (record { x = whole 4; y = whole 2 }) across down (record { x = zero'; y = zero'; z = zero' }) in
    r.refusal ∷ bits r.corners.topleft.x ∷ bits r.corners.topleft.y ∷ []

-- the child's alpha, its parent's flags being these
unfoldable pub child_alpha : ℕ → List ℕ
child_alpha flags =
    let two = replicate 2 zero' in
    let r = cascade_of fades (book flags) (posed fades zero') (loaded fades) (replicate 2 0) two two in
    r.refusal ∷ bits (get_or r.alpha 1 nan) ∷ []
