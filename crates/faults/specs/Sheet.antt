-- The rules of a sheet's layout (document 01, "Sheet and book") as a list of tests, in the order of the definition `sheet_ok`. Definitions, and the law that
-- all of them hold exactly where the sheet keeps its layout.
use Rattle.std.specs.Prelude.{ℕ, ◌+◌, ◌-◌, ◌*◌, ◌<◌, ◌≤◌, List, [], ◌∷◌, ◌++◌, Bool, true, false, ◌&&◌, ◌||◌, ◌≡◌, refl, length, leb, ltb, eqb, Some, None, Ok, Err}
use Rattle.std.proofs.Common.{sym, ◌∙◌, le-leb, eq-eqb, ne_eqb}
use Rattle.std.proofs.lemmas.Bool.{lt-leb}
use Rattle.laws.specs.Below.{all_below, all_of, all_same}
use Rattle.laws.specs.Sum.{sum_below}
use Rattle.field.specs.Read.{byte_at, u16_at}
use Rattle.field.specs.Name.{name_bytes, zero_byte, empty_name}
use Rattle.sheet.specs.Sizes.{animation_count, content_count, target_count, key_count, texture_count, head_bytes, animation_bytes, content_bytes, target_bytes, row_name, animations_at, contents_at, targets_at, sheet_bytes}
use Rattle.sheet.specs.Sheet.{sizes_ok, length_ok, animation_ok, content_ok, keys_of, target_from, target_ok, targets_ok, sheet_ok}
use Rattle.sheet.specs.Checked.{Checked, checked}
use Rattle.faults.specs.declared.fault.Fault.{Fault}
use Rattle.faults.specs.Verdict.{first_tells, each_tells}
use Rattle.faults.specs.declared.rules.Rule.TheVariants as rule
use Rattle.faults.specs.declared.fault.Part.TheVariants as part
use Rattle.faults.specs.Tests.{Told, Test, fault, ask, verdict, all_hold, each_below, or_else, Tells, and_assoc, and_unit, hold_join, hold_each, held_join, failed_join, accepts, other_failed, fault_join, tells}

-- the sizes, each in its range, and zero
unfoldable pub size_tests : List ℕ → List Test
size_tests s =
    ask rule.AnimationsRange (leb 1 (animation_count s) && leb (animation_count s) 8) part.Whole 0 (animation_count s) None
    ∷ ask rule.ContentsRange (leb (content_count s) 64) part.Whole 2 (content_count s) None
    ∷ ask rule.TargetsRange (leb (target_count s) 256) part.Whole 4 (target_count s) None
    ∷ ask rule.KeysRange (leb (key_count s) 2048) part.Whole 6 (key_count s) None
    ∷ ask rule.TexturesRange (leb (texture_count s) 64) part.Whole 8 (texture_count s) None
    ∷ ask rule.HeadZero (eqb (u16_at s 10) 0) part.Whole 10 (u16_at s 10) None ∷ []

-- byte k of the next name of animation i, which is at `at`: zero where next is absent
unfoldable pub next_test : List ℕ → ℕ → ℕ → ℕ → ℕ → List Test
next_test s i next at k = ask rule.NextAbsent (eqb next 1 || zero_byte s at k) (part.Row i) (at + k) (byte_at s (at + k)) None ∷ []

-- animation i, whose row is at `at`: looping, next present, next name
abbrev animation_asks : List ℕ → ℕ → ℕ → List Test
animation_asks s i at =
    ask rule.Looping (leb (byte_at s (at + 2)) 1) (part.Row i) (at + 2) (byte_at s (at + 2)) None
    ∷ ask rule.NextPresent (leb (byte_at s (at + 3)) 1) (part.Row i) (at + 3) (byte_at s (at + 3)) None
    ∷ each_below name_bytes (next_test s i (byte_at s (at + 3)) (at + row_name))

unfoldable pub animation_tests : List ℕ → ℕ → List Test
animation_tests s i = animation_asks s i (animations_at + i * animation_bytes)

-- content i, whose row is at `at` and the row before it at `last`, where there are a animations: type, zero, animation below a, and not below the row before's
abbrev content_asks : List ℕ → ℕ → ℕ → ℕ → ℕ → List Test
content_asks s a i at last =
    ask rule.ContentType (leb (byte_at s (at + 1)) 4) (part.Row i) (at + 1) (byte_at s (at + 1)) None
    ∷ ask rule.ContentZero (eqb (u16_at s (at + 2)) 0) (part.Row i) (at + 2) (u16_at s (at + 2)) None
    ∷ ask rule.ContentAnimation (ltb (byte_at s at) a) (part.Row i) at (byte_at s at) (Some a)
    ∷ ask rule.ContentOrder (leb (byte_at s last) (byte_at s at)) (part.Row i) at (byte_at s at) (Some (byte_at s last)) ∷ []

unfoldable pub content_tests : List ℕ → ℕ → ℕ → ℕ → List Test
content_tests s base a i = content_asks s a i (base + i * content_bytes) (base + (i - 1) * content_bytes)

-- target i, whose row is at `at` and the row before it at `last`, where there are c contents and the earlier counts sum to f: curve, zero, content below c, and
-- not below the row before's, first key f
abbrev target_asks : List ℕ → ℕ → ℕ → ℕ → ℕ → ℕ → List Test
target_asks s c i f at last =
    ask rule.TargetCurve (leb (byte_at s (at + 8)) 2) (part.Row i) (at + 8) (byte_at s (at + 8)) None
    ∷ ask rule.TargetZero (eqb (byte_at s (at + 9)) 0) (part.Row i) (at + 9) (byte_at s (at + 9)) None
    ∷ ask rule.TargetContent (ltb (u16_at s at) c) (part.Row i) at (u16_at s at) (Some c)
    ∷ ask rule.TargetOrder (leb (u16_at s last) (u16_at s at)) (part.Row i) at (u16_at s at) (Some (u16_at s last))
    ∷ ask rule.FirstKey (eqb (u16_at s (at + 10)) f) (part.Row i) (at + 10) (u16_at s (at + 10)) (Some f) ∷ []

unfoldable pub target_after : List ℕ → ℕ → ℕ → ℕ → ℕ → List Test
target_after s base c i f = target_asks s c i f (base + i * target_bytes) (base + (i - 1) * target_bytes)

unfoldable pub target_tests : List ℕ → ℕ → ℕ → ℕ → List Test
target_tests s base c i = target_after s base c i (sum_below i (keys_of s base))

-- all n counts sum to k, the sheet's key count
unfoldable pub count_test : List ℕ → ℕ → ℕ → ℕ → List Test
count_test s base n k = ask rule.CountSum (eqb (sum_below n (keys_of s base)) k) part.Whole 6 k (Some (sum_below n (keys_of s base))) ∷ []

unfoldable pub targets_tests : List ℕ → ℕ → ℕ → ℕ → ℕ → List Test
targets_tests s base c n k = each_below n (target_tests s base c) ++ count_test s base n k

-- the rows, part by part
unfoldable pub row_tests : List ℕ → List Test
row_tests s =
    each_below (animation_count s) (animation_tests s) ++
    (each_below (content_count s) (content_tests s (contents_at s) (animation_count s)) ++
    targets_tests s (targets_at s) (content_count s) (target_count s) (key_count s))

-- the length is that of the sizes, and the rows follow
unfoldable pub length_tests : List ℕ → List Test
length_tests s = ask rule.SheetLength (eqb (length s) (sheet_bytes s)) part.Whole (length s) (length s) (Some (sheet_bytes s)) ∷ row_tests s

-- the sizes are there, in their ranges, and the rest follows
unfoldable pub sheet_tests : List ℕ → List Test
sheet_tests s = ask rule.SheetShort (leb head_bytes (length s)) part.Whole (length s) (length s) (Some head_bytes) ∷ (size_tests s ++ length_tests s)

-- ---- all tests hold exactly where the layout is kept

-- what is asked unless b of each is asked of all unless b
or_all : (b : Bool) (n : ℕ) (p : ℕ → Bool) → all_below n (λ k. b || p k) ≡ (b || all_below n p)
or_all true n p = all_of n _ (λ k l. refl)
or_all false n p = refl

pub animation_holds : (s : List ℕ) (i : ℕ) → all_hold (animation_tests s i) ≡ animation_ok s i
unfolding animation_tests animation_ok all_hold next_test empty_name
animation_holds s i =
    let at = animations_at + i * animation_bytes in
    rw (
      hold_each name_bytes (next_test s i (byte_at s (at + 3)) (at + row_name)),
      all_same name_bytes _ _ (λ k l. and_unit (eqb (byte_at s (at + 3)) 1 || zero_byte s (at + row_name) k)),
      or_all (eqb (byte_at s (at + 3)) 1) name_bytes (zero_byte s (at + row_name)),
    )
    (sym (and_assoc (leb (byte_at s (at + 2)) 1) (leb (byte_at s (at + 3)) 1) _))

pub content_holds : (s : List ℕ) (base a i : ℕ) → all_hold (content_tests s base a i) ≡ content_ok s base a i
unfolding content_tests content_ok all_hold
content_holds s base a i = simp (and_assoc, and_unit)

pub target_holds : (s : List ℕ) (base c i : ℕ) → all_hold (target_tests s base c i) ≡ target_ok s base c i
unfolding target_tests target_after target_ok target_from all_hold
target_holds s base c i = simp (and_assoc, and_unit)

pub targets_hold : (s : List ℕ) (base c n k : ℕ) → all_hold (targets_tests s base c n k) ≡ targets_ok s base c n k
unfolding targets_tests count_test targets_ok all_hold
targets_hold s base c n k = rw (hold_join, hold_each n (target_tests s base c), all_same n _ _ (λ i l. target_holds s base c i), and_unit)

pub sizes_hold : (s : List ℕ) → all_hold (size_tests s) ≡ sizes_ok s
unfolding size_tests sizes_ok all_hold
sizes_hold s = simp (and_assoc, and_unit)

pub sheet_holds : (s : List ℕ) → all_hold (sheet_tests s) ≡ sheet_ok s
unfolding sheet_tests length_tests row_tests sheet_ok length_ok all_hold
sheet_holds s =
    let a = animation_count s in
    let c = content_count s in
    rw (
      hold_join (size_tests s) (length_tests s),
      sizes_hold s,
      hold_join (each_below a (animation_tests s)),
      hold_each a (animation_tests s),
      all_same a _ _ (λ i l. animation_holds s i),
      hold_join (each_below c (content_tests s (contents_at s) a)),
      hold_each c (content_tests s (contents_at s) a),
      all_same c _ _ (λ i l. content_holds s (contents_at s) a i),
      targets_hold s (targets_at s) c (target_count s) (key_count s),
    )
    (simp and_assoc)

-- ---- the answer, as the code finds it

pub sheet_told : (s : List ℕ) {r : Told} → r ≡ verdict (sheet_tests s) → Tells (sheet_ok s) (sheet_tests s) r
sheet_told s e = tells (sheet_tests s) (sheet_holds s) e

-- where no rule of the layout is broken, s is a sheet
pub sheet_kept : (s : List ℕ) → verdict (sheet_tests s) ≡ Ok tt → Checked s
sheet_kept s e = checked s (sym (sheet_holds s) ∙ accepts (sheet_tests s) e)

-- the first target that breaks a rule is told
pub target_told : (s : List ℕ) (base c n k i sum : ℕ) (f : Fault) → i < n → verdict (each_below i (target_tests s base c)) ≡ Ok tt → sum ≡ sum_below i (keys_of s base)
    → verdict (target_after s base c i sum) ≡ Err f → verdict (targets_tests s base c n k) ≡ Err f
unfolding targets_tests
target_told s base c n k i sum f l h e q =
    first_tells (each_below n (target_tests s base c)) (count_test s base n k) f (each_tells i n (target_tests s base c) f l h (unfold target_tests in rw e at q))

-- ---- the answer, part by part

pub rows_told : (s : List ℕ) → verdict (row_tests s) ≡
    or_else (verdict (each_below (animation_count s) (animation_tests s)))
    (or_else (verdict (each_below (content_count s) (content_tests s (contents_at s) (animation_count s))))
    (verdict (targets_tests s (targets_at s) (content_count s) (target_count s) (key_count s))))
unfolding row_tests
rows_told s =
    rw (
      fault_join (each_below (animation_count s) (animation_tests s)),
      fault_join (each_below (content_count s) (content_tests s (contents_at s) (animation_count s))),
    )

-- the sizes are not all there
pub sheet_short_lem : (s : List ℕ) {r : Told} → length s < head_bytes → r ≡ Err (fault rule.SheetShort part.Whole (length s) (length s) (Some head_bytes)) → Tells (sheet_ok s) (sheet_tests s) r
sheet_short_lem s l e = sheet_told s (e ∙ (unfold sheet_tests verdict in rw (lt-leb head_bytes (length s) l)))

module _ (s : List ℕ) {f : Told} (l : head_bytes ≤ length s) (e : f ≡ verdict (size_tests s)) where
  unsized : (f ≡ Ok tt → ⊥) → all_hold (size_tests s) ≡ false
  unsized n = other_failed (size_tests s) (λ z. n (e ∙ z))

  -- a size is out of its range
  pub sheet_sizes : (f ≡ Ok tt → ⊥) → Tells (sheet_ok s) (sheet_tests s) f
  sheet_sizes n = sheet_told s (e ∙ (unfold sheet_tests verdict in rw (le-leb head_bytes (length s) l) (sym (failed_join (size_tests s) (length_tests s) (unsized n)))))

  sized : f ≡ Ok tt → verdict (sheet_tests s) ≡ verdict (length_tests s)
  unfolding sheet_tests verdict
  sized z = rw (le-leb head_bytes (length s) l) (held_join (size_tests s) (length_tests s) (accepts (size_tests s) (sym e ∙ z)))

  -- the length is not theirs
  pub sheet_long : {r : Told} → f ≡ Ok tt → (length s ≡ sheet_bytes s → ⊥) → r ≡ Err (fault rule.SheetLength part.Whole (length s) (length s) (Some (sheet_bytes s))) → Tells (sheet_ok s) (sheet_tests s) r
  sheet_long {r} z n q = sheet_told s {r = r} (rw (q, sized z) (unfold length_tests verdict in rw (ne_eqb (length s) (sheet_bytes s) n)))

  -- the rows decide
  pub sheet_rows_lem : {r : Told} → f ≡ Ok tt → length s ≡ sheet_bytes s → r ≡ verdict (row_tests s) → Tells (sheet_ok s) (sheet_tests s) r
  sheet_rows_lem {r} z n q = sheet_told s {r = r} (rw (q, sized z) (unfold length_tests verdict in rw (eq-eqb (length s) (sheet_bytes s) n)))
