-- Demand 1, "declined exactly when", over every outward call. Where n is the number of the first row of its list that doesn't hold, the call answers n,
-- and where each row holds, it answers 0. And the other way: a call that answers 0 has every row, and one that answers another number has a row that
-- doesn't hold; the first such row's number is the answer. A name that is handed out as a part answers no number: it is empty, or it is a whole field.
-- (That every call ends is part of what it is for a function of Rattle to be proved.) Assumes nothing.
use Prim.Native.Nat.{ℕ, zero, suc}
use mathlib.Core.Path.{◌≡◌, refl, sym, subst, ◌∙◌, ap}
use mathlib.Core.List.{List}
use native.Mathlib.Omega.{arith}
use lib.ListN.{length}
use Rattle.laws.specs.Rows.{Hold, holds_then, Fails, declines_then, Decided, none_fails, one_fails, only_then, held}
use Rattle.machine.specs.Asks.{one, tables, resolved_pane, resolved_layer, name, cascaded}
use Rattle.machine.specs.Calls.{Answer, number, edit_answer, ticked, told, written, step_p}
use Rattle.refusals.specs.Outward.{Outward, made, sheet_counts, book_counts, load, next_name, next_name_out, texture_name_out, reach, uvs, corners, translate, rotate_point}
use Rattle.refusals.specs.Table.{table_of, refusal_of}
use Rattle.refusals.specs.Given.{NameSays, Says, Answers}
use Rattle.refusals.proofs.Numbers.{answers_the_number}
use Rattle.refusals.proofs.Order.{none_is_zero}

-- ---- then

pub declined_when : (s : List ℕ) (c : Outward) (n : ℕ) → Fails n (table_of s c) → Answers s c n
declined_when s c n f = subst (Answers s c) (declines_then n (table_of s c) f) (answers_the_number s c)

pub accepted_when : (s : List ℕ) (c : Outward) → Hold (table_of s c) → Answers s c 0
accepted_when s c h = subst (Answers s c) (holds_then (table_of s c) h) (answers_the_number s c)

-- ---- only then

-- of two numbers that one answer says, the second is 0 where the first is
number_same : {x n m : ℕ} → x ≡ n → x ≡ m → n ≡ 0 → m ≡ 0
number_same a b z = sym b ∙ a ∙ z

name_same : (k : List ℕ) (n m : ℕ) → NameSays k n → NameSays k m → n ≡ 0 → m ≡ 0
name_same k n zero a b z = refl
name_same k n (suc m) a b z = absurd (let e = sym (a.1 z) ∙ ap length (b.0 (λ q. omega arith)) in omega arith)

says_same : (x : Answer) (n m : ℕ) → Says x n → Says x m → n ≡ 0 → m ≡ 0
says_same (number k) n m = number_same
says_same (edit_answer k same) n m = number_same
says_same (ticked k t f) n m = number_same
says_same (told (one r)) n m = number_same
says_same (told (tables r)) n m = number_same
says_same (told (resolved_pane r)) n m = number_same
says_same (told (resolved_layer r)) n m = number_same
says_same (told (cascaded r)) n m = number_same
says_same (told (name k)) n m = name_same k n m
says_same (written r) n m = number_same

answers_same : (s : List ℕ) (c : Outward) (n m : ℕ) → Answers s c n → Answers s c m → n ≡ 0 → m ≡ 0
answers_same s (made c t) n m = says_same (step_p s c t).1 n m
answers_same s sheet_counts n m = number_same
answers_same s (book_counts b) n m = number_same
answers_same s (load ks) n m = number_same
answers_same s (next_name a) n m = name_same _ n m
answers_same s (next_name_out a o) n m = number_same
answers_same s (texture_name_out b k slot t o) n m = number_same
answers_same s (reach b ks ls a channels panes) n m = number_same
answers_same s (uvs ls ss o) n m = number_same
answers_same s (corners c size ox oy r) n m = number_same
answers_same s (translate k d) n m = number_same
answers_same s (rotate_point p c r) n m = number_same

pub accepted_only : (s : List ℕ) (c : Outward) → Answers s c 0 → Hold (table_of s c)
accepted_only s c a = held (table_of s c) (none_is_zero s c) (answers_same s c 0 (refusal_of s c) a (answers_the_number s c) refl)

pub declined_only : (s : List ℕ) (c : Outward) (n : ℕ) → Answers s c n → (n ≡ 0 → ⊥) → Fails (refusal_of s c) (table_of s c)
declined_only s c n a d = go (only_then (table_of s c))
  where
    go : Decided (table_of s c) → Fails (refusal_of s c) (table_of s c)
    go (none_fails h e) = absurd (d (answers_same s c (refusal_of s c) n (answers_the_number s c) a e))
    go (one_fails f) = f
