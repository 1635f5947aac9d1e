-- The keys of a freshly loaded player are as the claim asks: as many as the sheet says, in keeping with the key rules, and f32. Assumes nothing.
use Prim.Native.Nat.{ℕ, ◌+◌, ◌*◌, ◌<◌, ◌≤◌}
use mathlib.Core.Path.{◌≡◌, refl, sym, subst}
use mathlib.Core.Bool.{true}
use mathlib.Core.List.{List}
use native.Mathlib.Omega.{arith}
use native.Mathlib.Decide.{dec_lt}
use borrow.Author.Tests.{eq-eqb}
use lib.Dec.{T}
use lib.ListN.{length, get_or, get_or-eq_default}
use lib.Ieee.{Float, nan, binary32, fits}
use lib.Ieee.Bits.{of_bits-fits}
use Rattle.laws.specs.Rows.{declines, held_at, row_in}
use Rattle.laws.specs.Table.{table_length, table_at}
use Rattle.field.specs.Read.{float_at, u32_at}
use Rattle.sheet.specs.Sizes.{key_count}
use Rattle.sheet.specs.Sheet.{sheet_ok}
use Rattle.keys.specs.Keys.{keys_ok}
use Rattle.keys.specs.Stored.{floats_from, stored_frames, stored_values, stored_slopes, frames_long, values_long, slopes_long}
use Rattle.keys.specs.Load.{arrays_ok, lengths_ok, load_table, load_of}
use Rattle.curve.specs.Before.{Held}
use Rattle.edit.specs.Keys.{Keys, keys}
use Rattle.menu.specs.Calls.{loaded_of}
use Rattle.machine.proofs.Invariant.{Sane}

-- the number of a load is its list's
pub not_declined : (s : List ℕ) (ks : Keys) → (loaded_of s ks).refusal ≡ 0 → declines (load_table s (length ks.frames) (length ks.values) (length ks.slopes)) ≡ 0
unfolding loaded_of load_of
not_declined s ks e = e

-- a load that is not declined leaves the sheet's keys
pub loaded_keys : (s : List ℕ) (ks : Keys) → (loaded_of s ks).refusal ≡ 0 → (loaded_of s ks).keys ≡ keys (stored_frames s) (stored_values s) (stored_slopes s)
unfolding loaded_of load_of
loaded_keys s ks e = rw (not_declined s ks e)

pub loaded_sheet : (s : List ℕ) (ks : Keys) → (loaded_of s ks).refusal ≡ 0 → sheet_ok s ≡ true
unfolding load_table
loaded_sheet s ks e = held_at 1 (load_table s (length ks.frames) (length ks.values) (length ks.slopes)) (search row_in) tt (not_declined s ks e)

loaded_rules : (s : List ℕ) (ks : Keys) → (loaded_of s ks).refusal ≡ 0 → keys_ok s (stored_frames s) (stored_values s) (stored_slopes s) ≡ true
unfolding load_table
loaded_rules s ks e = held_at 4 (load_table s (length ks.frames) (length ks.values) (length ks.slopes)) (search row_in) tt (not_declined s ks e)

-- each stored number is the value of a bit pattern
floats_held : (s : List ℕ) (at stride n : ℕ) → Held (floats_from s at stride n)
floats_held s at stride n i = go (dec_lt i n)
  where
    go : Dec (i < n) → T (fits binary32 (get_or (floats_from s at stride n) i nan))
    go (yes l) = unfold float_at in subst (λ (x : Float). T (fits binary32 x)) (sym (table_at n i (λ k. float_at s (at + k * stride)) nan l)) (of_bits-fits binary32 (u32_at s (at + i * stride)))
    go (no l) = unfold fits in let h : length (floats_from s at stride n) ≤ i = omega (arith, table_length n (λ k. float_at s (at + k * stride))) in rw (get_or-eq_default (floats_from s at stride n) nan h) tt

pub loaded_sane : (s : List ℕ) (ks : Keys) → (loaded_of s ks).refusal ≡ 0 → Sane s (loaded_of s ks).keys
unfolding arrays_ok lengths_ok stored_frames stored_values stored_slopes
loaded_sane s ks e =
    subst (Sane s) (sym (loaded_keys s ks e))
    (record {
      long = rw (frames_long s, values_long s, slopes_long s, eq-eqb (key_count s) (key_count s) refl);
      rules = loaded_rules s ks e;
      held = record { frames = floats_held s _ _ _; values = floats_held s _ _ _; slopes = floats_held s _ _ _ };
    })
