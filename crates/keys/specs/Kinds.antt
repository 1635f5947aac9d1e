-- The rules of a curve by its kind are those by the kind's number. Assumes nothing.
use Rattle.std.specs.Prelude.{ℕ, zero, suc, ◌≡◌, refl, List, Float}
use Rattle.std.proofs.Common.{arith, ne_eqb, sym, ◌∙◌}
use Rattle.laws.specs.Below.{all_below}
use Rattle.sheet.specs.Rows.{target_row}
use Rattle.curve.specs.Kind.{number, kind_of}
use Rattle.keys.specs.Rules.{curve_ok, key_rule, key_ok, track_ok, curve_by_key}

pub curve_kind : (n : ℕ) (fs vs ss : List Float) (first count : ℕ) → curve_ok (number (kind_of n)) fs vs ss first count ≡ curve_ok n fs vs ss first count
unfolding curve_ok
curve_kind zero fs vs ss first count = refl
curve_kind (suc zero) fs vs ss first count = refl
curve_kind (suc (suc n)) fs vs ss first count = rw (ne_eqb (suc (suc n)) 0 (λ e. omega arith), ne_eqb (suc (suc n)) 1 (λ e. omega arith))

pub rule_kind : (n : ℕ) (before frame value slope : Float) → key_rule (number (kind_of n)) before frame value slope ≡ key_rule n before frame value slope
unfolding key_rule
rule_kind zero before frame value slope = refl
rule_kind (suc zero) before frame value slope = refl
rule_kind (suc (suc n)) before frame value slope = rw (ne_eqb (suc (suc n)) 0 (λ e. omega arith), ne_eqb (suc (suc n)) 1 (λ e. omega arith))

-- a track keeps its rules where each of its keys does
pub track_by_key : (s : List ℕ) (fs vs ss : List Float) (t : ℕ) →
    all_below (target_row s t).count (key_ok (number (kind_of (target_row s t).curve)) fs vs ss (target_row s t).first) ≡ track_ok s fs vs ss t
unfolding track_ok
track_by_key s fs vs ss t = let r = target_row s t in sym (curve_by_key (number (kind_of r.curve)) fs vs ss r.first r.count) ∙ curve_kind r.curve fs vs ss r.first r.count
