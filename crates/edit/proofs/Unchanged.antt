-- Unchanged edits and their keys (document 02, 4/13): over f32, an edit of a key that there is, its numbers no NaNs, is unchanged exactly where making it
-- leaves all keys as they are. Assumes nothing.
use Rattle.std.specs.Prelude.{ℕ, ◌≡◌, true, ◌&&◌, List, Float}
use Rattle.std.proofs.Math.Path.{sym, ap}
use Rattle.std.proofs.Common.{◌∙◌}
use Rattle.laws.specs.Tests.{both}
use Rattle.float.specs.Numbers.{same_bits}
use Rattle.float.specs.Bits.{same_equal}
use Rattle.curve.specs.declared.Key.{Key}
use Rattle.edit.specs.declared.request.Request.{Request}
use Rattle.edit.specs.Keys.{Keys, key_at, put_key, same_key, Within, HeldKeys, HeldKey, get_put, put_get}
use Rattle.edit.specs.Edit.{place, edited, unchanged}
use Rattle.edit.specs.Unchanged.{at_held}

-- two keys of f32 that are the same bit for bit are equal
pub same_key_equal : (a b : Key) → HeldKey a → HeldKey b → same_key a b ≡ true → a ≡ b
unfolding same_key
same_key_equal a b h k e =
    let t = both (same_bits a.frame b.frame && same_bits a.value b.value) (same_bits a.slope b.slope) e in
    let u = both (same_bits a.frame b.frame) (same_bits a.value b.value) t.0 in
    by_numbers
    (same_equal a.frame b.frame h.frame k.frame u.0)
    (same_equal a.value b.value h.value k.value u.1)
    (same_equal a.slope b.slope h.slope k.slope t.1)
  where
    by_numbers : {f g v w m n : Float} → f ≡ g → v ≡ w → m ≡ n → ◌≡◌ {A = Key} (record { frame = f; value = v; slope = m }) (record { frame = g; value = w; slope = n })
    by_numbers p q r = rw (p, q, r)

module _ (s : List ℕ) (ks : Keys) (track key : ℕ) (r : Request) where
  -- an unchanged edit would leave the keys as they are
  pub unchanged_leaves : HeldKeys ks → HeldKey (edited s ks track key r) → unchanged s ks track key r ≡ true → put_key ks (place s track key) (edited s ks track key r) ≡ ks
  unfolding unchanged
  unchanged_leaves h k e = ap (put_key ks (place s track key)) (same_key_equal _ _ k (at_held ks (place s track key) h) e) ∙ put_get ks (place s track key)

  -- and one that leaves them so is unchanged
  pub left_unchanged : Within ks (place s track key) → same_key (key_at ks (place s track key)) (key_at ks (place s track key)) ≡ true
      → put_key ks (place s track key) (edited s ks track key r) ≡ ks → unchanged s ks track key r ≡ true
  unfolding unchanged
  left_unchanged w old e =
      let k : edited s ks track key r ≡ key_at ks (place s track key) = sym (get_put ks (place s track key) (edited s ks track key r) w) ∙ ap (λ (x : Keys). key_at x (place s track key)) e in
      rw k old
