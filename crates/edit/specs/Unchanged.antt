-- What the laws on unchanged edits take: a key of keys of f32 is one of f32. When an edit is unchanged is shown in proofs/Unchanged. Assumes nothing.
use Rattle.std.specs.Prelude.{ℕ}
use Rattle.edit.specs.Keys.{Keys, key_at, HeldKeys, HeldKey}

pub at_held : (ks : Keys) (i : ℕ) → HeldKeys ks → HeldKey (key_at ks i)
unfolding key_at
at_held ks i h = record { frame = h.frames i; value = h.values i; slope = h.slopes i }
