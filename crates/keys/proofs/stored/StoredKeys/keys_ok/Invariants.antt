use Rattle.std.proofs.Common.{◌≡◌, ◌+◌, ◌-◌}
use Rattle.laws.specs.Below.{Passed}
use Rattle.curve.specs.Kind.{number}
use Rattle.keys.specs.Rules.{key_ok}
use Rattle.keys.specs.Stored.{stored_frames, stored_values, stored_slopes}
use Rattle.keys.proofs.stored.StoredKeys.keys_ok.Given as goal

-- each key so far keeps its rule, and last is the key before
abbrev pub invariant-loop-i : goal.invariant-loop-i
invariant-loop-i l = record {
  passed : Passed l.count (key_ok (number l.kind) (stored_frames l.self.sheet.bytes.now) (stored_values l.self.sheet.bytes.now) (stored_slopes l.self.sheet.bytes.now) l.first) l.i;
  before : l.last ≡ l.first + (l.i - 1);
}
