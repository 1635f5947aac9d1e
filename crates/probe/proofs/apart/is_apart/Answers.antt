-- The row of a track that there is can be read with the old keys.
use Rattle.reading.specs.Ready.{keys_row}
use Rattle.probe.proofs.apart.is_apart.Goals as goal

pub apart-requires-clause-old : goal.apart-requires-clause-old
apart-requires-clause-old c = let r = c.args.sets.now.old in rw c.target.ensures (keys_row r.sheet.checked r.ready _ c.requires)
