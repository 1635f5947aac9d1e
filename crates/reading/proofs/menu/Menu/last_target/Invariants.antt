-- No target from `end` on addresses the channel, so the first that is met from the end is the last.
use Rattle.laws.specs.Last.{Behind}
use Rattle.laws.specs.Swept.{is_at}
use Rattle.sheet.specs.Sizes.{target_count}
use Rattle.channel.specs.Channel.{target_channel}
use Rattle.reading.proofs.menu.Menu.last_target.Given as goal

abbrev pub invariant-loop-end : goal.invariant-loop-end
invariant-loop-end l =
    let s = l.self.ready.sheet.bytes.now in
    Behind (target_count s) (λ t. is_at (target_channel s l.self.book.bytes.now l.a t) l.c) l.end

abbrev pub decreases-loop-end : goal.decreases-loop-end
decreases-loop-end l = l.end
