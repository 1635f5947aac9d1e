use Rattle.std.proofs.Common.{arith}
use Rattle.channel.specs.Channel.{channel_count}
use Rattle.reach.proofs.Down.{made_none, parent_within, made_more, made_all}
use Rattle.reach.proofs.panes.descend.Goals as goal

pub loop-i-init : goal.loop-i-init
loop-i-init c = made_none _ _ _ _ _ c.requires.visible_len c.requires.influence_len c.requires.panes_len

pub handed_down-shown-requires : goal.handed_down-shown-requires
handed_down-shown-requires c = λ d. (parent_within c.loop-i.invariant c.args.book.now.checked (omega arith) c.pane-pane.ensures d).0

pub handed_down-faded-requires : goal.handed_down-faded-requires
handed_down-faded-requires c = λ d. (parent_within c.loop-i.invariant c.args.book.now.checked (omega arith) c.pane-pane.ensures d).1

pub own_marked-own-requires : goal.own_marked-own-requires
unfolding channel_count
own_marked-own-requires c = omega (arith, c.requires.channels_len, c.args.book.now.checked)

pub marked-shows-requires : goal.marked-shows-requires
unfolding channel_count
marked-shows-requires c = omega (arith, c.requires.channels_len, c.args.book.now.checked)

pub marked-fades-requires : goal.marked-fades-requires
unfolding channel_count
marked-fades-requires c = omega (arith, c.requires.channels_len, c.args.book.now.checked)

pub loop-i-preserved : goal.loop-i-preserved
loop-i-preserved c = made_more c.loop-i.invariant c.args.book.now.checked (omega arith) c.pane-pane.ensures c.handed_down-shown.ensures c.handed_down-faded.ensures c.own_marked-own.ensures c.marked-shows.ensures c.marked-fades.ensures c.from.ensures c.from-in-loop-i.ensures (rw (c.from-in-loop-i-2.ensures, c.from-in-loop-i-3.ensures))

pub returns : goal.returns
returns c = made_all c.loop-i.invariant (omega arith)
