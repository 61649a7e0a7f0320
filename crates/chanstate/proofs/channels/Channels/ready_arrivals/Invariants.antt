use Rattle.std.proofs.Common.{◌≡◌, false, true, map, filter}
use Rattle.chanstate.specs.Items.{is_channel_on}
use Rattle.chanstate.specs.Members.{arrived, unmarked}
use Rattle.chanstate.specs.Takes.{AreKept, came_each, given}
use Rattle.chanstate.proofs.channels.Channels.ready_arrivals.Given as goal

-- the joins so far are made ready
abbrev pub invariant-loop-piece : goal.invariant-loop-piece
invariant-loop-piece l =
    let one = unmarked l.person.nick.now l.person.user.now l.person.host.now in
    record {
      kept : AreKept (arrived l.mapping one) l.takes.items;
      back : given false l.takes.items l.self ≡ l.initial.self;
      done : given true l.takes.items l.self ≡ came_each l.mapping one (filter (is_channel_on l.support) (map (λ x. x.now) l.yielded)) l.initial.self;
    }
