use Rattle.std.proofs.Common.{◌≡◌, ◌≤◌, ◌-◌, ap, sym, ◌∙◌, subst, arith}
use Rattle.outqueue.specs.Lanes.{Filled}
use Rattle.outqueue.specs.Joining.{added_by, along, channel_of, left, room_after}
use Rattle.outqueue.proofs.JoiningLemmas.{walk_goes, walk_stays, walk_ends, goes_fits}
use Rattle.outqueue.proofs.lane.Lane.take_along.Goals as goal
use Rattle.outqueue.proofs.lane.Lane.take_along.Goals.{in-Some+in_ok-push, in_default}

pub overflow_sub-room : goal.overflow_sub-room
overflow_sub-room c =
    let line : c.added_by-room.result ≡ added_by c.in-Some.line = c.added_by-room.ensures ∙ ap added_by c.as_bytes.ensures in
    let fits : added_by c.in-Some.line ≤ c.loop-turn.room =
    subst (λ l. added_by l ≤ c.loop-turn.room) (sym c.in-Some.ensures.line) (goes_fits _ c.loop-turn.room _ c.in-Some.ensures.goes) in
    omega (arith, line, fits)

pub loop-turn-preserved : goal.loop-turn-preserved
loop-turn-preserved c = elim c.match-take_next.branch [
  | in-Some+in_ok-push w ↦ record {
    walked =
        walk_goes c.args.most c.loop-turn._turn c.channel_of-channel.result.now c.loop-turn.room c.match-take_next.room
        c.loop-turn.self.lines c.take_next.new.self.lines c.loop-turn.lines.items c.match-take_next.lines.items _ _ w.in-Some.line
        c.loop-turn-test.true w.in-Some.ensures.goes w.in-Some.ensures.line
        (w.room-is ∙ ap (λ k. c.loop-turn.room - k) (w.added_by-room.ensures ∙ ap added_by w.as_bytes.ensures))
        (ap (λ (f : Filled). f.lines) w.in-Some.ensures.rest) (ap (λ v. v.items) w.lines-is ∙ w.in_ok-push.ensures.items) c.loop-turn.invariant.walked;
    room = ap (λ (f : Filled). f.room) w.in-Some.ensures.rest ∙ c.loop-turn.invariant.room;
  }
  | in_default w ↦ record {
    walked =
        walk_stays c.args.most c.loop-turn._turn c.channel_of-channel.result.now c.loop-turn.room c.match-take_next.room
        c.loop-turn.self.lines c.take_next.new.self.lines c.loop-turn.lines.items c.match-take_next.lines.items _ _
        w.in_default.ensures.none w.room-is (ap (λ (f : Filled). f.lines) w.in_default.ensures.unchanged) (ap (λ v. v.items) w.lines-is) c.loop-turn.invariant.walked;
    room = ap (λ (f : Filled). f.room) w.in_default.ensures.unchanged ∙ c.loop-turn.invariant.room;
  }
]

pub returns-clause-lines : goal.returns-clause-lines
returns-clause-lines c =
    let all : c.args.most ≤ c.loop-turn._turn = omega arith in
    (walk_ends c.args.most c.loop-turn._turn _ _ _ _ _ _ all c.loop-turn.invariant.walked).0
    ∙ ap (λ channel. along c.args.most channel (room_after c.args.first.now) c.args.self.now.lines) c.channel_of-channel.ensures

pub returns-clause-rest : goal.returns-clause-rest
returns-clause-rest c =
    let all : c.args.most ≤ c.loop-turn._turn = omega arith in
    let same_room : c.loop-turn.self.room ≡ c.args.self.now.room = c.loop-turn.invariant.room in
    ap (λ xs. let f : Filled = record { lines = xs; room = c.loop-turn.self.room } in f)
    ((walk_ends c.args.most c.loop-turn._turn _ _ _ _ _ _ all c.loop-turn.invariant.walked).1
    ∙ ap (λ channel. left c.args.most channel (room_after c.args.first.now) c.args.self.now.lines) c.channel_of-channel.ensures)
    ∙ ap (λ r. let f : Filled = record { lines = left c.args.most (channel_of c.args.first.now) (room_after c.args.first.now) c.args.self.now.lines; room = r } in f) same_room
