use Rattle.std.proofs.Common.{rules, ◌≡◌, ◌≤◌, [], ◌∷◌, length, length-append, max, vec_capacity, sym, ap, ◌∙◌, arith}
use Rattle.outqueue.specs.declared.limits.TheConstants.{MAX_AT_ONCE}
use Rattle.outqueue.specs.Sending.{Sending, sent}
use Rattle.outqueue.proofs.JoinedDrains.{turn_goes, turn_stays, turns_end, nothing_joined, nothing_leaves, room_joined}
use Rattle.outqueue.proofs.queues.Queues.drain_joined.Goals as goal
use Rattle.outqueue.proofs.queues.Queues.drain_joined.Goals.{in-Some, in_default}

pub returns-then-due-eq0-clause-lines : goal.returns-then-due-eq0-clause-lines
returns-then-due-eq0-clause-lines c =
    let none : length (sent c.args.self.now c.args.now) ≡ 0 = omega (arith, c.due.ensures, c.if-due-eq0.true) in
    c.empty.ensures ∙ sym (nothing_joined c.args.most c.args.self.now c.args.now none).0

pub returns-then-due-eq0-clause-after : goal.returns-then-due-eq0-clause-after
returns-then-due-eq0-clause-after c =
    let none : length (sent c.args.self.now c.args.now) ≡ 0 = omega (arith, c.due.ensures, c.if-due-eq0.true) in
    let timer : c.max-self-inside.result ≡ max c.self.inside.timer c.args.now = search rules in
    ap (λ t. let q : Sending = record {
      prompt = c.self.inside.prompt.lines;
      mode = c.self.inside.mode.lines;
      server = c.self.inside.server.lines;
      help = c.self.inside.help.lines;
      timer = t;
      room = record { mode = c.self.inside.mode.room; server = c.self.inside.server.room; help = c.self.inside.help.room };
    } in q) timer
    ∙ ap (λ q. let s : Sending = record q { timer = max q.timer c.args.now } in s) c.self.view_is
    ∙ sym (nothing_joined c.args.most c.args.self.now c.args.now none).1

pub loop-turn-preserved : goal.loop-turn-preserved
loop-turn-preserved c = elim c.match-branch-4.branch [
  | in-Some w ↦
      let more = ap (λ v. v.items) w.lines-is ∙ w.push_reserved.ensures.items in record {
        turned =
            turn_goes c.args.most c.args.now c.args.self.now c.loop-turn._turn c.loop-turn.lines.items c.match-branch-4.lines.items
            c.loop-turn.rest c.take_joined.new.self w.in-Some.line c.loop-turn-test.true
            (sym w.in-Some.is ∙ c.in_ok-line.ensures.line) c.in_ok-line.ensures.after more c.loop-turn.invariant.turned;
        few = omega (arith, ap length more, length-append c.loop-turn.lines.items (w.in-Some.line ∷ []), c.loop-turn.invariant.few);
        room = omega (arith, ap (λ v. vec_capacity v) w.lines-is, w.push_reserved.ensures.capacity, c.loop-turn.invariant.room);
      }
  | in_default w ↦ record {
    turned =
        turn_stays c.args.most c.args.now c.args.self.now c.loop-turn._turn c.loop-turn.lines.items c.match-branch-4.lines.items
        c.loop-turn.rest c.take_joined.new.self c.loop-turn-test.true
        (sym c.in_ok-line.ensures.line ∙ w.in_default.is) c.in_ok-line.ensures.after (ap (λ v. v.items) w.lines-is) c.loop-turn.invariant.turned;
    few = omega (arith, ap (λ v. length v.items) w.lines-is, c.loop-turn.invariant.few);
    room = omega (arith, ap (λ v. vec_capacity v) w.lines-is, c.loop-turn.invariant.room);
  }
]

pub returns-clause-lines : goal.returns-clause-lines
returns-clause-lines c =
    let all : MAX_AT_ONCE ≤ c.loop-turn._turn = omega arith in
    c.new.ensures ∙ (turns_end c.args.most c.args.now c.args.self.now c.loop-turn._turn _ _ all c.loop-turn.invariant.turned).0

pub returns-clause-after : goal.returns-clause-after
returns-clause-after c =
    let all : MAX_AT_ONCE ≤ c.loop-turn._turn = omega arith in
    (search rules) ∙ (turns_end c.args.most c.args.now c.args.self.now c.loop-turn._turn _ _ all c.loop-turn.invariant.turned).1

pub returns-clause-room : goal.returns-clause-room
returns-clause-room c = ap (λ (q : Sending). q.room) (returns-clause-after c) ∙ room_joined c.args.most c.args.self.now c.args.now

pub returns-in_err-lines-clause-nothing_goes : goal.returns-in_err-lines-clause-nothing_goes
returns-in_err-lines-clause-nothing_goes c = λ none.
    let no : length (sent c.args.self.now c.args.now) ≡ 0 = ap length (nothing_leaves c.args.most c.args.self.now c.args.now none) in
    absurd (omega (arith, no, c.due.ensures, c.if-due-eq0.false))

pub returns-in_err-rest-clause-nothing_goes : goal.returns-in_err-rest-clause-nothing_goes
returns-in_err-rest-clause-nothing_goes c = λ none.
    let no : length (sent c.args.self.now c.args.now) ≡ 0 = ap length (nothing_leaves c.args.most c.args.self.now c.args.now none) in
    absurd (omega (arith, no, c.due.ensures, c.if-due-eq0.false))

pub returns-in_err-line-clause-nothing_goes : goal.returns-in_err-line-clause-nothing_goes
returns-in_err-line-clause-nothing_goes c = λ none.
    let no : length (sent c.args.self.now c.args.now) ≡ 0 = ap length (nothing_leaves c.args.most c.args.self.now c.args.now none) in
    absurd (omega (arith, no, c.due.ensures, c.if-due-eq0.false))
