use Rattle.std.proofs.Common.{ap}
use Rattle.std.specs.List.{flat_map}
use Rattle.turns.specs.Driving.{text_of}
use Rattle.turns.specs.Outboxes.{course_of}
use Rattle.turns.proofs.DrivingLemmas.{Makes-if}
use Rattle.turns.proofs.outbox.step_line.Goals as goal

pub returns-clause-ok : goal.returns-clause-ok
returns-clause-ok g c =
    Makes-if g.P.Promise.promised c.args.store.now (course_of c.args.bot.now c.args.outbox.now)
    (course_of c.take_line-report.new.self c.put_report.new.self) _ c.take_line-report.result c.put_report.result _ _ _
    c.make_room.ensures.packets (ap (flat_map text_of) c.make_room.ensures.lines) c.make_room.ensures.outcomes c.take_line-report.ensures.takes
    c.put_report.ensures.made c.put_report.ensures.packets c.put_report.ensures.text c.put_report.ensures.outcomes
