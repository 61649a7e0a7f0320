use Rattle.std.proofs.Common.{sym, arith, []}
use Rattle.settings.proofs.LineLemmas.{read_from-more, read_from-ends, read_from-all}
use Rattle.settings.proofs.reading.draft_of.Goals as goal

pub loop-place-preserved : goal.loop-place-preserved
loop-place-preserved c =
    read_from-more c.loop-place.draft c.add_to.new.draft c.args.lines.now c.loop-place.place (record { ref_ptr = (0, 0); now = [] })
    c.in_ok-saying.saying _ (omega arith) c.loop-place.invariant c.in_ok-saying.ensures (sym c.in-None.ensures) c.in_ok-add_to-in-None.ensures

pub returns-in-Some : goal.returns-in-Some
returns-in-Some c =
    read_from-ends c.loop-place.draft c.args.lines.now c.loop-place.place (record { ref_ptr = (0, 0); now = [] })
    c.in_ok-saying.saying c.in-Some.advice _ (omega arith) c.loop-place.invariant c.in_ok-saying.ensures (sym c.in-Some.ensures)

pub returns : goal.returns
returns c = read_from-all c.loop-place.draft c.args.lines.now c.loop-place.place _ (omega arith) c.loop-place.invariant
