use Rattle.std.proofs.Common.{sym, ◌∙◌}
use Rattle.std.proofs.lemmas.Bool.{both_ways}
use Rattle.std.proofs.lemmas.Result.{err_from_is_err_and}
use Rattle.ircline.specs.Printing.{canonical, ReadsBack}
use Rattle.ircline.specs.Carrying.{carries}
use Rattle.ircline.proofs.PrintingLemmas.{carried_reads, reads_carried, other_line}
use Rattle.ircline.proofs.printer.print.Goals as goal

pub returns-then-not-is_printable-clause-refused : goal.returns-then-not-is_printable-clause-refused
returns-then-not-is_printable-clause-refused c =
    let m = c.args.message.now in
    let refused : ReadsBack (canonical m) m → ⊥ = λ back. both_ways (carries m) (sym c.is_printable.ensures
    ∙ c.if-not-is_printable.true) (reads_carried m back) in
    (refused, λ run back. other_line m run refused back)

pub returns-in_err-line_of-clause-refused : goal.returns-in_err-line_of-clause-refused
returns-in_err-line_of-clause-refused c =
    let p = err_from_is_err_and c.from_residual.result c.from_residual.ensures.1 in
    rw (p.1, p.2) (carried_reads c.args.message.now (sym c.is_printable.ensures ∙ c.if-not-is_printable.false))

pub returns-clause-back : goal.returns-clause-back
returns-clause-back c = carried_reads c.args.message.now (sym c.is_printable.ensures ∙ c.if-not-is_printable.false)
