use Rattle.page.specs.Marks.{ArePrinted}
use Rattle.page.proofs.sheet.Sheet.put_form.Given as goal

-- what is left of the form is printed
abbrev pub invariant-loop-value : goal.invariant-loop-value
invariant-loop-value l = ArePrinted l.rest
