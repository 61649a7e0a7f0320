use Rattle.std.proofs.Common.{rules}
use Rattle.rfccase.proofs.TableLemmas.{table-low}
use Rattle.rfccase.proofs.folds.fold.Goals as goal

pub returns-in-126-clause-table : goal.returns-in-126-clause-table
returns-in-126-clause-table c = table-low _ _ c.ranges.byte.fits (search rules)

pub returns-in-65-to-93-clause-table : goal.returns-in-65-to-93-clause-table
returns-in-65-to-93-clause-table c = table-low _ _ c.ranges.byte.fits (search rules)

pub returns-in_default-clause-table : goal.returns-in_default-clause-table
returns-in_default-clause-table c = table-low _ _ c.ranges.byte.fits (search rules)

pub returns-in_default-2-clause-table : goal.returns-in_default-2-clause-table
returns-in_default-2-clause-table c = table-low _ _ c.ranges.byte.fits (search rules)
