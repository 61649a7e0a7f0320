use Rattle.std.proofs.Common.{List, ℕ, Option, Some, None, Result, Ok, Err}
use Rattle.bytetext.specs.declared.memory.NoMemory.{NoMemory}
use Rattle.std.specs.Prelude.{IfOk}
use Rattle.botjournal.specs.declared.base.Base.{Base}
use Rattle.botjournal.specs.declared.layouts.Layout.TheVariants.{Fourth}
use Rattle.botjournal.specs.Bases.{IsBaseOf, IsBaseBy}
use Rattle.botjournal.proofs.BaseLaws.{base_good, good_now}
use Rattle.botjournal.proofs.bases.read_base.Goals as goal

spelled : (bytes : List ℕ) (result : Result (Option Base) NoMemory) → IfOk result (λ read. IsBaseBy Fourth bytes read)
    → IfOk result (λ read. IsBaseOf bytes read)
spelled bytes (Ok None) is = tt
spelled bytes (Ok (Some base)) is = (base_good Fourth base is.0, is.1)
spelled bytes (Err e) is = tt

pub returns-clause-spelled : goal.returns-clause-spelled
returns-clause-spelled c = spelled c.args.bytes.now c.read_base_by.result c.read_base_by.ensures.spelled

pub returns-clause-only : goal.returns-clause-only
returns-clause-only c = λ base good is. c.read_base_by.ensures.only base (good_now base good) is
