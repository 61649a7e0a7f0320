use Rattle.std.proofs.Common.{◌≡◌, List, ℕ, Option, Some, None, Result, Ok, Err, arith}
use Rattle.bytetext.specs.declared.memory.NoMemory.{NoMemory}
use Rattle.std.specs.Prelude.{IfOk, IfSome}
use Rattle.botjournal.specs.declared.base.Base.{Base}
use Rattle.botjournal.specs.declared.layouts.Layout.{Layout}
use Rattle.botjournal.specs.Bases.{base_bytes_by, base_in, IsGoodBase, IsGoodBaseBy, IsBaseBy, FindsBase}
use Rattle.usercodec.proofs.Steps.{IsBytes}
use Rattle.botjournal.proofs.BaseLaws.{found_is, is_found, base_good}
use Rattle.botjournal.proofs.bases.read_base_by.Goals as goal

spelled : (layout : Layout) (bytes : List ℕ) (result : Result (Option Base) NoMemory) → IsBytes bytes
    → IfOk result (λ read. read ≡ base_in layout bytes) → IfOk result (λ read. IsBaseBy layout bytes read)
spelled layout bytes (Ok read) fits e = found_is layout bytes read fits e
spelled layout bytes (Err e) fits none = tt

finds : (layout : Layout) (bytes : List ℕ) (result : Result (Option Base) NoMemory) → IfOk result (λ read. read ≡ base_in layout bytes)
    → (base : Base) → IsGoodBaseBy layout base → bytes ≡ base_bytes_by layout base → FindsBase base result
finds layout bytes (Ok read) e base good is = is_found layout bytes base read e good is
finds layout bytes (Err e) none base good is = tt

writable : (layout : Layout) (bytes : List ℕ) (result : Result (Option Base) NoMemory) → IfOk result (λ read. IsBaseBy layout bytes read)
    → IfOk result (λ read. IfSome read IsGoodBase)
writable layout bytes (Ok None) is = tt
writable layout bytes (Ok (Some base)) is = base_good layout base is.0
writable layout bytes (Err e) is = tt

pub returns-clause-spelled : goal.returns-clause-spelled
returns-clause-spelled c =
    spelled c.args.layout c.args.bytes.now c.read_whole.result (λ i. omega (arith, c.type_inv.bytes i)) c.read_whole.ensures.read

pub returns-clause-only : goal.returns-clause-only
returns-clause-only c = λ base good is. finds c.args.layout c.args.bytes.now c.read_whole.result c.read_whole.ensures.read base good is

pub returns-clause-good : goal.returns-clause-good
returns-clause-good c =
    writable c.args.layout c.args.bytes.now c.read_whole.result
    (spelled c.args.layout c.args.bytes.now c.read_whole.result (λ i. omega (arith, c.type_inv.bytes i)) c.read_whole.ensures.read)
