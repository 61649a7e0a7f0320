use Rattle.std.proofs.Common.{◌≡◌, List, ℕ, Option, Some, None, Result, Ok, Err, arith}
use Rattle.bytetext.specs.declared.memory.NoMemory.{NoMemory}
use Rattle.std.specs.Prelude.{IfOk, IfSome}
use Rattle.botjournal.specs.declared.entry.Entry.{Entry}
use Rattle.botjournal.specs.declared.layouts.Layout.{Layout}
use Rattle.botjournal.specs.Entries.{entry_bytes, entry_in, IsGoodEntry, IsGoodEntryBy, IsEntryOf, FindsEntry}
use Rattle.usercodec.proofs.Steps.{IsBytes}
use Rattle.botjournal.proofs.EntryLaws.{found_is, is_found, entry_good}
use Rattle.botjournal.proofs.entries.read_entry_by.Goals as goal

spelled : (layout : Layout) (bytes : List ℕ) (result : Result (Option Entry) NoMemory) → IsBytes bytes
    → IfOk result (λ read. read ≡ entry_in layout bytes) → IfOk result (λ read. IsEntryOf layout bytes read)
spelled layout bytes (Ok read) fits e = found_is layout bytes read fits e
spelled layout bytes (Err e) fits none = tt

finds : (layout : Layout) (bytes : List ℕ) (result : Result (Option Entry) NoMemory) → IfOk result (λ read. read ≡ entry_in layout bytes)
    → (entry : Entry) → IsGoodEntryBy layout entry → bytes ≡ entry_bytes entry → FindsEntry entry result
finds layout bytes (Ok read) e entry good is = is_found layout bytes entry read e good is
finds layout bytes (Err e) none entry good is = tt

writable : (layout : Layout) (bytes : List ℕ) (result : Result (Option Entry) NoMemory) → IfOk result (λ read. IsEntryOf layout bytes read)
    → IfOk result (λ read. IfSome read IsGoodEntry)
writable layout bytes (Ok None) is = tt
writable layout bytes (Ok (Some entry)) is = entry_good layout entry is.0
writable layout bytes (Err e) is = tt

pub returns-clause-spelled : goal.returns-clause-spelled
returns-clause-spelled c =
    spelled c.args.layout c.args.bytes.now c.read_whole.result (λ i. omega (arith, c.type_inv.bytes i)) c.read_whole.ensures.read

pub returns-clause-only : goal.returns-clause-only
returns-clause-only c = λ entry good is. finds c.args.layout c.args.bytes.now c.read_whole.result c.read_whole.ensures.read entry good is

pub returns-clause-good : goal.returns-clause-good
returns-clause-good c =
    writable c.args.layout c.args.bytes.now c.read_whole.result
    (spelled c.args.layout c.args.bytes.now c.read_whole.result (λ i. omega (arith, c.type_inv.bytes i)) c.read_whole.ensures.read)
