use Rattle.std.proofs.Common.{◌≡◌, ◌++◌, ◌∷◌, [], ap, ◌∙◌, arith}
use Rattle.std.proofs.lemmas.List.{map_push}
use Rattle.usercodec.specs.Records.{entry_at, items_at}
use Rattle.usercodec.specs.Users.{entries_of, entry_of}
use Rattle.usercodec.proofs.ItemSteps.{goes_on, ends, is_done}
use Rattle.usercodec.proofs.user_fields.counted_entries.Goals as goal

pub returns-in-Err : goal.returns-in-Err
returns-in-Err c =
    ends entry_at c.in-Err.error c.args.count c.loop.counter (entries_of c.loop.entries.items) c.loop.reader
    (items_at entry_at c.args.count [] c.args.reader.now) (entries_of c.as_slice.result.now) c.loop-test.true
    (ap entries_of c.as_slice.ensures.value) c.in-Err.ensures
    c.loop.invariant.read

pub loop-preserved : goal.loop-preserved
loop-preserved c =
    let entry = c.in-Ok.entry in
    let pushed : entries_of c.push.new.self.items ≡ entries_of c.loop.entries.items ++ entry_of entry ∷ [] =
    ap entries_of c.push.ensures.items ∙ map_push _ c.loop.entries.items entry in
    record {
      read = rw pushed (goes_on entry_at c.args.count c.loop.counter (entries_of c.loop.entries.items) c.loop.reader (entry_of entry) c.entry.new.reader
          (items_at entry_at c.args.count [] c.args.reader.now) (entries_of c.as_slice.result.now) c.loop-test.true
          (ap entries_of c.as_slice.ensures.value) c.in-Ok.ensures
          c.loop.invariant.read);
      so_many = omega (arith, c.push.ensures.len, c.loop.invariant.so_many);
    }

pub returns : goal.returns
returns c =
    is_done entry_at c.args.count c.loop.counter (entries_of c.loop.entries.items) c.loop.reader (items_at entry_at c.args.count [] c.args.reader.now)
    c.loop-test.false c.loop.invariant.read
