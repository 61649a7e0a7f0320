use Rattle.std.proofs.Common.{◌<◌, length, arith, of_calls}
use Rattle.std.proofs.lemmas.Option.{slice_get_within, get_or_from_slice_get}
use Rattle.procs.specs.Kinds.{place_of}
use Rattle.procs.proofs.IndexLemmas.{none-indexed}
use Rattle.procs.proofs.keep.no_indexes.Goals as goal

pub returns : goal.returns
returns c kind index found =
    let inside : place_of kind < length c.from_fn.result = slice_get_within c.from_fn.result (place_of kind) index found in
    let within : place_of kind < 17 = omega (arith, c.from_fn.ensures.items.long) in
    let made = c.from_fn.ensures.items.at (place_of kind) index within in
    let same = get_or_from_slice_get c.from_fn.result (place_of kind) index index found in
    none-indexed kind index (search (of_calls, made, same)) (search (of_calls, made, same))
