use Rattle.std.proofs.Common.{◌∙◌, sym}
use Rattle.std.specs.Map.{keys_of}
use Rattle.std.proofs.lemmas.Iterator.Adapters.{position_from-zero}
use Rattle.userfile.proofs.EntryLemmas.{has_key, keyed-position, position-long}
use Rattle.userfile.proofs.indexing.place_of.Goals as goal

pub returns-in-Some : goal.returns-in-Some
returns-in-Some c =
    let lower = c.as_bytes.ensures ∙ c.in-Some.ensures in
    c.get_index_of.ensures.index ∙ position_from-zero (has_key c.as_bytes.result.now) (keys_of c.args.users.now.entries)
    ∙ keyed-position c.args.handle.now c.as_bytes.result.now c.args.users.now.entries 0 lower c.requires

pub returns-in-None : goal.returns-in-None
returns-in-None c = sym (position-long c.args.handle.now c.args.users.now.entries 0 c.in-None.ensures c.requires)
