use Rattle.std.proofs.Common.{get_or, List, sym, ◌∙◌}
use Rattle.procs.specs.declared.bind.Bind.{Bind}
use Rattle.procs.specs.Tables.{is_replaced}
use Rattle.procs.proofs.OnceLemmas.{IsAt-position, none-found, remove-once, filter-none}
use Rattle.procs.proofs.ApartLemmas.{any_bind, once-replaced, replaced-kind}
use Rattle.procs.proofs.keep.drop_replaced.Goals as goal

pub take_out-number-requires-clause-kind : goal.take_out-number-requires-clause-kind
take_out-number-requires-clause-kind c b =
    let test = is_replaced c.args.kind c.args.mask.now in
    let held : List Bind = c.args.held.now.items in
    let at = IsAt-position test held c.deref.result.now c.place_of_replaced.result c.in-Some.at b c.deref.ensures.value
    c.place_of_replaced.ensures c.in-Some.is in
    replaced-kind c.args.kind c.args.mask.now (get_or held c.in-Some.at b) (at.passes b)

pub returns-in-Some-clause-without : goal.returns-in-Some-clause-without
returns-in-Some-clause-without c =
    let test = is_replaced c.args.kind c.args.mask.now in
    let held : List Bind = c.args.held.now.items in
    let b = any_bind c.args.kind in
    let at = IsAt-position test held c.deref.result.now c.place_of_replaced.result c.in-Some.at b c.deref.ensures.value
    c.place_of_replaced.ensures c.in-Some.is in
    c.take_out-number.ensures.removed
    ∙ remove-once test held c.in-Some.at b (once-replaced c.args.kind c.args.mask.now held c.requires.apart) at.within (at.passes b)

pub returns-in_default-clause-without : goal.returns-in_default-clause-without
returns-in_default-clause-without c =
    let test = is_replaced c.args.kind c.args.mask.now in
    let held : List Bind = c.args.held.now.items in
    sym (filter-none test held (none-found test held c.deref.result.now c.place_of_replaced.result c.deref.ensures.value
    c.place_of_replaced.ensures c.in_default.is))
