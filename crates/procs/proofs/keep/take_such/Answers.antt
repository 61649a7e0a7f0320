use Rattle.std.proofs.Common.{get_or, List, Some, sym, ap, ◌∙◌, arith}
use Rattle.std.specs.Option.{option_map}
use Rattle.procs.specs.declared.bind.Bind.{Bind}
use Rattle.procs.specs.Index.{of_kind}
use Rattle.procs.specs.Tables.{is_such}
use Rattle.bytetext.proofs.Lists.{find-none}
use Rattle.procs.proofs.OnceLemmas.{IsAt-position, none-found, remove-once, filter-none, find-once}
use Rattle.procs.proofs.ApartLemmas.{any_bind, once-such, such-kind}
use Rattle.procs.proofs.IndexLemmas.{index-at, AreIndexed-set, others-such}
use Rattle.procs.proofs.keep.take_such.Goals as goal

pub take_out-requires-clause-kind : goal.take_out-requires-clause-kind
take_out-requires-clause-kind c b =
    let test = is_such c.args.kind c.args.mask.now c.args.proc.now in
    let held : List Bind = c.args.held.now.items in
    let at = IsAt-position test held c.deref.result.now c.place_of_such.result c.in-Some.at b c.deref.ensures.value c.place_of_such.ensures c.in-Some.is in
    such-kind c.args.kind c.args.mask.now c.args.proc.now (get_or held c.in-Some.at b) (at.passes b)

pub take_out-requires-clause-indexed : goal.take_out-requires-clause-indexed
take_out-requires-clause-indexed c =
    index-at c.args.held.now.items c.args.indexes.now c.args.kind c.place_of.result c.index-indexes-place_of.result c.requires.indexed
    c.place_of.ensures.place (omega arith)

pub returns-in-Some-clause-without : goal.returns-in-Some-clause-without
returns-in-Some-clause-without c =
    let test = is_such c.args.kind c.args.mask.now c.args.proc.now in
    let held : List Bind = c.args.held.now.items in
    let b = any_bind c.args.kind in
    let at = IsAt-position test held c.deref.result.now c.place_of_such.result c.in-Some.at b c.deref.ensures.value c.place_of_such.ensures c.in-Some.is in
    c.take_out.ensures.removed
    ∙ remove-once test held c.in-Some.at b (once-such c.args.kind c.args.mask.now c.args.proc.now held c.requires.apart) at.within (at.passes b)

pub returns-in-Some-clause-number : goal.returns-in-Some-clause-number
returns-in-Some-clause-number c =
    let test = is_such c.args.kind c.args.mask.now c.args.proc.now in
    let held : List Bind = c.args.held.now.items in
    let b = any_bind c.args.kind in
    let at = IsAt-position test held c.deref.result.now c.place_of_such.result c.in-Some.at b c.deref.ensures.value c.place_of_such.ensures c.in-Some.is in
    let found = find-once test held c.in-Some.at b (once-such c.args.kind c.args.mask.now c.args.proc.now held c.requires.apart) at.within (at.passes b) in
    ap Some (c.take_out.ensures.number b) ∙ sym (ap (option_map (λ (x : Bind). x.number)) found)

pub returns-in-Some-clause-indexed : goal.returns-in-Some-clause-indexed
returns-in-Some-clause-indexed c =
    AreIndexed-set c.args.held.now.items c.take_out.new.held.items c.args.indexes.now c.args.kind c.place_of.result c.take_out.new.index c.requires.indexed
    c.place_of.ensures.place (omega arith) c.take_out.ensures.indexed
    (λ other apart. ap (of_kind other) (returns-in-Some-clause-without c) ∙ others-such other c.args.kind c.args.mask.now c.args.proc.now
    c.args.held.now.items apart)

pub returns-in-None-clause-number : goal.returns-in-None-clause-number
returns-in-None-clause-number c =
    let test = is_such c.args.kind c.args.mask.now c.args.proc.now in
    let held : List Bind = c.args.held.now.items in
    let none = none-found test held c.deref.result.now c.place_of_such.result c.deref.ensures.value c.place_of_such.ensures c.in-None.is in
    sym (ap (option_map (λ (x : Bind). x.number)) (find-none test held none))

pub returns-in-None-clause-without : goal.returns-in-None-clause-without
returns-in-None-clause-without c =
    let test = is_such c.args.kind c.args.mask.now c.args.proc.now in
    let held : List Bind = c.args.held.now.items in
    sym (filter-none test held (none-found test held c.deref.result.now c.place_of_such.result c.deref.ensures.value c.place_of_such.ensures c.in-None.is))
