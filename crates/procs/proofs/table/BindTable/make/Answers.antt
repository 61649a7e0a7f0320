use Rattle.std.proofs.Common.{◌≡◌, ◌+◌, ◌<◌, List, None, OnOk, sym, subst, ap, arith}
use Rattle.procs.specs.declared.bind.Bind.{Bind}
use Rattle.procs.specs.Tables.{Table, is_such, later_refusal, bound, number_of, number_or}
use Rattle.procs.specs.Wishes.{asked_of}
use Rattle.bytetext.proofs.Lists.{find-none}
use Rattle.procs.proofs.OnceLemmas.{IsAt-position, none-found}
use Rattle.procs.proofs.ApartLemmas.{any_bind}
use Rattle.procs.proofs.TableLemmas.{sound-renewed, sound-added, bound-renewed, bound-added, last_fits}
use Rattle.procs.proofs.table.BindTable.make.Goals as goal

pub renew-requires-clause-found : goal.renew-requires-clause-found
renew-requires-clause-found c =
    let wish = c.args.wish.now in
    IsAt-position (is_such wish.kind wish.mask.now wish.proc.now) c.self.inside.held.items c.deref.result.now c.place_of_such.result
    c.in-Some.at (any_bind wish.kind)
    c.deref.ensures.value c.place_of_such.ensures c.in-Some.is

pub invariant_of-self : goal.invariant_of-self
invariant_of-self c =
    sound-renewed c.self.inside.held.items c.renew.new.held.items c.self.inside.last (asked_of c.args.wish.now) c.renew.result c.self.inside.indexes
    c.requires.wish.parses c.self.invariant.0 c.self.invariant.1 c.renew.ensures.ok c.renew.ensures.err

pub returns-in-Some-clause-ok : goal.returns-in-Some-clause-ok
returns-in-Some-clause-ok c =
    let wish = c.args.wish.now in
    let here = IsAt-position (is_such wish.kind wish.mask.now wish.proc.now) c.self.inside.held.items c.deref.result.now c.place_of_such.result
    c.in-Some.at (any_bind wish.kind)
    c.deref.ensures.value c.place_of_such.ensures c.in-Some.is in
    let new : Table = record { binds = c.renew.new.held.items; last = c.self.inside.last } in
    subst (λ (old : Table). OnOk c.renew.result (new ≡ bound old (asked_of wish))) c.self.view_is
    (bound-renewed c.self.inside.held.items c.renew.new.held.items c.self.inside.last (asked_of wish) c.renew.result c.in-Some.at here c.renew.ensures.ok)

pub overflow_add-number : goal.overflow_add-number
overflow_add-number c =
    let wish = c.args.wish.now in
    let held : List Bind = c.self.inside.held.items in
    let free = none-found (is_such wish.kind wish.mask.now wish.proc.now) held c.deref.result.now c.place_of_such.result c.deref.ensures.value
    c.place_of_such.ensures c.in-None.is in
    let stands : later_refusal (record { binds = held; last = c.self.inside.last }) wish.kind wish.mask.now wish.proc.now ≡ None =
    subst (λ (t : Table). later_refusal t wish.kind wish.mask.now wish.proc.now ≡ None) (sym c.self.view_is) c.requires.allowed in
    let fits : c.self.inside.last < 4294967295 = last_fits held held c.self.inside.last (asked_of wish) stands free in
    omega arith

pub invariant_of-self-in-None : goal.invariant_of-self-in-None
invariant_of-self-in-None c =
    let wish = c.args.wish.now in
    let held : List Bind = c.self.inside.held.items in
    let free = none-found (is_such wish.kind wish.mask.now wish.proc.now) held c.deref.result.now c.place_of_such.result c.deref.ensures.value
    c.place_of_such.ensures c.in-None.is in
    let stands : later_refusal (record { binds = held; last = c.self.inside.last }) wish.kind wish.mask.now wish.proc.now ≡ None =
    subst (λ (t : Table). later_refusal t wish.kind wish.mask.now wish.proc.now ≡ None) (sym c.self.view_is) c.requires.allowed in (
      sound-added held c.add.new.held.items c.self.inside.last (asked_of wish) c.requires.wish.parses c.self.invariant.0 stands free
          c.in_ok-add-in-None.ensures.ok,
      c.add.ensures.indexed,
    )

pub returns-in_ok-add-in-None-clause-ok : goal.returns-in_ok-add-in-None-clause-ok
returns-in_ok-add-in-None-clause-ok c =
    let wish = c.args.wish.now in
    let held : List Bind = c.self.inside.held.items in
    let free = none-found (is_such wish.kind wish.mask.now wish.proc.now) held c.deref.result.now c.place_of_such.result c.deref.ensures.value
    c.place_of_such.ensures c.in-None.is in
    let new : Table = record { binds = c.add.new.held.items; last = c.self.inside.last + 1 } in
    subst (λ (old : Table). new ≡ bound old (asked_of wish)) c.self.view_is
    (bound-added held c.add.new.held.items c.self.inside.last (asked_of wish) free c.in_ok-add-in-None.ensures.ok)

pub returns-in_ok-add-in-None-clause-number : goal.returns-in_ok-add-in-None-clause-number
returns-in_ok-add-in-None-clause-number c =
    let wish = c.args.wish.now in
    let test = is_such wish.kind wish.mask.now wish.proc.now in
    let held : List Bind = c.self.inside.held.items in
    let free = none-found test held c.deref.result.now c.place_of_such.result c.deref.ensures.value c.place_of_such.ensures c.in-None.is in
    subst (λ (old : Table). c.self.inside.last + 1 ≡ number_of old (asked_of wish)) c.self.view_is
    (sym (ap (number_or (c.self.inside.last + 1)) (find-none test held free)))
