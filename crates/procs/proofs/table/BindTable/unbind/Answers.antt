use Rattle.std.proofs.Common.{List, not, sym, subst, ap}
use Rattle.procs.specs.declared.bind.Bind.{Bind}
use Rattle.procs.specs.Sound.{IsSound}
use Rattle.procs.specs.Tables.{Table, Unbinds, is_such}
use Rattle.procs.proofs.SoundLemmas.{sound-filter}
use Rattle.procs.proofs.TableLemmas.{unbinds-from}
use Rattle.procs.proofs.table.BindTable.unbind.Goals as goal

pub take_such-requires-clause-apart : goal.take_such-requires-clause-apart
take_such-requires-clause-apart c = c.self.invariant.0.apart

pub invariant_of-self : goal.invariant_of-self
invariant_of-self c =
    let last = c.self.inside.last in (
      subst (λ (bs : List Bind). IsSound (record { binds = bs; last = last })) (sym c.take_such.ensures.without)
          (sound-filter (λ b. not (is_such c.args.kind c.args.mask.now c.args.proc.now b)) c.self.inside.held.items last c.self.invariant.0),
      c.take_such.ensures.indexed,
    )

pub returns : goal.returns
returns c =
    let last = c.self.inside.last in
    let old : Table = record { binds = c.self.inside.held.items; last = last } in
    let new : Table = record { binds = c.take_such.new.held.items; last = last } in
    subst (λ (t : Table). Unbinds t c.args.kind c.args.mask.now c.args.proc.now c.ok_or.result new) c.self.view_is
    (unbinds-from old new c.args.kind c.args.mask.now c.args.proc.now c.take_such.result c.ok_or.result c.ok_or.ensures.value c.take_such.ensures.number
    (ap (λ (bs : List Bind). let t : Table = record { binds = bs; last = last } in t) c.take_such.ensures.without))
