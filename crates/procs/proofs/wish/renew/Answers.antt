use Rattle.std.proofs.Common.{◌≡◌, ℕ, List, sym, ap, ◌∙◌}
use Rattle.std.proofs.Math.ListN.{set}
use Rattle.procs.specs.declared.bind.Bind.{Bind}
use Rattle.procs.specs.Wishes.{asked_of}
use Rattle.procs.proofs.TableLemmas.{flags_set, number_found}
use Rattle.procs.proofs.wish.renew.Goals as goal

pub returns-clause-ok : goal.returns-clause-ok
returns-clause-ok c =
    let held : List Bind = c.args.held.now.items in
    let asked = asked_of c.args.wish.now in
    let was : Bind = c.index_mut-one.result.now in
    let written : c.set_flags.new.self ≡ record was { flags = asked.flags } = c.set_flags.ensures
    ∙ ap (λ (t : List ℕ). let b : Bind = record was { flags = t } in b) c.in_ok-text.ensures in
    ap (set held c.args.at) (written ∙ ap (λ (b : Bind). let x : Bind = record b { flags = asked.flags } in x) c.index_mut-one.ensures.value)
    ∙ flags_set asked held c.args.at was c.requires.apart c.requires.found

pub returns-clause-number : goal.returns-clause-number
returns-clause-number c last =
    let held : List Bind = c.args.held.now.items in
    let was : Bind = c.index_mut-one.result.now in
    ap (λ (b : Bind). b.number) (c.bind.ensures ∙ c.set_flags.ensures) ∙ ap (λ (b : Bind). b.number) c.index_mut-one.ensures.value
    ∙ sym (number_found held (asked_of c.args.wish.now) c.args.at last was c.requires.apart c.requires.found)
