use Rattle.std.proofs.Common.{◌∙◌, Some, ap, sym, rules}
use Rattle.std.specs.List.{list_any}
use Rattle.std.specs.Option.{option_map}
use Rattle.std.proofs.lemmas.List.{take_all}
use Rattle.eggprocs.specs.Everyone.{address_of}
use Rattle.eggprocs.specs.Recorded.{is_beside}
use Rattle.eggprocs.proofs.Lists.{found-none, first-found}
use Rattle.eggprocs.proofs.recorded.address_beside.Goals as goal

pub returns-then-branch : goal.returns-then-branch
returns-then-branch c =
    ap Some c.in_ok-address_of.ensures
    ∙ sym (ap (option_map address_of)
    (first-found (is_beside c.args.mask.now c.args.call.now c.args.view.now) c.args.members.now c.loop-member.member-index c.member-item.result
    (search rules) c.member-item.is c.loop-member.invariant (sym c.in_ok-is_beside.ensures ∙ c.if-branch.true)))

pub returns : goal.returns
returns c =
    sym (ap (option_map address_of) (found-none (is_beside c.args.mask.now c.args.call.now c.args.view.now) c.args.members.now
    (sym (ap (list_any (is_beside c.args.mask.now c.args.call.now c.args.view.now))
    (take_all c.loop-member.member-index c.args.members.now (search rules))) ∙ c.loop-member.invariant)))
