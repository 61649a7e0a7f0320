use Rattle.std.proofs.Common.{◌<◌, ◌^◌, List, ℕ, length, sym, ◌∙◌, subst}
use Rattle.botjournal.specs.declared.TheConstants.{LAYOUT}
use Rattle.botjournal.specs.Sums.{start}
use Rattle.botjournal.proofs.LengthLaws.{base_is_short, shapes_are}
use Rattle.botjournal.proofs.OpenLaws.{creates, new_is_sealed}
use Rattle.botjournal.proofs.journal.BotJournal.create.Goals as goal

pub sealed_base-requires : goal.sealed_base-requires
sealed_base-requires g c = shapes_are c.args.base.now c.requires.good

pub create-requires-clause-small : goal.create-requires-clause-small
create-requires-clause-small g c =
    subst (λ (t : List ℕ). length t < 2 ^ 32) (sym (c.deref.ensures.value ∙ c.in-Ok.ensures.text))
    (base_is_short c.args.base.now c.requires.good (start LAYOUT 1))

pub invariant_of-result : goal.invariant_of-result
invariant_of-result g c = (
  sym c.in-Ok-create.ensures.0,
  new_is_sealed g.D.Disk.state c.args.first c.args.second c.args.base.now c.deref.result.now c.in-Ok.made.seal
      (c.deref.ensures.value ∙ c.in-Ok.ensures.text) c.in-Ok.ensures.seal c.in-Ok-create.texts c.in-Ok-create.ensures,
)

pub returns-in-Ok-create : goal.returns-in-Ok-create
returns-in-Ok-create g c =
    creates g.D.Disk.state c.args.first c.args.second c.args.base.now c.deref.result.now c.requires.good
    (c.deref.ensures.value ∙ c.in-Ok.ensures.text) c.in-Ok-create.texts c.in-Ok-create.ensures
