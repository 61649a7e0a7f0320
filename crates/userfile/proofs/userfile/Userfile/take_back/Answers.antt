use Rattle.std.proofs.Common.{sym, subst}
use Rattle.userfile.specs.Keys.{records_of}
use Rattle.userfile.specs.Plans.{Suits, taken_back}
use Rattle.userfile.specs.Together.{AreSound}
use Rattle.userfile.specs.declared.plan.Plan.TheVariants.{Added}
use Rattle.userfile.proofs.SoundLemmas.{edit_made-sound}
use Rattle.userfile.proofs.userfile.Userfile.take_back.Goals as goal

pub invariant_of-self : goal.invariant_of-self
invariant_of-self c =
    let held = records_of c.self.inside.users.entries c.self.inside.bans.items in
    let suits : Suits Added c.args.edit.now held =
    subst (λ r. Suits Added c.args.edit.now r) (sym c.self.view_is) (subst (λ p. Suits p c.args.edit.now c.args.self.now) c.in-Added.is c.requires) in (
      c.take_back.ensures.keyed,
      c.take_back.ensures.index,
      subst AreSound (sym c.take_back.ensures.changed) (edit_made-sound held (taken_back c.args.edit.now) c.self.invariant.2 suits.0),
    )
