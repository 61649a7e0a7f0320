use Rattle.std.proofs.Common.{◌≡◌, ℕ, List, refl, sym, subst, ap, ◌∙◌}
use Rattle.userfile.specs.Apply.{user_edited, with_info}
use Rattle.userfile.specs.UserEdits.{with_channels}
use Rattle.userfile.specs.Keys.{records_of}
use Rattle.userfile.specs.Plans.{Suits}
use Rattle.userfile.specs.Together.{AreSound}
use Rattle.userfile.specs.declared.plan.Plan.TheVariants.{Later, Channels, Info}
use Rattle.userfile.specs.declared.user.User.{User}
use Rattle.userfile.proofs.SoundLemmas.{edit_made-sound}
use Rattle.userfile.proofs.userfile.Userfile.settle.Goals as goal

pub invariant_of-self : goal.invariant_of-self
invariant_of-self c =
    let held = records_of c.self.inside.users.entries c.self.inside.bans.items in
    let suits : Suits Later c.args.edit.now held =
    subst (λ r. Suits Later c.args.edit.now r) (sym c.self.view_is) (subst (λ p. Suits p c.args.edit.now c.args.self.now) c.in-Later.is c.requires) in (
      c.take_in.ensures.keyed,
      c.take_in.ensures.index,
      subst AreSound (sym c.take_in.ensures.changed) (edit_made-sound held c.args.edit.now c.self.invariant.2 suits.0),
    )

pub invariant_of-self-in-Channels : goal.invariant_of-self-in-Channels
invariant_of-self-in-Channels c =
    let held = records_of c.self.inside.users.entries c.self.inside.bans.items in
    let suits : Suits (Channels c.in-Channels.handle c.in-Channels.entries) c.args.edit.now held =
    subst (λ r. Suits (Channels c.in-Channels.handle c.in-Channels.entries) c.args.edit.now r) (sym c.self.view_is)
    (subst (λ p. Suits p c.args.edit.now c.args.self.now) c.in-Channels.is c.requires) in
    let new : records_of c.edit_user.new.users.entries c.self.inside.bans.items
    ≡ user_edited held c.in-Channels.handle (with_channels c.in-Channels.entries) =
    ap (λ (us : List User). record held { users = us }) c.edit_user.ensures.edited
    ∙ ap (λ (h : List ℕ). user_edited held h (with_channels c.in-Channels.entries)) c.as_bytes.ensures in (
      c.edit_user.ensures.keyed,
      c.edit_user.ensures.index c.self.inside.index refl c.self.invariant.1,
      subst AreSound (sym (new ∙ suits.1)) (edit_made-sound held c.args.edit.now c.self.invariant.2 suits.0),
    )

pub invariant_of-self-in-Info : goal.invariant_of-self-in-Info
invariant_of-self-in-Info c =
    let held = records_of c.self.inside.users.entries c.self.inside.bans.items in
    let suits : Suits (Info c.in-Info.handle c.in-Info.info) c.args.edit.now held =
    subst (λ r. Suits (Info c.in-Info.handle c.in-Info.info) c.args.edit.now r) (sym c.self.view_is)
    (subst (λ p. Suits p c.args.edit.now c.args.self.now) c.in-Info.is c.requires) in
    let new : records_of c.edit_user-in-Info.new.users.entries c.self.inside.bans.items ≡ user_edited held c.in-Info.handle (with_info c.in-Info.info) =
    ap (λ (us : List User). record held { users = us }) c.edit_user-in-Info.ensures.edited
    ∙ ap (λ (h : List ℕ). user_edited held h (with_info c.in-Info.info)) c.as_bytes-in-Info.ensures in (
      c.edit_user-in-Info.ensures.keyed,
      c.edit_user-in-Info.ensures.index c.self.inside.index refl c.self.invariant.1,
      subst AreSound (sym (new ∙ suits.1)) (edit_made-sound held c.args.edit.now c.self.invariant.2 suits.0),
    )
