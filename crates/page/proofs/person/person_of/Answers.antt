use Rattle.std.proofs.Common.{◌≡◌, ◌∙◌, None, Some, ap, sym}
use Rattle.std.specs.Option.{option_copied}
use Rattle.userfile.specs.Held.{user_of}
use Rattle.userfile.specs.Persons.{handle_or_star, user_for}
use Rattle.page.specs.Persons.{deciding_mask}
use Rattle.page.proofs.PersonLemmas.{one_decides, user_of_handle}
use Rattle.page.proofs.person.person_of.Goals as goal

-- nobody is found
pub returns-in_default : goal.returns-in_default
returns-in_default c =
    sym (user_of_handle c.args.mapping c.args.who.now c.args.userfile.now c.are_sound.ensures)
    ∙ ap (λ handle. user_of handle c.args.userfile.now.users) (sym c.handle_of.ensures.value) ∙ sym c.in_default.ensures

-- a user is found, so one of the user's masks decides
pub returns-in-None : goal.returns-in-None
returns-in-None c =
    let found : user_for c.args.mapping c.args.who.now c.args.userfile.now.users ≡ Some c.in-Some.user.now =
    sym (user_of_handle c.args.mapping c.args.who.now c.args.userfile.now c.are_sound.ensures)
    ∙ ap (λ handle. user_of handle c.args.userfile.now.users) (sym c.handle_of.ensures.value)
    ∙ sym c.user.ensures ∙ ap option_copied c.in-Some.is in
    let none : deciding_mask c.args.mapping c.args.who.now c.in-Some.user.now.masks ≡ None =
    ap (deciding_mask c.args.mapping c.args.who.now) (sym c.as_slice.ensures) ∙ sym c.deciding_mask.ensures ∙ ap option_copied c.in-None.is in
    absurd (one_decides c.args.mapping c.args.who.now c.args.userfile.now c.are_sound.ensures c.in-Some.user.now found none)

-- and it is this one
pub returns-in-Some-deciding_mask : goal.returns-in-Some-deciding_mask
returns-in-Some-deciding_mask c =
    let found : user_for c.args.mapping c.args.who.now c.args.userfile.now.users ≡ Some c.in-Some.user.now =
    sym (user_of_handle c.args.mapping c.args.who.now c.args.userfile.now c.are_sound.ensures)
    ∙ ap (λ handle. user_of handle c.args.userfile.now.users) (sym c.handle_of.ensures.value)
    ∙ sym c.user.ensures ∙ ap option_copied c.in-Some.is in
    record {
      found = found;
      named = ap handle_or_star found;
      decides = ap (deciding_mask c.args.mapping c.args.who.now) (sym c.as_slice.ensures) ∙ sym c.deciding_mask.ensures
          ∙ ap option_copied c.in-Some-deciding_mask.is;
    }
