use Rattle.std.proofs.Common.{◌∙◌, sym, ap, subst, List, ℕ}
use Rattle.userfile.specs.Records.{Records}
use Rattle.userfile.specs.Persons.{user_for, handle_or_star, IsHandleFor}
use Rattle.userfile.proofs.DeciderLemmas.{handle_of-IsHandleFor}
use Rattle.userfile.proofs.userfile.Userfile.handle_of.Goals as goal

pub returns-in-Some-clause-decides : goal.returns-in-Some-clause-decides
returns-in-Some-clause-decides c =
    let known = c.in-Some.ensures ∙ ap (λ (r : Records). user_for c.args.mapping c.args.who.now r.users) c.self.view_is in
    subst (λ (h : List ℕ). IsHandleFor c.args.mapping c.args.self.now.users c.args.who.now h) (sym (c.as_bytes.ensures ∙ ap handle_or_star known))
    (handle_of-IsHandleFor c.args.mapping c.args.self.now.users c.args.who.now)

pub returns-in-None-clause-decides : goal.returns-in-None-clause-decides
returns-in-None-clause-decides c =
    let unknown = c.in-None.ensures ∙ ap (λ (r : Records). user_for c.args.mapping c.args.who.now r.users) c.self.view_is in
    subst (λ (h : List ℕ). IsHandleFor c.args.mapping c.args.self.now.users c.args.who.now h) (sym (ap handle_or_star unknown))
    (handle_of-IsHandleFor c.args.mapping c.args.self.now.users c.args.who.now)
