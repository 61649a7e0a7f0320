use Rattle.std.proofs.Common.{◌∙◌, sym}
use Rattle.userfile.proofs.EntryLemmas.{lookup-user_of, user_of-long}
use Rattle.userfile.proofs.entries.find_user.Goals as goal

pub returns-in-Some : goal.returns-in-Some
returns-in-Some c = c.get.ensures.value
    ∙ lookup-user_of c.args.handle.now c.as_bytes.result.now c.args.users.now.entries (c.as_bytes.ensures ∙ c.in-Some.ensures) c.requires

pub returns-in-None : goal.returns-in-None
returns-in-None c = sym (user_of-long c.args.handle.now c.args.users.now.entries c.in-None.ensures c.requires)
