use Rattle.std.proofs.Common.{◌≡◌, Some, None, ◌∙◌, ap, sym}
use Rattle.std.proofs.lemmas.Result.{IfOk-weaker}
use Rattle.indexmap.specs.IndexMap.{values}
use Rattle.userfile.specs.Apply.{with_channel}
use Rattle.userfile.specs.UserEdits.{with_channels}
use Rattle.userfile.specs.Held.{user_of}
use Rattle.userfile.proofs.EntryLemmas.{with_user-like, with_user-absent}
use Rattle.userfile.proofs.plan.entries_with.Goals as goal

pub returns-in-Some : goal.returns-in-Some
returns-in-Some c =
    let found : user_of c.args.handle.now (values c.args.users.now) ≡ Some c.in-Some.user.now = sym c.in-Some.ensures in
    IfOk-weaker c.with.result _ _
    (λ entries same. with_user-like c.args.handle.now (with_channels entries) (with_channel c.args.channel.now c.args.flags) (values c.args.users.now)
    c.in-Some.user.now found (ap (λ es. with_channels es c.in-Some.user.now) same))
    c.with.ensures

pub returns-in-None : goal.returns-in-None
returns-in-None c =
    let nobody : user_of c.args.handle.now (values c.args.users.now) ≡ None = sym c.in-None.ensures in
    with_user-absent c.args.handle.now (with_channels c.empty.result) (values c.args.users.now) nobody
    ∙ sym (with_user-absent c.args.handle.now (with_channel c.args.channel.now c.args.flags) (values c.args.users.now) nobody)
