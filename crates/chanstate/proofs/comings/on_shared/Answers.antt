use Rattle.std.proofs.Common.{◌≡◌, subst, map, filter, IfOk}
use Rattle.chanstate.specs.declared.channel.Channel.{Channel}
use Rattle.chanstate.specs.Members.{has_member}
use Rattle.chanstate.specs.Deeds.{told}
use Rattle.chanstate.proofs.StepLemmas.{map-by}
use Rattle.chanstate.proofs.comings.on_shared.Goals as goal

pub returns : goal.returns
returns c =
    let one = told c.args.deed.now in
    let nick = c.args.deed.now.by.nick.now in
    let has : Channel → _ = λ channel. has_member c.casemapping.result nick channel.members in
    subst (λ mapping. IfOk c.on_each.result (λ v. v.items
    ≡ map one (map (λ channel. channel.name) (filter (λ (channel : Channel). has_member mapping nick channel.members) c.args.state.now.channels)))) c.casemapping.ensures
    (subst (λ all. IfOk c.on_each.result (λ v. v.items ≡ all)) (map-by one (λ channel. channel.name) (filter has c.args.state.now.channels))
    (subst (λ channels. IfOk c.on_each.result (λ v. v.items ≡ map (λ channel. one channel.name) (filter has channels))) c.as_slice.ensures
    c.on_each.ensures))
