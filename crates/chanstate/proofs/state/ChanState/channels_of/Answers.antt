use Rattle.std.proofs.Common.{◌<◌, List, length, filter, subst, rules, arith}
use Rattle.std.proofs.lemmas.List.{length-map}
use Rattle.chanstate.specs.declared.channel.Channel.{Channel}
use Rattle.chanstate.specs.Members.{has_member}
use Rattle.chanstate.specs.Views.{mapping_of, channels_with}
use Rattle.chanstate.proofs.state.ChanState.channels_of.Goals as goal

pub returns-in_err-names-clause-memory : goal.returns-in_err-names-clause-memory
returns-in_err-names-clause-memory c =
    let s = c.args.self.now in
    let nick = c.args.nick.now in
    let shared : List Channel = filter (λ (channel : Channel). has_member (mapping_of s) nick channel.members) s.channels in
    let some : 0 < length shared =
    subst (λ mapping. 0 < length (filter (λ (channel : Channel). has_member mapping nick channel.members) s.channels)) c.casemapping.ensures
    c.in_err-names.ensures.memory in
    let long = length-map shared (λ (channel : Channel). channel.name) in
    let why : 0 < length (channels_with nick s) = omega (arith, some, long) in
    search (rules, why)
