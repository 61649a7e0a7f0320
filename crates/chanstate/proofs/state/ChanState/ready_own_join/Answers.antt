use Rattle.std.proofs.Common.{◌<◌, ◌∙◌, Some, List, length, map, ap, sym, rules, arith}
use Rattle.std.proofs.lemmas.List.{length-map}
use Rattle.chanstate.specs.declared.channel.Channel.{Channel}
use Rattle.chanstate.specs.Channels.{opened, put_each_last}
use Rattle.chanstate.specs.Items.{channels_on}
use Rattle.chanstate.specs.Members.{unmarked}
use Rattle.chanstate.specs.Plans.{joined_if, told}
use Rattle.chanstate.specs.Views.{mapping_of}
use Rattle.chanstate.proofs.KeptLemmas.{any_adds-own}
use Rattle.chanstate.proofs.ComeLemmas.{steps-own}
use Rattle.chanstate.proofs.state.ChanState.ready_own_join.Goals as goal

pub returns-in_err-opened-clause-memory : goal.returns-in_err-opened-clause-memory
returns-in_err-opened-clause-memory c =
    let person = c.args.person in
    let why = any_adds-own person.nick.now person.user.now person.host.now c.args.list.now c.args.self.now c.requires
    c.in_err-opened.ensures.memory in
    search (rules, why)

pub returns-in_err-opening-clause-memory : goal.returns-in_err-opening-clause-memory
returns-in_err-opening-clause-memory c =
    let person = c.args.person in
    let long = ap length c.in_ok-opened.ensures.opened
    ∙ length-map (channels_on c.args.self.now.support c.args.list.now) (λ name. opened name (unmarked person.nick.now person.user.now person.host.now)) in
    let some : 0 < length (channels_on c.args.self.now.support c.args.list.now) = omega (arith, long, c.in_err-opening.ensures.memory) in
    let why = any_adds-own person.nick.now person.user.now person.host.now c.args.list.now c.args.self.now c.requires some in
    search (rules, why)

pub returns-clause-ready : goal.returns-clause-ready
returns-clause-ready c =
    let s = c.args.self.now in
    let person = c.args.person in
    let names = channels_on s.support c.args.list.now in
    let news = map (λ name. opened name (unmarked person.nick.now person.user.now person.host.now)) names in
    let joined = c.names_channel.result in
    let ready = c.in_ok-opening.ensures.ready in (
      ap (λ (p : List Channel × List Channel). record s { channels = p.0 }) ready,
      ap (λ z. Some (told c.args.telling z)) (ap (λ (p : List Channel × List Channel). record s { channels = p.1; support = joined_if joined s.support }) ready
          ∙ ap (λ os. record s { channels = put_each_last c.casemapping-mapping.result os s.channels; support = joined_if joined s.support })
          c.in_ok-opened.ensures.opened
          ∙ ap (λ mapping. record s { channels = put_each_last mapping news s.channels; support = joined_if joined s.support }) c.casemapping-mapping.ensures
          ∙ ap (λ b. record s { channels = put_each_last (mapping_of s) news s.channels; support = joined_if b s.support }) c.names_channel.ensures
          ∙ sym (steps-own person.nick.now person.user.now person.host.now c.args.list.now s c.requires)),
    )
