use Rattle.std.proofs.Common.{◌≡◌, ◌∙◌, false, true, Some, ap, sym, rules}
use Rattle.std.specs.List.{list_any}
use Rattle.rfccase.specs.Casemapping.{is_same_by}
use Rattle.chanstate.specs.Channels.{is_held}
use Rattle.chanstate.specs.Items.{channels_on}
use Rattle.chanstate.specs.Members.{unmarked}
use Rattle.chanstate.specs.Plans.{joined_if, told}
use Rattle.chanstate.specs.Takes.{came_each}
use Rattle.chanstate.specs.Views.{mapping_of}
use Rattle.chanstate.proofs.ComeLemmas.{joins_some, steps-came}
use Rattle.chanstate.proofs.state.ChanState.ready_joins.Goals as goal

pub returns-in_err-takes-clause-memory : goal.returns-in_err-takes-clause-memory
returns-in_err-takes-clause-memory c =
    let s = c.args.self.now in
    let person = c.args.person in
    let held : list_any (λ name. is_held (mapping_of s) name s.channels) (channels_on s.support c.args.list.now) ≡ true =
    ap (λ mapping. list_any (λ name. is_held mapping name s.channels) (channels_on s.support c.args.list.now)) (sym c.casemapping-mapping.ensures)
    ∙ c.in_err-takes.ensures.memory in
    let why = joins_some person.nick.now person.user.now person.host.now c.args.list.now s held in
    search (rules, why)

pub returns-clause-ready : goal.returns-clause-ready
returns-clause-ready c =
    let s = c.args.self.now in
    let person = c.args.person in
    let names = channels_on s.support c.args.list.now in
    let one = unmarked person.nick.now person.user.now person.host.now in
    let ready = c.in_ok-takes.ensures.ready in
    let joined = c.names_channel.result in
    let other : is_same_by (mapping_of s) person.nick.now s.nick ≡ false =
    ap (λ nick. is_same_by (mapping_of s) person.nick.now nick) (sym c.as_bytes.ensures)
    ∙ (ap (λ mapping. is_same_by mapping person.nick.now c.as_bytes.result.now) (sym c.casemapping.ensures) ∙ sym c.is_same.ensures ∙ c.if-is_same.false) in (
      ap (λ cs. record s { channels = cs }) ready.0,
      ap (λ z. Some (told c.args.telling z)) (ap (λ cs. record s { channels = cs; support = joined_if joined s.support })
          (ready.1 ∙ ap (λ mapping. came_each mapping one names s.channels) c.casemapping-mapping.ensures)
          ∙ ap (λ b. record s { channels = came_each (mapping_of s) one names s.channels; support = joined_if b s.support }) c.names_channel.ensures
          ∙ sym (steps-came person.nick.now person.user.now person.host.now c.args.list.now s other)),
    )
