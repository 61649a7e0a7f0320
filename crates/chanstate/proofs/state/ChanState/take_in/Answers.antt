use Rattle.std.proofs.Common.{◌∙◌, ap, sym}
use Rattle.chanstate.specs.Items.{Renamed, Titled, NamesTold, Addressed, Told, names_in}
use Rattle.chanstate.specs.Channels.{on_channel}
use Rattle.chanstate.specs.Members.{shown_each}
use Rattle.chanstate.specs.Memory.{any_adds}
use Rattle.chanstate.specs.Plans.{joined_if}
use Rattle.chanstate.specs.Steps.{steps}
use Rattle.chanstate.proofs.KeptLemmas.{adds-none, joins_none, same_address, same_nick, same_topic, shown_none}
use Rattle.chanstate.specs.Seen.{detail_seen}
use Rattle.chanstate.proofs.StepLemmas.{each_step-listed}
use Rattle.chanstate.proofs.TellingLemmas.{joined_quietly, same_told, same_who}
use Rattle.chanstate.proofs.state.ChanState.take_in.Goals as goal

pub returns-in-Join : goal.returns-in-Join
returns-in-Join c =
    let s = c.args.self.now in
    let is = c.in-Join.ensures in
    let person = c.in-Join.person in
    c.note_join.ensures ∙ ap (λ b. record s { support = joined_if b s.support }) c.names_channel-joined.ensures
    ∙ sym (ap (λ items. steps items s) (sym is)
    ∙ joins_none person.nick.now person.user.now person.host.now c.in-Join.list.now s (ap (λ items. any_adds items s) is ∙ c.requires))

pub returns-in-Nick : goal.returns-in-Nick
returns-in-Nick c =
    let s = c.args.self.now in
    let is = c.in-Nick.ensures in
    let old = c.in-Nick.old.now in
    let new = c.in-Nick.new.now in
    sym (ap (λ items. steps items s) (sym is) ∙ same_nick old new s (adds-none (Renamed old new) s (ap (λ items. any_adds items s) is ∙ c.requires)))

pub returns-in-Topic : goal.returns-in-Topic
returns-in-Topic c =
    let s = c.args.self.now in
    let is = c.in-Topic.ensures in
    let channel = c.in-Topic.channel.now in
    let topic = c.in-Topic.topic.now in
    sym (ap (λ items. steps items s) (sym is) ∙ ap (λ cs. record s { channels = cs })
    (same_topic channel topic s (adds-none (Titled channel topic) s (ap (λ items. any_adds items s) is ∙ c.requires))))

pub returns-in-Address : goal.returns-in-Address
returns-in-Address c =
    let s = c.args.self.now in
    let is = c.in-Address.ensures in
    let channel = c.in-Address.channel.now in
    let nick = c.in-Address.nick.now in
    let user = c.in-Address.user.now in
    let host = c.in-Address.host.now in
    sym (ap (λ items. steps items s) (sym is) ∙ ap (λ cs. record s { channels = cs })
    (same_address channel nick user host s (adds-none (Addressed channel nick user host) s (ap (λ items. any_adds items s) is ∙ c.requires))))

pub returns-in-Names : goal.returns-in-Names
returns-in-Names c =
    let s = c.args.self.now in
    let is = c.in-Names.ensures in
    let channel = c.in-Names.channel.now in
    let names = c.in-Names.names.now in
    ap (λ cs. record s { channels = cs })
    (c.show.ensures ∙ ap (λ mapping. on_channel mapping channel (shown_each mapping (names_in s.support names)) s.channels) c.casemapping-mapping.ensures
    ∙ shown_none channel names s (adds-none (NamesTold channel names) s (ap (λ items. any_adds items s) is ∙ c.requires)))
    ∙ sym (each_step-listed channel (names_in s.support names) s) ∙ ap (λ items. steps items s) is

pub returns-in-JoinAs : goal.returns-in-JoinAs
returns-in-JoinAs c =
    let s = c.args.self.now in
    let is = c.in-JoinAs.ensures in
    let person = c.in-JoinAs.person in
    c.note_join-in-JoinAs.ensures ∙ ap (λ b. record s { support = joined_if b s.support }) c.names_channel-joined-in-JoinAs.ensures
    ∙ sym (ap (λ items. steps items s) (sym is)
    ∙ joined_quietly person.nick.now person.user.now person.host.now c.in-JoinAs.list.now c.in-JoinAs.account.now s (ap (λ items. any_adds items s) is ∙ c.requires))

pub returns-in-Who : goal.returns-in-Who
returns-in-Who c =
    let s = c.args.self.now in
    let is = c.in-Who.ensures in
    sym (ap (λ items. steps items s) (sym is)
    ∙ same_who c.in-Who.channel.now c.in-Who.user.now c.in-Who.host.now c.in-Who.nick.now c.in-Who.account.now s (ap (λ items. any_adds items s) is ∙ c.requires))

pub returns-in-Tell : goal.returns-in-Tell
returns-in-Tell c =
    let s = c.args.self.now in
    let is = c.in-Tell.ensures in
    let nick = c.in-Tell.nick.now in
    let detail = detail_seen c.in-Tell.detail in
    sym (ap (λ items. steps items s) (sym is) ∙ same_told nick detail s (adds-none (Told nick detail) s (ap (λ items. any_adds items s) is ∙ c.requires)))
