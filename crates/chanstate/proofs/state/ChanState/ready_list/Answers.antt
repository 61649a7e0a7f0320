use Rattle.std.proofs.Common.{◌∙◌, false, true, refl, ap, sym, rules}
use Rattle.std.specs.Prelude.{find, is_some}
use Rattle.std.specs.List.{list_any}
use Rattle.std.specs.Map.{values_of}
use Rattle.chanstate.specs.Items.{NamesTold, names_in}
use Rattle.chanstate.specs.Channels.{is_named, on_channel}
use Rattle.chanstate.specs.Memory.{lacks}
use Rattle.chanstate.specs.Members.{listed_each}
use Rattle.chanstate.specs.Takes.{given, on_place}
use Rattle.chanstate.proofs.KeptLemmas.{any_adds-one}
use Rattle.chanstate.proofs.StepLemmas.{each_step-listed}
use Rattle.chanstate.proofs.TakeLemmas.{on_channel-at}
use Rattle.chanstate.proofs.state.ChanState.ready_list.Goals as goal

pub returns-in_default-clause-ready : goal.returns-in_default-clause-ready
returns-in_default-clause-ready c = (
  refl,
  any_adds-one (NamesTold c.args.channel.now c.args.names.now) c.args.self.now ∙ sym (c.place_lacking.ensures.lacking
      ∙ ap (λ mapping. list_any (λ one. lacks mapping one.nick (find (is_named mapping c.args.channel.now) c.args.self.now.channels))
      (names_in c.args.self.now.support c.args.names.now)) c.casemapping-mapping.ensures) ∙ ap is_some c.in_default.is,
)

pub returns-in_err-ones-clause-memory : goal.returns-in_err-ones-clause-memory
returns-in_err-ones-clause-memory c =
    let why = any_adds-one (NamesTold c.args.channel.now c.args.names.now) c.args.self.now ∙ sym (c.place_lacking.ensures.lacking
    ∙ ap (λ mapping. list_any (λ one. lacks mapping one.nick (find (is_named mapping c.args.channel.now) c.args.self.now.channels))
    (names_in c.args.self.now.support c.args.names.now)) c.casemapping-mapping.ensures) ∙ ap is_some c.in-Some.is in
    search (rules, why)

pub returns-in_err-take-clause-memory : goal.returns-in_err-take-clause-memory
returns-in_err-take-clause-memory c =
    let why = any_adds-one (NamesTold c.args.channel.now c.args.names.now) c.args.self.now ∙ sym (c.place_lacking.ensures.lacking
    ∙ ap (λ mapping. list_any (λ one. lacks mapping one.nick (find (is_named mapping c.args.channel.now) c.args.self.now.channels))
    (names_in c.args.self.now.support c.args.names.now)) c.casemapping-mapping.ensures) ∙ ap is_some c.in-Some.is in
    search (rules, why)

pub returns-clause-ready : goal.returns-clause-ready
returns-clause-ready c =
    let s = c.args.self.now in
    let names = names_in c.args.self.now.support c.args.names.now in
    let taken = c.in_ok-take.ensures.taken in
    let none = c.new-takes.ensures.items in
    let at = c.in-Some.at in
    let by = c.casemapping-mapping.result in
    let by-is = c.casemapping-mapping.ensures in
    let ones = values_of c.in_ok-ones.ones.items in (
      ap (λ cs. record s { channels = cs }) (taken.back ∙ ap (λ ts. given false ts s.channels) none),
      ap (λ cs. record s { channels = cs })
          (taken.done ∙ ap (λ ts. given true ts (on_place at (listed_each by ones) s.channels)) none
          ∙ ap (λ ns. on_place at (listed_each by ns) s.channels) c.in_ok-ones.ensures.named
          ∙ sym (on_channel-at by c.args.channel.now at (listed_each by names) s.channels c.in-Some.ensures.some)
          ∙ ap (λ mapping. on_channel mapping c.args.channel.now (listed_each mapping names) s.channels) by-is)
          ∙ sym (each_step-listed c.args.channel.now names s),
    )
