use Rattle.std.proofs.Common.{◌∙◌, ap, sym}
use Rattle.std.specs.List.{list_any}
use Rattle.chanstate.specs.Channels.{is_named}
use Rattle.chanstate.specs.Items.{names_in}
use Rattle.chanstate.specs.Memory.{lacks}
use Rattle.bytetext.proofs.Lists.{find-none}
use Rattle.chanstate.proofs.FirstsLemmas.{found_at, nowhere}
use Rattle.chanstate.proofs.KeptLemmas.{lacks_none}
use Rattle.chanstate.proofs.channels.Channels.place_lacking.Goals as goal

pub returns-in_default-clause-lacking : goal.returns-in_default-clause-lacking
returns-in_default-clause-lacking c =
    let names = names_in c.args.support.now c.args.names.now in
    let test = is_named c.args.mapping c.args.name.now in
    sym (ap (λ o. list_any (λ one. lacks c.args.mapping one.nick o) names)
    (find-none test c.args.self.now (nowhere test c.args.self.now c.place.result c.place.ensures c.in_default.is)) ∙ lacks_none c.args.mapping names)

pub returns-then-not-lacks_any-clause-lacking : goal.returns-then-not-lacks_any-clause-lacking
returns-then-not-lacks_any-clause-lacking c =
    let names = names_in c.args.support.now c.args.names.now in
    let channel = c.index-channel.result.now in
    let here = found_at (is_named c.args.mapping c.args.name.now) _ c.args.self.now c.in-Some.at channel c.self.view_is c.in-Some.ensures c.index-channel.ensures in
    sym (ap (λ o. list_any (λ one. lacks c.args.mapping one.nick o) names) here ∙ sym c.lacks_any.ensures ∙ c.if-not-lacks_any.true)

pub returns-clause-lacking : goal.returns-clause-lacking
returns-clause-lacking c =
    let names = names_in c.args.support.now c.args.names.now in
    let channel = c.index-channel.result.now in
    let here = found_at (is_named c.args.mapping c.args.name.now) _ c.args.self.now c.in-Some.at channel c.self.view_is c.in-Some.ensures c.index-channel.ensures in
    sym (ap (λ o. list_any (λ one. lacks c.args.mapping one.nick o) names) here ∙ sym c.lacks_any.ensures ∙ c.if-not-lacks_any.false)
