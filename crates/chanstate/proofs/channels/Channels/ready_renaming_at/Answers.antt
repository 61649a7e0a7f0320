use Rattle.std.proofs.Common.{◌≡◌, ◌∙◌, true, false, get_or, ap, sym, arith}
use Rattle.std.proofs.lemmas.Bool.{cond-false}
use Rattle.chanstate.specs.Members.{has_member, renamed}
use Rattle.chanstate.specs.declared.channel.Channel.{Channel}
use Rattle.chanstate.specs.Takes.{given, on_place}
use Rattle.chanstate.proofs.TakeLemmas.{given-other, on_place-still}
use Rattle.chanstate.proofs.channels.Channels.ready_renaming_at.Goals as goal

pub returns-then-not-holds-clause-done : goal.returns-then-not-holds-clause-done
returns-then-not-holds-clause-done c =
    let takes = c.args.takes.now.items in
    let cs = c.args.self.now in
    let change = renamed c.args.mapping c.args.old.now c.args.new.now in
    let here = c.index-as_slice-at.result in
    let read : here ≡ get_or cs c.args.at here = c.index-as_slice-at.is ∙ ap (λ ds. get_or ds c.args.at here) c.as_slice.ensures in
    let none : has_member c.args.mapping c.args.old.now here.members ≡ false = ap (λ (d : Channel). has_member c.args.mapping c.args.old.now d.members) c.index-as_slice-at.is
    ∙ sym c.holds.ensures ∙ c.if-not-holds.true in
    let still = ap (λ (d : Channel). change d.members) (sym read) ∙ cond-false _ _ _ none ∙ ap (λ (d : Channel). d.members) read in
    sym (sym (given-other true c.args.at change takes cs (c.requires.fresh c.args.at (omega arith)))
    ∙ ap (given true takes) (on_place-still c.args.at change cs here still))

pub returns-clause-done : goal.returns-clause-done
returns-clause-done c =
    let takes = c.args.takes.now.items in
    let cs = c.args.self.now in
    c.in_ok-take.ensures.taken.done ∙ ap (λ f. given true takes (on_place c.args.at f cs)) c.in_ok-task.ensures.done
    ∙ given-other true c.args.at (renamed c.args.mapping c.args.old.now c.args.new.now) takes cs (c.requires.fresh c.args.at (omega arith))
