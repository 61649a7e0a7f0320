use Rattle.std.proofs.Common.{◌∙◌, List, ap, subst, sym}
use Rattle.sharelink.specs.declared.answer.Outgoing.{Outgoing}
use Rattle.watching.specs.Following.{LetsSend, after_sends}
use Rattle.watching.specs.Following.Follows.{so_far}
use Rattle.watching.proofs.SendingLemmas.{reported, reported_lets}
use Rattle.botrun.proofs.bot_process.look_back.Goals as goal

pub send_all-requires-clause-lets : goal.send_all-requires-clause-lets
send_all-requires-clause-lets g c =
    let step = c.watched_step-report in
    subst (λ (packets : List Outgoing). LetsSend g.W.Watcher.may (g.W.Watcher.past step.new.watcher) packets)
    (sym c.as_slice-packets.ensures)
    (reported_lets _ _ _ _ _ _ step.result _ _ _ _ c.requires.settled step.ensures.watched step.ensures.past)

pub returns-then-not-is_leaf : goal.returns-then-not-is_leaf
returns-then-not-is_leaf g c = record { follows = so_far; watched = c.requires.watched; settled = c.requires.settled }

pub returns : goal.returns
returns g c =
    let step = c.watched_step-report in
    reported _ _ _ _ _ _ _ step.result _ _ _ _ _ c.requires.settled step.ensures.follows step.ensures.watched step.ensures.past
    (c.in_ok-send_all.ensures.past
    ∙ ap (λ (packets : List Outgoing). after_sends packets (g.W.Watcher.past step.new.watcher)) c.as_slice-packets.ensures)
    c.in_ok-send_all.ensures.told
