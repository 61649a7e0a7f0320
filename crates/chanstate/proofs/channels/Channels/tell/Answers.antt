use Rattle.std.proofs.Common.{◌≡◌, ◌∙◌, length, ap, sym, arith}
use Rattle.chanstate.specs.Firsts.{first_changed}
use Rattle.chanstate.specs.Members.{is_called, with_detail}
use Rattle.chanstate.specs.Takes.{on_place}
use Rattle.chanstate.specs.Tellings.{told_each}
use Rattle.chanstate.proofs.TellingLemmas.{told_each-end}
use Rattle.chanstate.proofs.channels.Channels.tell.Goals as goal

pub loop-detail-preserved : goal.loop-detail-preserved
loop-detail-preserved c =
    let mapping = c.args.mapping in
    let nick = c.args.nick.now in
    let left = c.pop.new.self.items in
    let detail = c.in-Some.detail in
    let long : c.len.result ≡ length left = omega (arith, c.len.ensures) in
    ap (told_each mapping nick left)
    (c.tell_at.ensures ∙ ap (λ at. on_place at (first_changed (is_called mapping nick) (with_detail detail)) c.loop-detail.self) long)
    ∙ told_each-end mapping nick left detail c.loop-detail.self
    ∙ ap (λ ds. told_each mapping nick ds c.loop-detail.self) (sym c.in-Some.ensures.items) ∙ c.loop-detail.invariant
