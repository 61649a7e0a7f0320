use Rattle.std.proofs.Common.{◌≡◌, ◌+◌, ◌∙◌, true, Some, Ok, sym, ap, subst}
use Rattle.userfile.specs.declared.change.Change.{Change}
use Rattle.botjournal.proofs.WindowLaws.{out_few}
use Rattle.protocol.specs.Notes.Note.{Sent}
use Rattle.protocol.specs.Journals.{leaf_meaning}
use Rattle.protocol.specs.LeafRules.{LeafState, LeafRecord, LeafLoose, Out, may_go_out, with_request, leaf_folded}
use Rattle.protocol.proofs.Requests.{out-next}
use Rattle.sharelink.specs.declared.note.LinkNote.TheVariants as told
use Rattle.sharelink.specs.declared.answer.Answer.{Answer}
use Rattle.sharelink.specs.Kept.{Journals, LeavesOwn}
use Rattle.sharelink.specs.LeafLinks.{LeafEnd, Calls, leaf_end, pumped_up}
use Rattle.sharelink.proofs.PumpLaws.{requests-few, oldest-first, ask-sent, ask-packets, pumped-if-up}
use Rattle.sharelink.proofs.leaf_link.LeafLink.pump.Goals as goal

pub returns-in-Ok-clause-row : goal.returns-in-Ok-clause-row
returns-in-Ok-clause-row g c =
    let inside = c.self.inside in
    let state : LeafState = inside.kept.state in
    let change : Change = c.in-Some.change.now in
    let before : LeafLoose = record { waiting = inside.waiting.items; parts = inside.parts } in
    let answer : Answer = record { note = told.Sent (c.last_request-request.result + 1); packets = c.new.result } in
    let entry : c.out-out.result ≡ Out change = c.out-out.ensures ∙ ap (λ (one : Change). Out one) c.in_ok-copy.ensures in
    let may : may_go_out state.last state.out ≡ true =
    ap (λ (l : LeafState). may_go_out l.last l.out) (sym c.state.ensures) ∙ sym c.may_go_out.ensures ∙ c.if-not-may_go_out.false in
    let last : c.last_request-request.result ≡ state.last =
    c.last_request-request.ensures ∙ ap (λ (l : LeafState). l.last) c.state-state.ensures in
    pumped-if-up c.args.self.now (leaf_end inside.leaves c.journal.new.self (record before { waiting = c.pop_front.new.self.items })) (Ok answer)
    (ap (λ (e : LeafEnd). e.bot.down) (sym c.self.view_is) ∙ sym c.is_down.ensures ∙ c.if-is_down.false)
    (subst (λ (e : LeafEnd). Calls e (pumped_up e) (Ok answer)
    (leaf_end inside.leaves c.journal.new.self (record before { waiting = c.pop_front.new.self.items }))) c.self.view_is
    (ask-sent inside.leaves inside.kept c.journal.new.self before change may c.pop_front.new.self.items
    (oldest-first inside.waiting.items c.pop_front.new.self.items change c.in-Some.ensures.item.3.0 c.in-Some.ensures.item.1 c.pop_front.ensures.rest)
    answer
    (subst (λ (r : LeafRecord). LeavesOwn (leaf_meaning inside.kept.who) leaf_folded inside.kept.state (Some r) inside.kept.device
    c.journal.new.self.device) entry c.journal.ensures.any_moment)
    (subst (λ (r : LeafRecord). Journals leaf_folded r inside.kept (Ok tt) c.journal.new.self) entry c.in-Ok.ensures.row)
    (ap (λ n. Sent (n + 1)) last)
    (ask-packets change c.who-leaf.ensures.who (c.version.ensures ∙ ap (λ (l : LeafState). l.version) c.state-state.ensures) last
    (c.out-2.ensures ∙ ap (λ (l : LeafState). l.out) c.state-state.ensures) c.in_ok-packets.ensures c.in_ok-request_packet.ensures
    (c.new.ensures ∙ c.in_ok-push.ensures.items))))

pub returns-in-Ok-clause-few : goal.returns-in-Ok-clause-few
returns-in-Ok-clause-few g c =
    let state : LeafState = c.self.inside.kept.state in
    let change : Change = c.in-Some.change.now in
    let may : may_go_out state.last state.out ≡ true =
    ap (λ (l : LeafState). may_go_out l.last l.out) (sym c.state.ensures) ∙ sym c.may_go_out.ensures ∙ c.if-not-may_go_out.false in
    requests-few c.self.inside.kept.who state.version (with_request (state.last + 1) change state.out) c.new.result
    (out_few (state.last + 1) (with_request (state.last + 1) change state.out)
    (out-next state.last state.out change may c.know_state.ensures.out.1))
    (ask-packets change c.who-leaf.ensures.who (c.version.ensures ∙ ap (λ (l : LeafState). l.version) c.state-state.ensures)
    (c.last_request-request.ensures ∙ ap (λ (l : LeafState). l.last) c.state-state.ensures)
    (c.out-2.ensures ∙ ap (λ (l : LeafState). l.out) c.state-state.ensures) c.in_ok-packets.ensures c.in_ok-request_packet.ensures
    (c.new.ensures ∙ c.in_ok-push.ensures.items))
