use Rattle.std.proofs.Common.{◌∷◌, ◌∙◌, List, Ok, ap, subst}
use Rattle.botjournal.specs.declared.request.Request.{Request}
use Rattle.botjournal.proofs.WindowLaws.{out_few}
use Rattle.protocol.specs.LeafRules.{LeafState, LeafLoose}
use Rattle.sharelink.specs.declared.answer.Answer.{Answer}
use Rattle.sharelink.specs.LeafLinks.{LeafEnd, Calls, leaf_end, sent_again_at, hello_packet, request_packets, again_note}
use Rattle.sharelink.proofs.PumpLaws.{packets-same, requests-few, again-sent}
use Rattle.sharelink.proofs.leaf_link.LeafLink.send_again.Goals as goal

pub returns-clause-row : goal.returns-clause-row
returns-clause-row g c =
    let inside = c.self.inside in
    let loose : LeafLoose = record { waiting = inside.waiting.items; parts = inside.parts } in
    let answer : Answer = record { note = c.again_note.result; packets = c.new.result } in
    subst (λ (e : LeafEnd). Calls e (sent_again_at e) (Ok answer) e) c.self.view_is
    (again-sent (leaf_end inside.leaves inside.kept loose) answer
    (c.again_note.ensures ∙ ap again_note (c.out-2.ensures ∙ ap (λ (l : LeafState). l.out) c.state-state.ensures))
    (c.new.ensures ∙ c.in_ok-packets.ensures
    ∙ packets-same c.who.ensures.who (c.version.ensures ∙ ap (λ (l : LeafState). l.version) c.state-state.ensures)
    (c.out.ensures ∙ ap (λ (l : LeafState). l.out) c.state-state.ensures)))

pub returns-clause-few : goal.returns-clause-few
returns-clause-few g c =
    let state = c.self.inside.kept.state in
    requests-few c.who.result c.version.result state.out c.new.result (out_few state.last state.out c.know_state.ensures.out.1)
    (c.new.ensures ∙ c.in_ok-packets.ensures
    ∙ ap (λ (o : List Request). hello_packet c.who.result c.version.result ∷ request_packets c.who.result o)
    (c.out.ensures ∙ ap (λ (l : LeafState). l.out) c.state-state.ensures))
