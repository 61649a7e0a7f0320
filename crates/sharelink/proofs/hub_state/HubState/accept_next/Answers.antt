use Rattle.std.proofs.Common.{◌∙◌, ◌+◌, ◌++◌, ◌∷◌, [], ap, refl}
use Rattle.userfile.specs.declared.change.Change.{Change}
use Rattle.userfile.specs.Apply.{changed}
use Rattle.botjournal.specs.declared.reply.Verdict.TheVariants.{Taken}
use Rattle.protocol.specs.HubRules.{with_reply}
use Rattle.protocol.specs.Journals.{is_next}
use Rattle.userfile.proofs.SoundLemmas.{first_none}
use Rattle.sharelink.proofs.Folding.{accepted-is}
use Rattle.sharelink.proofs.hub_state.HubState.accept_next.Goals as goal

pub know_change-requires : goal.know_change-requires
know_change-requires g c = rw c.change.ensures ((first_none c.requires.taken).0)

pub returns-in-Ok-clause-accepts : goal.returns-in-Ok-clause-accepts
returns-in-Ok-clause-accepts g c =
    accepted-is c.args.self.now c.self.inside.floor c.self.inside.generation c.self.inside.tail.items c.push_reserved.new.self.items
    c.self.inside.userfile c.change_journaled.new.userfile c.self.inside.replies.items c.put_reply.new.held.items c.args.entry
    c.args.entry c.version-number.result c.self.view_is refl
    (c.push_reserved.ensures.items ∙ ap (λ l. l ++ c.args.entry ∷ []) c.in_ok-reserve.ensures.items)
    (c.in-Ok.ensures.changes ∙ ap (λ (one : Change). changed c.self.inside.userfile one) c.change-3.ensures)
    (c.put_reply.ensures ∙ ap (λ o. with_reply c.self.inside.replies.items o (Taken (c.version-number.result + 1))) c.origin-origin.ensures)
    c.version-number.ensures

pub put_reply-requires : goal.put_reply-requires
put_reply-requires g c =
    rw (c.origin-origin.ensures, c.request-request.ensures)
    (ap (λ h. is_next h.replies c.args.entry.origin c.args.entry.request) c.self.view_is ∙ c.requires.next)
