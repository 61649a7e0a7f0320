use Rattle.std.proofs.Common.{◌≡◌, ◌∙◌, ℕ, zero, suc, true, List, Option, Some, sym, ap, subst, arith, rules}
use Rattle.std.proofs.lemmas.Bool.{ne_eqb}
use Rattle.std.specs.Option.{option_copied}
use Rattle.botjournal.specs.declared.reply.Reply.{Reply}
use Rattle.protocol.specs.Numbers.{item_at}
use Rattle.userfile.specs.Records.{Records}
use Rattle.userfile.specs.Apply.{refusal}
use Rattle.protocol.specs.HubRules.{HubState, next_request}
use Rattle.protocol.specs.Journals.{is_next, is_next_of}
use Rattle.sharelink.specs.HubLinks.{HubEnd, Calls, hub_end}
use Rattle.sharelink.proofs.PacketLaws.{placed-again, placed-gap, placed-next, next-is, next-refused, next-accepts}
use Rattle.sharelink.proofs.hub_link.HubLink.receive_request.Goals as goal

-- the replies that were found are those at the leaf's place
found-at : (end : HubEnd) (hub inside : HubState) (leaf : ℕ) (place : Option (List Reply)) (kept : List Reply) → place ≡ item_at hub.replies leaf
    → hub ≡ inside → inside ≡ end.bot.kept → place ≡ Some kept → item_at end.bot.kept.replies leaf ≡ Some kept
found-at end hub inside leaf place kept found same view is = sym (found ∙ ap (λ (h : HubState). item_at h.replies leaf) (same ∙ view)) ∙ is

pub returns-then-request-last-clause-row : goal.returns-then-request-last-clause-row
returns-then-request-last-clause-row g c =
    placed-again c.args.self.now c.args.leaf c.args.request c.args.change.now c.in-Some.kept.now (ne_eqb c.args.request 0 c.if-request-eq0.false)
    (found-at c.args.self.now c.state.result.now c.self.inside.kept.state c.args.leaf (option_copied c.replies_to.result) c.in-Some.kept.now
    c.replies_to.ensures c.state.ensures (ap (λ (e : HubEnd). e.bot.kept) c.self.view_is) (ap option_copied c.in-Some.is))
    c.reply_to.result c.answer_again.result (omega (arith, c.if-request-last.true, c.last_request-last.ensures)) c.reply_to.ensures
    c.answer_again.ensures.row

pub returns-then-request-last-gt1-clause-row : goal.returns-then-request-last-gt1-clause-row
returns-then-request-last-gt1-clause-row g c =
    placed-gap c.args.self.now c.args.leaf c.args.request c.args.change.now c.in-Some.kept.now (ne_eqb c.args.request 0 c.if-request-eq0.false)
    (found-at c.args.self.now c.state.result.now c.self.inside.kept.state c.args.leaf (option_copied c.replies_to.result) c.in-Some.kept.now
    c.replies_to.ensures c.state.ensures (ap (λ (e : HubEnd). e.bot.kept) c.self.view_is) (ap option_copied c.in-Some.is))
    _ (omega (arith, c.if-request-last-gt1.true, c.last_request-last.ensures)) (search rules) (search rules)

pub refuse_request-requires-clause-next : goal.refuse_request-requires-clause-next
refuse_request-requires-clause-next g c =
    next-is (item_at c.args.self.now.bot.kept.replies c.args.leaf) c.in-Some.kept.now c.args.request
    (found-at c.args.self.now c.state.result.now c.self.inside.kept.state c.args.leaf (option_copied c.replies_to.result) c.in-Some.kept.now
    c.replies_to.ensures c.state.ensures (ap (λ (e : HubEnd). e.bot.kept) c.self.view_is) (ap option_copied c.in-Some.is))
    (omega (arith, c.if-request-last.false, c.if-request-last-gt1.false, c.last_request-last.ensures))

-- a leaf that has a place is none of the hub's own
next-in : (replies : List (List Reply)) (leaf request : ℕ) → is_next_of (item_at replies leaf) request ≡ true → is_next replies leaf request ≡ true
next-in replies zero request next = absurd (cc)
next-in replies (suc place) request next = next

pub accept-requires-clause-next : goal.accept-requires-clause-next
accept-requires-clause-next g c =
    next-in c.self.inside.kept.state.replies c.args.leaf c.args.request
    (ap (λ (e : HubEnd). is_next_of (item_at e.bot.kept.replies c.args.leaf) c.args.request) c.self.view_is
    ∙ next-is (item_at c.args.self.now.bot.kept.replies c.args.leaf) c.in-Some.kept.now c.args.request
    (found-at c.args.self.now c.state.result.now c.self.inside.kept.state c.args.leaf (option_copied c.replies_to.result) c.in-Some.kept.now
    c.replies_to.ensures c.state.ensures (ap (λ (e : HubEnd). e.bot.kept) c.self.view_is) (ap option_copied c.in-Some.is))
    (omega (arith, c.if-request-last.false, c.if-request-last-gt1.false, c.last_request-last.ensures)))

pub returns-in-Some-refusal_of-clause-row : goal.returns-in-Some-refusal_of-clause-row
returns-in-Some-refusal_of-clause-row g c =
    let records : c.userfile.result.now ≡ c.args.self.now.bot.kept.records =
    c.userfile.ensures ∙ ap (λ (h : HubState). h.records) (c.state-2.ensures ∙ ap (λ (e : HubEnd). e.bot.kept) c.self.view_is) in
    placed-next c.args.self.now c.args.leaf c.args.request c.args.change.now c.in-Some.kept.now (ne_eqb c.args.request 0 c.if-request-eq0.false)
    (found-at c.args.self.now c.state.result.now c.self.inside.kept.state c.args.leaf (option_copied c.replies_to.result) c.in-Some.kept.now
    c.replies_to.ensures c.state.ensures (ap (λ (e : HubEnd). e.bot.kept) c.self.view_is) (ap option_copied c.in-Some.is))
    c.refuse_request.result c.refuse_request.new.self
    (omega (arith, c.if-request-last.false, c.if-request-last-gt1.false, c.last_request-last.ensures))
    (next-refused c.args.self.now c.refuse_request.new.self c.args.leaf c.args.request c.args.change.now c.in-Some-refusal_of.fault c.refuse_request.result
    (ap (λ (r : Records). refusal r c.args.change.now) (sym records) ∙ sym c.refusal_of.ensures ∙ c.in-Some-refusal_of.is)
    (c.refuse_request.ensures.row c.args.change.now))

pub returns-in-None-clause-row : goal.returns-in-None-clause-row
returns-in-None-clause-row g c =
    let inside = c.self.inside in
    let records : c.userfile.result.now ≡ inside.kept.state.records = c.userfile.ensures ∙ ap (λ (h : HubState). h.records) c.state-2.ensures in
    let next : is_next_of (item_at c.args.self.now.bot.kept.replies c.args.leaf) c.args.request ≡ true =
    next-is (item_at c.args.self.now.bot.kept.replies c.args.leaf) c.in-Some.kept.now c.args.request
    (found-at c.args.self.now c.state.result.now c.self.inside.kept.state c.args.leaf (option_copied c.replies_to.result) c.in-Some.kept.now
    c.replies_to.ensures c.state.ensures (ap (λ (e : HubEnd). e.bot.kept) c.self.view_is) (ap option_copied c.in-Some.is))
    (omega (arith, c.if-request-last.false, c.if-request-last-gt1.false, c.last_request-last.ensures)) in
    placed-next c.args.self.now c.args.leaf c.args.request c.args.change.now c.in-Some.kept.now (ne_eqb c.args.request 0 c.if-request-eq0.false)
    (found-at c.args.self.now c.state.result.now c.self.inside.kept.state c.args.leaf (option_copied c.replies_to.result) c.in-Some.kept.now
    c.replies_to.ensures c.state.ensures (ap (λ (e : HubEnd). e.bot.kept) c.self.view_is) (ap option_copied c.in-Some.is))
    c.accept.result (hub_end c.accept.new.kept inside.waiting.items)
    (omega (arith, c.if-request-last.false, c.if-request-last-gt1.false, c.last_request-last.ensures))
    (subst (λ (e : HubEnd). Calls e (λ how. next_request e.leaves how e.bot c.args.leaf c.args.request c.args.change.now
    (refusal e.bot.kept.records c.args.change.now)) c.accept.result (hub_end c.accept.new.kept inside.waiting.items)) c.self.view_is
    (next-accepts inside.kept c.accept.new.kept inside.waiting.items c.args.leaf c.args.request c.args.change.now c.accept.result
    (ap (λ (e : HubEnd). is_next_of (item_at e.bot.kept.replies c.args.leaf) c.args.request) c.self.view_is ∙ next)
    (ap (λ (r : Records). refusal r c.args.change.now) (sym records) ∙ sym c.refusal_of.ensures ∙ c.in-None.is) c.accept.ensures.accepts))
