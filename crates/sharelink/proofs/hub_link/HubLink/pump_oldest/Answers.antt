use Rattle.std.proofs.Common.{◌≡◌, ◌∷◌, ◌∙◌, Ok, Err, drop, refl, sym, ap, subst, arith}
use Rattle.userfile.specs.Records.{Records}
use Rattle.userfile.specs.Apply.{refusal}
use Rattle.protocol.specs.HubRules.{HubState, hub_pumped_up}
use Rattle.sharelink.specs.HubLinks.{Calls}
use Rattle.sharelink.specs.HubLinks.{HubEnd, hub_end}
use Rattle.sharelink.proofs.PacketLaws.{first-of, pumped-kept, pumped-unkept}
use Rattle.sharelink.proofs.hub_link.HubLink.pump_oldest.Goals as goal

pub returns-in-Ok-clause-row : goal.returns-in-Ok-clause-row
returns-in-Ok-clause-row g c =
    let inside = c.self.inside in
    let asks = inside.waiting.items in
    let records : c.userfile.result.now ≡ inside.kept.state.records = c.userfile.ensures ∙ ap (λ (h : HubState). h.records) c.state.ensures in
    let oldest : asks ≡ c.in-Some.change.now ∷ drop 1 asks = first-of asks c.in-Some.change.now (omega (arith, inside.waiting.ok, c.in-Some.ensures.variant.0 refl)) c.in-Some.ensures.lookup in
    subst (λ (l : _). Calls c.args.self.now (λ how. hub_pumped_up c.args.self.now.leaves how c.args.self.now.bot c.args.self.now.bot.loose)
    (Ok c.in-Ok.answer) (hub_end c.accept.new.kept l)) (sym c.pop_front-in-Ok.ensures.rest)
    (subst (λ (e : HubEnd). Calls e (λ how. hub_pumped_up e.leaves how e.bot e.bot.loose) (Ok c.in-Ok.answer) (hub_end c.accept.new.kept (drop 1 asks)))
    c.self.view_is
    (pumped-kept inside.kept c.accept.new.kept asks c.in-Some.change.now oldest
    (ap (λ (r : Records). refusal r c.in-Some.change.now) (sym records) ∙ sym c.refusal_of.ensures ∙ c.in_default-refusal_of.is) c.in-Ok.answer
    c.in-Ok.ensures.accepts))

pub returns-in-Err-clause-row : goal.returns-in-Err-clause-row
returns-in-Err-clause-row g c =
    let inside = c.self.inside in
    let asks = inside.waiting.items in
    let records : c.userfile.result.now ≡ inside.kept.state.records = c.userfile.ensures ∙ ap (λ (h : HubState). h.records) c.state.ensures in
    let oldest : asks ≡ c.in-Some.change.now ∷ drop 1 asks = first-of asks c.in-Some.change.now (omega (arith, inside.waiting.ok, c.in-Some.ensures.variant.0 refl)) c.in-Some.ensures.lookup in
    subst (λ (e : HubEnd). Calls e (λ how. hub_pumped_up e.leaves how e.bot e.bot.loose) (Err c.in-Err.error) (hub_end c.accept.new.kept asks)) c.self.view_is
    (pumped-unkept inside.kept c.accept.new.kept asks c.in-Some.change.now oldest
    (ap (λ (r : Records). refusal r c.in-Some.change.now) (sym records) ∙ sym c.refusal_of.ensures ∙ c.in_default-refusal_of.is) c.in-Err.error
    c.in-Err.ensures.accepts)
