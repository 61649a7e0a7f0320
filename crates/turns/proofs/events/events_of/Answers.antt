use Rattle.std.proofs.Common.{◌≡◌, ◌++◌, ℕ, List, Ok, map, subst, rules}
use Rattle.std.proofs.lemmas.Iterator.{YieldsList-from_map}
use Rattle.std.proofs.lemmas.Iterator.Consumers.{YieldsList-at}
use Rattle.std.proofs.lemmas.Iterator.Adapters.{items_from_extend, YieldsList-from_vec}
use Rattle.botcore.specs.declared.event.BotEvent.TheVariants.{Connect, Line, Ask, Receive}
use Rattle.turns.specs.Driving.{Ends, line_events}
use Rattle.turns.specs.Turns.{held_at, when}
use Rattle.turns.proofs.EventLemmas.{AreEvents-of}
use Rattle.turns.proofs.events.events_of.Goals.{then-heard+in_ok-push, else-heard}
use Rattle.turns.proofs.events.events_of.Goals as goal

pub returns : goal.returns
returns c =
    let begins : c.if-heard.lines ≡ held_at c.args.heard.connected c.args.lines.now = elim c.if-heard.branch [
      | then-heard+in_ok-push w ↦ search rules
      | else-heard w ↦ search rules
    ] in
    let first : c.if-heard.events.items ≡ when c.args.heard.connected Connect = elim c.if-heard.branch [
      | then-heard+in_ok-push w ↦ search rules
      | else-heard w ↦ search rules
    ] in
    let read : c.extend.new.self.items ≡ c.if-heard.events.items ++ line_events c.in_ok-ended.ended.items =
    (items_from_extend {E = ℕ} (Ok c.in_ok-extend.field-0) c.in_ok-extend.ensures.ran (YieldsList-from_map _ (λ x. Line x)
    (YieldsList-at c.map.ensures.source
    (YieldsList-from_vec {s = c.into_iter.result} c.in_ok-ended.ended.items (search rules) (search rules)))
    c.map.ensures.closure (λ x r q k. search rules))).0 in
    let sent : c.extend-2.new.self.items ≡ c.push-2.new.self.items ++ map (λ packet. Receive packet) c.args.heard.packets.items =
    (items_from_extend {E = ℕ} (Ok c.in_ok-extend-2.field-0) c.in_ok-extend-2.ensures.ran (YieldsList-from_map _ (λ x. Receive x)
    (YieldsList-at c.map-2.ensures.source
    (YieldsList-from_vec {s = c.into_iter-2.result} c.args.heard.packets.items (search rules) (search rules)))
    c.map-2.ensures.closure (λ x r q k. search rules))).0 in
    let asked : c.extend-3.new.self.items ≡ c.extend-2.new.self.items ++ map (λ change. Ask change) c.args.heard.changes.items =
    (items_from_extend {E = ℕ} (Ok c.in_ok-extend-3.field-0) c.in_ok-extend-3.ensures.ran (YieldsList-from_map _ (λ x. Ask x)
    (YieldsList-at c.map-3.ensures.source
    (YieldsList-from_vec {s = c.into_iter-3.result} c.args.heard.changes.items (search rules) (search rules)))
    c.map-3.ensures.closure (λ x r q k. search rules))).0 in
    AreEvents-of c.args.heard c.args.lines.now c.if-heard.lines c.feed.new.self c.in_ok-ended.ended.items c.if-heard.events.items
    c.extend.new.self.items c.push-2.new.self.items c.extend-2.new.self.items c.extend-3.new.self.items c.push_when.new.events.items
    c.push_when-2.new.events.items begins first
    (subst (λ (bytes : List ℕ). Ends c.if-heard.lines bytes c.in_ok-ended.ended.items c.feed.new.self) c.as_slice.ensures.value
    (record { goes_on = c.in_ok-ended.ensures.lines; holds = c.in_ok-ended.ensures.held }))
    read (search rules) sent asked (search rules) (search rules)
