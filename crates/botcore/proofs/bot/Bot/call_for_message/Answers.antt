use Rattle.std.proofs.Common.{◌≡◌, List, [], map, refl, sym, ap, subst, ◌∙◌}
use Rattle.chanstate.specs.Events.{events_of}
use Rattle.procs.specs.Hearing.{hear_messages}
use Rattle.procs.specs.Dispatching.{told_of}
use Rattle.procs.specs.Made.{Made, IsMade, IsFrontMade}
use Rattle.procs.specs.Promises.{Promised}
use Rattle.procs.specs.Seen.{Seen}
use Rattle.procs.specs.Tellings.{Telling}
use Rattle.procs.specs.declared.trigger.Trigger.TheVariants.{Heard as heard_event}
use Rattle.procs.proofs.UnheardLemmas.{made-none, made-silent}
use Rattle.botcore.specs.Bots.{Bot, bot_seen, bot_setting}
use Rattle.botcore.proofs.bot.Bot.call_for_message.Goals as goal

-- where no bind waits for messages, no call is all that its events come to
pub returns-then-not-hears_messages-clause-dispatched : goal.returns-then-not-hears_messages-clause-dispatched
returns-then-not-hears_messages-clause-dispatched g c =
    let silent = sym (c.hears_messages.ensures ∙ ap (λ (b : Bot). hear_messages b.binds.binds) c.self.view_is) ∙ c.if-not-hears_messages.true in
    made-silent (bot_setting g.P.Promise.promised c.args.store.now c.args.self.now) silent g.P.Promise.promised (bot_seen c.args.self.now)
    (events_of c.args.message.now c.args.self.now.channels) c.new.result c.new.ensures

-- no call is the first of whatever calls there are
front-empty : (promised : Promised) (seen : Seen) (made : Made) (tellings : List Telling) → made ≡ record { calls = []; unbound = [] }
    → IsFrontMade promised seen made tellings
front-empty promised seen made tellings is =
    ([], tellings, refl, subst (λ (m : Made). IsMade promised seen m []) (sym is) (record { calls = refl; unbound = refl; kept = tt }))

pub returns-in-Err-clause-dispatched : goal.returns-in-Err-clause-dispatched
returns-in-Err-clause-dispatched g c =
    front-empty g.P.Promise.promised (bot_seen c.args.self.now) c.new-in-Err.result
    (told_of (bot_setting g.P.Promise.promised c.args.store.now c.args.self.now)
    (map (λ e. heard_event e) (events_of c.args.message.now c.args.self.now.channels))) c.new-in-Err.ensures

pub returns-in-Err-heard_of-clause-dispatched : goal.returns-in-Err-heard_of-clause-dispatched
returns-in-Err-heard_of-clause-dispatched g c =
    front-empty g.P.Promise.promised (bot_seen c.args.self.now) c.new-in-Err-heard_of.result
    (told_of (bot_setting g.P.Promise.promised c.args.store.now c.args.self.now)
    (map (λ e. heard_event e) (events_of c.args.message.now c.args.self.now.channels))) c.new-in-Err-heard_of.ensures

-- where a quick look shows that the message calls no bind, no call is all that its events come to
pub returns-in-Ok-true-clause-dispatched : goal.returns-in-Ok-true-clause-dispatched
returns-in-Ok-true-clause-dispatched g c =
    made-none (bot_setting g.P.Promise.promised c.args.store.now c.args.self.now) g.P.Promise.promised (bot_seen c.args.self.now)
    (events_of c.args.message.now c.args.self.now.channels) c.new-in-Ok-true.result (c.in-Ok-true.ensures c.in-Ok-true.field-0-test)
    c.new-in-Ok-true.ensures
