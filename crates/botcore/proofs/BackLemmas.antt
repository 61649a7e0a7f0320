-- More asks and lines of a bot, after one step and another.
use Rattle.std.proofs.Common.{◌≡◌, ◌∙◌, ℕ, Result, Ok, Err, OnErr, ap, sym, subst}
use Rattle.botcore.specs.Bots.{Bot}
use Rattle.outqueue.specs.declared.queues.Counts.{Counts}
use Rattle.outqueue.specs.Sending.{Sending, no_room, counts_of, with_first}
use Rattle.sharelink.specs.BotLinks.{BotEnd, keeps_asks}
use Rattle.botcore.specs.Links.{ask_count}
use Rattle.botcore.specs.Progress.{HasMore, with_oldest}
use Rattle.botcore.proofs.AskLemmas.{HasMoreAsks-then, asks_back}
use Rattle.botcore.proofs.PutLemmas.{HasMoreLines-then, lines_back}

pub HasMore-then : (a b c : Bot) → HasMore a b → HasMore b c → HasMore a c
HasMore-then a b c one other = record {
  asks = HasMoreAsks-then a.link b.link c.link one.asks other.asks;
  lines = HasMoreLines-then a.queues b.queues c.queues one.lines other.lines;
  rest = other.rest ∙ ap (λ (m : Bot). record m { link = c.link; queues = c.queues }) one.rest;
}

pub HasMore-same_then : (a b c : Bot) → HasMore a b → c ≡ b → HasMore a c
HasMore-same_then a b c more same = subst (HasMore a) (sym same) more

-- what came later is taken back
pub taken_back : (old new : Bot) (asks : ℕ) (lines : Counts) → HasMore old new → asks ≡ ask_count old.link → lines ≡ counts_of old.queues
    → old.queues.room ≡ no_room → with_oldest new asks lines ≡ old
taken_back old new asks lines more asked put none =
    ap (λ (m : Bot). record m { link = keeps_asks new.link asks; queues = with_first new.queues lines }) more.rest
    ∙ ap (λ (l : BotEnd). record old { link = l; queues = with_first new.queues lines }) (asks_back old.link new.link asks more.asks asked)
    ∙ ap (λ (q : Sending). record old { queues = q }) (lines_back old.queues new.queues lines more.lines put none)

pub on_err : {X E P : Type 0} (r : Result X E) → P → OnErr r P
on_err (Ok x) p = tt
on_err (Err e) p = p
