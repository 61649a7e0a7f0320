-- What the steps of a turn report for the other bots.
use Rattle.std.proofs.Common.{◌≡◌, ◌∙◌, ◌⊎◌, inl, inr, ℕ, Result, Ok, Err, OnOk, OnErr, List, [], ◌∷◌, ◌++◌, map, refl, sym, ap, subst, append_assoc, append-nil}
use Rattle.sharelink.specs.declared.answer.Outgoing.{Outgoing}
use Rattle.userfile.specs.declared.change.Change.{Change}
use Rattle.sharewire.specs.declared.packet.Packet.{Packet}
use Rattle.botcore.specs.declared.event.BotEvent.{BotEvent}
use Rattle.botcore.specs.declared.event.BotEvent.TheVariants.{Connect, Ask, Pump, Receive, Clock, Compact}
use Rattle.botcore.specs.declared.report.Report.{Report}
use Rattle.botcore.specs.Bots.{Bot}
use Rattle.watching.specs.Acts.{Act, Told as Tells, Made, HasTicked, IsReading, sent_by, unsent}
use Rattle.turns.specs.Driving.{line_events}
use Rattle.turns.specs.declared.turn.Heard.{Heard}
use Rattle.turns.specs.declared.turn.Told.{Told}
use Rattle.turns.specs.declared.turn.TurnEnd.TheVariants.{Done, NoMemory}
use Rattle.turns.specs.Turns.{AreEvents, when}
use Rattle.turns.specs.Queues.{packets_in, IsStepped, IsUnstepped, Queues}

-- ---- the reading of a turn

-- a reading of the clock is among these events
abbrev WillTick : List BotEvent → Type 0
WillTick [] = ⊥
WillTick (event ∷ events) = IsReading event ⊎ WillTick events

tick_first : (xs ys : List BotEvent) → WillTick xs → WillTick (xs ++ ys)
tick_first [] ys will = absurd will
tick_first (x ∷ xs) ys (inl reads) = inl reads
tick_first (x ∷ xs) ys (inr will) = inr (tick_first xs ys will)

tick_second : (xs ys : List BotEvent) → WillTick ys → WillTick (xs ++ ys)
tick_second [] ys will = will
tick_second (x ∷ xs) ys will = inr (tick_second xs ys will)

will_tick : (heard : Heard) (held : List ℕ) (events : List BotEvent) (after : List ℕ) → AreEvents heard held events after → WillTick events
will_tick heard held events after are =
    let takes = map (λ (packet : Packet). Receive packet) heard.packets.items in
    let asks = map (λ (change : Change). Ask change) heard.changes.items in
    let one = when heard.connected Connect ++ line_events are.lines in
    let two = one ++ Clock heard.now ∷ takes in
    let three = two ++ asks in
    let four = three ++ when heard.pump Pump in
    subst WillTick (sym are.all)
    (tick_first four (when heard.compact Compact) (tick_first three (when heard.pump Pump) (tick_first two asks
    (tick_second one (Clock heard.now ∷ takes) (inl tt)))))

-- ---- what is to be queued

packets_append : (before : List Report) (report : Report) → packets_in (before ++ report ∷ []) ≡ packets_in before ++ report.packets
packets_append [] report = append-nil report.packets
packets_append (one ∷ before) report =
    ap (λ (l : List Outgoing). one.packets ++ l) (packets_append before report)
    ∙ sym (append_assoc one.packets (packets_in before) report.packets)

-- the packets of the reports so far are to be queued, and these events are left
pub record IsQueued (past now : List Act) (reports : List Report) (rest : List BotEvent) : Type 0 where
  pub unsent_is : unsent now ≡ unsent past ++ packets_in reports
  pub sent_is : sent_by now ≡ sent_by past
  pub ticks : WillTick rest ⊎ HasTicked now

pub queued_none : (past : List Act) (heard : Heard) (held : List ℕ) (reports : List Report) (events left : List BotEvent) (after : List ℕ)
    → left ≡ events → reports ≡ [] → AreEvents heard held events after → IsQueued past past reports left
queued_none past heard held reports events left after is none are = record {
  unsent_is = sym (append-nil (unsent past)) ∙ ap (λ (r : List Report). unsent past ++ packets_in r) (sym none);
  sent_is = refl;
  ticks = inl (subst WillTick (sym is) (will_tick heard held events after are));
}

pub queued_next : (past now new : List Act) (event : BotEvent) (before after : List Report) (left rest : List BotEvent)
    → left ≡ event ∷ rest → IsQueued past now before left → IsStepped now new event before after → IsQueued past new after rest
queued_next past now new event before after left rest is queued step = record {
  unsent_is = ap unsent step.past_is ∙ ap (λ (l : List Outgoing). l ++ step.report.packets) queued.unsent_is
      ∙ append_assoc (unsent past) (packets_in before) step.report.packets
      ∙ ap (λ (l : List Outgoing). unsent past ++ l) (sym (packets_append before step.report) ∙ ap packets_in (sym step.told));
  sent_is = ap sent_by step.past_is ∙ queued.sent_is;
  ticks = by (subst (λ (l : List BotEvent). WillTick l ⊎ HasTicked now) is queued.ticks);
}
  where
    now_ticked : IsReading event ⊎ HasTicked now → HasTicked new
    now_ticked ticked = subst HasTicked (sym step.past_is) ticked

    by : WillTick (event ∷ rest) ⊎ HasTicked now → WillTick rest ⊎ HasTicked new
    by (inl (inl reads)) = inr (now_ticked (inl reads))
    by (inl (inr will)) = inl will
    by (inr ticked) = inr (now_ticked (inr ticked))

-- what keeping the report of a step tells, if it does not fail
pub stepped-if-ok : {X E : Type 0} (past new : List Act) (result : Result X E) (event : BotEvent) (before mid after : List Report)
    (report : Report) (was next : Bot) → new ≡ Made report next ∷ Tells was event ∷ past → mid ≡ before
    → OnOk result (after ≡ mid ++ report ∷ []) → OnOk result (IsStepped past new event before after)
stepped-if-ok past new (Err why) event before mid after report was next is same told = tt
stepped-if-ok past new (Ok kept) event before mid after report was next is same told =
    record { report = report; was = was; next = next; past_is = is; told = told ∙ ap (λ (r : List Report). r ++ report ∷ []) same }

-- ---- steps that are not made

pub unstepped_same : (past : List Act) → IsUnstepped past past
unstepped_same past = record { dropped = []; unsent_is = sym (append-nil (unsent past)); sent_is = refl }

pub unstepped_out : (past new : List Act) (report : Report) (was next : Bot) (event : BotEvent)
    → new ≡ Made report next ∷ Tells was event ∷ past → IsUnstepped past new
unstepped_out past new report was next event is =
    record { dropped = report.packets; unsent_is = ap unsent is; sent_is = ap sent_by is }

-- the same if it fails
pub unstepped-if-err : {X E : Type 0} (past new : List Act) (result : Result X E) (report : Report) (was next : Bot) (event : BotEvent)
    → new ≡ Made report next ∷ Tells was event ∷ past → OnErr result (IsUnstepped past new)
unstepped-if-err past new (Ok kept) report was next event is = tt
unstepped-if-err past new (Err why) report was next event is = unstepped_out past new report was next event is

-- ---- a turn

pub queues_all : (past now : List Act) (reports : List Report) (rest : List BotEvent) (told : Told) → rest ≡ []
    → IsQueued past now reports rest → told.reports ≡ reports → Queues past now told
queues_all past now reports rest told none queued is = record {
  dropped = [];
  unsent_is = queued.unsent_is ∙ ap (λ (l : List Outgoing). unsent past ++ l)
      (ap packets_in (sym is) ∙ sym (append-nil (packets_in told.reports)));
  sent_is = queued.sent_is;
  none = λ done. refl;
  ticked = λ done. by (subst (λ (l : List BotEvent). WillTick l ⊎ HasTicked now) none queued.ticks);
}
  where
    by : WillTick [] ⊎ HasTicked now → HasTicked now
    by (inl will) = absurd will
    by (inr ticked) = ticked

-- memory ran out in a step, or between two of them
pub queues_first : (past now new : List Act) (reports : List Report) (rest : List BotEvent) (told : Told)
    → IsQueued past now reports rest → IsUnstepped now new → told.end ≡ NoMemory → told.reports ≡ reports → Queues past new told
queues_first past now new reports rest told queued step ends is = record {
  dropped = step.dropped;
  unsent_is = step.unsent_is ∙ ap (λ (l : List Outgoing). l ++ step.dropped) queued.unsent_is
      ∙ append_assoc (unsent past) (packets_in reports) step.dropped
      ∙ ap (λ (r : List Report). unsent past ++ (packets_in r ++ step.dropped)) (sym is);
  sent_is = step.sent_is ∙ queued.sent_is;
  none = λ done. absurd (not_done (sym done ∙ ends));
  ticked = λ done. absurd (not_done (sym done ∙ ends));
}
  where
    not_done : Done ≡ NoMemory → ⊥
    not_done e = cc

-- memory ran out before the first step
pub queues_none : (past : List Act) (told : Told) → told.end ≡ NoMemory → told.reports ≡ [] → Queues past past told
queues_none past told ends none = record {
  dropped = [];
  unsent_is = sym (append-nil (unsent past)) ∙ ap (λ (r : List Report). unsent past ++ (packets_in r ++ [])) (sym none);
  sent_is = refl;
  none = λ done. refl;
  ticked = λ done. absurd (not_done (sym done ∙ ends));
}
  where
    not_done : Done ≡ NoMemory → ⊥
    not_done e = cc
