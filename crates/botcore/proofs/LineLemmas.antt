-- What a message leaves, by whether a raw proc has answered 1.
use Rattle.std.proofs.Common.{◌≡◌, ◌∙◌, ℕ, Bool, true, false, ◌||◌, List, [], ◌++◌, append-nil, if◌then◌else◌, map, Option, refl, ap, sym, subst}
use Rattle.std.specs.Prelude.{codes, unwrap_or}
use Rattle.bottimers.specs.Held.{Held}
use Rattle.ircline.specs.declared.line.Line.{Line as ReadLine}
use Rattle.ircline.specs.declared.line.Line.TheVariants.{Message as a_message}
use Rattle.ircline.specs.declared.message.Message.{Message}
use Rattle.chanstate.specs.Steps.{after}
use Rattle.procs.specs.Promises.{Promised}
use Rattle.procs.specs.declared.action.PutWish.{PutWish}
use Rattle.procs.specs.declared.made_call.MadeCall.{MadeCall}
use Rattle.procs.specs.Dispatching.{has_raw_one}
use Rattle.procs.specs.Made.{entry_of}
use Rattle.botcore.specs.declared.event.BotEvent.TheVariants.{Line}
use Rattle.botcore.specs.declared.fault.StepFault.{StepFault}
use Rattle.botcore.specs.declared.manner.Manner.{Manner}
use Rattle.botcore.specs.declared.report.Report.{Report}
use Rattle.botcore.specs.Automatic.{automatic_lines, is_welcome, manner_of}
use Rattle.botcore.specs.Bots.{Bot}
use Rattle.botcore.specs.Lines.{acting_after, after_calls, after_line, finish_line}
use Rattle.botcore.specs.Links.{link_records}
use Rattle.botcore.specs.Putting.{put_all, put_faults}
use Rattle.botcore.specs.Steps.{TakesMessage, TakesStep}

-- a line that is a message
pub message-line : (promised : Promised) (names : List (List ℕ)) (old : Bot) (line : ReadLine) (message : Message) (report : Report) (new : Bot)
    → line ≡ a_message message → TakesMessage promised names old message report new → TakesStep promised names old (Line line) report new
message-line promised names old line message report new is takes =
    subst (λ (l : ReadLine). TakesStep promised names old (Line l) report new) (sym is) takes

module _ (old : Bot) (message : Message) (calls : List MadeCall) where
  -- the bot's own lines, unless a raw proc has answered 1
  abbrev wishes : List PutWish
  wishes = automatic_lines old.config old.channels (link_records old.link).bans old.clock old.welcomed message

  -- and how they are queued
  abbrev manner : Manner
  manner = manner_of old.config message

  -- the bot and the faults of its own lines, given whether a raw proc has answered 1
  abbrev line_if : Bool → Bot
  line_if raw = record (after_calls old calls) {
    channels = if raw then old.channels else after message old.channels;
    queues = put_all manner (acting_after old calls).queues (if raw then [] else wishes);
    welcomed = if raw then old.welcomed else old.welcomed || is_welcome message;
  }

  abbrev faults_if : Bool → List StepFault
  faults_if raw = put_faults manner (acting_after old calls).queues (if raw then [] else wishes)

  -- with a raw 1 only the actions count
  pub raw_line : has_raw_one (map entry_of calls) ≡ true → after_line old message calls ≡ after_calls old calls
  raw_line raw = ap line_if raw

  pub raw_faults : (before : List StepFault) → has_raw_one (map entry_of calls) ≡ true → before ++ (finish_line old message calls).faults ≡ before
  raw_faults before raw = ap (λ (b : Bool). before ++ faults_if b) raw ∙ append-nil before

  -- and otherwise the message is taken in, and the bot's own lines are put
  pub taken_line : has_raw_one (map entry_of calls) ≡ false
      → after_line old message calls
      ≡ record (after_calls old calls) {
        channels = after message old.channels;
        queues = put_all manner (acting_after old calls).queues wishes;
        welcomed = old.welcomed || is_welcome message;
      }
  taken_line raw = ap line_if raw

  pub taken_faults : has_raw_one (map entry_of calls) ≡ false
      → (finish_line old message calls).faults ≡ put_faults manner (acting_after old calls).queues wishes
  taken_faults raw = ap faults_if raw

  -- the bot after its actions, its own lines, the message and its timers, with no raw 1
  pub left_line : (acted put took new : Bot) (timers : Option Held) (items : List PutWish) (way : Manner) (welcomed : Bool)
      → way ≡ manner → has_raw_one (map entry_of calls) ≡ false
      → items ≡ automatic_lines old.config old.channels (link_records old.link).bans old.clock welcomed message → welcomed ≡ old.welcomed
      → unwrap_or timers old.timers ≡ (acting_after old calls).timers
      → acted ≡ record old { link = (acting_after old calls).link; queues = (acting_after old calls).queues }
      → put ≡ record acted { queues = put_all way acted.queues items }
      → took ≡ record put { channels = after message put.channels; welcomed = put.welcomed || is_welcome message }
      → new ≡ record took { timers = unwrap_or timers took.timers } → new ≡ after_line old message calls
  left_line acted put took new timers items way welcomed known_way raw lined known held acts puts takes news =
      news
      ∙ ap (λ (b : Bot). record b { timers = unwrap_or timers b.timers }) takes
      ∙ ap (λ (b : Bot). record b {
        timers = unwrap_or timers b.timers;
        channels = after message b.channels;
        welcomed = b.welcomed || is_welcome message;
      }) puts
      ∙ ap (λ (b : Bot). record b {
        timers = unwrap_or timers b.timers;
        channels = after message b.channels;
        welcomed = b.welcomed || is_welcome message;
        queues = put_all way b.queues items;
      }) acts
      ∙ ap (λ (m : Manner). record (after_calls old calls) {
        timers = unwrap_or timers old.timers;
        channels = after message old.channels;
        welcomed = old.welcomed || is_welcome message;
        queues = put_all m (acting_after old calls).queues items;
      }) known_way
      ∙ ap (λ (own : List PutWish). record (after_calls old calls) {
        timers = unwrap_or timers old.timers;
        channels = after message old.channels;
        welcomed = old.welcomed || is_welcome message;
        queues = put_all manner (acting_after old calls).queues own;
      }) (lined ∙ ap (λ (w : Bool). automatic_lines old.config old.channels (link_records old.link).bans old.clock w message) known)
      ∙ ap (λ (t : Held). record (after_calls old calls) {
        timers = t;
        channels = after message old.channels;
        welcomed = old.welcomed || is_welcome message;
        queues = put_all manner (acting_after old calls).queues wishes;
      }) held
      ∙ sym (taken_line raw)

  -- and the faults of its actions and of its own lines
  pub left_faults : (acted : Bot) (before start faults : List StepFault) (items : List PutWish) (way : Manner) (welcomed : Bool)
      → way ≡ manner → has_raw_one (map entry_of calls) ≡ false
      → items ≡ automatic_lines old.config old.channels (link_records old.link).bans old.clock welcomed message → welcomed ≡ old.welcomed
      → acted ≡ record old { link = (acting_after old calls).link; queues = (acting_after old calls).queues }
      → start ≡ before → faults ≡ start ++ put_faults way acted.queues items → faults ≡ before ++ (finish_line old message calls).faults
  left_faults acted before start faults items way welcomed known_way raw lined known acts started put =
      put
      ∙ ap (λ (fs : List StepFault). fs ++ put_faults way acted.queues items) started
      ∙ ap (λ (b : Bot). before ++ put_faults way b.queues items) acts
      ∙ ap (λ (m : Manner). before ++ put_faults m (acting_after old calls).queues items) known_way
      ∙ ap (λ (own : List PutWish). before ++ put_faults manner (acting_after old calls).queues own)
      (lined ∙ ap (λ (w : Bool). automatic_lines old.config old.channels (link_records old.link).bans old.clock w message) known)
      ∙ ap (λ (fs : List StepFault). before ++ fs) (sym (taken_faults raw))

-- ---- what somebody says, and no proc waits for

or_false : (b : Bool) → b || false ≡ b
or_false true = refl
or_false false = refl

module _ (old : Bot) (message : Message) (is : message.command ≡ codes "PRIVMSG") where
  pub said_line : after_line old message [] ≡ old
  said_line =
      subst (λ (c : List ℕ). after_line old (record message { command = c }) [] ≡ old) (sym is)
      (ap (λ (w : Bool). record old { welcomed = w }) (or_false old.welcomed))

  pub said_faults : (finish_line old message []).faults ≡ []
  said_faults = subst (λ (c : List ℕ). (finish_line old (record message { command = c }) []).faults ≡ []) (sym is) refl
