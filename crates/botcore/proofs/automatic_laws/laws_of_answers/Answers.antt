use Rattle.std.proofs.Common.{◌≡◌, ◌≢◌, ◌∙◌, ℕ, Bool, true, false, List, [], ◌∷◌, Option, refl, ap}
use Rattle.std.specs.Prelude.{slice_get}
use Rattle.outqueue.specs.declared.fault.QueueFault.{QueueFault}
use Rattle.botcore.specs.declared.manner.Manner.TheVariants.{InTurn, Once, Prompt}
use Rattle.botcore.specs.declared.watched_command.WatchedCommand.{WatchedCommand}
use Rattle.botcore.specs.declared.watched_command.WatchedCommand.TheVariants as cue
use Rattle.botcore.specs.Automatic.{cue_of, if_there, lines_by, manner_by, pong_wish}
use Rattle.botcore.specs.Putting.{put_all, queued_unless, usual}
use Rattle.botcore.proofs.automatic_laws.laws_of_answers.Goals as goal

pub returns-clause-at_once : goal.returns-clause-at_once
returns-clause-at_once c = λ config s bans last welcomed message text queues on is there free.
    ap (λ (w : WatchedCommand). put_all (manner_by w config.sends_at_once) queues (lines_by w config s bans last welcomed message)) is
    ∙ ap (λ (b : Bool). put_all (manner_by cue.Ping b) queues (if_there (slice_get message.params 0) (λ t. pong_wish t ∷ []))) on
    ∙ ap (λ (o : Option (List ℕ)). put_all Prompt queues (if_there o (λ t. pong_wish t ∷ []))) there
    ∙ ap (λ (o : Option QueueFault). queued_unless o Prompt queues (pong_wish text)) free

in_turn : (w : WatchedCommand) (at_once : Bool) → at_once ≡ false → manner_by w at_once ≡ InTurn
in_turn cue.Ping at_once off = ap (λ (b : Bool). manner_by cue.Ping b) off
in_turn cue.Join at_once off = ap usual off
in_turn cue.Mode at_once off = ap usual off
in_turn cue.RplWelcome at_once off = ap usual off
in_turn cue.ErrNicknameInUse at_once off = ap usual off
in_turn cue.Other at_once off = ap usual off

pub returns-clause-in_turn : goal.returns-clause-in_turn
returns-clause-in_turn c = λ config message off. in_turn (cue_of message.command) config.sends_at_once off

-- only a PING has its answer elsewhere
once : (w : WatchedCommand) (at_once : Bool) → at_once ≡ true → w ≢ cue.Ping → manner_by w at_once ≡ Once
once cue.Ping at_once on other = absurd (other refl)
once cue.Join at_once on other = ap usual on
once cue.Mode at_once on other = ap usual on
once cue.RplWelcome at_once on other = ap usual on
once cue.ErrNicknameInUse at_once on other = ap usual on
once cue.Other at_once on other = ap usual on

pub returns-clause-once : goal.returns-clause-once
returns-clause-once c = λ config message on other. once (cue_of message.command) config.sends_at_once on other
