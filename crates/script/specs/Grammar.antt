-- What a line of a script says by itself.
use Rattle.std.specs.Prelude.{ℕ, ◌==◌, nat_le, Bool, false, not, List, [], ◌∷◌, Option, None, Some, option_map, option_and_then, if◌then◌else◌}
use Rattle.script.specs.declared.command.Command.{Command}
use Rattle.script.specs.declared.command.Command.TheVariants.{Steps, Show}
use Rattle.procs.specs.Kinds.{kind_of}
use Rattle.sharelink.specs.declared.TheConstants.{MAX_LEAVES}
use Rattle.botcore.specs.declared.event.BotEvent.{BotEvent}
use Rattle.botcore.specs.declared.event.BotEvent.TheVariants.{Ask, Pump, Compact, Restart, Connect, Bind, Unbind, Clock}
use Rattle.botworld.specs.declared.step.Step.{Step}
use Rattle.botworld.specs.declared.step.Step.TheVariants.{At, Deliver}
use Rattle.script.specs.declared.verb.Verb.{Verb}
use Rattle.script.specs.declared.verb.Verb.TheVariants.{Leaves as leaves_verb, Ask as ask_verb, Pump as pump_verb, Connect as connect_verb}
use Rattle.script.specs.declared.verb.Verb.TheVariants.{Compact as compact_verb, Restart as restart_verb}
use Rattle.script.specs.declared.verb.Verb.TheVariants.{Line as line_verb, Clock as clock_verb, Bind as bind_verb, Unbind as unbind_verb}
use Rattle.script.specs.declared.verb.Verb.TheVariants.{Deliver as deliver_verb, Show as show_verb, Zone as zone_verb}
use Rattle.script.specs.Vocabulary.{verb_named}
use Rattle.script.specs.declared.saying.Saying.{Saying}
use Rattle.script.specs.declared.saying.Saying.TheVariants.{Nothing, Leaves, Zone, Told, Wrong}
use Rattle.bottimers.specs.Zones.{TzText, rule_in}
use Rattle.recordtext.specs.Words.{words_of, rest_of, number_below}
use Rattle.recordtext.specs.Changes.{change_named}
use Rattle.script.specs.Binds.{new_bind_of, old_bind_of}
use Rattle.script.specs.Lines.{line_steps}

-- the number of a bot, and of a packet
abbrev pub bot_of : List ℕ → Option ℕ
bot_of word = number_below 65536 word

abbrev pub packet_of : List ℕ → Option ℕ
packet_of word = number_below 18446744073709551616 word

-- what a clock shows
abbrev pub reading_of : List ℕ → Option ℕ
reading_of word = number_below 18446744073709551616 word

-- at most as many leaves as a hub may have
abbrev pub few_leaves : ℕ → Option ℕ
few_leaves leaves = if nat_le leaves MAX_LEAVES then Some leaves else None

abbrev pub leaves_of : List ℕ → Option ℕ
leaves_of word = option_and_then few_leaves (bot_of word)

-- a word that was looked for: the line is wrong if it is missing
abbrev pub told : Option Command → Saying
told None = Wrong
told (Some command) = Told command

abbrev pub counted : Option ℕ → Saying
counted None = Wrong
counted (Some leaves) = Leaves leaves

abbrev pub zoned : Option TzText → Saying
zoned None = Wrong
zoned (Some rule) = Zone rule

-- a command of one step
abbrev pub one_step : Step → Command
one_step step = Steps (step ∷ [])

abbrev pub delivered : ℕ → Command
delivered packet = one_step (Deliver packet)

-- the command that gives this event to the bot of this number
abbrev pub event_at : ℕ → BotEvent → Command
event_at bot event = one_step (At bot event)

-- the same; the line is wrong if the bot's number is missing
abbrev pub told_to : Option ℕ → BotEvent → Saying
told_to bot event = told (option_map (λ number. event_at number event) bot)

-- VERB A
abbrev pub two_words : Option Verb → List ℕ → Saying
two_words (Some leaves_verb) a = counted (leaves_of a)
two_words (Some zone_verb) a = zoned (rule_in a)
two_words (Some pump_verb) a = told_to (bot_of a) Pump
two_words (Some compact_verb) a = told_to (bot_of a) Compact
two_words (Some restart_verb) a = told_to (bot_of a) Restart
two_words (Some connect_verb) a = told_to (bot_of a) Connect
two_words (Some deliver_verb) a = told (option_map delivered (packet_of a))
two_words (Some show_verb) a = told (option_map Show (bot_of a))
two_words (Some ask_verb) a = Wrong
two_words (Some line_verb) a = Wrong
two_words (Some clock_verb) a = Wrong
two_words (Some bind_verb) a = Wrong
two_words (Some unbind_verb) a = Wrong
two_words None a = Wrong

-- ask B NAME, and the words of the change
abbrev pub asked : Option ℕ → List ℕ → List (List ℕ) → Option Command
asked bot name words = option_and_then (λ bot. option_map (λ change. event_at bot (Ask change)) (change_named name words)) bot

-- line B TEXT..
abbrev pub read : Option ℕ → List (List ℕ) → Option Command
read bot words = option_and_then (λ bot. option_map (λ text. Steps (line_steps bot text)) (rest_of words)) bot

-- clock B N
abbrev pub clocked : Option ℕ → List ℕ → List (List ℕ) → Option Command
clocked bot word [] = option_and_then (λ bot. option_map (λ now. event_at bot (Clock now)) (reading_of word)) bot
clocked bot word (more ∷ words) = None

-- bind B TYPE FLAGS PROC MASK..
abbrev pub bound : Option ℕ → List ℕ → List (List ℕ) → Option Command
bound bot kind words = option_and_then (λ bot. option_map (λ bind. event_at bot (Bind bind)) (new_bind_of (kind_of kind) words)) bot

-- unbind B TYPE PROC MASK..
abbrev pub unbound : Option ℕ → List ℕ → List (List ℕ) → Option Command
unbound bot kind words = option_and_then (λ bot. option_map (λ bind. event_at bot (Unbind bind)) (old_bind_of (kind_of kind) words)) bot

abbrev pub more_words : Option Verb → List ℕ → List ℕ → List (List ℕ) → Saying
more_words (Some ask_verb) a first words = told (asked (bot_of a) first words)
more_words (Some line_verb) a first words = told (read (bot_of a) (first ∷ words))
more_words (Some clock_verb) a first words = told (clocked (bot_of a) first words)
more_words (Some bind_verb) a first words = told (bound (bot_of a) first words)
more_words (Some unbind_verb) a first words = told (unbound (bot_of a) first words)
more_words (Some leaves_verb) a first words = Wrong
more_words (Some pump_verb) a first words = Wrong
more_words (Some compact_verb) a first words = Wrong
more_words (Some restart_verb) a first words = Wrong
more_words (Some connect_verb) a first words = Wrong
more_words (Some deliver_verb) a first words = Wrong
more_words (Some show_verb) a first words = Wrong
more_words (Some zone_verb) a first words = Wrong
more_words None a first words = Wrong

-- each command has its number of words
abbrev pub saying_by_words : List (List ℕ) → Saying
saying_by_words (verb ∷ a ∷ []) = two_words (verb_named verb) a
saying_by_words (verb ∷ a ∷ first ∷ words) = more_words (verb_named verb) a first words
saying_by_words (verb ∷ []) = Wrong
saying_by_words [] = Wrong

-- whether a line says something: it is not empty, and does not begin with #
abbrev pub has_text : List ℕ → Bool
has_text [] = false
has_text (b ∷ bs) = not (b == 35)

-- a line says nothing if it is empty or begins with #
abbrev pub saying_of : List ℕ → Saying
saying_of [] = Nothing
saying_of (b ∷ bs) = if b == 35 then Nothing else saying_by_words (words_of (b ∷ bs))
