-- What is done on a channel: KICK, MODE and TOPIC (RFC 2812 sections 3.2.8, 3.2.3 and 3.2.4).
use Rattle.std.specs.Prelude.{ℕ, true, List, [], ◌∷◌, drop, map, if◌then◌else◌, Option, Some, None, slice_get}
use Rattle.chanstate.specs.declared.event.IrcEvent.{IrcEvent}
use Rattle.chanstate.specs.declared.event.EventKind.TheVariants.{Kick, Mode, Topc}
use Rattle.chanstate.specs.declared.channel.Channel.{Channel}
use Rattle.chanstate.specs.declared.state.ChanState.{ChanState}
use Rattle.chanstate.specs.Items.{Single, singles, last_of}
use Rattle.chanstate.specs.Views.{channel_in}
use Rattle.chanstate.specs.EventShape.{event_on}
use Rattle.chanstate.specs.Given.{when_given, text_at}

-- what follows from a channel, in the bot's spelling, if the bot is on it
abbrev pub when_held : Option Channel → (List ℕ → List IrcEvent) → List IrcEvent
when_held None events = []
when_held (Some channel) events = events channel.name

-- KICK, with its target and the reason
abbrev pub kicks : List ℕ → List ℕ → List (List ℕ) → ChanState → List IrcEvent
kicks nick address ps s =
    when_given (slice_get ps 0)
    (λ name. when_given (slice_get ps 1)
    (λ target. when_held (channel_in name s) (λ channel. event_on Kick nick address target (target ∷ text_at ps 2 ∷ []) channel ∷ [])))

-- a single mode as its sign and letter: 43 is '+', 45 is '-'
abbrev pub signed : Single → List ℕ
signed one = (if one.on then 43 else 45) ∷ one.letter ∷ []

-- MODE: each single mode of the mode string, with its argument, which may be empty
abbrev pub mode_on : List ℕ → List ℕ → List ℕ → Single → IrcEvent
mode_on nick address channel one = event_on Mode nick address (signed one) (signed one ∷ one.argument ∷ []) channel

abbrev pub modes : List ℕ → List ℕ → List (List ℕ) → ChanState → List IrcEvent
modes nick address ps s =
    when_given (slice_get ps 0)
    (λ name. when_given (slice_get ps 1)
    (λ letters. when_held (channel_in name s) (λ channel. map (mode_on nick address channel) (singles s.support true letters (drop 2 ps)))))

-- TOPIC, with the topic, which is the last parameter
abbrev pub topics : List ℕ → List ℕ → List (List ℕ) → ChanState → List IrcEvent
topics nick address ps s =
    when_given (slice_get ps 0)
    (λ name. when_given (slice_get ps 1)
    (λ text. when_given (last_of ps)
    (λ topic. when_held (channel_in name s) (λ channel. event_on Topc nick address topic (topic ∷ []) channel ∷ []))))
