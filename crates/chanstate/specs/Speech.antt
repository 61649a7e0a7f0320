-- What people say and note: PRIVMSG and NOTICE (RFC 2812 section 3.3).
use Rattle.std.specs.Prelude.{ℕ, Bool, ◌==◌, List, [], ◌∷◌, ◌++◌, length, if◌then◌else◌, Option, Some, None, is_some, drop, slice_get, slice_index}
use Rattle.bytetext.specs.Words.{first_word, after_word}
use Rattle.chanstate.specs.declared.event.IrcEvent.{IrcEvent}
use Rattle.chanstate.specs.declared.event.EventKind.TheVariants.{Msg, Msgm, Notc, Pub, Pubm}
use Rattle.chanstate.specs.declared.channel.Channel.{Channel}
use Rattle.chanstate.specs.declared.state.ChanState.{ChanState}
use Rattle.rfccase.specs.Casemapping.{is_same_by}
use Rattle.chanstate.specs.Announced.{has_status}
use Rattle.chanstate.specs.Views.{mapping_of, channel_in}
use Rattle.chanstate.specs.EventShape.{event_with}
use Rattle.chanstate.specs.Given.{when_given}

-- one event by the whole text, and one by its first word, if the text begins with a word
abbrev pub by_text_and_word : IrcEvent → IrcEvent → List ℕ → List IrcEvent
by_text_and_word whole word text = if length (first_word text) == 0 then whole ∷ [] else whole ∷ word ∷ []

abbrev pub to_bot : List ℕ → List ℕ → List ℕ → List IrcEvent
to_bot nick address text =
    by_text_and_word
    (event_with Msgm text None (nick ∷ address ∷ text ∷ []))
    (event_with Msg (first_word text) None (nick ∷ address ∷ after_word text ∷ []))
    text

abbrev pub to_channel : List ℕ → List ℕ → List ℕ → List ℕ → List IrcEvent
to_channel nick address channel text =
    by_text_and_word
    (event_with Pubm (channel ++ 32 ∷ text) (Some channel) (nick ∷ address ∷ channel ∷ text ∷ []))
    (event_with Pub (first_word text) (Some channel) (nick ∷ address ∷ channel ∷ after_word text ∷ []))
    text

-- a notice has one event, which names its destination
abbrev pub noticed : List ℕ → List ℕ → Option (List ℕ) → List ℕ → List ℕ → List IrcEvent
noticed nick address channel text dest = event_with Notc text channel (nick ∷ address ∷ text ∷ dest ∷ []) ∷ []

-- a text that begins with byte 1 is only for programs
abbrev pub is_hidden : List ℕ → Bool
is_hidden text = slice_index text 0 == 1

abbrev pub said_on : List ℕ → List ℕ → List ℕ → Option Channel → List IrcEvent
said_on nick address text None = []
said_on nick address text (Some channel) = to_channel nick address channel.name text

abbrev pub noticed_on : List ℕ → List ℕ → List ℕ → Option Channel → List IrcEvent
noticed_on nick address text None = []
noticed_on nick address text (Some channel) = noticed nick address (Some channel.name) text channel.name

-- The channel to which a target sends a text: the one of this name, or the one whose name stands after a sign of
-- STATUSMSG. Such a text is for the members with that status.
abbrev pub channel_sent : List ℕ → ChanState → Option Channel
channel_sent target s =
    if is_some (channel_in target s) then channel_in target s
    else (if has_status s.support target then channel_in (drop 1 target) s else None)

-- what a person says or notes to the bot, or on a channel that it is on
abbrev pub said : List ℕ → List ℕ → List ℕ → List ℕ → ChanState → List IrcEvent
said nick address target text s =
    if is_hidden text then []
    else (if is_same_by (mapping_of s) target s.nick
    then to_bot nick address text
    else said_on nick address text (channel_sent target s))

abbrev pub noted : List ℕ → List ℕ → List ℕ → List ℕ → ChanState → List IrcEvent
noted nick address target text s =
    if is_hidden text then []
    else (if is_same_by (mapping_of s) target s.nick
    then noticed nick address None text target
    else noticed_on nick address text (channel_sent target s))

-- PRIVMSG
abbrev pub says : List ℕ → List ℕ → List (List ℕ) → ChanState → List IrcEvent
says nick address ps s = when_given (slice_get ps 0) (λ target. when_given (slice_get ps 1) (λ text. said nick address target text s))

-- NOTICE
abbrev pub notes : List ℕ → List ℕ → List (List ℕ) → ChanState → List IrcEvent
notes nick address ps s = when_given (slice_get ps 0) (λ target. when_given (slice_get ps 1) (λ text. noted nick address target text s))
