-- People join, leave and change nicks: JOIN, PART, QUIT and NICK (RFC 2812 sections 3.2.1, 3.2.2, 3.1.7 and 3.1.2). They
-- log in and out: ACCOUNT (IRCv3, account-notify).
use Rattle.std.specs.Prelude.{ℕ, Bool, true, false, List, [], ◌∷◌, ◌++◌, map, Option, Some, slice_get, codes}
use Rattle.std.specs.List.{filter_map}
use Rattle.std.specs.Option.{option_map}
use Rattle.chanstate.specs.declared.event.IrcEvent.{IrcEvent}
use Rattle.chanstate.specs.declared.event.EventKind.TheVariants.{Join, Part, Sign, Nick, Account}
use Rattle.chanstate.specs.declared.state.ChanState.{ChanState}
use Rattle.rfccase.specs.Casemapping.{is_same_by}
use Rattle.chanstate.specs.Items.{channels_on, account_but}
use Rattle.chanstate.specs.Views.{mapping_of, channel_in, channels_with}
use Rattle.chanstate.specs.EventShape.{event_on}
use Rattle.chanstate.specs.Given.{when_given, text_at}

-- nick!user@host
abbrev pub hostmask : List ℕ → List ℕ → List ℕ
hostmask nick address = nick ++ 33 ∷ address

-- A listed channel as events spell it. If the bot itself joins, the spelling is that of the line; else it is that of
-- the bot, and there is none if the bot is not on the channel.
abbrev pub spelled : Bool → ChanState → List ℕ → Option (List ℕ)
spelled true s name = Some name
spelled false s name = option_map (λ channel. channel.name) (channel_in name s)

-- the channels of a list separated by commas, in its order; a name that is no channel on this server is left out
abbrev pub listed_in : Bool → ChanState → List ℕ → List (List ℕ)
listed_in own s list = filter_map (spelled own s) (channels_on s.support list)

-- JOIN: on each listed channel that the bot is on, or on every listed channel if the bot itself joins
abbrev pub joins : List ℕ → List ℕ → List (List ℕ) → ChanState → List IrcEvent
joins nick address ps s = when_given (slice_get ps 0)
    (λ list. map (event_on Join nick address (hostmask nick address) []) (listed_in (is_same_by (mapping_of s) nick s.nick) s list))

-- PART: on each listed channel that the bot is on, with the message
abbrev pub parts : List ℕ → List ℕ → List (List ℕ) → ChanState → List IrcEvent
parts nick address ps s = when_given (slice_get ps 0)
    (λ list. map (event_on Part nick address (hostmask nick address) (text_at ps 1 ∷ [])) (listed_in false s list))

-- QUIT: on each channel that the nick is on, in the order in which the bot joined them, with the reason
abbrev pub signs_off : List ℕ → List ℕ → List (List ℕ) → ChanState → List IrcEvent
signs_off nick address ps s = map (event_on Sign nick address (hostmask nick address) (text_at ps 0 ∷ [])) (channels_with nick s)

-- NICK: on each channel that the old nick is on, in the order in which the bot joined them, with the new one
abbrev pub renames : List ℕ → List ℕ → List (List ℕ) → ChanState → List IrcEvent
renames nick address ps s = when_given (slice_get ps 0) (λ new. map (event_on Nick nick address new (new ∷ [])) (channels_with nick s))

-- ACCOUNT: on each channel that the nick is on, in the order in which the bot joined them, with the account, which is
-- empty if the person is logged out
abbrev pub logged_in : List ℕ → List ℕ → List ℕ → ChanState → List IrcEvent
logged_in nick address account s =
    map (event_on Account nick address (hostmask nick address ++ 32 ∷ account) (account ∷ [])) (channels_with nick s)

abbrev pub logins : List ℕ → List ℕ → List (List ℕ) → ChanState → List IrcEvent
logins nick address ps s = when_given (slice_get ps 0) (λ text. logged_in nick address (account_but (codes "*") text) s)
