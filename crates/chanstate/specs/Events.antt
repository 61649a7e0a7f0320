-- The events of a message, given the state of the channels before it (Eggdrop's Tcl commands, "bind").
use Rattle.std.specs.Prelude.{ℕ, List, [], ◌∷◌, map, Option, None, if◌then◌else◌, slice_get, codes}
use Rattle.std.specs.Option.{option_map}
use Rattle.ircline.specs.declared.message.Message.{Message}
use Rattle.std.specs.Prelude.{unwrap_or}
use Rattle.ircline.specs.Sources.{Source, Person, source_of}
use Rattle.chanstate.specs.declared.event.IrcEvent.{IrcEvent}
use Rattle.chanstate.specs.declared.event.EventKind.TheVariants.{Raw}
use Rattle.chanstate.specs.declared.state.ChanState.{ChanState}
use Rattle.chanstate.specs.declared.channel_command.ChannelCommand.{ChannelCommand}
use Rattle.chanstate.specs.declared.channel_command.ChannelCommand.TheVariants as verb
use Rattle.chanstate.specs.Items.{verb_of, account_but}
use Rattle.chanstate.specs.Views.{account_in}
use Rattle.chanstate.specs.EventShape.{event_with, with_account}
use Rattle.chanstate.specs.Given.{by_person, by_anyone}
use Rattle.chanstate.specs.Speech.{says, notes}
use Rattle.chanstate.specs.Comings.{joins, parts, signs_off, renames, logins}
use Rattle.chanstate.specs.Operations.{kicks, modes, topics}

-- The events that depend on the command: what people say, how they join and leave, and what they or a server do on a
-- channel. Other commands have none.
abbrev pub typed_by : ChannelCommand → Source → List (List ℕ) → ChanState → List IrcEvent
typed_by verb.Privmsg who ps s = by_person who (λ nick address. says nick address ps s)
typed_by verb.Notice who ps s = by_person who (λ nick address. notes nick address ps s)
typed_by verb.Join who ps s = by_person who (λ nick address. joins nick address ps s)
typed_by verb.Part who ps s = by_person who (λ nick address. parts nick address ps s)
typed_by verb.Quit who ps s = by_person who (λ nick address. signs_off nick address ps s)
typed_by verb.Nick who ps s = by_person who (λ nick address. renames nick address ps s)
typed_by verb.Account who ps s = by_person who (λ nick address. logins nick address ps s)
typed_by verb.Kick who ps s = by_anyone who (λ nick address. kicks nick address ps s)
typed_by verb.Mode who ps s = by_anyone who (λ nick address. modes nick address ps s)
typed_by verb.Topic who ps s = by_anyone who (λ nick address. topics nick address ps s)
typed_by verb.RplWelcome who ps s = []
typed_by verb.RplISupport who ps s = []
typed_by verb.RplTopic who ps s = []
typed_by verb.RplNoTopic who ps s = []
typed_by verb.RplNamReply who ps s = []
typed_by verb.RplWhoReply who ps s = []
typed_by verb.RplWhoSpcRpl who ps s = []
typed_by verb.Cap who ps s = []
typed_by verb.ChgHost who ps s = []
typed_by verb.Other who ps s = []

abbrev pub typed : Message → ChanState → List IrcEvent
typed m s = typed_by (verb_of m.command) (source_of m.prefix) m.params s

-- every message first has a raw event
abbrev pub raw : Message → IrcEvent
raw m = event_with Raw m.command None (m.prefix ∷ m.command ∷ m.rest ∷ [])

-- the account that a message itself tells of the person from whom it comes: a JOIN if JOINs tell it, and ACCOUNT
abbrev pub account_told : ChannelCommand → List (List ℕ) → ChanState → Option (List ℕ)
account_told verb.Join ps s = if s.support.joins_tell then option_map (account_but (codes "*")) (slice_get ps 1) else None
account_told verb.Account ps s = option_map (account_but (codes "*")) (slice_get ps 0)
account_told _ ps s = None

-- the account of the person behind a message: what the message tells, else what is known of the nick; empty if no
-- account is known, or no person is behind it
abbrev pub account_by : ChannelCommand → Source → List (List ℕ) → ChanState → List ℕ
account_by verb (Person nick user host) ps s = unwrap_or (account_told verb ps s) (account_in nick s)
account_by verb who ps s = []

abbrev pub account_behind : Message → ChanState → List ℕ
account_behind m s = account_by (verb_of m.command) (source_of m.prefix) m.params s

-- each event has the account
abbrev pub events_of : Message → ChanState → List IrcEvent
events_of m s = map (with_account (account_behind m s)) (raw m ∷ typed m s)
