-- What a message of the server's means for a registration (IRCv3 capability negotiation 302, SASL 3.1 and 3.2; RFC 2812
-- section 5).
use Rattle.std.specs.Prelude.{ℕ, ◌||◌, Bool, true, false, List, [], codes, slice_get, unwrap_or, Option, Some, None, if◌then◌else◌}
use Rattle.std.specs.Str.{bytes_eq}
use Rattle.ircline.specs.declared.message.Message.{Message}
use Rattle.ircline.specs.Numeric.{is_command}
use Rattle.registration.specs.declared.registration_event.RegistrationEvent.{RegistrationEvent}
use Rattle.registration.specs.declared.registration_event.RegistrationEvent.TheVariants.{Listed, Acknowledged, Denied, UnknownCommand, Welcomed, Narrowed, LoggedIn, LoginFailed, Nothing}
use Rattle.registration.specs.Sets.{mechanisms_in, offer_in}

-- the parameter at a place, empty if the message has fewer
abbrev pub param : Message → ℕ → List ℕ
param message place = unwrap_or (slice_get message.params place) []

-- CAP NICK LS [*] :LIST: an asterisk says that the list goes on
abbrev pub goes_on : Message → Bool
goes_on message = bytes_eq (param message 2) (codes "*")

abbrev pub list_heard : Message → RegistrationEvent
list_heard message =
    if goes_on message then Listed (offer_in (param message 3)) false else Listed (offer_in (param message 2)) true

-- CAP NICK ACK :LIST, CAP NICK NAK :LIST; NEW, DEL and LIST mean nothing
abbrev pub cap_heard : Message → List ℕ → RegistrationEvent
cap_heard message word =
    if is_command (codes "LS") word then list_heard message
    else if is_command (codes "ACK") word then Acknowledged (offer_in (param message 2))
    else if is_command (codes "NAK") word then Denied (offer_in (param message 2))
    else Nothing

-- 421 NICK COMMAND
abbrev pub unknown_heard : Message → RegistrationEvent
unknown_heard message = if bytes_eq (param message 1) (codes "CAP") then UnknownCommand else Nothing

abbrev pub is_failure : List ℕ → Bool
is_failure command =
    is_command (codes "902") command || is_command (codes "904") command || is_command (codes "905") command
    || is_command (codes "906") command || is_command (codes "907") command

abbrev pub heard_of : Message → RegistrationEvent
heard_of message =
    if is_command (codes "CAP") message.command then cap_heard message (param message 1)
    else if is_command (codes "001") message.command then Welcomed
    else if is_command (codes "421") message.command then unknown_heard message
    else if is_command (codes "903") message.command then LoggedIn
    else if is_command (codes "908") message.command then Narrowed (mechanisms_in (param message 1))
    else if is_failure message.command then LoginFailed
    else Nothing

-- the piece of a login's message
abbrev pub piece_of : Message → Option (List ℕ)
piece_of message = if is_command (codes "AUTHENTICATE") message.command then Some (param message 0) else None
