-- What is wrong with an edit that a person asks for: its words stand further on in the line.
use Rattle.script.specs.declared.reason.Reason.{Reason}
use Rattle.script.specs.declared.reason.Reason.TheVariants as reason

abbrev pub in_name : Reason → Reason
in_name reason.TooLong = reason.TooLong
in_name reason.NoCommand = reason.NoCommand
in_name reason.CarriageReturn = reason.CarriageReturn
in_name reason.ByteOrderMark = reason.ByteOrderMark
in_name reason.SpaceBefore = reason.SpaceBefore
in_name reason.SpaceAfter = reason.SpaceAfter
in_name reason.TwoSpaces = reason.TwoSpaces
in_name reason.Tab = reason.Tab
in_name reason.Unknown = reason.Unknown
in_name (reason.Form verb) = reason.Form verb
in_name reason.Leaves = reason.Leaves
in_name reason.Zone = reason.Zone
in_name reason.Bot = reason.Bot
in_name reason.Packet = reason.Packet
in_name reason.Seconds = reason.Seconds
in_name reason.Change = reason.NamedChange
in_name (reason.ChangeForm word) = reason.ChangeForm word
in_name reason.AskerForm = reason.AskerForm
in_name reason.Flags = reason.NamedFlags
in_name reason.ChannelFlags = reason.NamedFlags
in_name reason.Expiry = reason.NamedExpiry
in_name reason.Mark = reason.NamedMark
in_name reason.NamedChange = reason.NamedChange
in_name reason.NamedFlags = reason.NamedFlags
in_name reason.NamedExpiry = reason.NamedExpiry
in_name reason.NamedMark = reason.NamedMark
in_name reason.Kind = reason.Kind
in_name reason.LeavesFirst = reason.LeavesFirst
in_name reason.LeavesAgain = reason.LeavesAgain
in_name reason.ZoneLate = reason.ZoneLate
