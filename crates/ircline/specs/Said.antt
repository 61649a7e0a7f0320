-- What somebody says.
use Rattle.std.specs.Prelude.{Bool, codes}
use Rattle.ircline.specs.declared.message.Message.{Message}
use Rattle.ircline.specs.Numeric.{is_command}

-- a PRIVMSG
abbrev pub is_said : Message → Bool
is_said message = is_command (codes "PRIVMSG") message.command
