-- What a connection asks about the channels of the bot.
use Rattle.std.specs.Prelude.{List, ℕ, Option, None, Some, option_map}
use Rattle.rfccase.specs.declared.casemappings.Casemapping.{Casemapping}
use Rattle.ircline.specs.declared.message.Message.{Message}
use Rattle.net.specs.Connections.{Talk}
use Rattle.serverlink.specs.declared.cue.Cue.{Cue}
use Rattle.serverlink.specs.declared.session.Session.{Session}
use Rattle.serverlink.specs.Questions.{Questions, asked, begun, due, heard, who_line}
use Rattle.serverlink.specs.Talks.{told}

-- a message of the server counts for the questions
abbrev pub with_message : Casemapping → Cue → Message → Session → Session
with_message mapping cue message session = record session { questions = heard mapping cue message session.questions }

abbrev pub questions_heard : Casemapping → Cue → Message → Option Session → Option Session
questions_heard mapping cue message session = option_map (with_message mapping cue message) session

-- ---- when there may be no connection

abbrev pub questions_in : Option Session → Questions
questions_in None = begun
questions_in (Some session) = session.questions

abbrev pub due_in : Option Session → Option (List ℕ)
due_in session = due (questions_in session)

-- the oldest question is taken
abbrev pub with_one_less : Session → Session
with_one_less session = record session { questions = asked session.questions }

abbrev pub question_taken : Option Session → Option Session
question_taken session = option_map with_one_less session

-- and asked, if there is one
abbrev pub told_of : Option (List ℕ) → Talk → Talk
told_of None talk = talk
told_of (Some channel) talk = told (who_line channel) talk

abbrev pub question_told : Session → Talk
question_told session = told_of (due session.questions) session.wire
