use Rattle.ircline.proofs.GrammarLemmas.{message_complete}
use Rattle.ircline.proofs.MessageLemmas.{message_short, message_sound}
use Rattle.ircline.proofs.NamelessLemmas.{nameless_sound, nameless_complete}
use Rattle.ircline.proofs.laws.reading_is_the_grammar.Goals as goal

pub returns-clause-message : goal.returns-clause-message
returns-clause-message c =
    λ run message is_run. (
      λ read. (message_short run message read, message_sound run message is_run read),
      λ spelled. message_complete run message
          spelled.0 spelled.1,
    )

pub returns-clause-bad_prefix : goal.returns-clause-bad_prefix
returns-clause-bad_prefix c = λ run. (λ read. nameless_sound run read, λ is. nameless_complete run is.0 is.1 is.2)
