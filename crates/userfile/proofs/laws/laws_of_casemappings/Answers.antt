use Rattle.userfile.proofs.MatchLemmas.{match_wider}
use Rattle.userfile.proofs.WideningLemmas.{known-wider, strangers-stay, ban-wider, sticky-wider}
use Rattle.userfile.proofs.laws.laws_of_casemappings.Goals as goal

pub returns : goal.returns
returns c = record { matches = match_wider; known = known-wider; unknown = strangers-stay; bans = ban-wider; sticky = sticky-wider }
