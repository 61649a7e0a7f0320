use Rattle.std.proofs.Common.{◌∙◌, ap, sym, is_some}
use Rattle.chanstate.specs.Members.{is_called}
use Rattle.chanstate.proofs.FindLemmas.{list_any-find}
use Rattle.chanstate.proofs.SeatLemmas.{is_some-copied}
use Rattle.chanstate.proofs.roster.Roster.holds.Goals as goal

pub returns : goal.returns
returns c =
    c.is_some.ensures ∙ is_some-copied c.find.result ∙ ap is_some c.find.ensures ∙ sym (list_any-find (is_called c.args.mapping c.args.nick.now) c.args.self.now)
