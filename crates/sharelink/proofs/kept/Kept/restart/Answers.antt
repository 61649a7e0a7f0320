use Rattle.std.specs.Option.{option_map}
use Rattle.sharelink.proofs.KeptLaws.{restart-moments}
use Rattle.sharelink.proofs.kept.Kept.restart.Goals as goal

pub returns-in-Err-Refused-clause-any_moment : goal.returns-in-Err-Refused-clause-any_moment
returns-in-Err-Refused-clause-any_moment g c =
    let inside = c.self.inside in
    rw (← c.self.view_is)
    (restart-moments (g.S.EndState.meaning inside.who) g.S.EndState.folded inside.state inside.down (option_map (λ d. d.value) inside.doubt)
    inside.ledger.account inside.ledger.device c.restart.new.self.device c.self.invariant.2 c.restart.ensures.any_moment)

pub returns-in-Err-NoMemory-clause-any_moment : goal.returns-in-Err-NoMemory-clause-any_moment
returns-in-Err-NoMemory-clause-any_moment g c =
    let inside = c.self.inside in
    rw (← c.self.view_is)
    (restart-moments (g.S.EndState.meaning inside.who) g.S.EndState.folded inside.state inside.down (option_map (λ d. d.value) inside.doubt)
    inside.ledger.account inside.ledger.device c.restart.new.self.device c.self.invariant.2 c.restart.ensures.any_moment)

pub returns-in-Ok-state_in-clause-any_moment : goal.returns-in-Ok-state_in-clause-any_moment
returns-in-Ok-state_in-clause-any_moment g c =
    let inside = c.self.inside in
    rw (← c.self.view_is)
    (restart-moments (g.S.EndState.meaning inside.who) g.S.EndState.folded inside.state inside.down (option_map (λ d. d.value) inside.doubt)
    inside.ledger.account inside.ledger.device c.restart.new.self.device c.self.invariant.2 c.restart.ensures.any_moment)

pub returns-in-Err-clause-any_moment : goal.returns-in-Err-clause-any_moment
returns-in-Err-clause-any_moment g c =
    let inside = c.self.inside in
    rw (← c.self.view_is)
    (restart-moments (g.S.EndState.meaning inside.who) g.S.EndState.folded inside.state inside.down (option_map (λ d. d.value) inside.doubt)
    inside.ledger.account inside.ledger.device c.restart.new.self.device c.self.invariant.2 c.restart.ensures.any_moment)
