use Rattle.botcore.proofs.SharingLemmas.{begun_shares, step_shares}
use Rattle.botcore.proofs.sharing.laws_of_sharing.Goals as goal

pub returns-clause-begun : goal.returns-clause-begun
returns-clause-begun g c = begun_shares

pub returns-clause-step : goal.returns-clause-step
returns-clause-step g c = λ names. step_shares g.P.Promise.promised names
