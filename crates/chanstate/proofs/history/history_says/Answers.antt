use Rattle.chanstate.proofs.HistoryLemmas.{history-stands}
use Rattle.chanstate.proofs.history.history_says.Goals as goal

pub returns : goal.returns
returns c = λ first messages. (history-stands first messages).agrees
