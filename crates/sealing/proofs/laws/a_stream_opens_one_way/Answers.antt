use Rattle.sealing.proofs.OnceLaws.{opens_one_way}
use Rattle.sealing.proofs.laws.a_stream_opens_one_way.Goals as goal

pub returns : goal.returns
returns c = opens_one_way
