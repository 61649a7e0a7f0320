use Rattle.std.proofs.Common.{ℕ, suc, List, length, arith}
use Rattle.sharewire.proofs.ReadingLaws.{told_within}
use Rattle.sharewire.proofs.StreamLaws.{tells_once}
use Rattle.sharewire.proofs.laws.a_stream_tells_one_thing.Goals as goal

pub returns-clause-some : goal.returns-clause-some
returns-clause-some c = λ (stream : List ℕ) fits. told_within (suc (length stream)) stream (omega arith) fits

pub returns-clause-only : goal.returns-clause-only
returns-clause-only c = tells_once
