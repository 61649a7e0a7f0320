use Rattle.std.proofs.Common.{◌≡◌, ◌++◌, take}
use Rattle.recordjson.specs.Words.{spelled}
use Rattle.recordjson.proofs.line.JsonLine.put_bytes.Given as goal

abbrev pub invariant-loop-byte : goal.invariant-loop-byte
invariant-loop-byte l = l.self ≡ l.fn.self ++ spelled (take l.byte-index l.text)
