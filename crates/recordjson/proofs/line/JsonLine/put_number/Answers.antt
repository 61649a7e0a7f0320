use Rattle.std.proofs.Common.{◌∙◌, subst, sym, arith}
use Rattle.recordjson.specs.Words.{ArePlain}
use Rattle.recordjson.proofs.Plain.{ArePlain-decimal}
use Rattle.recordjson.proofs.line.JsonLine.put_number.Goals as goal

pub put_words-requires : goal.put_words-requires
put_words-requires c = record { plain = subst ArePlain (sym (c.as_bytes.ensures.value ∙ c.format.ensures.text)) (ArePlain-decimal c.args.number (omega arith)) }
