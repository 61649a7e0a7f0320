use Rattle.std.proofs.Common.{arith, refl}
use Rattle.page.proofs.WritingLemmas.{adds_some, adds_words, decimal_short, some_more}
use Rattle.page.proofs.heads.put_fields.Goals as goal

pub returns : goal.returns
returns c =
    let safety = adds_words c.args.head.now c.put.new.self _ 500 c.put.ensures refl in
    let status = adds_some c.put.new.self c.put-2.new.self _ 100 c.put-2.ensures c.status_field.ensures.short in
    let kind = adds_some c.put-2.new.self c.put-3.new.self _ 100 c.put-3.ensures c.kind_field.ensures.short in
    let name = adds_words c.put_date.new.head c.put-4.new.self _ 40 c.put-4.ensures refl in
    let number = adds_some c.put-4.new.self c.put_number.new.self _ 20 c.put_number.ensures (decimal_short c.args.count (omega arith)) in
    let end = adds_words c.put_number.new.self c.put-5.new.self _ 100 c.put-5.ensures refl in
    some_more _ _ _ 800 100 (some_more _ _ _ 780 20 (some_more _ _ _ 740 40 (some_more _ _ _ 700 40
    (some_more _ _ _ 600 100 (some_more _ _ _ 500 100 safety status) kind) c.put_date.ensures) name) number) end
