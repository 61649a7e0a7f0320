use Rattle.std.proofs.Common.{arith, refl}
use Rattle.page.proofs.WritingLemmas.{adds_some, adds_words, some_more}
use Rattle.page.proofs.heads.put_date.Goals as goal

pub returns-then-are_bare : goal.returns-then-are_bare
returns-then-are_bare c =
    let begun = adds_words c.args.head.now c.put.new.self _ 6 c.put.ensures refl in
    let date = adds_some c.put.new.self c.put-then-are_bare.new.self _ 29 c.put-then-are_bare.ensures (omega arith) in
    let end = adds_words c.put-then-are_bare.new.self c.put-then-are_bare-2.new.self _ 5 c.put-then-are_bare-2.ensures refl in
    some_more _ _ _ 35 5 (some_more _ _ _ 6 29 begun date) end
