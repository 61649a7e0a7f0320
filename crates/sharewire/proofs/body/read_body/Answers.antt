use Rattle.std.proofs.Common.{◌≡◌, [], rules, ap, sym, ◌∙◌, arith}
use Rattle.sharewire.specs.Bodies.{body_at}
use Rattle.sharewire.proofs.BodyLaws.{reads_whole, reads_more, reads_none}
use Rattle.sharewire.proofs.body.read_body.Goals as goal

pub returns-then-is_empty : goal.returns-then-is_empty
returns-then-is_empty c =
    let none : c.packet.new.reader ≡ [] = search rules in
    reads_whole c.args.kind c.args.body.now c.in-Ok.packet c.packet.new.reader (λ i. omega (arith, c.type_inv.body i))
    (ap (body_at c.args.kind) (sym c.new-reader.ensures) ∙ c.in-Ok.ensures) none

pub returns-else-is_empty : goal.returns-else-is_empty
returns-else-is_empty c =
    let some : c.packet.new.reader ≡ [] → ⊥ = search rules in
    reads_more c.args.kind c.args.body.now c.in-Ok.packet c.packet.new.reader
    (ap (body_at c.args.kind) (sym c.new-reader.ensures) ∙ c.in-Ok.ensures) some

pub returns-in-Err-Refused : goal.returns-in-Err-Refused
returns-in-Err-Refused c =
    reads_none c.args.kind c.args.body.now c.in-Err-Refused.field-0-0
    (ap (body_at c.args.kind) (sym c.new-reader.ensures) ∙ (rw c.in-Err-Refused.field-0-is at c.in-Err-Refused.ensures))
