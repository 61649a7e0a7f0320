use Rattle.std.proofs.Common.{◌≡◌, ◌+◌, ◌-◌, ◌++◌, ◌∷◌, [], ℕ, List, length, take, drop, ap, ◌∙◌, arith, take_all, length-drop}
use Rattle.sealing.specs.Records.{kind_byte, tag_of}
use Rattle.sealing.proofs.SealingLemmas.{head_put, record_put}
use Rattle.sealing.proofs.sealer.put_record.Goals as goal

pub returns-clause-ok : goal.returns-clause-ok
returns-clause-ok c =
    let before : List ℕ = c.args.out.now.items in
    let two : List ℕ = c.extend_from_slice-2.new.self.items in
    let shown : List ℕ = c.deref.result.now in
    let from : ℕ = c.len-begun.result + 2 in
    let begun : from ≡ length before + 2 = omega (arith, c.len-begun.ensures, c.in_ok-reserve.ensures.len, c.args.out.now.ok) in
    let n : ℕ = length c.args.content.now + 1 in
    let head : c.extend_from_slice.new.self.items ≡ before ++ c.to_be_bytes.result ++ kind_byte c.args.kind ∷ [] =
    c.in_ok-extend_from_slice.ensures.items
    ∙ head_put before c.reserve.new.self.items c.to_be_bytes.result n c.byte_of.result (kind_byte c.args.kind)
    c.in_ok-reserve.ensures.items c.to_be_bytes.ensures c.byte_of.ensures in
    let body_is : take (length shown - from) (drop from shown) ≡ drop (length before + 2) two =
    take_all (length shown - from) (drop from shown) (omega (arith, length-drop from shown))
    ∙ ap (λ (k : ℕ). drop k shown) begun ∙ ap (drop (length before + 2)) c.deref.ensures.value in
    record_put c.args.key.now c.args.count c.args.kind c.args.content.now before c.extend_from_slice.new.self.items two
    c.extend_from_slice-3.new.self.items c.to_be_bytes.result c.tag-tag.result n (omega arith) c.to_be_bytes.ensures head
    c.in_ok-extend_from_slice-2.ensures.items (c.tag-tag.ensures ∙ ap (tag_of c.args.key.now c.args.count) body_is)
    c.in_ok-extend_from_slice-3.ensures.items
