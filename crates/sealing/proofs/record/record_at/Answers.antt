use Rattle.std.proofs.Common.{◌≡◌, ◌<◌, ◌≤◌, ◌+◌, ◌++◌, ℕ, length, ◌-◌, true, subst, sym, ap, ◌∙◌, arith, length-take-le, take_all, length-drop, take, drop}
use Rattle.std.specs.Str.{bytes_eq}
use Rattle.sealing.specs.Records.{tag_of, sealed, IsBody}
use Rattle.sealing.specs.Streams.{max_records}
use Rattle.sealing.proofs.RecordLemmas.{whole_record}
use Rattle.sealing.proofs.record.record_at.Goals as goal

pub returns-then-is_same_tag : goal.returns-then-is_same_tag
returns-then-is_same_tag c =
    let bytes = c.args.bytes.now in
    let n : ℕ = c.from_be_bytes-length.result in
    let long : 2 + n + 16 ≤ length bytes = omega (arith, c.if-bytes-length.false) in
    let same : 2 + n - 2 ≡ n = omega arith in
    let shown : bytes_eq (tag_of c.args.key.now c.args.count (take n (drop 2 bytes))) (take 16 (drop (2 + n) bytes)) ≡ true =
    ap (λ k. bytes_eq (tag_of c.args.key.now c.args.count (take k (drop 2 bytes))) (take 16 (drop (2 + n) bytes))) (sym same)
    ∙ ap (λ t. bytes_eq t (take 16 (drop (2 + n) bytes))) (sym c.tag.ensures)
    ∙ ap (λ k. bytes_eq c.tag.result (take k (drop (2 + n) bytes))) {x = 16} {y = 2 + n + 16 - (2 + n)} (omega arith)
    ∙ sym c.is_same_tag.ensures ∙ c.if-is_same_tag.true in
    let all : take (length bytes - (2 + n + 16)) (drop (2 + n + 16) bytes) ≡ drop (2 + n + 16) bytes =
    take_all (length bytes - (2 + n + 16)) (drop (2 + n + 16) bytes) (omega (arith, length-drop (2 + n + 16) bytes)) in
    let len : length (take n (drop 2 bytes)) ≡ n = length-take-le n (drop 2 bytes) (omega (arith, length-drop 2 bytes)) in
    let good : IsBody (take n (drop 2 bytes)) = (omega (arith, len, c.if-length-eq0.false), omega (arith, len, c.if-length-gt-MAX_BODY.false)) in
    let few : c.args.count < max_records = omega arith in
    subst (λ k. (bytes ≡ sealed c.args.key.now c.args.count (take k (drop 2 bytes)) ++ take (length bytes - (2 + n + 16)) (drop (2 + n + 16) bytes))
    × (IsBody (take k (drop 2 bytes)) × (c.args.count < max_records))) (sym same) (
      whole_record c.args.key.now c.args.count bytes n (λ i. omega (arith, c.type_inv.bytes i)) c.from_be_bytes-length.ensures long shown
          ∙ ap (λ l. sealed c.args.key.now c.args.count (take n (drop 2 bytes)) ++ l) (sym all),
      (good, few),
    )
