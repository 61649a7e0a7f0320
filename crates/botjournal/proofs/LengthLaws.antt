-- How long spellings are.
use Rattle.std.proofs.Common.{◌<◌, ◌≤◌, ◌^◌, length, arith}
use Rattle.std.proofs.lemmas.List.{length-append}
use Rattle.usercodec.specs.Records.{record_bytes, HasShape, IsGoodRecord}
use Rattle.usercodec.proofs.ShapeLaws.{short_texts, change_is_short}
use Rattle.usercodec.proofs.RecordLengths.{all_map, many_short, record_is_short}
use Rattle.botjournal.specs.declared.base.Base.{Base}
use Rattle.botjournal.specs.declared.entry.Entry.{Entry}
use Rattle.botjournal.specs.declared.entry.Entry.TheVariants.{Accepted, Settled, Applied, ReqOut, ReqDone}
use Rattle.botjournal.specs.declared.reply.Verdict.{Verdict}
use Rattle.botjournal.specs.declared.reply.Verdict.TheVariants as answers
use Rattle.botjournal.specs.declared.reply.Reply.{Reply}
use Rattle.botjournal.specs.declared.request.Request.{Request}
use Rattle.botjournal.specs.Entries.{entry_bytes, IsGoodEntry}
use Rattle.botjournal.specs.Bases.{reply_bytes, request_bytes, base_bytes, IsGoodReply, IsGoodRequest, HasShapeOut, HasShapes, IsGoodBase}
use Rattle.botjournal.specs.declared.sums.Seal.{Seal}
use Rattle.botjournal.specs.Sums.{sealed}
use Rattle.botjournal.proofs.WindowLaws.{out_few}
use Rattle.botjournal.proofs.SumLaws.{length-sealed}

-- ---- entries

-- with room for a sum
entry_is_below : (entry : Entry) → IsGoodEntry entry → length (entry_bytes entry) < 2 ^ 31
entry_is_below (Accepted origin r change) good = let short = change_is_short change (short_texts change good.1.1.shape) in simp length-append (omega arith)
entry_is_below (Settled leaf r fault) good = omega arith
entry_is_below (Applied n change) good = let short = change_is_short change (short_texts change good.1.shape) in simp length-append (omega arith)
entry_is_below (ReqOut r change) good = let short = change_is_short change (short_texts change good.1.shape) in simp length-append (omega arith)
entry_is_below (ReqDone r) good = omega arith

pub entry_is_short : (entry : Entry) → IsGoodEntry entry → (before : Seal) → length (sealed before (entry_bytes entry)) < 2 ^ 32
entry_is_short entry good before = omega (arith, entry_is_below entry good, length-sealed before (entry_bytes entry))

-- ---- bases

reply_is_short : (reply : Reply) → IsGoodReply reply → length (reply_bytes reply) ≤ 300
reply_is_short reply good = by reply.answer
  where
    by : (answer : Verdict) → length (reply_bytes (record { leaf = reply.leaf; request = reply.request; answer = answer })) ≤ 300
    by (answers.Taken n) = omega arith
    by (answers.Refused fault) = omega arith

request_is_short : (request : Request) → IsGoodRequest request → length (request_bytes request) ≤ 2100
request_is_short request good =
    let short = change_is_short request.change (short_texts request.change good.1.shape) in
    simp length-append (omega arith)

base_is_below : (base : Base) → IsGoodBase base → length (base_bytes base) < 2 ^ 31
base_is_below base good =
    let records_are = many_short record_bytes 4900 base.records (all_map IsGoodRecord (λ r. length (record_bytes r) ≤ 4900) record_is_short base.records
    good.records.1) in
    let replies_are = many_short reply_bytes 300 base.replies (all_map IsGoodReply (λ r. length (reply_bytes r) ≤ 300) reply_is_short base.replies good.replies.1) in
    let m = good.records.0 in
    let n = good.replies.0 in
    let requests_are = many_short request_bytes 2100 base.out (all_map IsGoodRequest (λ r. length (request_bytes r) ≤ 2100) request_is_short base.out good.out.0) in
    let few = out_few base.last_request base.out good.out.1 in
    simp length-append (omega arith)

pub base_is_short : (base : Base) → IsGoodBase base → (before : Seal) → length (sealed before (base_bytes base)) < 2 ^ 32
base_is_short base good before = omega (arith, base_is_below base good, length-sealed before (base_bytes base))

pub shapes_are : (base : Base) → IsGoodBase base → HasShapes base
shapes_are base good = record {
  few_records = good.records.0;
  records = all_map IsGoodRecord HasShape (λ r g. g.shape) base.records good.records.1;
  few_replies = good.replies.0;
  few_out = out_few base.last_request base.out good.out.1;
  out = all_map IsGoodRequest HasShapeOut (λ r g. g.1.shape) base.out good.out.0;
}
