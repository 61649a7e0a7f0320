use Rattle.std.proofs.Common.{◌≡◌, ◌<◌, ◌≤◌, [], length, get_or, true, sym, ap, ◌∙◌, arith, rules}
use Rattle.std.proofs.lemmas.List.{get_or_default}
use Rattle.std.proofs.lemmas.List.Sums.{position_or_len_is}
use Rattle.outqueue.specs.Joining.{is_about}
use Rattle.outqueue.proofs.lane.place_about.Goals as goal

pub returns-then-is_about : goal.returns-then-is_about
returns-then-is_about c =
    let within : c.loop-at.at ≤ length c.args.lines.now.items = omega arith in
    let some : c.loop-at.at < length c.args.lines.now.items = omega arith in
    let line : get_or c.args.lines.now.items c.loop-at.at [] ≡ c.as_bytes.result.now =
    get_or_default c.args.lines.now.items c.loop-at.at [] c.index.result.now some ∙ sym c.index.ensures ∙ sym c.as_bytes.ensures in
    let is : is_about c.args.channel.now c.as_bytes.result.now ≡ true = search rules in
    let here : is_about c.args.channel.now (get_or c.args.lines.now.items c.loop-at.at []) ≡ true = ap (is_about c.args.channel.now) line ∙ is in
    sym (position_or_len_is (is_about c.args.channel.now) c.args.lines.now.items c.loop-at.at [] within c.loop-at.invariant (λ _. here))

pub returns : goal.returns
returns c =
    let all : length c.args.lines.now.items ≤ c.loop-at.at = omega arith in
    let len : c.len.result ≡ length c.args.lines.now.items = search rules in
    len ∙ sym (position_or_len_is (is_about c.args.channel.now) c.args.lines.now.items (length c.args.lines.now.items) [] (omega arith)
    (λ k h. c.loop-at.invariant k (omega arith)) (λ h. absurd (omega arith)))
