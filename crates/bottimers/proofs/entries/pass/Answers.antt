use Rattle.std.proofs.Common.{◌≡◌, ◌∙◌, ap, length, filter, eqb, ltb, ◌||◌, map}
use Rattle.std.proofs.lemmas.List.{length-map}
use Rattle.bottimers.specs.Countdown.{counted}
use Rattle.bottimers.proofs.EntryLists.{kept_counted, take-written}
use Rattle.bottimers.proofs.entries.pass.Goals as goal

pub returns-clause-items : goal.returns-clause-items
returns-clause-items c =
    let old = c.args.entries.now.items in
    let down : c.count_down.new.entries ≡ map (counted c.args.to) old =
    c.count_down.ensures ∙ ap (map (counted c.args.to)) c.as_mut_slice.ensures.value in
    let same : length c.count_down.new.entries ≡ length old = ap length down ∙ length-map old (counted c.args.to) in
    let written = take-written c.args.entries.now.len old c.count_down.new.entries c.args.entries.now.ok.0 same ∙ down in
    c.drop_ended.ensures.items
    ∙ ap (filter (λ e. eqb e.timer.count 0 || ltb 0 e.repeats)) written
    ∙ kept_counted c.args.to old
