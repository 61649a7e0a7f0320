use Rattle.std.proofs.Common.{◌≡◌, ◌∙◌, ap, sym, ◌||◌, ◌&&◌, eqb}
use Rattle.bottimers.specs.CronSets.{has}
use Rattle.bottimers.specs.CronText.{in_field}
use Rattle.bottimers.proofs.CronBits.{sunday_set, sunday_none}
use Rattle.bottimers.proofs.cron.weekday_set.Goals.{then-contains, else-contains}
use Rattle.bottimers.proofs.cron.weekday_set.Goals as goal

pub returns-clause-set : goal.returns-clause-set
returns-clause-set c =
    let text = c.args.weekday.now in
    let seven : c.contains.result ≡ in_field 0 7 text 7 = c.contains.ensures ∙ c.in_ok-set.ensures.set 7 in
    λ n.
    let sunday : has c.if-contains.sunday n ≡ (eqb n 0 && in_field 0 7 text 7) = elim c.if-contains.branch [
      | then-contains w ↦ sunday_set c.if-contains.sunday n (in_field 0 7 text 7) (sym seven ∙ w.if-contains.true) w.sunday-is
      | else-contains w ↦ sunday_none c.if-contains.sunday n (in_field 0 7 text 7) (sym seven ∙ w.if-contains.false) w.sunday-is
    ] in
    c.union.ensures n
    ∙ ap (λ b. b || has c.if-contains.sunday n) (c.in_ok-set.ensures.set n)
    ∙ ap (λ b. in_field 0 7 text n || b) sunday
