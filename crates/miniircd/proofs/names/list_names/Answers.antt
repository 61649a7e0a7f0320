use Rattle.std.proofs.Common.{◌≡◌, ◌∙◌, ◌+◌, ◌-◌, ◌/◌, ◌++◌, ◌∷◌, [], length, sym, ap, codes, arith}
use Rattle.miniircd.specs.Mail.{posted, readers}
use Rattle.miniircd.specs.Lines.{told, repeated, listed, listed_before, listing}
use Rattle.miniircd.proofs.MailLemmas.{posted_none, posted_step}
use Rattle.miniircd.proofs.LineLemmas.{listed_more, listed_none}
use Rattle.miniircd.proofs.names.list_names.Goals as goal

pub loop-i-init : goal.loop-i-init
loop-i-init c =
    sym (ap (λ letters. posted letters c.args.post.now) (listed_none c.args.me.now.key c.args.me.now.person.now c.args.name.now c.args.names.now)
    ∙ posted_none c.args.post.now)

pub loop-i-preserved : goal.loop-i-preserved
loop-i-preserved c =
    let to = c.args.me.now.key in
    let p = c.args.me.now.person.now in
    let name = c.args.name.now in
    let names = c.args.names.now in
    let i = c.loop-i.i in
    posted_step (listed_before to p name names i) (listed to p name names i ∷ []) (listed_before to p name names (i + 1)) _ _ _
    (listed_more to p name names i) c.loop-i.invariant c.in_ok-list_line.ensures

pub returns-clause-told : goal.returns-clause-told
returns-clause-told c =
    let to = c.args.me.now.key in
    let p = c.args.me.now.person.now in
    let name = c.args.name.now in
    let names = c.args.names.now in
    let end : c.loop-i.i ≡ (length names + 10 - 1) / 10 = omega arith in
    let ended = told to p (codes "366") (repeated name) (codes "End of names") ∷ [] in
    posted_step (listed_before to p name names c.loop-i.i) ended (listing to p name names) _ _ _
    (ap (λ n. listed_before to p name names n ++ ended) (sym end)) c.loop-i.invariant c.in_ok-tell_of.ensures.told

pub returns-clause-readers : goal.returns-clause-readers
returns-clause-readers c = c.in_ok-tell_of.ensures.readers ∙ ap readers c.loop-i.invariant
