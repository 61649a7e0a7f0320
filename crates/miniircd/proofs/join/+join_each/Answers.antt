use Rattle.std.proofs.Common.{◌∙◌, ◌-◌, ap, drop, length, arith}
use Rattle.std.proofs.lemmas.List.{take_all, length-drop}
use Rattle.miniircd.specs.Mail.{posted}
use Rattle.miniircd.specs.Rooms.{joined}
use Rattle.miniircd.specs.Lines.{source_of, join_letters, join_letters_each}
use Rattle.miniircd.proofs.MailLemmas.{posted_step}
use Rattle.miniircd.proofs.LineLemmas.{join_letters_first}
use Rattle.miniircd.proofs.join.+join_each.Goals as goal

pub returns-in-Ok-clause-told : goal.returns-in-Ok-clause-told
returns-in-Ok-clause-told t c =
    let k = c.args.me.now.key in
    let p = c.args.me.now.person.now in
    let clients = c.args.clients.now.slots in
    let names = c.args.names.now in
    let name = c.as_bytes.result.now in
    let channels = c.args.channels.now.items in
    posted_step (join_letters k p clients name channels) (join_letters_each k p clients (drop 1 names) (joined k (source_of p) name channels))
    (join_letters_each k p clients names channels) c.join.new.post c.join_each.new.post c.args.post.now
    (join_letters_first k p clients names name c.name-item.result channels c.in-len1-up.len_at_least (c.as_bytes.ensures ∙ c.name-item.is))
    c.in_ok-entry.ensures.told
    (c.in-Ok.ensures.told
    ∙ ap (λ rest. posted (join_letters_each k p clients rest c.join.new.channels.items) c.join.new.post)
    (take_all (length names - 1) (drop 1 names) (omega (arith, length-drop 1 names)))
    ∙ ap (λ after. posted (join_letters_each k p clients (drop 1 names) after) c.join.new.post) c.in_ok-entry.ensures.joined)
