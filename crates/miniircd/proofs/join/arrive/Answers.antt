use Rattle.std.proofs.Common.{[], codes}
use Rattle.miniircd.specs.Lines.{relayed, source_of, spread, titling, listing, names_of}
use Rattle.miniircd.proofs.MailLemmas.{posted_three}
use Rattle.miniircd.proofs.join.arrive.Goals as goal

pub returns : goal.returns
returns c =
    let to = c.args.me.now.key in
    let p = c.args.me.now.person.now in
    let name = c.args.name.now in
    let channel = c.in-Some.channel.now in
    let announced = rw c.as_slice-members.ensures at c.in_ok-announce.ensures in
    let titled = rw c.as_bytes.ensures at c.in_ok-tell_topic.ensures in
    let named = rw c.as_slice-members.ensures at c.in_ok-tell_names.ensures.told in
    rw c.in-Some.is
    (posted_three (spread (relayed (source_of p) (codes "JOIN") [] name) channel.members) (titling to p name channel.topic)
    (listing to p name (names_of c.args.clients.now.slots channel.members)) _ _ _ _ announced titled named)
