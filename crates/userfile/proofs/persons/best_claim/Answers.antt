use Rattle.std.proofs.Common.{◌∙◌, None, ap, sym, add-one}
use Rattle.indexmap.specs.IndexMap.{values}
use Rattle.userfile.specs.Index.{asked, asked_at}
use Rattle.userfile.specs.Search.{after_listings}
use Rattle.userfile.proofs.SearchLemmas.{after_listings-append}
use Rattle.userfile.proofs.persons.best_claim.Goals as goal

pub loop-len-preserved : goal.loop-len-preserved
loop-len-preserved c =
    let who = c.args.who.now in
    let users = values c.args.users.now in
    let index = c.args.index.now in
    let len = c.loop-len.len in
    rw add-one
    (c.best_of_group-best.ensures ∙ ap (λ ps. after_listings c.args.mapping who users ps c.loop-len.best) c.listings_of.ensures
    ∙ ap (after_listings c.args.mapping who users (asked_at index who len)) c.loop-len.invariant
    ∙ sym (after_listings-append c.args.mapping who users (asked index who len) (asked_at index who len) None))
