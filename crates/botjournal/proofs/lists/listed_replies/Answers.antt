use Rattle.usercodec.proofs.ItemSteps.{alone}
use Rattle.botjournal.specs.Bases.{replies_listed_at, reply_at}
use Rattle.botjournal.proofs.ItemLaws.{some_found}
use Rattle.botjournal.proofs.lists.listed_replies.Goals as goal

pub returns : goal.returns
unfolding replies_listed_at
returns c =
    rw c.in_ok-count.ensures.value
    (some_found _ (alone reply_at) c.in_ok-count.count c.u16.new.self c.so_many_replies.result c.so_many_replies.ensures.value
    c.so_many_replies.ensures.memory)
