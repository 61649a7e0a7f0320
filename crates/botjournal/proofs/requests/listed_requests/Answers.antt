use Rattle.std.proofs.Common.{◌≡◌, true, arith}
use Rattle.std.proofs.lemmas.Bool.Decides.{nat_tests}
use Rattle.std.specs.Prelude.{nat_le}
use Rattle.usercodec.specs.Fields.{count_at}
use Rattle.usercodec.proofs.ItemSteps.{alone}
use Rattle.botjournal.specs.declared.TheConstants.{WINDOW}
use Rattle.botjournal.specs.Bases.{requests_listed_at, request_at}
use Rattle.botjournal.proofs.ItemLaws.{some_found}
use Rattle.botjournal.proofs.requests.listed_requests.Goals as goal

pub returns : goal.returns
unfolding requests_listed_at count_at
returns c =
    let few : nat_le c.in_ok-count.count WINDOW ≡ true = grind (arith, nat_tests, c.if-count-gt-WINDOW.false) in
    rw c.in_ok-count.ensures.value
    (rw few
    (some_found _ (alone (request_at c.args.layout)) c.in_ok-count.count c.byte.new.self c.so_many_requests.result c.so_many_requests.ensures.value
    c.so_many_requests.ensures.memory))
