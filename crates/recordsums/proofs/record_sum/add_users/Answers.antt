use Rattle.std.proofs.Common.{ℕ, List, ◌++◌, take, subst, sym}
use Rattle.sha2.specs.Hashers.{Holds256}
use Rattle.userfile.specs.Together.{is_user, is_over}
use Rattle.usercodec.specs.Records.{record_bytes}
use Rattle.usercodec.specs.declared.records.Record.TheVariants as records
use Rattle.recordsums.specs.RecordSums.{users_spelled}
use Rattle.recordsums.proofs.Adding.{all-at, flat_map-more, none-at, none-over}
use Rattle.recordsums.proofs.record_sum.add_users.Goals as goal

pub add_user-requires-clause-own : goal.add_user-requires-clause-own
add_user-requires-clause-own c =
    all-at is_user c.args.userfile.now.users c.loop-place.place c.in-Some.user.now c.are_sound.ensures.users (sym c.in-Some.ensures)

pub add_user-requires-clause-few : goal.add_user-requires-clause-few
add_user-requires-clause-few c =
    none-at is_over c.args.userfile.now.users c.loop-place.place c.in-Some.user.now (none-over c.args.userfile.now c.are_sound.ensures)
    (sym c.in-Some.ensures)

pub loop-place-preserved : goal.loop-place-preserved
loop-place-preserved c m held =
    let users = c.args.userfile.now.users in
    let more = flat_map-more (λ user. record_bytes (records.User user)) m users c.loop-place.place c.in-Some.user.now (sym c.in-Some.ensures) in
    subst (λ (l : List ℕ). Holds256 c.add_user.new.hasher l) more
    (c.in_ok-add_user.ensures (m ++ users_spelled (take c.loop-place.place users)) (c.loop-place.invariant m held))
