use Rattle.std.proofs.Common.{ℕ, List, ◌++◌, take, subst, sym}
use Rattle.sha2.specs.Hashers.{Holds256}
use Rattle.userfile.specs.Together.{is_good_ban}
use Rattle.usercodec.specs.Records.{record_bytes}
use Rattle.usercodec.specs.declared.records.Record.TheVariants as records
use Rattle.recordsums.specs.RecordSums.{bans_spelled}
use Rattle.recordsums.proofs.Adding.{all-at, flat_map-more}
use Rattle.recordsums.proofs.record_sum.add_bans.Goals as goal

pub add_ban-requires : goal.add_ban-requires
add_ban-requires c =
    all-at is_good_ban c.args.userfile.now.bans c.loop-place.place c.in-Some.ban.now c.are_sound.ensures.bans (sym c.in-Some.ensures)

pub loop-place-preserved : goal.loop-place-preserved
loop-place-preserved c m held =
    let bans = c.args.userfile.now.bans in
    let more = flat_map-more (λ ban. record_bytes (records.Ban ban)) m bans c.loop-place.place c.in-Some.ban.now (sym c.in-Some.ensures) in
    subst (λ (l : List ℕ). Holds256 c.add_ban.new.hasher l) more
    (c.in_ok-add_ban.ensures (m ++ bans_spelled (take c.loop-place.place bans)) (c.loop-place.invariant m held))
