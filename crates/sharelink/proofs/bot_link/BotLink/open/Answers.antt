use Rattle.std.proofs.Common.{Ok, Err, arith}
use Rattle.botjournal.specs.Ledger.{device_on}
use Rattle.sharelink.specs.BotEnds.{hub_end, leaf_end}
use Rattle.sharelink.proofs.OpenLaws.{hub_found, hub_not_found, hub_at_each, leaf_found, leaf_not_found, leaf_at_each, stays_bots}
use Rattle.sharelink.proofs.bot_link.BotLink.open.Goals as goal

-- ---- the hub's

pub returns-in-Ok-clause-row : goal.returns-in-Ok-clause-row
returns-in-Ok-clause-row g c =
    hub_found g.D.Disk.state c.args.leaves c.args.first c.args.second c.args.number c.in-Ok.hub
    (omega (arith, c.if-number-eq0.true)) c.in-Ok.ensures.row

pub returns-in-Ok-clause-any_moment : goal.returns-in-Ok-clause-any_moment
returns-in-Ok-clause-any_moment g c =
    hub_at_each g.D.Disk.state c.args.leaves c.args.first c.args.second c.args.number c.in-Ok.hub.device
    (omega (arith, c.if-number-eq0.true)) c.in-Ok.ensures.any_moment

pub returns-in-Err-clause-row : goal.returns-in-Err-clause-row
returns-in-Err-clause-row g c =
    hub_not_found g.D.Disk.state c.args.leaves c.args.first c.args.second c.args.number c.in-Err.returned
    (omega (arith, c.if-number-eq0.true)) c.in-Err.ensures.row

pub returns-in-Err-clause-any_moment : goal.returns-in-Err-clause-any_moment
returns-in-Err-clause-any_moment g c =
    let state = g.D.Disk.state in
    hub_at_each state c.args.leaves c.args.first c.args.second c.args.number
    (device_on (state c.in-Err.returned.disks.first) (state c.in-Err.returned.disks.second)) (omega (arith, c.if-number-eq0.true))
    c.in-Err.ensures.any_moment

-- ---- a leaf's

pub returns-in-Ok-open-clause-row : goal.returns-in-Ok-open-clause-row
returns-in-Ok-open-clause-row g c =
    leaf_found g.D.Disk.state c.args.leaves c.args.first c.args.second c.args.number c.in-Ok-open.leaf
    (omega (arith, c.if-number-eq0.false)) c.in-Ok-open.ensures.row

pub returns-in-Ok-open-clause-any_moment : goal.returns-in-Ok-open-clause-any_moment
returns-in-Ok-open-clause-any_moment g c =
    leaf_at_each g.D.Disk.state c.args.leaves c.args.first c.args.second c.args.number c.in-Ok-open.leaf.device
    (omega (arith, c.if-number-eq0.false)) c.in-Ok-open.ensures.any_moment

pub returns-in-Err-open-clause-row : goal.returns-in-Err-open-clause-row
returns-in-Err-open-clause-row g c =
    leaf_not_found g.D.Disk.state c.args.leaves c.args.first c.args.second c.args.number c.in-Err-open.returned
    (omega (arith, c.if-number-eq0.false)) c.in-Err-open.ensures.row

pub returns-in-Err-open-clause-any_moment : goal.returns-in-Err-open-clause-any_moment
returns-in-Err-open-clause-any_moment g c =
    let state = g.D.Disk.state in
    leaf_at_each state c.args.leaves c.args.first c.args.second c.args.number
    (device_on (state c.in-Err-open.returned.disks.first) (state c.in-Err-open.returned.disks.second))
    (omega (arith, c.if-number-eq0.false)) c.in-Err-open.ensures.any_moment

-- ---- a journal of the bot stays one

pub returns-in-Ok-clause-bots : goal.returns-in-Ok-clause-bots
returns-in-Ok-clause-bots g c =
    let state = g.D.Disk.state in
    stays_bots state c.args.number c.args.leaves c.args.first c.args.second (Ok (hub_end c.in-Ok.hub))
    (hub_at_each state c.args.leaves c.args.first c.args.second c.args.number c.in-Ok.hub.device
    (omega (arith, c.if-number-eq0.true)) c.in-Ok.ensures.any_moment) c.in-Ok.ensures.gates

pub returns-in-Err-clause-bots : goal.returns-in-Err-clause-bots
returns-in-Err-clause-bots g c =
    let state = g.D.Disk.state in
    let disks = c.in-Err.returned.disks in
    stays_bots state c.args.number c.args.leaves c.args.first c.args.second (Err c.in-Err.returned)
    (hub_at_each state c.args.leaves c.args.first c.args.second c.args.number (device_on (state disks.first) (state disks.second))
    (omega (arith, c.if-number-eq0.true)) c.in-Err.ensures.any_moment) c.in-Err.ensures.gates

pub returns-in-Ok-open-clause-bots : goal.returns-in-Ok-open-clause-bots
returns-in-Ok-open-clause-bots g c =
    let state = g.D.Disk.state in
    stays_bots state c.args.number c.args.leaves c.args.first c.args.second (Ok (leaf_end c.in-Ok-open.leaf))
    (leaf_at_each state c.args.leaves c.args.first c.args.second c.args.number c.in-Ok-open.leaf.device
    (omega (arith, c.if-number-eq0.false)) c.in-Ok-open.ensures.any_moment) c.in-Ok-open.ensures.gates

pub returns-in-Err-open-clause-bots : goal.returns-in-Err-open-clause-bots
returns-in-Err-open-clause-bots g c =
    let state = g.D.Disk.state in
    let disks = c.in-Err-open.returned.disks in
    stays_bots state c.args.number c.args.leaves c.args.first c.args.second (Err c.in-Err-open.returned)
    (leaf_at_each state c.args.leaves c.args.first c.args.second c.args.number (device_on (state disks.first) (state disks.second))
    (omega (arith, c.if-number-eq0.false)) c.in-Err-open.ensures.any_moment) c.in-Err-open.ensures.gates
