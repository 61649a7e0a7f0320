use Rattle.disks.specs.State.{State}
use Rattle.disks.specs.Memory.{state_of}
use Rattle.disks.specs.Files.{FileState}
use Rattle.watching.proofs.OpeningLemmas.{may_open, may_begin_opened, has_begun_opened}
use Rattle.botrun.proofs.starting.found.Goals as goal

-- what contracts see of a disk in a file
abbrev state : FileState → State
state disk = state_of disk.mirror

pub opens-requires : goal.opens-requires
opens-requires g c =
    may_open state c.args.config c.args.disks.first c.args.disks.second g.W.Watcher.may (g.W.Watcher.past c.args.watcher.now)
    c.requires.lets c.requires.before

pub began-requires : goal.began-requires
began-requires g c =
    may_begin_opened state c.args.config c.args.disks.first c.args.disks.second g.W.Watcher.may (g.W.Watcher.past c.args.watcher.now)
    c.requires.lets c.requires.before _ c.in-Ok.bot c.opens.ensures c.in-Ok.ensures.found c.know_disks.ensures.left

pub returns-in-Ok : goal.returns-in-Ok
returns-in-Ok g c =
    has_begun_opened state c.args.config c.args.disks.first c.args.disks.second g.W.Watcher.may (g.W.Watcher.past c.args.watcher.now)
    c.requires.lets c.requires.before _ c.in-Ok.bot c.opens.ensures c.in-Ok.ensures.found c.know_disks.ensures.left _ c.began.ensures
