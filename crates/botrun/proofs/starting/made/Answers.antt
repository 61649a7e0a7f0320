use Rattle.disks.specs.State.{State}
use Rattle.disks.specs.Memory.{state_of}
use Rattle.disks.specs.Files.{FileState}
use Rattle.watching.proofs.OpeningLemmas.{may_create, may_begin_created, has_begun_created}
use Rattle.botrun.proofs.starting.made.Goals as goal

-- what contracts see of a disk in a file
abbrev state : FileState → State
state disk = state_of disk.mirror

pub creates-requires : goal.creates-requires
creates-requires g c =
    may_create state c.args.config c.args.disks.first c.args.disks.second c.args.last g.W.Watcher.may
    (g.W.Watcher.past c.args.watcher.now) c.requires.lets c.requires.numbers c.requires.empty.0 c.requires.empty.1

pub began-requires : goal.began-requires
began-requires g c =
    may_begin_created state c.args.config c.args.disks.first c.args.disks.second c.args.last g.W.Watcher.may
    (g.W.Watcher.past c.args.watcher.now) c.requires.lets c.requires.numbers c.requires.empty.0 c.requires.empty.1 _ c.in-Ok.bot
    c.creates.ensures c.in-Ok.ensures.made c.know_disks.ensures.left

pub returns-in-Ok-finish : goal.returns-in-Ok-finish
returns-in-Ok-finish g c =
    has_begun_created state c.args.config c.args.disks.first c.args.disks.second c.args.last g.W.Watcher.may
    (g.W.Watcher.past c.args.watcher.now) c.requires.lets c.requires.numbers c.requires.empty.0 c.requires.empty.1 _ c.in-Ok.bot
    c.creates.ensures c.in-Ok.ensures.made c.know_disks.ensures.left _ c.began.ensures
