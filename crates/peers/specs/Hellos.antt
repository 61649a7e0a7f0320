-- When a leaf is to say hello.
use Rattle.std.specs.Prelude.{ℕ, Bool, ◌+◌, ◌-◌, ◌^◌, ◌&&◌, min, nat_le, nat_lt, if◌then◌else◌, Option, None, Some}
use Rattle.sharelink.specs.declared.TheConstants.{HELLO_CHANGES}
use Rattle.sharelink.specs.declared.note.LinkNote.{LinkNote}
use Rattle.sharelink.specs.declared.note.LinkNote.TheVariants.{Queued, Idle, Sent, Accepted, Refused, Served, Old, Repeat, Gap, Early, Applied, Kept, Installed, Compacted, Relayed, Text, Stray, Restarted}
use Rattle.peers.specs.declared.links.Links.{Links}
use Rattle.peers.specs.declared.links.Links.TheVariants.{Alone, Hub, Leaf}
use Rattle.peers.specs.declared.pumps.Pumps.{Pumps}
use Rattle.peers.specs.declared.pumps.TheConstants.{REST, AGAIN}

-- the second that is this many seconds later
abbrev pub later : ℕ → ℕ → ℕ
later seconds now = min (now + seconds) (2 ^ 64 - 1)

-- no hello was said yet
abbrev pub begun : Pumps
begun = record { due = 0; last = 0; version = 0; request = 0 }

-- a hello with this version was said, and nothing is asked
abbrev pub said : ℕ → ℕ → Pumps → Pumps
said version now pumps = record pumps { due = later REST now; last = now; version = version }

-- requests were sent with it, the newest numbered `request`: at once if that one is new and more changes wait than are
-- out
abbrev pub sent : ℕ → Bool → Pumps → Pumps
sent request more pumps = record pumps {
  due = if more && nat_lt pumps.request request then 0 else min pumps.due (later AGAIN pumps.last);
  request = request;
}

-- something is asked: a second after the last hello
abbrev pub asked : Pumps → Pumps
asked pumps = record pumps { due = min pumps.due (later 1 pumps.last) }

-- at once
abbrev pub answered : Pumps → Pumps
answered pumps = record pumps { due = 0 }

-- at once if the leaf has applied as many changes as a hub sends in answer to one hello
abbrev pub applied : ℕ → Pumps → Pumps
applied version pumps = if nat_le HELLO_CHANGES (version - pumps.version) then answered pumps else pumps

-- a leaf's step returned this note; `more` says whether more changes wait than are out
abbrev pub noted : LinkNote → Bool → Pumps → Pumps
noted Queued more pumps = asked pumps
noted Idle more pumps = pumps
noted (Sent request) more pumps = sent request more pumps
noted (Accepted number) more pumps = answered pumps
noted (Refused fault) more pumps = answered pumps
noted (Served count) more pumps = pumps
noted Old more pumps = pumps
noted Repeat more pumps = pumps
noted Gap more pumps = pumps
noted Early more pumps = asked pumps
noted (Applied version) more pumps = applied version pumps
noted (Kept part) more pumps = pumps
noted (Installed version) more pumps = answered pumps
noted Compacted more pumps = pumps
noted Relayed more pumps = pumps
noted (Text from text) more pumps = pumps
noted Stray more pumps = pumps
noted (Restarted version) more pumps = pumps

-- when a bot is to say hello, if it is a leaf
abbrev pub pumps_of : Links → Option Pumps
pumps_of Alone = None
pumps_of (Hub hub) = None
pumps_of (Leaf leaf) = Some leaf.pumps
