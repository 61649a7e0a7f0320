-- How many lines a person has sent in a window.
use Rattle.std.specs.Prelude.{ℕ, ◌+◌, Bool, true, false, not, ◌&&◌, ◌||◌, ◌==◌, ◌-◌, nat_lt, List, [], ◌∷◌, ◌++◌, drop, length, map, Option, Some, if◌then◌else◌}
use Rattle.std.specs.List.{filter, list_any}
use Rattle.std.specs.Str.{bytes_eq}
use Rattle.rfccase.specs.Casemapping.{is_same_by}
use Rattle.rfccase.specs.declared.casemappings.Casemapping.TheVariants.{Rfc1459}
use Rattle.floods.specs.declared.counts.Count.{Count}
use Rattle.floods.specs.declared.counts.Window.{Window}
use Rattle.floods.specs.declared.counts.TheConstants.{MAX_COUNTS}
use Rattle.floods.specs.declared.kind.FloodKind.{FloodKind}
use Rattle.floods.specs.declared.kind.FloodKind.TheVariants.{Message, Ctcp, Channel, Join, Nick, Kick, Deop}
use Rattle.floods.specs.declared.limits.Limit.{Limit}
use Rattle.floods.specs.declared.limits.Limits.{Limits}
use Rattle.floods.specs.declared.act.Act.{Act}

abbrev pub kind_number : FloodKind → ℕ
kind_number Message = 0
kind_number Ctcp = 1
kind_number Channel = 2
kind_number Join = 3
kind_number Nick = 4
kind_number Kick = 5
kind_number Deop = 6

-- the kinds of lines that are dropped if their person is ignored
abbrev pub is_speech : FloodKind → Bool
is_speech Message = true
is_speech Ctcp = true
is_speech Channel = true
is_speech Join = false
is_speech Nick = false
is_speech Kick = false
is_speech Deop = false

-- the kinds of lines that are counted for each channel apart
abbrev pub is_by_channel : FloodKind → Bool
is_by_channel Message = false
is_by_channel Ctcp = false
is_by_channel Channel = false
is_by_channel Join = true
is_by_channel Nick = false
is_by_channel Kick = true
is_by_channel Deop = true

abbrev pub limit_of : Limits → FloodKind → Option Limit
limit_of limits Message = limits.message
limit_of limits Ctcp = limits.ctcp
limit_of limits Channel = limits.channel
limit_of limits Join = limits.join
limit_of limits Nick = limits.nick
limit_of limits Kick = limits.kick
limit_of limits Deop = limits.deop

abbrev pub eggdrop : Limits
eggdrop =
    record {
      message = Some (record { lines = 5; seconds = 60 });
      ctcp = Some (record { lines = 3; seconds = 60 });
      channel = Some (record { lines = 15; seconds = 60 });
      join = Some (record { lines = 5; seconds = 60 });
      nick = Some (record { lines = 5; seconds = 60 });
      kick = Some (record { lines = 3; seconds = 10 });
      deop = Some (record { lines = 3; seconds = 10 });
      ignore = 600;
    }

-- whether two lines of a kind are counted together: on one channel, by RFC 1459's casemapping, if the kind is counted so
abbrev pub is_at : FloodKind → List ℕ → List ℕ → Bool
is_at kind one other = not (is_by_channel kind) || is_same_by Rfc1459 one other

-- the count of the person, the kind and the channel of an act
abbrev pub is_of : Act → Count → Bool
is_of act count =
    kind_number count.kind == kind_number act.kind && (bytes_eq count.key act.key && is_at act.kind count.place act.place)

-- a window that begins now, with no line
abbrev pub fresh : ℕ → Window
fresh now = record { since = now; lines = 0 }

-- the window of such a line: a new one if none is counted
abbrev pub window_in : List Count → Act → ℕ → Window
window_in [] act now = fresh now
window_in (count ∷ counts) act now = if is_of act count then count.window else window_in counts act now

-- a window that is over is begun anew
abbrev pub renewed : Limit → ℕ → Window → Window
renewed limit now window = if nat_lt (now - window.since) limit.seconds then window else fresh now

abbrev pub window_at : Limit → ℕ → List Count → Act → Window
window_at limit now counts act = renewed limit now (window_in counts act now)

-- the counts of the others, of other kinds and of other channels
abbrev pub others : Act → List Count → List Count
others act counts = filter (λ count. not (is_of act count)) counts

-- the list with room for one more: without its oldest if it is full
abbrev pub roomy : {T : Type 0} → ℕ → List T → List T
roomy most items = if nat_lt (length items) most then items else drop 1 items

abbrev pub is_counted : Act → List Count → Bool
is_counted act counts = list_any (λ count. is_of act count) counts

abbrev pub with_window : Act → Window → Count → Count
with_window act window count = if is_of act count then record count { window = window } else count

-- Lines that are counted already get this window. Others are counted last, so that the first is the one that was
-- counted first.
abbrev pub counted : Act → Window → List Count → List Count
counted act window counts =
    if is_counted act counts then map (λ count. with_window act window count) counts
    else roomy MAX_COUNTS counts ++ record { key = act.key; kind = act.kind; place = act.place; window = window } ∷ []

-- so many lines more in a window
abbrev pub with_more : ℕ → Window → Window
with_more weight window = record { since = window.since; lines = window.lines + weight }
