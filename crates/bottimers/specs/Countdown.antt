-- What the countdown of a timer says at a second.
use Rattle.std.specs.Prelude.{◌≡◌, ℕ, ◌+◌, ◌<◌, ◌≤◌, true, Option, Some, None, List, map, filter, All, vec_len, vec_capacity}
use Rattle.bottimers.specs.declared.call.TimerCall.{TimerCall}
use Rattle.bottimers.specs.declared.timer.Timer.{Timer}
use Rattle.bottimers.specs.declared.timer.TimerKind.{TimerKind}
use Rattle.bottimers.specs.declared.entry.Entry.{Entry}
use Rattle.bottimers.specs.declared.timers.Timers.TheInside.{Inside}
use Rattle.bottimers.specs.Occurrences.{is_due_of, is_kept, units_left, repeats_left}
use Rattle.bottimers.specs.Held.{Held, call_of}

-- the countdown stands as it should at this second, and an occurrence is to come
pub record IsRunning (t : ℕ) (e : Entry) : Type 0 where
  pub counts : 0 < e.timer.interval
  pub made : e.timer.made ≤ t
  pub left : e.left ≡ units_left e.timer t
  pub repeats : e.repeats ≡ repeats_left e.timer t
  pub kept : is_kept t e.timer ≡ true

-- the same at the last second given, before which there is no timer
abbrev pub IsRunningAt : Option ℕ → Entry → Type 0
IsRunningAt None e = ⊥
IsRunningAt (Some t) e = IsRunning t e

-- the countdown as it should be at a second
abbrev pub counted : ℕ → Entry → Entry
counted t e = record { timer = e.timer; left = units_left e.timer t; repeats = repeats_left e.timer t }

-- the calls of those of one kind that are due at a second
abbrev pub due_calls : TimerKind → ℕ → List Entry → List TimerCall
due_calls kind t entries = map (λ e. call_of e.timer) (filter (λ e. is_due_of kind t e.timer) entries)

abbrev pub held_of : List Timer → Option ℕ → ℕ → ℕ → Held
held_of timers last spent room = record { timers = timers; last = last; spent = spent; room = room }

-- what contracts see
abbrev pub held : Inside → Held
held t = held_of (map (λ e. e.timer) t.entries.items) t.last t.spent t.room

-- each timer runs, and the promised room exists
pub record IsSound (t : Inside) : Type 0 where
  pub running : All (IsRunningAt t.last) t.entries.items
  pub room : vec_len t.entries + t.room ≤ vec_capacity t.entries
