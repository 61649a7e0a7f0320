-- What contracts see of the timers of one bot, and what each call leaves.
use Rattle.std.specs.Prelude.{ℕ, ◌-◌, ◌<◌, ◌≤◌, Bool, not, ◌&&◌, ◌||◌, ◌==◌, nat_lt, nat_le, if◌then◌else◌}
use Rattle.std.specs.Prelude.{Option, Some, None, unwrap_or, List, [], ◌∷◌, ◌++◌, length, map, filter}
use Rattle.std.specs.List.{list_any}
use Rattle.std.specs.Set.{remove_key}
use Rattle.std.specs.Str.{bytes_eq}
use Rattle.bottimers.specs.declared.call.TimerCall.{TimerCall}
use Rattle.bottimers.specs.declared.limits.TheConstants.{MAX_INTERVAL, MAX_TIMERS, MAX_ID}
use Rattle.bottimers.specs.declared.fault.ClockFault.{ClockFault}
use Rattle.bottimers.specs.declared.fault.ClockFault.TheVariants.{BadMoment, BadInterval, Full}
use Rattle.bottimers.specs.declared.timer.Timer.{Timer}
use Rattle.bottimers.specs.declared.timer.TimerKind.{TimerKind}
use Rattle.bottimers.specs.declared.timer.TimerKind.TheVariants.{Minutes, Seconds}
use Rattle.bottimers.specs.declared.status.TimerStatus.{TimerStatus}
use Rattle.bottimers.specs.Occurrences.{is_due_of, is_kept, units_left, repeats_left}

-- The timers with an occurrence to come, in the order of making; the last second given; the last id given; and for how
-- many more timers room is reserved.
pub record Held : Type 0 where
  pub timers : List Timer
  pub last : Option ℕ
  pub spent : ℕ
  pub room : ℕ

-- a second that may be given next: above the last one
abbrev pub IsAbove : Option ℕ → ℕ → Type 0
IsAbove None t = Unit {0}
IsAbove (Some last) t = last < t

-- a reading at which a timer may be made: not below the last second given
abbrev pub IsNotBelow : Option ℕ → Option ℕ → Type 0
IsNotBelow None t = Unit {0}
IsNotBelow (Some last) None = Unit {0}
IsNotBelow (Some last) (Some t) = last ≤ t

-- at a second, those with an occurrence to come
abbrev pub timers_at : ℕ → Held → List Timer
timers_at t h = filter (is_kept t) h.timers

-- what is wrong with a new timer
abbrev pub add_fault : Held → ℕ → Option ℕ → Option ClockFault
add_fault h interval None = Some BadMoment
add_fault h interval (Some t) =
    if interval == 0 || nat_lt MAX_INTERVAL interval then Some BadInterval
    else (if nat_le MAX_TIMERS (length (timers_at t h)) || (h.spent == MAX_ID) then Some Full else None)

-- a new timer is appended; timers whose last occurrence was skipped are gone; it takes one place of the room, if any
abbrev pub with_timer : Held → Timer → Held
with_timer h m = record { timers = timers_at m.made h ++ m ∷ []; last = Some m.made; spent = m.id; room = h.room - 1 }

-- whether a timer has this id
abbrev pub holds : Held → ℕ → Bool
holds h id = list_any (λ m. m.id == id) h.timers

-- the same without it
abbrev pub without : Held → ℕ → Held
without h id = record h { timers = filter (λ m. not (m.id == id)) h.timers }

-- whether a timer calls this proc with this text
abbrev pub is_named : List ℕ → List ℕ → Timer → Bool
is_named proc text m = bytes_eq m.proc proc && bytes_eq m.text text

-- whether some timer does
abbrev pub holds_named : Held → List ℕ → List ℕ → Bool
holds_named h proc text = list_any (is_named proc text) h.timers

-- the same without the oldest that does: `remove_key` drops the first that passes
abbrev pub without_named : Held → List ℕ → List ℕ → Held
without_named h proc text = record h { timers = remove_key (is_named proc text) h.timers }

-- what a timer calls: its proc with its text, under its id
abbrev pub call_of : Timer → TimerCall
call_of m = record { id = m.id; proc = m.proc; text = m.text }

-- the calls of the timers of one kind that are due at a second, in the order of making
abbrev pub calls_of_kind : TimerKind → ℕ → Held → List TimerCall
calls_of_kind kind t h = map call_of (filter (is_due_of kind t) h.timers)

-- all calls of a second: the utimers come before the timers (our own choice; Eggdrop's main loop has the same order)
abbrev pub calls_at : ℕ → Held → List TimerCall
calls_at t h = calls_of_kind Seconds t h ++ calls_of_kind Minutes t h

-- after a second, run or skipped
abbrev pub passed : ℕ → Held → Held
passed t h = record h { timers = timers_at t h; last = Some t }

-- how a timer stands at a second
abbrev pub status_of : ℕ → Timer → TimerStatus
status_of t m = record {
  kind = m.kind;
  left = units_left m t;
  proc = m.proc;
  text = m.text;
  id = m.id;
  repeats = repeats_left m t;
}

-- how each stands at the last second given
abbrev pub statuses : Held → List TimerStatus
statuses h = map (status_of (unwrap_or h.last 0)) h.timers
