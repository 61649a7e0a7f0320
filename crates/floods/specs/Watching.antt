-- Who is ignored, and what becomes of a line.
use Rattle.std.specs.Prelude.{◌≡◌, ℕ, Bool, true, false, not, ◌&&◌, ◌+◌, ◌-◌, nat_lt, List, [], ◌∷◌, ◌++◌, drop, length, Option, None, Some, if◌then◌else◌}
use Rattle.std.specs.List.{filter, list_any}
use Rattle.std.specs.Str.{bytes_eq}
use Rattle.floods.specs.declared.counts.Count.{Count}
use Rattle.floods.specs.declared.floods.Verdict.{Verdict}
use Rattle.floods.specs.declared.floods.Verdict.TheVariants.{Passes, Dropped, Ignores, PassesAndIgnores}
use Rattle.floods.specs.declared.ignores.Ignore.{Ignore}
use Rattle.floods.specs.declared.ignores.TheConstants.{MAX_IGNORES}
use Rattle.floods.specs.declared.kind.FloodKind.{FloodKind}
use Rattle.floods.specs.declared.limits.Limit.{Limit}
use Rattle.floods.specs.declared.limits.Limits.{Limits}
use Rattle.floods.specs.declared.act.Act.{Act}
use Rattle.floods.specs.Acts.{act_of, person_of}
use Rattle.floods.specs.Windows.{counted, is_speech, limit_of, others, roomy, window_at, with_more}

-- the limits, what is counted and who is ignored, the oldest first
pub record Watch : Type 0 where
  pub limits : Limits
  pub counts : List Count
  pub ignores : List Ignore

-- ---- who is ignored

-- an ignore ends at its second `until`
abbrev pub is_in_force : ℕ → Ignore → Bool
is_in_force now ignore = nat_lt now ignore.until

abbrev pub is_ignored : ℕ → List ℕ → List Ignore → Bool
is_ignored now key ignores = list_any (λ ignore. bytes_eq ignore.key key && is_in_force now ignore) ignores

abbrev pub in_force : ℕ → List Ignore → List Ignore
in_force now ignores = filter (λ ignore. is_in_force now ignore) ignores

-- one more ignore; those that are over are forgotten
abbrev pub with_ignore : ℕ → Ignore → List Ignore → List Ignore
with_ignore now ignore ignores = roomy MAX_IGNORES (in_force now ignores) ++ ignore ∷ []

-- the ignores of the others
abbrev pub without : List ℕ → List Ignore → List Ignore
without key ignores = filter (λ ignore. not (bytes_eq ignore.key key)) ignores

-- the ignores that began last, so many of them
abbrev pub last_of : ℕ → List Ignore → List Ignore
last_of count ignores = drop (length ignores - count) ignores

-- ---- what becomes of a line

-- a line passes, and nobody is ignored for it, if its person is trusted
abbrev pub unless : Bool → Verdict → Verdict
unless true verdict = Passes
unless false verdict = verdict

-- a line of an ignored person: it is dropped if it speaks
abbrev pub if_ignored : FloodKind → Verdict
if_ignored kind = if is_speech kind then Dropped else Passes

-- a line that passes a limit: its person is ignored from now on, and it is dropped if it speaks
abbrev pub if_over : FloodKind → Verdict
if_over kind = if is_speech kind then Ignores else PassesAndIgnores

-- whether a line passes a limit: with it there are more lines in the window
abbrev pub is_over : ℕ → Watch → Act → Limit → Bool
is_over now watch act limit = nat_lt limit.lines ((window_at limit now watch.counts act).lines + act.weight)

abbrev pub by_limit : Bool → ℕ → Watch → Act → Option Limit → Verdict
by_limit trusted now watch act None = Passes
by_limit trusted now watch act (Some limit) =
    if is_over now watch act limit then unless trusted (if_over act.kind) else Passes

abbrev pub verdict_of : Bool → ℕ → Watch → Act → Verdict
verdict_of trusted now watch act =
    if is_ignored now act.key watch.ignores then unless trusted (if_ignored act.kind)
    else by_limit trusted now watch act (limit_of watch.limits act.kind)

-- ---- what is counted and ignored after it

abbrev pub with_line : ℕ → Watch → Act → Limit → Watch
with_line now watch act limit =
    record { limits = watch.limits; counts = counted act (with_more act.weight (window_at limit now watch.counts act)) watch.counts; ignores = watch.ignores }

-- the ignore that begins with this line
abbrev pub ignore_for : ℕ → Limits → Act → Limit → Ignore
ignore_for now limits act limit =
    record { key = act.key; until = now + limits.ignore; limit = limit; kind = act.kind; place = act.place }

abbrev pub with_flood : ℕ → Watch → Act → Limit → Watch
with_flood now watch act limit =
    record {
      limits = watch.limits;
      counts = others act watch.counts;
      ignores = with_ignore now (ignore_for now watch.limits act limit) watch.ignores;
    }

abbrev pub after_limit : Bool → ℕ → Watch → Act → Option Limit → Watch
after_limit trusted now watch act None = watch
after_limit trusted now watch act (Some limit) =
    if is_over now watch act limit then (if trusted then watch else with_flood now watch act limit)
    else with_line now watch act limit

-- an ignored line is not counted
abbrev pub after_act : Bool → ℕ → Watch → Act → Watch
after_act trusted now watch act =
    if is_ignored now act.key watch.ignores then watch
    else after_limit trusted now watch act (limit_of watch.limits act.kind)

abbrev pub verdict_by : Bool → ℕ → Watch → Option Act → Verdict
verdict_by trusted now watch None = Passes
verdict_by trusted now watch (Some act) = verdict_of trusted now watch act

abbrev pub after_by : Bool → ℕ → Watch → Option Act → Watch
after_by trusted now watch None = watch
after_by trusted now watch (Some act) = after_act trusted now watch act

-- ---- the same of any line, without its end

unfoldable pub verdict : (List ℕ → Bool) → ℕ → Watch → List ℕ → Verdict
verdict trusted now watch line = verdict_by (trusted (person_of line)) now watch (act_of line)

unfoldable pub after : (List ℕ → Bool) → ℕ → Watch → List ℕ → Watch
after trusted now watch line = after_by (trusted (person_of line)) now watch (act_of line)

-- no kind has a limit, and nobody is ignored
abbrev pub HasNoLimits : Watch → Type 0
HasNoLimits watch =
    (watch.limits.message ≡ None) × (watch.limits.ctcp ≡ None) × (watch.limits.channel ≡ None) × (watch.limits.join ≡ None)
    × (watch.limits.nick ≡ None) × (watch.limits.kick ≡ None) × (watch.limits.deop ≡ None) × (watch.ignores ≡ [])
