use Rattle.std.proofs.Common.{◌≡◌, List, ℕ, Option, None, Some, if◌then◌else◌, map, drop}
use Rattle.std.specs.Option.{option_copied}
use Rattle.httparse.specs.Spans.{header_bytes}
use Rattle.page.specs.Requests.{is_said, lone}
use Rattle.page.proofs.heading.lone.Given as goal

-- the value that was found, unless a field that is left has the name too
abbrev lone_after : Option (List ℕ) → List ℕ → List (List ℕ × List ℕ) → Option (List ℕ)
lone_after None name fields = lone name fields
lone_after (Some value) name fields = if is_said name fields then None else Some value

abbrev pub invariant-loop-field : goal.invariant-loop-field
invariant-loop-field l =
    lone l.fn.name (map (header_bytes l.fn.heard) l.fn.fields)
    ≡ lone_after (option_copied l.found) l.fn.name (map (header_bytes l.fn.heard) (drop l.field-index l.fields))
