-- The commands that only a live script has, by their words.
use Rattle.std.specs.Prelude.{ℕ, ◌^◌, ◌||◌, not, nat_le, nat_lt, List, [], ◌∷◌, Option, None, Some, option_map, option_and_then, if◌then◌else◌, codes}
use Rattle.std.specs.Str.{bytes_eq}
use Rattle.bytetext.specs.declared.moment.TheConstants.{MOMENTS_END}
use Rattle.script.specs.Words.{is_empty, number_below, rest_of}
use Rattle.live.specs.declared.TheConstants.{MAX_TURNS}
use Rattle.live.specs.declared.live_command.LiveCommand.{LiveCommand}
use Rattle.live.specs.declared.live_command.LiveCommand.TheVariants.{Until, Turns, Guest, Say, Heard, Clock}

-- a version is below 2^32
abbrev pub until : ℕ → Option LiveCommand
until version = if nat_le version 4294967295 then Some (Until version) else None

abbrev pub turns : ℕ → Option LiveCommand
turns count = if nat_le count MAX_TURNS then Some (Turns count) else None

-- a clock shows a moment
abbrev pub clock : ℕ → Option LiveCommand
clock seconds = if nat_lt seconds MOMENTS_END then Some (Clock seconds) else None

abbrev pub by_number : List ℕ → ℕ → Option LiveCommand
by_number verb count =
    if bytes_eq verb (codes "until") then until count
    else if bytes_eq verb (codes "turns") then turns count
    else if bytes_eq verb (codes "clock") then clock count
    else None

abbrev pub heard : List ℕ → Option LiveCommand
heard nick = if is_empty nick then None else Some (Heard nick)

-- until V, turns N, clock N, heard NICK
abbrev pub by_one_word : List ℕ → List ℕ → Option LiveCommand
by_one_word verb a =
    if bytes_eq verb (codes "heard") then heard a else option_and_then (by_number verb) (number_below (2 ^ 64) a)

-- guest NICK CHANNEL
abbrev pub by_two_words : List ℕ → List ℕ → List ℕ → Option LiveCommand
by_two_words verb nick channel =
    if not (bytes_eq verb (codes "guest")) || is_empty nick || is_empty channel then None else Some (Guest nick channel)

-- say NICK TARGET TEXT..
abbrev pub by_more_words : List ℕ → List ℕ → List ℕ → List (List ℕ) → Option LiveCommand
by_more_words verb nick target words =
    if not (bytes_eq verb (codes "say")) || is_empty nick || is_empty target then None
    else option_map (λ text. Say (record { nick = nick; target = target; text = text })) (rest_of words)

abbrev pub own_command : List (List ℕ) → Option LiveCommand
own_command [] = None
own_command (verb ∷ []) = None
own_command (verb ∷ a ∷ []) = by_one_word verb a
own_command (verb ∷ a ∷ b ∷ []) = by_two_words verb a b
own_command (verb ∷ a ∷ b ∷ text ∷ rest) = by_more_words verb a b (text ∷ rest)
