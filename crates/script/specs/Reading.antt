-- What a script is, and which of its lines is the first that breaks a rule.
use Rattle.std.specs.Prelude.{◌≡◌, ℕ, zero, suc, ◌<◌, ◌≤◌, ◌==◌, Bool, true, false, Option, None, Some, List, [], ◌∷◌, ◌++◌, length, take, map, ◌⊎◌}
use Rattle.std.specs.List.{slice_split}
use Rattle.script.specs.declared.saying.Saying.{Saying}
use Rattle.script.specs.declared.saying.Saying.TheVariants.{Nothing, Leaves, Zone, Told, Wrong}
use Rattle.script.specs.declared.reading.Script.{Script}
use Rattle.script.specs.declared.TheConstants.{MAX_SCRIPT}
use Rattle.script.specs.Grammar.{saying_of}
use Rattle.bottimers.specs.Zones.{TzText}

-- the lines, each ended or separated by a line feed: after the last line feed there is one more line, which may be
-- empty
abbrev pub lines_of : List ℕ → List (List ℕ)
lines_of bytes = slice_split (λ b. b == 10) bytes

-- what lines say, without those that say nothing
abbrev pub onto_said : Saying → List Saying → List Saying
onto_said Nothing rest = rest
onto_said (Leaves n) rest = Leaves n ∷ rest
onto_said (Zone rule) rest = Zone rule ∷ rest
onto_said (Told command) rest = Told command ∷ rest
onto_said Wrong rest = Wrong ∷ rest

abbrev pub said : List (List ℕ) → List Saying
said [] = []
said (line ∷ lines) = onto_said (saying_of line) (said lines)

-- whether these are all commands
abbrev pub are_told : List Saying → Bool
are_told [] = true
are_told (Told command ∷ says) = are_told says
are_told (Nothing ∷ says) = false
are_told (Leaves n ∷ says) = false
are_told (Zone rule ∷ says) = false
are_told (Wrong ∷ says) = false

-- whether these are all commands, after the zone if it is given
abbrev pub are_told_in_zone : List Saying → Bool
are_told_in_zone (Zone rule ∷ says) = are_told says
are_told_in_zone (Told command ∷ says) = are_told says
are_told_in_zone (Nothing ∷ says) = false
are_told_in_zone (Leaves n ∷ says) = false
are_told_in_zone (Wrong ∷ says) = false
are_told_in_zone [] = true

-- whether a script can continue from here: nothing is said yet, or the number of leaves, perhaps the zone, and then
-- commands
abbrev pub begins_script : List Saying → Bool
begins_script [] = true
begins_script (Leaves n ∷ says) = are_told_in_zone says
begins_script (Zone rule ∷ says) = false
begins_script (Nothing ∷ says) = false
begins_script (Told command ∷ says) = false
begins_script (Wrong ∷ says) = false

-- the zone, if it is given
abbrev pub zone_said : Option TzText → List Saying
zone_said None = []
zone_said (Some rule) = Zone rule ∷ []

-- these bytes are this script: they are not too many, and they say the number of leaves, the zone if it is given, and
-- then the commands
pub record Spells (bytes : List ℕ) (script : Script) : Type 0 where
  pub short : length bytes ≤ MAX_SCRIPT
  pub says : said (lines_of bytes) ≡ Leaves script.leaves ∷ (zone_said script.zone ++ map Told script.commands)

-- a script can continue from the lines before this place, but not from those lines and the one at this place
pub record BreaksAt (lines : List (List ℕ)) (place : ℕ) : Type 0 where
  pub within : place < length lines
  pub before : begins_script (said (take place lines)) ≡ true
  pub here : begins_script (said (take (suc place) lines)) ≡ false

-- this line, counted from 1, is the first that breaks a rule; 0 if the bytes are too many or say nothing
abbrev pub HasFault : List ℕ → ℕ → Type 0
HasFault bytes zero = (MAX_SCRIPT < length bytes) ⊎ (said (lines_of bytes) ≡ [])
HasFault bytes (suc place) = (length bytes ≤ MAX_SCRIPT) × BreaksAt (lines_of bytes) place
