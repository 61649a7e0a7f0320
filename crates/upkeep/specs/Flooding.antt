-- The sieve between the server and the bot, and what the bot hears.
use Rattle.std.specs.Prelude.{ℕ, Bool, List, [], ◌∷◌, ◌++◌, codes, if◌then◌else◌}
use Rattle.floods.specs.declared.ignores.Ignore.{Ignore}
use Rattle.floods.specs.declared.kind.FloodKind.{FloodKind}
use Rattle.floods.specs.declared.kind.FloodKind.TheVariants.{Channel, Ctcp, Deop, Join, Kick, Message, Nick}
use Rattle.floods.specs.declared.limits.Limits.{Limits}
use Rattle.floods.specs.Sifting.{Sieving, begun_ignores, sifted}
use Rattle.floods.specs.Watching.{is_ignored, without}

-- with the limits of the configuration; a line that has begun is forgotten if a connection begins
abbrev pub begun_with : Limits → Bool → Sieving → Sieving
begun_with limits connected sieve =
    record {
      watch = record { limits = limits; counts = sieve.watch.counts; ignores = sieve.watch.ignores };
      line = if connected then [] else sieve.line;
    }

-- if the person of this key is ignored, without each ignore of that key
abbrev pub forgiven : ℕ → List ℕ → Sieving → Sieving
forgiven now key sieve =
    if is_ignored now key sieve.watch.ignores
    then record {
      watch = record { limits = sieve.watch.limits; counts = sieve.watch.counts; ignores = without key sieve.watch.ignores };
      line = sieve.line;
    }
    else sieve

-- ---- lines that say who floods

-- what the lines are of which there were too many
abbrev pub kind_words : FloodKind → List ℕ
kind_words Message = codes "messages"
kind_words Ctcp = codes "CTCPs"
kind_words Channel = codes "lines"
kind_words Join = codes "joins"
kind_words Nick = codes "nick changes"
kind_words Kick = codes "kicks"
kind_words Deop = codes "deops"

-- a channel, or a star for none
abbrev pub place_word : List ℕ → List ℕ
place_word [] = codes "*"
place_word (b ∷ bs) = b ∷ bs

-- FLOOD USER@HOST PLACE :KIND, and CR LF
abbrev pub flood_line : Ignore → List ℕ
flood_line ignore =
    codes "FLOOD " ++ ignore.key ++ codes " " ++ place_word ignore.place ++ codes " :" ++ kind_words ignore.kind ++ codes "\r\n"

-- a line for each of these ignores, in their order
abbrev pub flood_lines : List Ignore → List ℕ
flood_lines [] = []
flood_lines (ignore ∷ ignores) = flood_line ignore ++ flood_lines ignores

-- what the bot hears: the lines that pass, and after them a line for each ignore that begins
abbrev pub heard_lines : (List ℕ → Bool) → ℕ → Sieving → List ℕ → List ℕ
heard_lines trusted now sieve bytes = sifted trusted now sieve bytes ++ flood_lines (begun_ignores trusted now sieve bytes)
