-- What a bot says in a beat.
use Rattle.std.specs.Prelude.{◌≡◌, ℕ, ◌-◌, List, [], ◌++◌, length, drop}
use Rattle.std.specs.Int.{w32, to_be_bytes}
use Rattle.sealing.specs.declared.limits.TheConstants.{BEAT_LEN}
use Rattle.peers.specs.declared.beat.Beat.{Beat}
use Rattle.peers.specs.declared.beat.Beats.{Beats}
use Rattle.peers.specs.declared.beat.Beats.TheVariants.{Nothing, Last, Bad}

-- the content of its record: the version, the sum, and the version of a snapshot with the parts that are held of it
abbrev pub beat_content : Beat → List ℕ
beat_content beat = to_be_bytes w32 beat.version ++ (beat.sum ++ (to_be_bytes w32 beat.held.version ++ beat.held.bits))

-- the last of the beats with these contents, which follow one another
abbrev pub IsLast : List ℕ → Beats → Type 0
IsLast contents Nothing = contents ≡ []
IsLast contents (Last beat) = beat_content beat ≡ drop (length contents - BEAT_LEN) contents
IsLast contents Bad = (contents ≡ [] → ⊥)
