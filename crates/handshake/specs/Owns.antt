-- What a process knows of its own bot.
use Rattle.std.specs.Prelude.{ℕ, ◌-◌, ◌/◌, ◌%◌, ◌^◌, ◌==◌, ◌&&◌, nat_le, Bool, List, get_or}
use Rattle.handshake.specs.declared.progress.Progress.{Progress}
use Rattle.handshake.specs.declared.own.Own.{Own}
use Rattle.handshake.specs.declared.own.HeldParts.{HeldParts}

-- the number of the last request between the bot and this leaf
abbrev pub last_of : Own → ℕ → ℕ
last_of own leaf = get_or own.lasts.items leaf 0

-- how far the bot has come, as it tells this leaf, or a leaf its hub
abbrev pub progress_for : Own → ℕ → Progress
progress_for own leaf = record { version = own.version; sum = own.sum; last = last_of own leaf }

-- part p, from 1, is the bit (p - 1) % 8 of byte (p - 1) / 8
abbrev pub has_bit : List ℕ → ℕ → Bool
has_bit bits place = (get_or bits (place / 8) 0 / 2 ^ (place % 8)) % 2 == 1

-- this part of the snapshot of this version is held
abbrev pub holds : HeldParts → ℕ → ℕ → Bool
holds held version part = (version == held.version) && (nat_le 1 part && has_bit held.bits (part - 1))
