use Rattle.std.proofs.Common.{◌≡◌, take}
use Rattle.std.specs.List.{flat_map}
use Rattle.eggprocs.specs.Whois.{spaced}
use Rattle.eggprocs.proofs.whois.listed.Given as goal

-- the masks so far
abbrev pub invariant-loop-mask : goal.invariant-loop-mask
invariant-loop-mask l = l.text.items ≡ flat_map spaced (take l.mask-index l.masks)
