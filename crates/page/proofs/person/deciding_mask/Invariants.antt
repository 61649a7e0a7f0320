use Rattle.std.proofs.Common.{◌≡◌, drop}
use Rattle.std.specs.Option.{option_copied}
use Rattle.page.specs.Persons.{deciding_mask}
use Rattle.page.proofs.PersonLemmas.{decided}
use Rattle.page.proofs.person.deciding_mask.Given as goal

-- the best mask so far and the masks that are left decide
abbrev pub invariant-loop-mask : goal.invariant-loop-mask
invariant-loop-mask l =
    deciding_mask l.fn.mapping l.fn.who l.fn.masks ≡ decided l.fn.mapping l.fn.who (option_copied l.best) (drop l.mask-index l.masks)
