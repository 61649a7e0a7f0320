use Rattle.std.proofs.Common.{◌≡◌, false, take}
use Rattle.std.specs.List.{list_any}
use Rattle.eggprocs.specs.Guards.{is_before}
use Rattle.eggprocs.proofs.guards.any_before.Given as goal

-- none so far may remove the ban and comes before the bot
abbrev pub invariant-loop-member : goal.invariant-loop-member
invariant-loop-member l =
    list_any (is_before l.hits l.mask l.call l.view l.view.sight.channels.nick) (take l.member-index l.members) ≡ false
