use Rattle.std.proofs.Common.{◌≡◌, ◌++◌, take, drop}
use Rattle.protocol.specs.LeafRules.{without}
use Rattle.sharelink.proofs.requests.remove_request.Given as goal

-- none of those so far has the number
abbrev pub invariant-loop-place : goal.invariant-loop-place
invariant-loop-place l =
    (l.out.items ≡ l.fn.out.items)
    × (take l.place l.out.items ++ without l.number (drop l.place l.out.items) ≡ without l.number l.fn.out.items)
