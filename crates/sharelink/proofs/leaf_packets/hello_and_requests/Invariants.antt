use Rattle.std.proofs.Common.{◌≡◌, ◌∷◌, ◌++◌, drop}
use Rattle.sharelink.specs.LeafLinks.{hello_packet, request_packets}
use Rattle.sharelink.proofs.leaf_packets.hello_and_requests.Given as goal

-- those so far and those that are left are all of them
abbrev pub invariant-loop-request : goal.invariant-loop-request
invariant-loop-request l =
    l.packets.items ++ request_packets l.leaf (drop l.request-index l.requests)
    ≡ hello_packet l.leaf l.version ∷ request_packets l.leaf l.requests
