use Rattle.std.proofs.Common.{arith, rules}
use Rattle.tunnels.proofs.ServerLemmas.{next_section}
use Rattle.tunnels.proofs.stunnel.put_servers.Goals as goal

pub loop-place-preserved : goal.loop-place-preserved
loop-place-preserved c =
    next_section c.args.folder.now c.loop-place.out.items c.put_server.new.out.items _ c.args.servers.now c.split_at.result.1.now c.loop-place.place
    c.index-servers-place.result (omega arith) c.loop-place.invariant c.index-servers-place.is (search rules) c.in_ok-put_server.ensures
