use Rattle.eggprocs.proofs.KeepingLemmas.{protectops-own, bitch-own, guard-own, protectops-trusted, bitch-trusted, guard-trusted, bitch-servers}
use Rattle.eggprocs.proofs.ChannelLemmas.{keepmodes-own, keepmodes-trusted}
use Rattle.eggprocs.proofs.laws.keeping_answers_others.Goals as goal

pub returns : goal.returns
returns c = record {
  protectops = protectops-own;
  bitch = bitch-own;
  guard = guard-own;
  keepmodes = keepmodes-own;
  protectops_trusted = protectops-trusted;
  bitch_trusted = bitch-trusted;
  keepmodes_trusted = keepmodes-trusted;
  guard_trusted = guard-trusted;
  bitch_servers = bitch-servers;
}
