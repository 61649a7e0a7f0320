use Rattle.std.proofs.Common.{◌≡◌, drop}
use Rattle.miniircd.specs.Mail.{readers}
use Rattle.miniircd.specs.Commands.{moded_each}
use Rattle.miniircd.proofs.mode.apply_each.Given as goal

-- the modes that are left lead from here to where all lead from the start
abbrev pub invariant-loop-single : goal.invariant-loop-single
invariant-loop-single l = record {
  moded : moded_each l.clients.slots l.name (drop l.single-index l.singles) l.after.items ≡ moded_each l.clients.slots l.name l.singles l.channels;
  readers : readers l.post ≡ readers l.initial.post;
}
