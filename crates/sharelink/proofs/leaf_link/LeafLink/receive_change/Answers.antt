use Rattle.std.proofs.Common.{◌≡◌, ◌+◌, None, rules}
use Rattle.userfile.specs.Apply.{refusal}
use Rattle.sharelink.proofs.PacketLaws.{placed-change}
use Rattle.sharelink.proofs.leaf_link.LeafLink.receive_change.Goals as goal

pub returns-clause-row : goal.returns-clause-row
returns-clause-row g c =
    let next : c.args.number ≡ c.args.self.now.bot.kept.version + 1 = search rules in
    let taken : refusal c.args.self.now.bot.kept.records c.args.change.now ≡ None = search rules in
    placed-change c.args.self.now c.apply_change.new.self c.args.number c.args.change.now c.apply_change.result next taken
    c.apply_change.ensures.row
