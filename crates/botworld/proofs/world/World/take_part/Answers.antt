use Rattle.std.proofs.Common.{◌≡◌, ◌+◌, ◌++◌, List, Ok, ap, arith, length, slice_set, subst, sym, ◌∙◌}
use Rattle.botworld.specs.declared.sent.Sent.{Sent}
use Rattle.botworld.specs.Net.{Net, AllGood, NetStep, part_of, posted, report_of}
use Rattle.botworld.specs.declared.outcome.Outcome.TheVariants.{Report as reported}
use Rattle.botworld.proofs.Good.{posted_good}
use Rattle.botworld.proofs.Steps.{part-there, part_comes}
use Rattle.botworld.proofs.world.World.take_part.Goals as goal

pub index_mut-requires : goal.index_mut-requires
index_mut-requires g c =
    let old : Net = record { bots = c.self.inside.bots.items; packets = c.self.inside.packets.items; store = c.self.inside.store } in
    let part = c.in_ok-bot.field-0 in
    let is : part_of old c.args.step.now ≡ Ok part = subst (λ (w : Net). part_of w c.args.step.now ≡ Ok part) (sym c.self.view_is) c.in_ok-bot.ensures.part in
    omega (arith, part-there old c.args.step.now part is, c.self.inside.bots.ok.0)

pub returns : goal.returns
returns g c =
    let old : Net = record { bots = c.self.inside.bots.items; packets = c.self.inside.packets.items; store = c.self.inside.store } in
    let part = c.in_ok-bot.field-0 in
    let report = c.step-report.result in
    let kept = c.in_ok-reserve.ensures.items in
    let is : part_of old c.args.step.now ≡ Ok part = subst (λ (w : Net). part_of w c.args.step.now ≡ Ok part) (sym c.self.view_is) c.in_ok-bot.ensures.part in
    let told : c.post.result ≡ reported (report_of part.bot (length old.packets + 1) report) =
    c.post.ensures.told ∙ ap (λ (ps : List Sent). reported (report_of part.bot (length ps + 1) report)) kept in
    let sent : c.post.new.packets.items ≡ old.packets ++ posted part.bot report.packets =
    c.post.ensures.sent ∙ ap (λ (ps : List Sent). ps ++ posted part.bot report.packets) kept in
    subst (λ (w : Net). NetStep g.P.Promise.promised w c.args.step.now c.post.result (record {
      bots = slice_set c.self.inside.bots.items part.bot c.step-report.new.self;
      packets = c.post.new.packets.items;
      store = c.self.inside.store;
    })) c.self.view_is
    (part_comes g.P.Promise.promised old c.args.step.now part c.index_mut.result.now c.step-report.new.self report c.post.result
    c.post.new.packets.items is c.index_mut.ensures.value c.step-report.ensures.takes told sent)

pub invariant_of-self-2 : goal.invariant_of-self-2
invariant_of-self-2 g c =
    let report = c.step-report.result in
    let sent = c.post.ensures.sent ∙ ap (λ (ps : List Sent). ps ++ posted c.in_ok-bot.field-0.bot report.packets) c.in_ok-reserve.ensures.items in
    subst (λ (ps : List Sent). AllGood ps) (sym sent)
    (posted_good c.self.inside.packets.items c.in_ok-bot.field-0.bot report.packets c.self.invariant c.step-report.ensures.good_records)
