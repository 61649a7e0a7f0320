use Rattle.std.proofs.Common.{◌+◌, Err, refl, subst}
use Rattle.protocol.specs.Bots.{Works}
use Rattle.sharelink.specs.BotLinks.{took}
use Rattle.botcore.specs.Bots.{Bot}
use Rattle.botcore.specs.Happenings.{saying_of}
use Rattle.botcore.specs.Steps.{TakesPacket}
use Rattle.sharelink.specs.declared.TheConstants.{MAX_LEAVES}
use Rattle.botcore.proofs.GoodLemmas.{good_reported, packet_good}
use Rattle.botcore.proofs.PacketLemmas.{answered, failed}
use Rattle.botcore.proofs.bot.Bot.receive.Goals as goal

pub returns-in-Ok-clause-takes : goal.returns-in-Ok-clause-takes
returns-in-Ok-clause-takes g c =
    let old : Bot
    = record {
      config = c.self.inside.config;
      link = c.self.inside.link;
      binds = c.self.inside.binds;
      channels = c.self.inside.channels.current;
      clock = c.self.inside.clock;
      timers = c.self.inside.timers;
      queues = c.self.inside.queues.current;
      welcomed = c.self.inside.welcomed;
    } in
    subst
    (λ (b : Bot).
    TakesPacket (saying_of (took b.link c.args.packet.now Works).told) g.P.Promise.promised c.args.store.now
    b c.args.packet.now
    c.take_answer.result c.take_answer.new.self) c.self.view_is
    (answered g.P.Promise.promised c.args.store.now old c.receive.new.self
    c.take_answer.new.self c.args.packet.now c.in-Ok.answer c.take_answer.result c.in-Ok.ensures.row
    c.take_answer.ensures.text c.take_answer.ensures.report c.take_answer.ensures.same)

pub returns-in-Err-clause-takes : goal.returns-in-Err-clause-takes
returns-in-Err-clause-takes g c =
    let old : Bot
    = record {
      config = c.self.inside.config;
      link = c.self.inside.link;
      binds = c.self.inside.binds;
      channels = c.self.inside.channels.current;
      clock = c.self.inside.clock;
      timers = c.self.inside.timers;
      queues = c.self.inside.queues.current;
      welcomed = c.self.inside.welcomed;
    } in
    let new : Bot = record old { link = c.receive.new.self } in
    subst
    (λ (b : Bot).
    TakesPacket (saying_of (took b.link c.args.packet.now Works).told) g.P.Promise.promised c.args.store.now
    b c.args.packet.now
    c.of_answer.result new) c.self.view_is
    (failed g.P.Promise.promised c.args.store.now old new c.receive.new.self c.args.packet.now c.in-Err.why c.of_answer.result
    c.in-Err.ensures.row refl c.of_answer.ensures)

pub returns-in-Ok-clause-good_records : goal.returns-in-Ok-clause-good_records
returns-in-Ok-clause-good_records g c =
    let before : Bot
    = record {
      config = c.self.inside.config;
      link = c.receive.new.self;
      binds = c.self.inside.binds;
      channels = c.self.inside.channels.current;
      clock = c.self.inside.clock;
      timers = c.self.inside.timers;
      queues = c.self.inside.queues.current;
      welcomed = c.self.inside.welcomed;
    } in
    packet_good g.P.Promise.promised c.args.store.now before c.in-Ok.answer c.take_answer.result c.take_answer.new.self
    c.in-Ok.ensures.packets.1 c.take_answer.ensures.text c.take_answer.ensures.report

pub returns-in-Err-clause-good_records : goal.returns-in-Err-clause-good_records
returns-in-Err-clause-good_records g c =
    good_reported (MAX_LEAVES + 1) (Err c.in-Err.why) c.of_answer.result c.in-Err.ensures.packets c.of_answer.ensures
