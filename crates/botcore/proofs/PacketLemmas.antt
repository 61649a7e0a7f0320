-- What a packet that the link has answered makes of a bot.
use Rattle.std.proofs.Common.{◌≡◌, ◌∙◌, ℕ, List, Option, Some, None, Result, Ok, Err, refl, ap, sym, subst}
use Rattle.bytetext.specs.declared.failure.Failure.{Failure}
use Rattle.bytetext.specs.declared.failure.Failure.TheVariants.{Refused, NoMemory}
use Rattle.procs.specs.Promises.{Promised}
use Rattle.sharewire.specs.declared.packet.Packet.{Packet}
use Rattle.protocol.specs.Notes.{Note as Meaning, LinkFault as Meant}
use Rattle.protocol.specs.Packets.{from_wire}
use Rattle.protocol.specs.Bots.{Works}
use Rattle.sharelink.specs.declared.answer.Answer.{Answer}
use Rattle.sharelink.specs.declared.error.LinkFault.{LinkFault}
use Rattle.sharelink.specs.Calls.{note_of}
use Rattle.sharelink.specs.Meets.{how_of}
use Rattle.protocol.specs.Ends.{End}
use Rattle.sharelink.specs.BotLinks.{BotEnd, Calls, took}
use Rattle.botcore.specs.declared.report.Report.{Report}
use Rattle.botcore.specs.Bots.{Bot, bot_setting, with_device}
use Rattle.procs.specs.Tellings.{calls_in}
use Rattle.procs.specs.Dispatching.{told_of}
use Rattle.botcore.specs.Happenings.{Saying, saying_in, saying_of}
use Rattle.botcore.specs.Reports.{answer_report}
use Rattle.botcore.specs.Steps.{TakesPacket, TakesText, GivesRow, said_occasions}
use Rattle.botcore.proofs.AskLemmas.{fault_is}
use Rattle.botcore.proofs.SilentLemmas.{end_text}

-- the same end of the link, but for what happened to its disks
pub link_is : (old link : BotEnd) → link.number ≡ old.number → link.leaves ≡ old.leaves → link.end ≡ old.end
    → link ≡ record old { device = link.device }
link_is old link number leaves end =
    ap (λ (n : ℕ). record link { number = n }) number
    ∙ ap (λ (n : ℕ). record link { number = old.number; leaves = n }) leaves
    ∙ ap (λ (e : End). record link { number = old.number; leaves = old.leaves; end = e }) end

-- a packet that brings a text leaves the end of the link so
text_leaves : (old link : BotEnd) (packet : Packet) (answer : Answer) (saying : Saying)
    → Calls old (took old packet) (Ok answer) link → saying_of (took old packet Works).told ≡ Some saying
    → link ≡ record old { device = link.device }
text_leaves old link packet answer saying calls is =
    link_is old link calls.number calls.leaves
    (calls.row.after ∙ (end_text old.leaves old.number old.end (from_wire packet) saying is).0)

-- what is refused brings no text
refused_silent : (said : Result Meaning Meant) (why : Meant) (saying : Saying) → said ≡ Err why → saying_of said ≡ Some saying → ⊥
refused_silent said why saying is some =
    let none : saying_of said ≡ None = ap saying_of is in
    let different : None ≡ Some saying = sym none ∙ some in cc

module _ (promised : Promised) (names : List (List ℕ)) where
  -- the link has answered
  pub answered : (old : Bot) (link : BotEnd) (new : Bot) (packet : Packet) (answer : Answer) (report : Report)
      → Calls old.link (took old.link packet) (Ok answer) link
      → ((saying : Saying) → saying_in (note_of answer.note) ≡ Some saying
      → TakesText promised names (record old { link = link }) saying report new)
      → (saying_in (note_of answer.note) ≡ None → report ≡ answer_report (Ok answer))
      → (saying_in (note_of answer.note) ≡ None → new ≡ record old { link = link })
      → TakesPacket (saying_of (took old.link packet Works).told) promised names old packet report new
  answered old link new packet answer report calls texts reports stays =
      subst (λ (s : Option Saying). TakesPacket s promised names old packet report new) (sym told)
      (by (saying_in (note_of answer.note)) refl)
    where
      told : saying_of (took old.link packet Works).told ≡ saying_in (note_of answer.note)
      told = ap saying_of calls.row.told

      by : (s : Option Saying) → saying_in (note_of answer.note) ≡ s → TakesPacket s promised names old packet report new
      by (Some saying) e = (
        link.device,
        calls.moments,
        subst (λ (l : BotEnd). TakesText promised names (record old { link = l }) saying report new)
            (text_leaves old.link link packet answer saying calls (told ∙ e)) (texts saying e),
      )
      by None e = record {
        answer = Ok answer;
        met = subst (λ (b : Bot). Calls old.link (took old.link packet) (Ok answer) b.link) (sym (stays e)) calls;
        report = reports e;
        after = stays e ∙ ap (λ (b : Bot). record old { link = b.link }) (sym (stays e));
      }

  -- it was refused, or memory ran out, and the link is all that may be another
  GivesRow-err : (old new : Bot) (link : BotEnd) (packet : Packet) (why : Failure LinkFault) (report : Report)
      → Calls old.link (took old.link packet) (Err why) link → new ≡ record old { link = link } → report ≡ answer_report (Err why)
      → GivesRow old (took old.link packet) report new
  GivesRow-err old new link packet why report calls after reported = record {
    answer = Err why;
    met = subst (λ (b : Bot). Calls old.link (took old.link packet) (Err why) b.link) (sym after) calls;
    report = reported;
    after = after ∙ ap (λ (b : Bot). record old { link = b.link }) (sym after);
  }

  -- the link has refused, or memory ran out
  pub failed : (old new : Bot) (link : BotEnd) (packet : Packet) (why : Failure LinkFault) (report : Report)
      → Calls old.link (took old.link packet) (Err why) link → new ≡ record old { link = link } → report ≡ answer_report (Err why)
      → TakesPacket (saying_of (took old.link packet Works).told) promised names old packet report new
  failed old new link packet (Refused fault) report calls after reported = by (saying_of (took old.link packet Works).told) refl
    where
      by : (s : Option Saying) → saying_of (took old.link packet Works).told ≡ s → TakesPacket s promised names old packet report new
      by None e = GivesRow-err old new link packet (Refused fault) report calls after reported
      by (Some saying) e =
          let same = (end_text old.link.leaves old.link.number old.link.end (from_wire packet) saying e).1 (how_of fault) in
          let meant = fault_is fault (took old.link packet (how_of fault)).told calls.row.0.told in
          absurd (refused_silent (took old.link packet Works).told meant.0 saying (sym same ∙ meant.1) e)
  failed old new link packet NoMemory report calls after reported =
      by (saying_of (took old.link packet Works).told)
    where
      same : new ≡ with_device old link.device
      same = after ∙ ap (λ (l : BotEnd). record old { link = l }) (link_is old.link link calls.number calls.leaves calls.row.1)

      by : (s : Option Saying) → TakesPacket s promised names old packet report new
      by None = GivesRow-err old new link packet NoMemory report calls after reported
      by (Some saying) = (
        link.device,
        calls.moments,
        subst (λ (r : Report). TakesText promised names (with_device old link.device) saying r new) (sym reported) (record {
          rest = calls_in (told_of (bot_setting promised names (with_device old link.device)) (said_occasions saying));
          calls = refl;
          kept = tt;
          note = refl;
          packets = refl;
          lines = refl;
          faults = refl;
          logged = refl;
          after = same;
        }),
      )
