-- The changes that the hub accepts in a world, and what bots hold of them.
use Rattle.std.proofs.Common.{◌≡◌, ◌∙◌, ℕ, List, [], ◌∷◌, Some, refl, sym}
use Rattle.userfile.specs.Records.{Records}
use Rattle.procs.specs.Promises.{Promised}
use Rattle.protocol.specs.Packets.{AcceptedChange}
use Rattle.protocol.specs.History.{History, start, records_of}
use Rattle.protocol.specs.Rights.{KeepsRights}
use Rattle.protocol.proofs.Rights.{rights}
use Rattle.botcore.specs.Links.{link_version, link_records}
use Rattle.processes.specs.Deeds.{Net, Deed, Happens, Run, IsFirst, after_deed, net_after, shown_version, shown_records}
use Rattle.processes.specs.Standing.{Stands, Leads}
use Rattle.runlaws.specs.Folders.{Folder, Happening}
use Rattle.runlaws.specs.Worlds.{IsWorld}
use Rattle.runlaws.specs.Histories.{AreAccepted, HoldRecordsOf}
use Rattle.runlaws.proofs.Lists.{AcceptInAll}
use Rattle.runlaws.proofs.Ending.{StepsDie}
use Rattle.runlaws.proofs.Stages.{IsNetOf}
use Rattle.runlaws.proofs.Going.{bot_stands, first_net, what_goes, net_goes}
use Rattle.runlaws.proofs.Moments.{version_shown, records_shown}

-- ---- what `laws_of_processes` says

abbrev pub Begin : Type 0
Begin = (count : ℕ) (w : Net) → IsFirst count w → Stands w (start count)

abbrev pub GrowAsTold : Promised → Type 0
GrowAsTold promised = (w : Net) (h : History) (deed : Deed) → Stands w h → Happens promised w deed → Leads h w deed

abbrev pub ShowRecords : Type 0
ShowRecords = (w : Net) (h : History) → Stands w h → (bot version : ℕ) → shown_version w bot ≡ Some version
    → shown_records w bot ≡ Some (records_of h.hub.kept.accepted version)

-- ---- several deeds

-- the moment to which deeds lead, and that they accept the changes that it has more
record Led (w : Net) (h : History) (deeds : List Deed) : Type 0 where
  after : History
  stands : Stands (net_after w deeds) after
  accepts : AcceptInAll deeds h.hub.kept.accepted after.hub.kept.accepted

leads_all : (promised : Promised) → GrowAsTold promised → (w : Net) (h : History) (deeds : List Deed) → Stands w h
    → Run promised w deeds → Led w h deeds
leads_all promised grows w h [] st run = record { after = h; stands = st; accepts = refl }
leads_all promised grows w h (deed ∷ deeds) st run =
    let one = grows w h deed st run.0 in
    let rest = leads_all promised grows (after_deed w deed) one.after deeds one.stands run.1 in
    record {
      after = rest.after;
      stands = rest.stands;
      accepts = (one.after.hub.kept.accepted, one.accepts, rest.accepts);
    }

-- ---- a world

same_records : (a b : Records) → Some a ≡ Some b → a ≡ b
same_records a b e = cc

module _ (promised : Promised) (folders : ℕ → Folder) (leaves : ℕ) (first : Net) (dies : StepsDie promised) (begins : Begin)
    (grows : GrowAsTold promised) (shows : ShowRecords) where
  -- what bots hold in a net that stands for a world, at a moment for which it stands too
  held : (w : Net) (world : List Happening) → IsNetOf folders leaves first world w → (h : History) → Stands w h
      → HoldRecordsOf folders h.hub.kept.accepted world
  held w world net h st who bot is =
      let at = bot_stands folders leaves first world w net who bot is in
      same_records (link_records bot.link) (records_of h.hub.kept.accepted (link_version bot.link))
      (sym (records_shown w who bot at) ∙ shows w h st who (link_version bot.link) (version_shown w who bot at))

  -- the net and the moment to which a world has led
  record SoFar (world : List Happening) : Type 0 where
    net : Net
    is_net : IsNetOf folders leaves first world net
    moment : History
    stands : Stands net moment
    accepted : AreAccepted folders world moment.hub.kept.accepted

  so_far : (world : List Happening) → IsFirst leaves first → IsWorld promised folders leaves first world → SoFar world
  so_far [] is_first is = record {
    net = first;
    is_net = first_net folders leaves first is_first;
    moment = start leaves;
    stands = begins leaves first is_first;
    accepted = refl;
  }
  so_far (h ∷ world) is_first is =
      let was = so_far world is_first is.2 in
      let it = what_goes promised folders leaves first dies was.net world was.is_net h.folder h.what is.0 is.1 in
      let led = leads_all promised grows was.net was.moment it.few was.stands it.run in
      let now = net_goes promised folders leaves first dies was.net world h was.is_net is.1 it in
      record {
        net = net_after was.net it.few;
        is_net = now;
        moment = led.after;
        stands = led.stands;
        accepted = (
          held (net_after was.net it.few) (h ∷ world) now led.after led.stands,
          (
            was.moment.hub.kept.accepted,
            it.accepts was.moment.hub.kept.accepted led.after.hub.kept.accepted led.accepts,
            was.accepted,
          ),
        );
      }

  pub world_accepted : (world : List Happening) → IsFirst leaves first → IsWorld promised folders leaves first world
      → (changes : List AcceptedChange) × AreAccepted folders world changes × KeepsRights changes
  world_accepted world is_first is =
      let all = so_far world is_first is in
      (all.moment.hub.kept.accepted, all.accepted, rights all.moment all.stands.moment.sound)
