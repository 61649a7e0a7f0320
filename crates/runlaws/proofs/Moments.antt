-- What the laws of deeds say of two moments of a world, and of its steps.
use Rattle.std.proofs.Common.{◌≡◌, ◌∙◌, ◌≤◌, ℕ, suc, List, [], ◌++◌, slice_get, Some, refl, ap, sym, subst}
use Rattle.userfile.specs.declared.change.Change.{Change as UserChange}
use Rattle.userfile.specs.declared.error.ChangeFault.{ChangeFault}
use Rattle.sharewire.specs.declared.packet.Packet.{Packet}
use Rattle.sharewire.specs.declared.packet.Packet.TheVariants.{Change, Accepted, Refused}
use Rattle.procs.specs.Promises.{Promised}
use Rattle.botcore.specs.Bots.{Bot}
use Rattle.botcore.specs.Links.{link_version, link_records}
use Rattle.botworld.specs.Calling.{Calling}
use Rattle.processes.specs.Deeds.{Runs, Net, Step, Deed, Made, Run, IsFirst, Stays, net_after, version_in, records_in, shown_version, shown_records, IsTold}
use Rattle.processes.specs.Promises.{Once, calling_of}
use Rattle.runlaws.specs.Folders.{Folder, Happening, bot_of}
use Rattle.runlaws.specs.Worlds.{IsWorld, AreDeeds, OnceIn, StaysIn, sent_in, told_in, steps_in}
use Rattle.runlaws.proofs.Lists.{Run-append, net_after-append, step_at, IsWorld-before}
use Rattle.runlaws.proofs.Ending.{StepsDie}
use Rattle.runlaws.proofs.Stages.{IsNetOf}
use Rattle.runlaws.proofs.Reporting.{told_still}
use Rattle.runlaws.proofs.Going.{net_shows, bot_stands, goes, all_goes}

-- ---- what `laws_of_processes` says

abbrev pub HaveSameRecords : Promised → Type 0
HaveSameRecords promised = (count : ℕ) (w : Net) (first more : List Deed)
    → IsFirst count w → Run promised w (first ++ more) → (one other version : ℕ)
    → shown_version (net_after w first) one ≡ Some version
    → shown_version (net_after w (first ++ more)) other ≡ Some version
    → shown_records (net_after w first) one ≡ shown_records (net_after w (first ++ more)) other

abbrev pub NeverGoBack : Promised → Type 0
NeverGoBack promised = (count : ℕ) (w : Net) (first more : List Deed)
    → IsFirst count w → Run promised w (first ++ more) → (bot before after : ℕ) → Stays bot more
    → shown_version (net_after w first) bot ≡ Some before
    → shown_version (net_after w (first ++ more)) bot ≡ Some after → before ≤ after

abbrev pub AcceptOnce : Promised → Type 0
AcceptOnce promised = (count : ℕ) (w : Net) (deeds : List Deed) → IsFirst count w → Run promised w deeds
    → Once (net_after w deeds)

abbrev pub HaveSameCalls : Promised → (Calling → Calling → Type 0) → Type 0
HaveSameCalls promised Alike = (count : ℕ) (w : Net) (deeds : List Deed) → IsFirst count w → Run promised w deeds
    → (i j one other : ℕ) (s t : Step) (a b : Calling)
    → slice_get deeds i ≡ Some (Made one s) → slice_get deeds j ≡ Some (Made other t) → s.names ≡ t.names
    → calling_of s ≡ Some a → calling_of t ≡ Some b → Alike a b → a.calls ≡ b.calls

-- ---- what a bot shows in a net

pub version_shown : (w : Net) (who : ℕ) (bot : Bot) → slice_get w.processes who ≡ Some (Runs bot)
    → shown_version w who ≡ Some (link_version bot.link)
version_shown w who bot at = ap version_in at

pub records_shown : (w : Net) (who : ℕ) (bot : Bot) → slice_get w.processes who ≡ Some (Runs bot)
    → shown_records w who ≡ Some (link_records bot.link)
records_shown w who bot at = ap records_in at

module _ (promised : Promised) (folders : ℕ → Folder) (count : ℕ) (first : Net) (dies : StepsDie promised) where
  -- ---- one moment

  pub are_deeds : (world : List Happening) → IsFirst count first → IsWorld promised folders count first world
      → AreDeeds promised folders first world
  are_deeds world is_first is =
      let all = all_goes promised folders count first dies world is_first is in
      record {
        deeds = all.deeds;
        run = all.run;
        steps = sym all.steps;
        sent = all.net.sent;
        shows = net_shows folders count first world (net_after first all.deeds) all.net;
      }

  -- ---- two moments

  record Moments (more world : List Happening) : Type 0 where
    was : List Deed
    since : List Deed
    run : Run promised first (was ++ since)
    stays : (bot : ℕ) → StaysIn folders bot more → Stays bot since
    old : IsNetOf folders count first world (net_after first was)
    new : IsNetOf folders count first (more ++ world) (net_after first (was ++ since))

  moments : (more world : List Happening) → IsFirst count first → IsWorld promised folders count first (more ++ world)
      → Moments more world
  moments more world is_first is =
      let one = all_goes promised folders count first dies world is_first (IsWorld-before promised folders count first more world is) in
      let next = goes promised folders count first dies (net_after first one.deeds) world more one.net is in
      record {
        was = one.deeds;
        since = next.deeds;
        run = Run-append promised first one.deeds next.deeds one.run next.run;
        stays = next.stays;
        old = one.net;
        new = subst (λ (n : Net). IsNetOf folders count first (more ++ world) n) (sym (net_after-append first one.deeds next.deeds)) next.net;
      }

  module _ (more world : List Happening) (is_first : IsFirst count first) (is : IsWorld promised folders count first (more ++ world))
      (one other : ℕ) (a b : Bot) (has_a : bot_of folders one world ≡ Some a) (has_b : bot_of folders other (more ++ world) ≡ Some b) where
    abbrev both : Moments more world
    both = moments more world is_first is

    old_at : slice_get (net_after first both.was).processes one ≡ Some (Runs a)
    old_at = bot_stands folders count first world (net_after first both.was) both.old one a has_a

    new_at : slice_get (net_after first (both.was ++ both.since)).processes other ≡ Some (Runs b)
    new_at = bot_stands folders count first (more ++ world) (net_after first (both.was ++ both.since)) both.new other b has_b

    pub world_same_records : HaveSameRecords promised → link_version a.link ≡ link_version b.link
        → link_records a.link ≡ link_records b.link
    world_same_records law same =
        let shown : Some (link_records a.link) ≡ Some (link_records b.link) =
        sym (records_shown (net_after first both.was) one a old_at)
        ∙ law count first both.was both.since is_first both.run one other (link_version a.link)
        (version_shown (net_after first both.was) one a old_at)
        (version_shown (net_after first (both.was ++ both.since)) other b new_at ∙ ap (λ (v : ℕ). Some v) (sym same))
        ∙ records_shown (net_after first (both.was ++ both.since)) other b new_at in
        cc

  pub world_never_back : (more world : List Happening) → IsFirst count first → IsWorld promised folders count first (more ++ world)
      → (who : ℕ) (a b : Bot) → bot_of folders who world ≡ Some a → bot_of folders who (more ++ world) ≡ Some b
      → StaysIn folders who more → NeverGoBack promised → link_version a.link ≤ link_version b.link
  world_never_back more world is_first is who a b has_a has_b stays law =
      let it = moments more world is_first is in
      law count first it.was it.since is_first it.run who (link_version a.link) (link_version b.link) (it.stays who stays)
      (version_shown (net_after first it.was) who a (bot_stands folders count first world (net_after first it.was) it.old who a has_a))
      (version_shown (net_after first (it.was ++ it.since)) who b
      (bot_stands folders count first (more ++ world) (net_after first (it.was ++ it.since)) it.new who b has_b))

  -- ---- all packets and all steps

  -- a report has sent this packet
  abbrev Reported : List Happening → Packet → Type 0
  Reported world packet = IsTold (record { processes = []; packets = told_in folders world }) packet

  module _ (world : List Happening) (w : Net) (sent : w.packets ≡ sent_in folders world) where
    change_told : (n origin request : ℕ) (a : UserChange) → Reported world (Change n origin request a)
        → IsTold w (Change n origin request a)
    change_told n origin request a it = told_still folders world w sent (Change n origin request a) (λ leaf last. refl) it

    accepted_told : (to request n : ℕ) → Reported world (Accepted to request n) → IsTold w (Accepted to request n)
    accepted_told to request n it = told_still folders world w sent (Accepted to request n) (λ leaf last. refl) it

    refused_told : (to request : ℕ) (fault : ChangeFault) → Reported world (Refused to request fault)
        → IsTold w (Refused to request fault)
    refused_told to request fault it = told_still folders world w sent (Refused to request fault) (λ leaf last. refl) it

    once_told : Once w → OnceIn folders world
    once_told once = record {
      change = λ n m place request a b x y.
          once.change n m place request a b (change_told n (suc place) request a x) (change_told m (suc place) request b y);
      accepted = λ n m place request a x y.
          once.accepted n m place request a (change_told n (suc place) request a x) (accepted_told (suc place) request m y);
      not_refused = λ n place request a fault x y.
          once.not_refused n place request a fault (change_told n (suc place) request a x) (refused_told (suc place) request fault y);
      same = λ n o p r s a b x y. once.same n o p r s a b (change_told n o r a x) (change_told n p s b y);
    }

  pub world_once : (world : List Happening) → IsFirst count first → IsWorld promised folders count first world → AcceptOnce promised
      → OnceIn folders world
  world_once world is_first is law =
      let all = are_deeds world is_first is in
      once_told world (net_after first all.deeds) all.sent (law count first all.deeds is_first all.run)

  pub world_same_calls : (world : List Happening) → IsFirst count first → IsWorld promised folders count first world
      → (Alike : Calling → Calling → Type 0) → HaveSameCalls promised Alike → (i j one other : ℕ) (s t : Step) (a b : Calling)
      → slice_get (steps_in folders world) i ≡ Some (Made one s) → slice_get (steps_in folders world) j ≡ Some (Made other t)
      → s.names ≡ t.names → calling_of s ≡ Some a → calling_of t ≡ Some b → Alike a b → a.calls ≡ b.calls
  world_same_calls world is_first is Alike law i j one other s t a b at_s at_t same is_a is_b alike =
      let all = are_deeds world is_first is in
      let at = λ (k : ℕ) (deed : Deed) (e : slice_get (steps_in folders world) k ≡ Some deed).
      step_at all.deeds k deed (ap (λ (ds : List Deed). slice_get ds k) all.steps ∙ e) in
      let x = at i (Made one s) at_s in
      let y = at j (Made other t) at_t in
      law count first all.deeds is_first all.run x.0 y.0 one other s t a b x.1 y.1 same is_a is_b alike
