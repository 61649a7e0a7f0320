-- Where the bot of a number stands between two happenings, and what a happening makes of the deeds.
use Rattle.std.proofs.Common.{◌≡◌, ◌∙◌, ◌+◌, ◌==◌, ℕ, Bool, true, false, List, [], ◌∷◌, length, length-set, slice_get, slice_set, Option, None, Some, refl, ap, sym, subst, append-nil, eq-eqb}
use Rattle.procs.specs.Promises.{Promised}
use Rattle.protocol.specs.Packets.{AcceptedChange}
use Rattle.protocol.proofs.Lists.{slice_set-other}
use Rattle.botcore.specs.declared.event.BotEvent.{BotEvent}
use Rattle.botcore.specs.Bots.{Bot}
use Rattle.botworld.specs.declared.sent.Sent.{Sent}
use Rattle.botworld.proofs.Lists.{slice_get-set-same}
use Rattle.watching.specs.Acts.{Act, HasNoBot, IsKept, bot_in}
use Rattle.processes.specs.Deeds.{Process, Runs, Ended, Net, Deed, WasTold, Happens, Run, AcceptsIn, StaysIn, Stays, after_deed, net_after}
use Rattle.runlaws.specs.Calls.{Doing, Nothing, Opening, Telling, doing}
use Rattle.runlaws.specs.Folders.{Folder, What, Happening, Files, HasFiles, Holder, NoneYet, NoneNow, Holds, past_with, past_of, files_with, files_of, holder_of, process_in, process_by}
use Rattle.runlaws.specs.Worlds.{sent_in, step_in, steps_of}
use Rattle.runlaws.proofs.Lists.{AcceptInAll}
use Rattle.runlaws.proofs.Calls.{has_none, no_step}

-- ---- where a bot stands

-- By the past and the files of the folder that holds its number: what stands at its place of the net.
pub data Holding (number : ℕ) (sent : List Sent) (past : List Act) (files : Files) (now : Option Process) : Type 0 where
  -- no process has it, and these are its files
  Rests : (x y : List ℕ) → doing past ≡ Nothing → bot_in past ≡ None → files ≡ HasFiles x y → now ≡ Some (Ended x y)
      → Holding number sent past files now
  -- a process opens it from its files
  IsOpening : (x y : List ℕ) → doing past ≡ Opening x y → bot_in past ≡ None → files ≡ HasFiles x y → now ≡ Some (Ended x y)
      → Holding number sent past files now
  -- a process has it, and it is called by nobody
  Lives : (bot : Bot) → doing past ≡ Nothing → bot_in past ≡ Some bot → now ≡ Some (Runs bot) → IsKept bot
      → Holding number sent past files now
  -- it makes a step
  MakesStep : (bot : Bot) (event : BotEvent) → doing past ≡ Telling bot event → bot_in past ≡ None → now ≡ Some (Runs bot)
      → IsKept bot → WasTold sent number event → Holding number sent past files now

module _ (folders : ℕ → Folder) where
  -- Where `origin` stood at first. Once no folder holds the number any more, any process may stand there.
  abbrev pub StageBy : Holder → ℕ → List Sent → Option Process → List Happening → Option Process → Type 0
  StageBy NoneYet number sent origin world now = now ≡ origin
  StageBy NoneNow number sent origin world now = (process : Process) × (now ≡ Some process)
  StageBy (Holds folder) number sent origin world now =
      ((folders folder).number ≡ number) × Holding number sent (past_of folder world) (files_of folder world) now

-- ---- what follows of it

-- what a world shows
shown_by : (past : List Act) (files : Files) (call : Doing) (bot : Option Bot) (rest : Files) → doing past ≡ call → bot_in past ≡ bot
    → files ≡ rest → process_in (doing past) (bot_in past) files ≡ process_in call bot rest
shown_by past files call bot rest d b f = ap (λ (c : Doing). process_in c (bot_in past) files) d
    ∙ ap (λ (o : Option Bot). process_in call o files) b ∙ ap (λ (fs : Files). process_in call bot fs) f

module _ {number : ℕ} {sent : List Sent} {past : List Act} {files : Files} {now : Option Process} where
  -- the same, if what the bot was told in the middle of a step is still told
  pub Holding-still : (told : List Sent) (after : Option Process)
      → ((bot : Bot) (event : BotEvent) → doing past ≡ Telling bot event → WasTold sent number event → WasTold told number event)
      → after ≡ now → Holding number sent past files now → Holding number told past files after
  Holding-still told after still same (Rests x y d b f n) = Rests x y d b f (same ∙ n)
  Holding-still told after still same (IsOpening x y d b f n) = IsOpening x y d b f (same ∙ n)
  Holding-still told after still same (Lives bot d b n kept) = Lives bot d b (same ∙ n) kept
  Holding-still told after still same (MakesStep bot event d b n kept was) =
      MakesStep bot event d b (same ∙ n) kept (still bot event d was)

  -- some process stands at its place
  pub some_process : Holding number sent past files now → (process : Process) × (now ≡ Some process)
  some_process (Rests x y d b f n) = (Ended x y, n)
  some_process (IsOpening x y d b f n) = (Ended x y, n)
  some_process (Lives bot d b n kept) = (Runs bot, n)
  some_process (MakesStep bot event d b n kept told) = (Runs bot, n)

  -- the one that a world shows
  pub process_is : Holding number sent past files now → now ≡ process_in (doing past) (bot_in past) files
  process_is (Rests x y d b f n) = n ∙ sym (shown_by past files Nothing None (HasFiles x y) d b f)
  process_is (IsOpening x y d b f n) = n ∙ sym (shown_by past files (Opening x y) None (HasFiles x y) d b f)
  process_is (Lives bot d b n kept) = n ∙ sym (shown_by past files Nothing (Some bot) files d b refl)
  process_is (MakesStep bot event d b n kept told) = n ∙ sym (shown_by past files (Telling bot event) None files d b refl)

  -- before the process has a bot
  pub rests : HasNoBot past → Holding number sent past files now → (x y : List ℕ) → files ≡ HasFiles x y → now ≡ Some (Ended x y)
  rests none (Rests a c d b f n) x y e = cc
  rests none (IsOpening a c d b f n) x y e = cc
  rests none (Lives bot d b n kept) x y e = absurd (has_none past bot none b)
  rests none (MakesStep bot event d b n kept told) x y e = absurd (no_step past bot event none d)

-- a process has this bot
pub record Has (now : Option Process) (bot : Bot) : Type 0 where
  pub runs : now ≡ Some (Runs bot)
  pub kept : IsKept bot

pub has : {number : ℕ} {sent : List Sent} {past : List Act} {files : Files} {now : Option Process} (bot : Bot)
    → bot_in past ≡ Some bot → Holding number sent past files now → Has now bot
has bot is (Rests x y d b f n) = cc
has bot is (IsOpening x y d b f n) = cc
has bot is (Lives one d b n kept) =
    let same : one ≡ bot = cc in
    record { runs = n ∙ ap (λ (it : Bot). Some (Runs it)) same; kept = subst IsKept same kept }
has bot is (MakesStep one event d b n kept told) = cc

-- ---- after a happening in this folder, or in another one

abbrev later : ℕ → What → List Happening → List Happening
later folder what world = record { folder = folder; what = what } ∷ world

module _ {number : ℕ} {sent : List Sent} {now : Option Process} (folder : ℕ) (what : What) (world : List Happening) where
  pub holding_here : Holding number sent (past_with true what (past_of folder world)) (files_with true what (files_of folder world)) now
      → Holding number sent (past_of folder (later folder what world)) (files_of folder (later folder what world)) now
  holding_here = subst (λ (b : Bool).
      Holding number sent (past_with b what (past_of folder world)) (files_with b what (files_of folder world)) now) (sym (eq-eqb folder folder refl))

  pub holding_there : (other : ℕ) → (folder == other) ≡ false → Holding number sent (past_of other world) (files_of other world) now
      → Holding number sent (past_of other (later folder what world)) (files_of other (later folder what world)) now
  holding_there other e = subst (λ (b : Bool).
      Holding number sent (past_with b what (past_of other world)) (files_with b what (files_of other world)) now) (sym e)

-- ---- a net

-- this net stands for a world that began with `first`
pub record IsNetOf (folders : ℕ → Folder) (leaves : ℕ) (first : Net) (world : List Happening) (w : Net) : Type 0 where
  pub many : length w.processes ≡ leaves + 1
  pub sent : w.packets ≡ sent_in folders world
  pub each : (number : ℕ) → StageBy folders (holder_of folders number world) number (sent_in folders world)
      (slice_get first.processes number) world (slice_get w.processes number)

-- the process that a world shows stands there
pub stage_shows : (folders : ℕ → Folder) (holder : Holder) (number : ℕ) (sent : List Sent) (origin : Option Process)
    (world : List Happening) (now : Option Process) (process : Process) → StageBy folders holder number sent origin world now
    → process_by holder world ≡ Some process → now ≡ Some process
stage_shows folders NoneYet number sent origin world now process at is = cc
stage_shows folders NoneNow number sent origin world now process at is = cc
stage_shows folders (Holds folder) number sent origin world now process at is = process_is at.1 ∙ is

-- ---- what a happening makes of the deeds

-- how the list of accepted changes grows
abbrev pub Growth : Type 1
Growth = List AcceptedChange → List AcceptedChange → Type 0

-- A happening at this bot's process is these few deeds. They lead to these packets, have these steps among them, and
-- accept changes so; they replace no bot that stays. Only the process at the bot's place moves, so that then `P` holds of it.
pub record Becomes (promised : Promised) (w : Net) (who : ℕ) (packets : List Sent) (made : List Deed) (Grows : Growth)
    (StaysHere : ℕ → Type 0) (P : Option Process → Type 0) : Type 0 where
  pub few : List Deed
  pub run : Run promised w few
  pub stays : (bot : ℕ) → StaysHere bot → Stays bot few
  pub steps : steps_of few ≡ made
  pub accepts : (old new : List AcceptedChange) → AcceptInAll few old new → Grows old new
  pub many : length (net_after w few).processes ≡ length w.processes
  pub sent : (net_after w few).packets ≡ packets
  pub others : (other : ℕ) → (other ≡ who → ⊥) → slice_get (net_after w few).processes other ≡ slice_get w.processes other
  pub here : P (slice_get (net_after w few).processes who)

module _ (promised : Promised) (w : Net) (who : ℕ) (Grows : Growth) (StaysHere : ℕ → Type 0) (P : Option Process → Type 0) where
  -- it is none
  pub no_deed : ((old new : List AcceptedChange) → new ≡ old → Grows old new) → P (slice_get w.processes who)
      → Becomes promised w who w.packets [] Grows StaysHere P
  no_deed grows here = record {
    few = [];
    run = tt;
    stays = λ bot stays. tt;
    steps = refl;
    accepts = grows;
    many = refl;
    sent = refl;
    others = λ other no. refl;
    here = here;
  }

  -- it is one, after which this process stands there
  pub one_deed : (packets : List Sent) (deed : Deed) (old process : Process) → slice_get w.processes who ≡ Some old
      → after_deed w deed ≡ record { processes = slice_set w.processes who process; packets = packets } → Happens promised w deed
      → ((bot : ℕ) → StaysHere bot → StaysIn bot deed)
      → ((old new : List AcceptedChange) → AcceptsIn deed old new → Grows old new)
      → P (Some process) → Becomes promised w who packets (step_in deed) Grows StaysHere P
  one_deed packets deed old process at leads happens stays grows here = record {
    few = deed ∷ [];
    run = (happens, tt);
    stays = λ bot is. (stays bot is, tt);
    steps = append-nil (step_in deed);
    accepts = λ before after all. subst (λ (z : List AcceptedChange). Grows before z) (sym all.2) (grows before all.0 all.1);
    many = ap (λ (n : Net). length n.processes) leads ∙ length-set w.processes who process;
    sent = ap (λ (n : Net). n.packets) leads;
    others = λ other no. ap (λ (n : Net). slice_get n.processes other) leads ∙ slice_set-other w.processes who other process no;
    here = subst P (sym (ap (λ (n : Net). slice_get n.processes who) leads ∙ slice_get-set-same w.processes who old process at)) here;
  }
