-- What it is among the deeds that a folder takes the number of its bot.
use Rattle.std.proofs.Common.{◌≡◌, ◌∙◌, ◌+◌, inl, ℕ, Bool, true, false, List, [], ◌∷◌, slice_get, Option, Some, refl, ap, sym, subst}
use Rattle.std.proofs.lemmas.Option.{slice_get_within}
use Rattle.procs.specs.Promises.{Promised}
use Rattle.sharelink.specs.Telling.{end_last_request}
use Rattle.botcore.specs.Bots.{Bot}
use Rattle.watching.specs.Acts.{IsBotOf, IsKept}
use Rattle.processes.specs.Deeds.{Process, Runs, Net, Deed, Replaced, IsHubEnd, IsReplaced, AtMostOneMore, answered}
use Rattle.runlaws.specs.Calls.{Doing, doing}
use Rattle.runlaws.specs.Folders.{Folder, Takes, Happening, Holder, NoneYet, NoneNow, Holds, past_of, is_holder, holder_of}
use Rattle.runlaws.specs.Worlds.{kept_by, sent_in, step_by, StaysBy, IsRenewed, IsNext, station}
use Rattle.runlaws.proofs.Stages.{Lives, StageBy, IsNetOf, stage_shows, some_process, holding_here, Becomes, no_deed, one_deed}

-- a folder that takes its number makes no step
none_stepped : (folders : ℕ → Folder) (holding : Bool) (folder : ℕ) (call : Doing) (bot : Bot)
    → [] ≡ step_by folders holding folder call (Takes bot)
none_stepped folders true folder call bot = refl
none_stepped folders false folder call bot = refl

module _ (promised : Promised) (folders : ℕ → Folder) (leaves : ℕ) (first w : Net) (world : List Happening) (folder : ℕ)
    (net : IsNetOf folders leaves first world w) (bot : Bot) (of : IsBotOf (station leaves (folders folder).number) bot) (kept : IsKept bot) where
  abbrev number : ℕ
  number = (folders folder).number

  abbrev Stands : Holder → Option Process → Type 0
  Stands holder = StageBy folders (Holds folder) number (kept_by holder number bot (sent_in folders world))
      (slice_get first.processes number) (record { folder = folder; what = Takes bot } ∷ world)

  abbrev TakesBy : Holder → List Deed → Type 0
  TakesBy holder made = Becomes promised w number (kept_by holder number bot w.packets) made AtMostOneMore
      (StaysBy (Takes bot) number) (Stands holder)

  -- it runs there from now on
  runs : (holder : Holder) → Stands holder (Some (Runs bot))
  runs holder = (refl, holding_here folder (Takes bot) world (Lives bot refl refl refl kept))

  first_takes : slice_get w.processes number ≡ Some (Runs bot) → TakesBy NoneYet []
  first_takes at = no_deed promised w number AtMostOneMore (StaysBy (Takes bot) number) (Stands NoneYet) (λ old new same. inl same)
      (subst (Stands NoneYet) (sym at) (runs NoneYet))

  -- ---- a bot that is renewed

  module _ (process : Process) (at : slice_get w.processes number ≡ Some process) (renewed : IsRenewed folders leaves number world bot) where
    replaces : IsReplaced w number bot
    replaces = record {
      hub = renewed.hub;
      end = renewed.end;
      at = stage_shows folders (holder_of folders 0 world) 0 (sent_in folders world) (slice_get first.processes 0) world
          (slice_get w.processes 0) renewed.hub (net.each 0) renewed.at;
      has = subst (λ (bots : ℕ). IsHubEnd bots renewed.hub renewed.end) (sym net.many) renewed.has;
      above = renewed.above;
      within = slice_get_within w.processes number process at;
      number = of.0;
      leaves = ap (λ (n : ℕ). n + 1) of.1 ∙ sym net.many;
      made = renewed.made;
    }

    now_takes : TakesBy NoneNow []
    now_takes = one_deed promised w number AtMostOneMore (StaysBy (Takes bot) number) (Stands NoneNow)
        (answered number (end_last_request bot.link.end) w.packets) (Replaced number bot) process (Runs bot) at refl replaces
        (λ other stays. stays) (λ old new grows. grows) (runs NoneNow)

    next_takes : (other : ℕ) → TakesBy (Holds other) []
    next_takes other = one_deed promised w number AtMostOneMore (StaysBy (Takes bot) number) (Stands (Holds other))
        (answered number (end_last_request bot.link.end) w.packets) (Replaced number bot) process (Runs bot) at refl replaces
        (λ other stays. stays) (λ old new grows. grows) (runs (Holds other))

  pub takes_goes : (holder : Holder) → IsNext promised folders leaves first holder number world bot
      → StageBy folders holder number (sent_in folders world) (slice_get first.processes number) world (slice_get w.processes number)
      → TakesBy holder (step_by folders (is_holder folder holder) folder (doing (past_of folder world)) (Takes bot))
  takes_goes holder next at =
      subst (TakesBy holder) (none_stepped folders (is_holder folder holder) folder (doing (past_of folder world)) bot) (by holder next at)
    where
      by : (holder : Holder) → IsNext promised folders leaves first holder number world bot
          → StageBy folders holder number (sent_in folders world) (slice_get first.processes number) world (slice_get w.processes number)
          → TakesBy holder []
      by NoneYet next at = first_takes (at ∙ next)
      by NoneNow next at = now_takes at.0 at.1 next
      by (Holds other) next at = let stands = some_process at.1 in next_takes stands.0 stands.1 next other
