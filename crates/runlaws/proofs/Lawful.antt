-- In a world each process does only what is lawful.
use Rattle.std.proofs.Common.{◌≡◌, ◌==◌, ℕ, Bool, true, false, List, [], ◌∷◌, refl, sym, subst, eq-eqb, eqb-true}
use Rattle.procs.specs.Promises.{Promised}
use Rattle.botcore.specs.Bots.{Bot}
use Rattle.watching.specs.Acts.{Act, Began, May}
use Rattle.watching.specs.Following.{Follows, IsLawful}
use Rattle.watching.specs.Following.Follows.{so_far, more}
use Rattle.processes.specs.Deeds.{Net}
use Rattle.runlaws.specs.Folders.{Folder, What, Does, Takes, Happening, past_with, past_of}
use Rattle.runlaws.specs.Worlds.{IsLawfulIn, IsWorld, station}

-- ---- the past of a process

past_of_act : {law : List Act → Act → Type 0} (act : Act) (past : List Act) → Follows law [] (act ∷ past) → law past act
past_of_act act past (more far lawful) = lawful

module _ (promised : Promised) (folders : ℕ → Folder) (leaves : ℕ) (folder : ℕ) (world : List Happening) where
  -- an act is lawful after those before it
  abbrev pub MayNow : Act → Type 0
  MayNow act = May promised (folders folder).names (station leaves (folders folder).number) (past_of folder world) act

  last_act : (what : What) (act : Act) → past_with true what (past_of folder world) ≡ act ∷ past_of folder world
      → IsLawfulIn promised folders leaves folder (record { folder = folder; what = what } ∷ world) → MayNow act
  last_act what act is lawful =
      past_of_act act (past_of folder world)
      (subst (λ (past : List Act). IsLawful promised (folders folder).names (station leaves (folders folder).number) past) is
      (subst (λ (b : Bool). IsLawful promised (folders folder).names (station leaves (folders folder).number)
      (past_with b what (past_of folder world))) (eq-eqb folder folder refl) lawful))

  pub act_may : (act : Act) → IsLawfulIn promised folders leaves folder (record { folder = folder; what = Does act } ∷ world) → MayNow act
  act_may act lawful = last_act (Does act) act refl lawful

  pub begun_may : (bot : Bot) → IsLawfulIn promised folders leaves folder (record { folder = folder; what = Takes bot } ∷ world)
      → MayNow (Began bot)
  begun_may bot lawful = last_act (Takes bot) (Began bot) refl lawful

-- ---- a world

pub pasts_lawful : (promised : Promised) (folders : ℕ → Folder) (leaves : ℕ) (first : Net) (world : List Happening)
    → IsWorld promised folders leaves first world → (folder : ℕ) → IsLawfulIn promised folders leaves folder world
pasts_lawful promised folders leaves first [] is folder = so_far
pasts_lawful promised folders leaves first (h ∷ world) is folder =
    by (h.folder == folder) refl (pasts_lawful promised folders leaves first world is.2 folder)
  where
    by : (here : Bool) → (h.folder == folder) ≡ here → IsLawfulIn promised folders leaves folder world
        → IsLawfulIn promised folders leaves folder (h ∷ world)
    by true e rest = subst (λ (f : ℕ). IsLawfulIn promised folders leaves f (h ∷ world)) (eqb-true h.folder folder e) is.0
    by false e rest = subst (λ (b : Bool). IsLawful promised (folders folder).names (station leaves (folders folder).number)
        (past_with b h.what (past_of folder world))) (sym e) rest
