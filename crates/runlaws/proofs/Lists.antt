-- Lists of deeds and of happenings, one after another.
use Rattle.std.proofs.Common.{◌≡◌, ◌∙◌, ℕ, zero, suc, List, [], ◌∷◌, ◌++◌, slice_get, Some, refl, ap, sym, append_assoc}
use Rattle.procs.specs.Promises.{Promised}
use Rattle.protocol.specs.Packets.{AcceptedChange}
use Rattle.processes.specs.Deeds.{Net, Deed, Made, Died, Opened, Unopened, Replaced, Run, after_deed, net_after, AcceptsIn, Stays}
use Rattle.runlaws.specs.Folders.{Folder, Happening}
use Rattle.runlaws.specs.Worlds.{IsWorld, step_in, steps_of}

-- ---- deeds

pub net_after-append : (w : Net) (deeds more : List Deed) → net_after w (deeds ++ more) ≡ net_after (net_after w deeds) more
net_after-append w [] more = refl
net_after-append w (deed ∷ deeds) more = net_after-append (after_deed w deed) deeds more

pub Run-append : (promised : Promised) (w : Net) (deeds more : List Deed) → Run promised w deeds
    → Run promised (net_after w deeds) more → Run promised w (deeds ++ more)
Run-append promised w [] more run next = next
Run-append promised w (deed ∷ deeds) more run next =
    (run.0, Run-append promised (after_deed w deed) deeds more run.1 next)

pub Stays-append : (bot : ℕ) (deeds more : List Deed) → Stays bot deeds → Stays bot more → Stays bot (deeds ++ more)
Stays-append bot [] more stays next = next
Stays-append bot (deed ∷ deeds) more stays next = (stays.0, Stays-append bot deeds more stays.1 next)

pub steps_of-append : (deeds more : List Deed) → steps_of (deeds ++ more) ≡ steps_of deeds ++ steps_of more
steps_of-append [] more = refl
steps_of-append (deed ∷ deeds) more =
    ap (λ (ds : List Deed). step_in deed ++ ds) (steps_of-append deeds more)
    ∙ sym (append_assoc (step_in deed) (steps_of deeds) (steps_of more))

-- each of the steps among deeds is one of the deeds
pub step_at : (deeds : List Deed) (i : ℕ) (step : Deed) → slice_get (steps_of deeds) i ≡ Some step
    → (place : ℕ) × (slice_get deeds place ≡ Some step)
step_at [] i step at = cc
step_at (Made bot made ∷ deeds) zero step at = (zero, at)
step_at (Made bot made ∷ deeds) (suc i) step at = let it = step_at deeds i step at in (suc it.0, it.1)
step_at (Died bot was doing first second ∷ deeds) i step at = let it = step_at deeds i step at in (suc it.0, it.1)
step_at (Opened bot after ∷ deeds) i step at = let it = step_at deeds i step at in (suc it.0, it.1)
step_at (Unopened bot first second ∷ deeds) i step at = let it = step_at deeds i step at in (suc it.0, it.1)
step_at (Replaced leaf after ∷ deeds) i step at = let it = step_at deeds i step at in (suc it.0, it.1)

-- these deeds, one after another, accept what makes the one list of the other
abbrev pub AcceptInAll : List Deed → List AcceptedChange → List AcceptedChange → Type 0
AcceptInAll [] old new = new ≡ old
AcceptInAll (deed ∷ deeds) old new = (mid : List AcceptedChange) × AcceptsIn deed old mid × AcceptInAll deeds mid new

-- ---- worlds

-- what had happened before is a world too
pub IsWorld-before : (promised : Promised) (folders : ℕ → Folder) (leaves : ℕ) (first : Net) (more world : List Happening)
    → IsWorld promised folders leaves first (more ++ world) → IsWorld promised folders leaves first world
IsWorld-before promised folders leaves first [] world is = is
IsWorld-before promised folders leaves first (h ∷ more) world is = IsWorld-before promised folders leaves first more world is.2
