-- Settings that are read again are of the same bot, and what stays the same.
use Rattle.std.proofs.Common.{◌≡◌, ℕ, List, subst, sym}
use Rattle.settings.specs.declared.settings.Station.{Station as SettingStation}
use Rattle.sharelink.specs.declared.answer.Outgoing.{Outgoing}
use Rattle.procs.specs.Promises.{Promised}
use Rattle.botcore.specs.Bots.{Bot}
use Rattle.watching.specs.Acts.{Act, Station, sent_by}
use Rattle.watching.specs.Following.{IsUp}

-- what holds of the station of the old settings holds of that of the new
pub at_station : (P : Station → Type 0) (old new : SettingStation) → new ≡ old
    → P (record { number = old.number; leaves = old.leaves }) → P (record { number = new.number; leaves = new.leaves })
at_station P old new same =
    subst (λ (station : SettingStation). P (record { number = station.number; leaves = station.leaves })) (sym same)

-- what holds of a bot and of what its connections were told holds of the same bot, and of connections that were told the
-- same
pub up_same : (promised : Promised) (names : List (List ℕ)) (station : Station) (may : List Act → Act → Type 0) (past : List Act)
    (old new : Bot) (told told' : List Outgoing) → new ≡ old → told' ≡ told
    → IsUp promised names station may past old told → IsUp promised names station may past new told'
up_same promised names station may past old new told told' same kept up =
    subst (λ (bot : Bot). IsUp promised names station may past bot told') (sym same)
    (subst (λ (t : List Outgoing). IsUp promised names station may past old t) (sym kept) up)

-- what holds after a past holds after the same past, of connections that were told what it says
pub up_at : (promised : Promised) (names : List (List ℕ)) (station : Station) (may : List Act → Act → Type 0) (past new : List Act)
    (bot : Bot) (told : List Outgoing) → new ≡ past → told ≡ sent_by new
    → IsUp promised names station may past bot (sent_by past) → IsUp promised names station may new bot told
up_at promised names station may past new bot told same says up =
    subst (λ (t : List Outgoing). IsUp promised names station may new bot t) (sym says)
    (subst (λ (p : List Act). IsUp promised names station may p bot (sent_by p)) (sym same) up)
