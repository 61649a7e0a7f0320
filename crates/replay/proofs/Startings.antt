-- The bots of a script are good, new and in order.
use Rattle.std.proofs.Common.{◌≡◌, inl, inr, ℕ, zero, suc, ◌+◌, ◌<◌, ◌≤◌, ◌^◌, ◌%◌, Bool, true, ◌&&◌, ◌==◌, not, nat_le, List, [], ◌∷◌, ◌++◌, length, slice_get, slice_index}
use Rattle.std.proofs.Common.{refl, sym, ap, subst, ◌∙◌, arith, Some, decimal, codes, length-append, zero-add}
use Rattle.std.specs.List.{list_all}
use Rattle.std.proofs.lemmas.Bool.Decides.{nat_tests}
use Rattle.std.proofs.lemmas.List.Folds.{list_all-append}
use Rattle.std.proofs.lemmas.Fmt.{decimal_by_steps, length-decimal-le}
use Rattle.sharelink.specs.declared.TheConstants.{MAX_LEAVES}
use Rattle.bytetext.specs.declared.failure.Failure.{Failure}
use Rattle.bytetext.specs.declared.failure.Failure.TheVariants.{Refused}
use Rattle.disks.specs.State.{Rose}
use Rattle.bytejournal.specs.declared.fault.JournalFault.{JournalFault}
use Rattle.bytejournal.specs.declared.fault.JournalFault.TheVariants.{DiskFault, NotAJournal, Spent, GenerationsSpent}
use Rattle.bytejournal.specs.Opening.{CannotCreate}
use Rattle.botjournal.specs.Ledger.{Device}
use Rattle.disks.specs.Memory.{Memory}
use Rattle.bottimers.specs.Zones.{TzText}
use Rattle.botcore.specs.declared.limits.TheConstants.{MAX_NICK}
use Rattle.botcore.specs.declared.config.Config.{Config}
use Rattle.botcore.specs.declared.fault.BotFault.{BotFault}
use Rattle.botcore.specs.declared.fault.BotFault.TheVariants.{BadConfig, Journal}
use Rattle.botcore.specs.Bots.{Bot, new_bot}
use Rattle.botcore.specs.Making.{NotMade}
use Rattle.botcore.specs.Configs.{IsGood, is_nick, is_nick_byte}
use Rattle.botworld.specs.Network.{AllNew, AreNumbered}
use Rattle.replay.specs.Starting.{config_of, bots_from, AreNew}
use Rattle.replay.specs.Steady.{steady_state}

-- nicks -----------------------------------------------------------------------------------------------------------------

is_nick_byte-digit : (d : ℕ) → d < 10 → is_nick_byte (48 + d) ≡ true
is_nick_byte-digit d h = grind (arith, nat_tests)

-- each byte of a number is one
decimal_nick_bytes : (n : ℕ) → n < 2 ^ 64 → list_all is_nick_byte (decimal n) ≡ true
decimal_nick_bytes n small = decimal_by_steps (λ m ds. list_all is_nick_byte ds ≡ true) one more n small
  where
    one : (m : ℕ) → m < 10 → list_all is_nick_byte ((48 + m) ∷ []) ≡ true
    one m h = ap (λ (b : Bool). b && true) (is_nick_byte-digit m h)

    more : (m : ℕ) (ds : List ℕ) → 10 ≤ m → list_all is_nick_byte ds ≡ true → list_all is_nick_byte (ds ++ ((48 + m % 10) ∷ [])) ≡ true
    more m ds h all = list_all-append is_nick_byte ds ((48 + m % 10) ∷ [])
        ∙ ap (λ (b : Bool). b && (is_nick_byte (48 + m % 10) && true)) all ∙ ap (λ (b : Bool). b && true) (is_nick_byte-digit (m % 10) (omega arith))

all_four : (a b c d : Bool) → a ≡ true → b ≡ true → c ≡ true → d ≡ true → (a && (b && (c && d))) ≡ true
all_four a b c d p q r s = ap (λ (x : Bool). x && (b && (c && d))) p ∙ ap (λ (x : Bool). x && (c && d)) q ∙ ap (λ (x : Bool). x && d) r ∙ s

nat_le-true : (m n : ℕ) → m ≤ n → nat_le m n ≡ true
nat_le-true m n h = grind (arith, nat_tests)

-- egg and a number is a nick
is_nick-egg : (n : ℕ) → n ≤ MAX_LEAVES → is_nick (codes "egg" ++ decimal n) ≡ true
is_nick-egg n few =
    let nick = codes "egg" ++ decimal n in
    let short : length (decimal n) ≤ 5 = length-decimal-le 5 n (omega arith) (omega arith) (omega arith) in
    let count : length nick ≡ 3 + length (decimal n) = length-append (codes "egg") (decimal n) in
    let bytes : list_all is_nick_byte nick ≡ true = decimal_nick_bytes n (omega arith) in
    all_four (nat_le 1 (length nick)) (nat_le (length nick) MAX_NICK) (not (slice_index nick 0 == 58)) (list_all is_nick_byte nick)
    (nat_le-true 1 (length nick) (omega arith)) (nat_le-true (length nick) MAX_NICK (omega arith)) refl bytes

pub IsGood-config : (leaves : ℕ) (zone : TzText) (number : ℕ) → leaves ≤ MAX_LEAVES → number ≤ leaves → IsGood (config_of leaves zone number)
IsGood-config leaves zone number few within = record {
  few = few;
  numbered = within;
  nick = is_nick-egg number (omega arith);
  channels = refl;
}

-- a disk that never fails has not failed
never_rose : Rose 0 0 → ⊥
never_rose (inl less) = omega (arith, less)
never_rose (inr last) = omega (arith, last)

never_faulty : (first second first' second' : Memory) (fault : JournalFault)
    → CannotCreate (steady_state first) (steady_state second) (Refused fault) (steady_state first') (steady_state second') → ⊥
never_faulty first second first' second' DiskFault (inl rose) = never_rose rose
never_faulty first second first' second' DiskFault (inr rose) = never_rose rose
never_faulty first second first' second' NotAJournal never = never
never_faulty first second first' second' Spent never = never
never_faulty first second first' second' GenerationsSpent never = never

-- so no bot of a script is refused
never_refused_for : (leaves : ℕ) (zone : TzText) (number : ℕ) (config : Config) (fault : BotFault)
    (first second first' second' : Memory) → leaves ≤ MAX_LEAVES
    → number ≤ leaves → config ≡ config_of leaves zone number → NotMade steady_state config first second (Refused fault) first' second' → ⊥
never_refused_for leaves zone number config BadConfig first second first' second' few within is bad =
    bad.0 (subst IsGood (sym is) (IsGood-config leaves zone number few within))
never_refused_for leaves zone number config (Journal fault) first second first' second' few within is bad =
    never_faulty first second first' second' fault bad.1

pub never_refused : (leaves : ℕ) (zone : TzText) (number : ℕ) (config : Config) (error : Failure BotFault)
    (fault : BotFault) (first second first' second' : Memory)
    → leaves ≤ MAX_LEAVES → number ≤ leaves → config ≡ config_of leaves zone number → error ≡ Refused fault
    → NotMade steady_state config first second error first' second' → ⊥
never_refused leaves zone number config error fault first second first' second' few within is told bad =
    never_refused_for leaves zone number config fault first second first' second' few within is
    (subst (λ (e : Failure BotFault). NotMade steady_state config first second e first' second') told bad)

-- bots ------------------------------------------------------------------------------------------------------------------

bots_from-at : (leaves : ℕ) (zone : TzText) (first : ℕ) (devices : List Device) (place : ℕ) (b : Bot)
    → slice_get (bots_from leaves zone first devices) place ≡ Some b
    → b ≡ new_bot (config_of leaves zone (first + place)) b.link.device
bots_from-at leaves zone first [] place b e = cc
bots_from-at leaves zone first (f ∷ fs) zero b e =
    let same : first + 0 ≡ first = omega arith in
    let here : new_bot (config_of leaves zone first) f ≡ b = cc in
    sym here ∙ ap (λ n. new_bot (config_of leaves zone n) f) (sym same)
    ∙ ap (new_bot (config_of leaves zone (first + 0))) (ap (λ (x : Bot). x.link.device) here)
bots_from-at leaves zone first (f ∷ fs) (suc place) b e =
    let same : first + 1 + place ≡ first + suc place = omega arith in
    bots_from-at leaves zone (first + 1) fs place b e ∙ ap (λ n. new_bot (config_of leaves zone n) b.link.device) same

length-bots_from : (leaves : ℕ) (zone : TzText) (first : ℕ) (devices : List Device) → length (bots_from leaves zone first devices) ≡ length devices
length-bots_from leaves zone first [] = refl
length-bots_from leaves zone first (f ∷ fs) = ap suc (length-bots_from leaves zone (first + 1) fs)

-- one bot more
bots_from-more : (leaves : ℕ) (zone : TzText) (first : ℕ) (devices : List Device) (f : Device)
    → bots_from leaves zone first (devices ++ f ∷ [])
    ≡ bots_from leaves zone first devices ++ new_bot (config_of leaves zone (first + length devices)) f ∷ []
bots_from-more leaves zone first [] f = let same : first + 0 ≡ first = omega arith in ap (λ n. new_bot (config_of leaves zone n) f ∷ []) (sym same)
bots_from-more leaves zone first (g ∷ gs) f =
    let same : first + 1 + length gs ≡ first + suc (length gs) = omega arith in
    ap (λ (l : List Bot). new_bot (config_of leaves zone first) g ∷ l) (bots_from-more leaves zone (first + 1) gs f)
    ∙ ap (λ n. new_bot (config_of leaves zone first) g ∷ (bots_from leaves zone (first + 1) gs ++ new_bot (config_of leaves zone n) f ∷ [])) same

-- none, and one more
pub AreNew-none : (leaves : ℕ) (zone : TzText) (bots : List Bot) → bots ≡ [] → AreNew leaves zone 0 bots
AreNew-none leaves zone bots none = record { devices = []; each = refl; are = none }

pub AreNew-next : (leaves : ℕ) (zone : TzText) (count : ℕ) (bots new : List Bot) (b : Bot) → AreNew leaves zone count bots
    → b ≡ new_bot (config_of leaves zone count) b.link.device
    → new ≡ bots ++ b ∷ [] → AreNew leaves zone (count + 1) new
AreNew-next leaves zone count bots new b old same added =
    let f = b.link.device in
    let here : 0 + length old.devices ≡ count = zero-add (length old.devices) ∙ old.each in
    record {
      devices = old.devices ++ f ∷ [];
      each = length-append old.devices (f ∷ []) ∙ ap (λ n. n + 1) old.each;
      are = added ∙ ap (λ (l : List Bot). l ++ b ∷ []) old.are ∙ ap (λ (x : Bot). bots_from leaves zone 0 old.devices ++ x ∷ []) same
          ∙ ap (λ n. bots_from leaves zone 0 old.devices ++ new_bot (config_of leaves zone n) f ∷ []) (sym here) ∙ sym (bots_from-more leaves zone 0 old.devices f);
    }

pub AreNew-all_new : (leaves : ℕ) (zone : TzText) (count : ℕ) (bots : List Bot) → AreNew leaves zone count bots → AllNew bots
AreNew-all_new leaves zone count bots are = λ place b e.
    let same = bots_from-at leaves zone 0 are.devices place b (ap (λ (l : List Bot). slice_get l place) (sym are.are) ∙ e) in
    same ∙ ap (λ (c : Config). new_bot c b.link.device) (sym (ap (λ (x : Bot). x.config) same))

pub AreNew-numbered : (leaves : ℕ) (zone : TzText) (bots : List Bot) → AreNew leaves zone (leaves + 1) bots → AreNumbered bots
AreNew-numbered leaves zone bots are =
    let count : length bots ≡ leaves + 1 = ap length are.are ∙ length-bots_from leaves zone 0 are.devices ∙ are.each in
    record {
      hub = omega (arith, count);
      each = λ place b e.
          let here = bots_from-at leaves zone 0 are.devices place b (ap (λ (l : List Bot). slice_get l place) (sym are.are) ∙ e) in
          record {
            number = ap (λ (x : Bot). x.config.number) here ∙ zero-add place;
            leaves = ap (λ (x : Bot). x.config.leaves + 1) here ∙ sym count;
          };
    }
