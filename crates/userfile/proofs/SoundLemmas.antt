-- A change that isn't refused leaves records that stand together and are of good shape.
use Rattle.std.proofs.Common.{◌≡◌, ℕ, suc, ◌+◌, ◌≤◌, ◌==◌, nat_lt, Bool, true, false, cond, not, ◌&&◌, ◌||◌, List, [], ◌∷◌}
use Rattle.std.proofs.Common.{◌++◌, length, filter, Option, None, Some, is_some, refl, ap, sym, subst, ◌∙◌, arith}
use Rattle.std.proofs.Common.{ltb-false, ltb-true, le-ltb, length-append}
use Rattle.std.specs.List.{list_any, list_all}
use Rattle.rfccase.specs.Casemapping.{is_same}
use Rattle.rfccase.specs.Channels.{is_channel_name}
use Rattle.userfile.specs.Records.{Records}
use Rattle.userfile.specs.Shapes.{is_handle, is_ban_channel, is_comment, is_info}
use Rattle.userfile.specs.Apply.{fault_if, fault_unless, first_of_two, bad_edit, of_user, add_mask_fault, set_channel_fault, not_taken}
use Rattle.userfile.specs.Apply.{edit_refusal, new_user, with_mask, without_mask, with_global, set_channel, with_channel, with_bot, with_info, user_edited, new_ban}
use Rattle.userfile.specs.Apply.{marked, with_sticky, edit_made}
use Rattle.userfile.specs.Held.{user_of, with_user, entry_of, has_entry, entries_without, with_entry, is_ban, has_ban}
use Rattle.userfile.specs.Together.{repeats_channel, is_entry, is_user, is_good_ban, repeats_handle, repeats_mask, repeats_ban, is_over}
use Rattle.userfile.specs.Together.{records_fault, AreSound}
use Rattle.userfile.specs.declared.user.User.{User}
use Rattle.userfile.specs.declared.channel_flags.ChannelFlags.{ChannelFlags}
use Rattle.userfile.specs.declared.ban.Ban.{Ban}
use Rattle.userfile.specs.Apply.{refusal, changed, bad_asker, bad_shape, no_right, over_share, not_allowed}
use Rattle.userfile.specs.declared.change.Change.{Change}
use Rattle.userfile.specs.declared.edit.Edit.{Edit}
use Rattle.userfile.specs.declared.edit.Edit.TheVariants.{AddUser, DelUser, AddHost, DelHost, SetGlobal, SetChan, SetBot, AddBan, DelBan, SetInfo, SetSticky}
use Rattle.userfile.specs.declared.error.ChangeFault.{ChangeFault}
use Rattle.rfccase.proofs.SameLemmas.{is_same-sym, is_same-left}
use Rattle.userfile.proofs.RepeatLemmas.{or_false, or_both, and_true, and_both, list_all-filter, list_all-push, length-filter-le}
use Rattle.userfile.proofs.RepeatLemmas.{is_some-find, repeats-filter, repeats-push}

-- ---- refusals that don't hold

pub first_none : {a b : Option ChangeFault} → first_of_two a b ≡ None → (a ≡ None) × (b ≡ None)
first_none {a = None} e = (refl, e)
first_none {a = Some f} e = cc

pub if_none : {t : Bool} (f : ChangeFault) → fault_if t f ≡ None → t ≡ false
if_none {t = true} f e = cc
if_none {t = false} f e = refl

pub unless_none : {t : Bool} (f : ChangeFault) → fault_unless t f ≡ None → t ≡ true
unless_none {t = true} f e = refl
unless_none {t = false} f e = cc

of_user_none : (o : Option User) (test : User → Option ChangeFault) → of_user o test ≡ None → (u : User) → o ≡ Some u → test u ≡ None
of_user_none None test e u at = cc
of_user_none (Some v) test e u at = let same : v ≡ u = cc in subst (λ w. test w ≡ None) same e

not_true : {a : Bool} → not a ≡ true → a ≡ false
not_true {a = true} e = cc
not_true {a = false} e = refl

-- ---- a user's channels

names : List ℕ → List ChannelFlags → Bool
names channel es = list_any (λ e. is_same channel e.channel) es

names-like : (a b : List ℕ) (es : List ChannelFlags) → is_same a b ≡ true
    → list_any (λ (e : ChannelFlags). is_same a e.channel) es ≡ list_any (λ (e : ChannelFlags). is_same b e.channel) es
names-like a b [] e = refl
names-like a b (x ∷ es) e =
    ap (λ t. t || list_any (λ (e : ChannelFlags). is_same a e.channel) es) (is_same-left a b x.channel e)
    ∙ ap (λ t. is_same b x.channel || t) (names-like a b es e)

names-with_entry : (k : List ℕ) (entry : ChannelFlags) (es : List ChannelFlags) → is_same k entry.channel ≡ false
    → list_any (λ (e : ChannelFlags). is_same k e.channel) es ≡ false
    → list_any (λ (e : ChannelFlags). is_same k e.channel) (with_entry entry es) ≡ false
names-with_entry k entry [] other h = or_both other refl
names-with_entry k entry (x ∷ es) other h = by (is_same entry.channel x.channel) (names-with_entry k entry es other (or_false h).1)
  where
    by : (b : Bool) → list_any (λ (e : ChannelFlags). is_same k e.channel) (with_entry entry es) ≡ false
        → list_any (λ (e : ChannelFlags). is_same k e.channel) (cond b (entry ∷ es) (x ∷ with_entry entry es)) ≡ false
    by true r = or_both other (or_false h).1
    by false r = or_both (or_false h).0 r

repeats-with_entry : (entry : ChannelFlags) (es : List ChannelFlags) → repeats_channel es ≡ false → repeats_channel (with_entry entry es) ≡ false
repeats-with_entry entry [] r = refl
repeats-with_entry entry (x ∷ es) r = by (is_same entry.channel x.channel) refl (repeats-with_entry entry es (or_false r).1)
  where
    by : (b : Bool) → is_same entry.channel x.channel ≡ b → repeats_channel (with_entry entry es) ≡ false
        → repeats_channel (cond b (entry ∷ es) (x ∷ with_entry entry es)) ≡ false
    by true e rest = or_both (names-like entry.channel x.channel es e ∙ (or_false r).0) (or_false r).1
    by false e rest = or_both (names-with_entry x.channel entry es (is_same-sym x.channel entry.channel ∙ e) (or_false r).0) rest

list_all-with_entry : (entry : ChannelFlags) (es : List ChannelFlags) → is_entry entry ≡ true → list_all is_entry es ≡ true
    → list_all is_entry (with_entry entry es) ≡ true
list_all-with_entry entry [] g e = and_both g refl
list_all-with_entry entry (x ∷ es) g e = by (is_same entry.channel x.channel) (list_all-with_entry entry es g (and_true e).1)
  where
    by : (b : Bool) → list_all is_entry (with_entry entry es) ≡ true → list_all is_entry (cond b (entry ∷ es) (x ∷ with_entry entry es)) ≡ true
    by true r = and_both g (and_true e).1
    by false r = and_both (and_true e).0 r

-- an entry that is there is replaced, so that there are no more; else there is one more
length-with_entry : (entry : ChannelFlags) (es : List ChannelFlags)
    → (has_entry entry.channel es ≡ true → length (with_entry entry es) ≡ length es) × (length (with_entry entry es) ≤ length es + 1)
length-with_entry entry [] = (λ e. cc, omega arith)
length-with_entry entry (x ∷ es) = by (is_same entry.channel x.channel) (length-with_entry entry es)
  where
    by : (b : Bool) → (has_entry entry.channel es ≡ true → length (with_entry entry es) ≡ length es) × (length (with_entry entry es) ≤ length es + 1)
        → (is_some (cond b (Some x) (entry_of entry.channel es)) ≡ true → length (cond b (entry ∷ es) (x ∷ with_entry entry es)) ≡ suc (length es))
        × (length (cond b (entry ∷ es) (x ∷ with_entry entry es)) ≤ suc (length es) + 1)
    by true r = (λ e. refl, omega arith)
    by false r = (λ e. ap suc (r.0 e), omega (arith, r.1))

record AreGoodEntries (es : List ChannelFlags) : Type 0 where
  good : list_all is_entry es ≡ true
  apart : repeats_channel es ≡ false
  within : length es ≤ 16

entries-set_channel : (channel : List ℕ) (flags : ℕ) (es : List ChannelFlags) → is_channel_name channel ≡ true
    → (flags == 0 || has_entry channel es || nat_lt (length es) 16) ≡ true → AreGoodEntries es → AreGoodEntries (set_channel channel flags es)
entries-set_channel channel flags es named room g = by (flags == 0) refl room
  where
    entry : ChannelFlags
    entry = record { channel = channel; flags = flags }

    more : (b : Bool) → has_entry channel es ≡ b → (b || nat_lt (length es) 16) ≡ true
        → length (with_entry (record { channel = channel; flags = flags }) es) ≤ 16
    more true e r = omega (arith, (length-with_entry (record { channel = channel; flags = flags }) es).0 e, g.within)
    more false e r = omega (arith, (length-with_entry (record { channel = channel; flags = flags }) es).1, ltb-true (length es) 16 r)

    by : (b : Bool) → (flags == 0) ≡ b → (b || has_entry channel es || nat_lt (length es) 16) ≡ true
        → AreGoodEntries (cond b (entries_without channel es) (with_entry (record { channel = channel; flags = flags }) es))
    by true e r = record {
      good = list_all-filter is_entry (λ x. not (is_same channel x.channel)) es g.good;
      apart = repeats-filter (λ (a b : ChannelFlags). is_same a.channel b.channel) (λ x. not (is_same channel x.channel)) es g.apart;
      within = omega (arith, g.within, length-filter-le (λ (x : ChannelFlags). not (is_same channel x.channel)) es);
    }
    by false e r = record {
      good = list_all-with_entry (record { channel = channel; flags = flags }) es (and_both named (ap not e)) g.good;
      apart = repeats-with_entry (record { channel = channel; flags = flags }) es g.apart;
      within = more (has_entry channel es) refl r;
    }

-- ---- one user

record IsSoundUser (u : User) : Type 0 where
  handle : is_handle u.handle ≡ true
  channels : AreGoodEntries u.channels
  apart : repeats_mask u.masks ≡ false
  within : length u.masks ≤ 16
  info : is_info u.info ≡ true

sound_user : (u : User) → is_user u ≡ true → repeats_mask u.masks ≡ false → is_over u ≡ false → IsSoundUser u
unfolding is_user
sound_user u good apart over = record {
  handle = (and_true (and_true (and_true good).0).0).0;
  channels = record {
    good = (and_true (and_true (and_true good).0).0).1;
    apart = not_true (and_true (and_true good).0).1;
    within = ltb-false 16 (length u.channels)
        (or_false over).1;
  };
  apart = apart;
  within = ltb-false 16 (length u.masks) (or_false over).0;
  info = (and_true good).1;
}

good_of : (u : User) → IsSoundUser u → is_user u ≡ true
unfolding is_user
good_of u s = and_both (and_both (and_both s.handle s.channels.good) (ap not s.channels.apart)) s.info

within_of : (u : User) → IsSoundUser u → is_over u ≡ false
within_of u s = or_both (le-ltb 16 (length u.masks) s.within) (le-ltb 16 (length u.channels) s.channels.within)

sound-new_user : (handle : List ℕ) → is_handle handle ≡ true → IsSoundUser (new_user handle)
unfolding is_info
sound-new_user handle good = record {
  handle = good;
  channels = record { good = refl; apart = refl; within = omega arith };
  apart = refl;
  within = omega arith;
  info = refl;
}

sound-with_mask : (mask : List ℕ) (u : User) → add_mask_fault mask u ≡ None → IsSoundUser u → IsSoundUser (with_mask mask u)
sound-with_mask mask u free s =
    let n = first_none free in
    let room = ltb-true (length u.masks) 16 (unless_none _ n.1) in
    record {
      handle = s.handle;
      channels = s.channels;
      apart = repeats-push is_same is_same-sym u.masks mask s.apart (if_none _ n.0);
      within = omega
          (arith, room, length-append u.masks (mask ∷ []));
      info = s.info;
    }

sound-without_mask : (mask : List ℕ) (u : User) → IsSoundUser u → IsSoundUser (without_mask mask u)
sound-without_mask mask u s = record {
  handle = s.handle;
  channels = s.channels;
  apart = repeats-filter is_same (λ m. not (is_same mask m)) u.masks s.apart;
  within = omega (arith, s.within, length-filter-le (λ m. not (is_same mask m)) u.masks);
  info = s.info;
}

sound-with_global : (flags : ℕ) (u : User) → IsSoundUser u → IsSoundUser (with_global flags u)
sound-with_global flags u s = record { handle = s.handle; channels = s.channels; apart = s.apart; within = s.within; info = s.info }

sound-with_channel : (channel : List ℕ) (flags : ℕ) (u : User) → is_channel_name channel ≡ true → set_channel_fault channel flags u ≡ None → IsSoundUser u
    → IsSoundUser (with_channel channel flags u)
sound-with_channel channel flags u named free s = record {
  handle = s.handle;
  channels = entries-set_channel channel flags u.channels named
      (unless_none _ free) s.channels;
  apart = s.apart;
  within = s.within;
  info = s.info;
}

sound-with_bot : (flags : ℕ) (u : User) → IsSoundUser u → IsSoundUser (with_bot flags u)
sound-with_bot flags u s = record { handle = s.handle; channels = s.channels; apart = s.apart; within = s.within; info = s.info }

sound-with_info : (info : List ℕ) (u : User) → is_info info ≡ true → IsSoundUser u → IsSoundUser (with_info info u)
sound-with_info info u good s = record { handle = s.handle; channels = s.channels; apart = s.apart; within = s.within; info = good }

-- ---- all users

abbrev AreSoundUsers : List User → Type 0
AreSoundUsers [] = Unit {0}
AreSoundUsers (u ∷ us) = IsSoundUser u × AreSoundUsers us

users_of : (us : List User) → list_all is_user us ≡ true → list_any (λ (u : User). repeats_mask u.masks) us ≡ false → list_any is_over us ≡ false
    → AreSoundUsers us
users_of [] good apart within = tt
users_of (u ∷ us) good apart within =
    (sound_user u (and_true good).0 (or_false apart).0 (or_false within).0, users_of us (and_true good).1 (or_false apart).1 (or_false within).1)

all_good : (us : List User) → AreSoundUsers us → list_all is_user us ≡ true
all_good [] s = refl
all_good (u ∷ us) s = and_both (good_of u s.0) (all_good us s.1)

all_apart : (us : List User) → AreSoundUsers us → list_any (λ (u : User). repeats_mask u.masks) us ≡ false
all_apart [] s = refl
all_apart (u ∷ us) s = or_both s.0.apart (all_apart us s.1)

all_within : (us : List User) → AreSoundUsers us → list_any is_over us ≡ false
all_within [] s = refl
all_within (u ∷ us) s = or_both (within_of u s.0) (all_within us s.1)

users-push : (us : List User) (u : User) → AreSoundUsers us → IsSoundUser u → AreSoundUsers (us ++ u ∷ [])
users-push [] u s t = (t, tt)
users-push (x ∷ us) u s t = (s.0, users-push us u s.1 t)

users-filter : (p : User → Bool) (us : List User) → AreSoundUsers us → AreSoundUsers (filter p us)
users-filter p [] s = tt
users-filter p (u ∷ us) s = by (p u) (users-filter p us s.1)
  where
    by : (b : Bool) → AreSoundUsers (filter p us) → AreSoundUsers (cond b (u ∷ filter p us) (filter p us))
    by true r = (s.0, r)
    by false r = r

module _ (handle : List ℕ) (edit : User → User) where
  users-with_user : (us : List User) → ((u : User) → user_of handle us ≡ Some u → IsSoundUser u → IsSoundUser (edit u)) → AreSoundUsers us
      → AreSoundUsers (with_user handle edit us)
  users-with_user [] f s = tt
  users-with_user (x ∷ us) f s = by (is_same handle x.handle) f (λ g. users-with_user us g s.1)
    where
      by : (b : Bool) → ((u : User) → cond b (Some x) (user_of handle us) ≡ Some u → IsSoundUser u → IsSoundUser (edit u))
          → (((u : User) → user_of handle us ≡ Some u → IsSoundUser u → IsSoundUser (edit u)) → AreSoundUsers (with_user handle edit us))
          → AreSoundUsers (cond b (edit x ∷ us) (x ∷ with_user handle edit us))
      by true f r = (f x refl s.0, s.1)
      by false f r = (s.0, r f)

  length-with_user : (us : List User) → length (with_user handle edit us) ≡ length us
  length-with_user [] = refl
  length-with_user (x ∷ us) = by (is_same handle x.handle) (length-with_user us)
    where
      by : (b : Bool) → length (with_user handle edit us) ≡ length us → length (cond b (edit x ∷ us) (x ∷ with_user handle edit us)) ≡ suc (length us)
      by true r = refl
      by false r = ap suc r

  named-with_user : ((u : User) → (edit u).handle ≡ u.handle) → (k : List ℕ) (us : List User)
      → list_any (λ (u : User). is_same k u.handle) (with_user handle edit us) ≡ list_any (λ (u : User). is_same k u.handle) us
  named-with_user keeps k [] = refl
  named-with_user keeps k (x ∷ us) = by (is_same handle x.handle) (named-with_user keeps k us)
    where
      by : (b : Bool) → list_any (λ (u : User). is_same k u.handle) (with_user handle edit us) ≡ list_any (λ (u : User). is_same k u.handle) us
          → list_any (λ (u : User). is_same k u.handle) (cond b (edit x ∷ us) (x ∷ with_user handle edit us))
          ≡ list_any (λ (u : User). is_same k u.handle) (x ∷ us)
      by true r = ap (λ h. is_same k h || list_any (λ (u : User). is_same k u.handle) us) (keeps x)
      by false r = ap (λ b. is_same k x.handle || b) r

  repeats-with_user : ((u : User) → (edit u).handle ≡ u.handle) → (us : List User) → repeats_handle (with_user handle edit us) ≡ repeats_handle us
  repeats-with_user keeps [] = refl
  repeats-with_user keeps (x ∷ us) = by (is_same handle x.handle) (repeats-with_user keeps us)
    where
      by : (b : Bool) → repeats_handle (with_user handle edit us) ≡ repeats_handle us
          → repeats_handle (cond b (edit x ∷ us) (x ∷ with_user handle edit us)) ≡ repeats_handle (x ∷ us)
      by true r = ap (λ h. list_any (λ (u : User). is_same h u.handle) us || repeats_handle us) (keeps x)
      by false r = ap (λ b. b || repeats_handle (with_user handle edit us)) (named-with_user keeps x.handle us)
          ∙ ap (λ b. list_any (λ (u : User). is_same x.handle u.handle) us || b) r

-- ---- all records

record Parts (us : List User) (bs : List Ban) : Type 0 where
  users : AreSoundUsers us
  handles : repeats_handle us ≡ false
  few_users : length us ≤ 500
  bans : list_all is_good_ban bs ≡ true
  apart : repeats_ban bs ≡ false
  few_bans : length bs ≤ 200

parts_of : (us : List User) (bs : List Ban) → list_all is_user us ≡ true → list_all is_good_ban bs ≡ true → records_fault us bs ≡ None → Parts us bs
parts_of us bs users bans together =
    let a = first_none together in
    let b = first_none a.1 in
    let c = first_none b.1 in
    let over = or_false (if_none _ c.1) in
    let many = or_false over.0 in
    record {
      users = users_of us users (if_none _ b.0) over.1;
      handles = if_none _ a.0;
      few_users = ltb-false 500 (length us) many.0;
      bans = bans;
      apart = if_none _ c.0;
      few_bans = ltb-false 200 (length bs) many.1;
    }

fault_of : (us : List User) (bs : List Ban) → Parts us bs → records_fault us bs ≡ None
fault_of us bs p = rw
    (p.handles, all_apart us p.users, p.apart, le-ltb 500 (length us) p.few_users, le-ltb 200 (length bs) p.few_bans, all_within us p.users) refl

sound_of : (r : Records) → Parts r.users r.bans → AreSound r
sound_of r p = record { users = all_good r.users p.users; bans = p.bans; together = fault_of r.users r.bans p }

edit_keeps : (r : Records) (handle : List ℕ) (edit : User → User) → ((u : User) → (edit u).handle ≡ u.handle) → Parts r.users r.bans
    → ((u : User) → user_of handle r.users ≡ Some u → IsSoundUser u → IsSoundUser (edit u))
    → Parts (user_edited r handle edit).users (user_edited r handle edit).bans
edit_keeps r handle edit keeps p f = record {
  users = users-with_user handle edit r.users f p.users;
  handles = repeats-with_user handle edit keeps r.users ∙ p.handles;
  few_users = omega (arith, length-with_user handle edit r.users, p.few_users);
  bans = p.bans;
  apart = p.apart;
  few_bans = p.few_bans;
}

ban_parts : (b : Ban) → is_handle b.creator ≡ true → is_ban_channel b.channel ≡ true → is_comment b.comment ≡ true → is_good_ban b ≡ true
unfolding is_good_ban
ban_parts b creator channel comment = and_both (and_both creator channel) comment

bans-sym : (a b : Ban) → is_ban a.channel a.mask b ≡ is_ban b.channel b.mask a
bans-sym a b = ap (λ t. t && is_same a.mask b.mask) (is_same-sym a.channel b.channel)
    ∙ ap (λ t. is_same b.channel a.channel && t) (is_same-sym a.mask b.mask)

-- ---- a mark

-- a mark is no part of what makes a ban good or tells it from others
module _ (ch m : List ℕ) (on : Bool) where
  good-marked : (b : Ban) → is_good_ban (marked ch m on b) ≡ is_good_ban b
  unfolding is_good_ban
  good-marked b = by (is_ban ch m b)
    where
      by : (t : Bool) → is_good_ban (cond t (record b { sticky = on }) b) ≡ is_good_ban b
      by true = refl
      by false = refl

  is_ban-marked : (c k : List ℕ) (b : Ban) → is_ban c k (marked ch m on b) ≡ is_ban c k b
  is_ban-marked c k b = by (is_ban ch m b)
    where
      by : (t : Bool) → is_ban c k (cond t (record b { sticky = on }) b) ≡ is_ban c k b
      by true = refl
      by false = refl

  has_ban-marked : (b : Ban) (bs : List Ban) → has_ban (marked ch m on b).channel (marked ch m on b).mask bs ≡ has_ban b.channel b.mask bs
  has_ban-marked b bs = by (is_ban ch m b)
    where
      by : (t : Bool) → has_ban (cond t (record b { sticky = on }) b).channel (cond t (record b { sticky = on }) b).mask bs ≡ has_ban b.channel b.mask bs
      by true = refl
      by false = refl

  all_good-with_sticky : (bs : List Ban) → list_all is_good_ban (with_sticky ch m on bs) ≡ list_all is_good_ban bs
  all_good-with_sticky [] = refl
  all_good-with_sticky (b ∷ bs) = rw (good-marked b, all_good-with_sticky bs) refl

  has_ban-with_sticky : (c k : List ℕ) (bs : List Ban) → has_ban c k (with_sticky ch m on bs) ≡ has_ban c k bs
  has_ban-with_sticky c k [] = refl
  has_ban-with_sticky c k (b ∷ bs) = rw (is_ban-marked c k b, has_ban-with_sticky c k bs) refl

  repeats-with_sticky : (bs : List Ban) → repeats_ban (with_sticky ch m on bs) ≡ repeats_ban bs
  repeats-with_sticky [] = refl
  repeats-with_sticky (b ∷ bs) =
      ap (λ t. t || repeats_ban (with_sticky ch m on bs))
      (has_ban-marked b (with_sticky ch m on bs) ∙ has_ban-with_sticky b.channel b.mask bs)
      ∙ ap (λ t. has_ban b.channel b.mask bs || t) (repeats-with_sticky bs)

  length-with_sticky : (bs : List Ban) → length (with_sticky ch m on bs) ≡ length bs
  length-with_sticky [] = refl
  length-with_sticky (b ∷ bs) = ap suc (length-with_sticky bs)

keeps_parts : (r : Records) (c : Edit) → Parts r.users r.bans → bad_edit c ≡ None → not_taken r c ≡ None → Parts (edit_made r c).users (edit_made r c).bans
keeps_parts r (AddUser h) p shape taken =
    let n = first_none taken in
    let room = ltb-true (length r.users) 500 (unless_none _ n.1) in
    record {
      users = users-push r.users (new_user h) p.users (sound-new_user h (unless_none _ shape));
      handles = repeats-push (λ (a b : User). is_same a.handle b.handle) (λ a b. is_same-sym a.handle b.handle) r.users (new_user h) p.handles
          (sym (is_some-find (λ (u : User). is_same h u.handle) r.users) ∙ if_none _ n.0);
      few_users = omega (arith, room, length-append r.users (new_user h ∷ []));
      bans = p.bans;
      apart = p.apart;
      few_bans = p.few_bans;
    }
keeps_parts r (DelUser h) p shape taken =
    let keep : User → Bool = λ u. not (is_same h u.handle) in
    record {
      users = users-filter keep r.users p.users;
      handles = repeats-filter (λ (a b : User). is_same a.handle b.handle) keep r.users p.handles;
      few_users = omega (arith, p.few_users, length-filter-le keep r.users);
      bans = p.bans;
      apart = p.apart;
      few_bans = p.few_bans;
    }
keeps_parts r (AddHost h m) p shape taken = edit_keeps r h (with_mask m) (λ u. refl) p (λ u at s. sound-with_mask m u (of_user_none _ _ taken u at) s)
keeps_parts r (DelHost h m) p shape taken = edit_keeps r h (without_mask m) (λ u. refl) p (λ u at s. sound-without_mask m u s)
keeps_parts r (SetGlobal h f) p shape taken = edit_keeps r h (with_global f) (λ u. refl) p (λ u at s. sound-with_global f u s)
keeps_parts r (SetChan h ch f) p shape taken = edit_keeps r h (with_channel ch f) (λ u. refl) p
    (λ u at s. sound-with_channel ch f u (unless_none _ (first_none shape).1) (of_user_none _ _ taken u at) s)
keeps_parts r (SetBot h f) p shape taken = edit_keeps r h (with_bot f) (λ u. refl) p (λ u at s. sound-with_bot f u s)
keeps_parts r (AddBan ch m cr ex co) p shape taken =
    let a = first_none shape in
    let b = first_none a.1 in
    let c = first_none b.1 in
    let n = first_none taken in
    let room = ltb-true (length r.bans) 200 (unless_none _ n.1) in
    let ban : Ban = new_ban ch m cr ex co in
    record {
      users = p.users;
      handles = p.handles;
      few_users = p.few_users;
      bans = list_all-push is_good_ban r.bans ban p.bans (ban_parts ban (unless_none _ a.0) (unless_none _ c.0) (unless_none _ c.1));
      apart = repeats-push (λ (x y : Ban). is_ban x.channel x.mask y) bans-sym r.bans ban p.apart (if_none _ n.0);
      few_bans = omega (arith, room, length-append r.bans (ban ∷ []));
    }
keeps_parts r (DelBan ch m) p shape taken =
    let keep : Ban → Bool = λ b. not (is_ban ch m b) in
    record {
      users = p.users;
      handles = p.handles;
      few_users = p.few_users;
      bans = list_all-filter is_good_ban keep r.bans p.bans;
      apart = repeats-filter (λ (x y : Ban). is_ban x.channel x.mask y) keep r.bans p.apart;
      few_bans = omega (arith, p.few_bans, length-filter-le keep r.bans);
    }
keeps_parts r (SetInfo h i) p shape taken =
    edit_keeps r h (with_info i) (λ u. refl) p (λ u at s. sound-with_info i u (unless_none _ (first_none shape).1) s)
keeps_parts r (SetSticky ch m on) p shape taken = record {
  users = p.users;
  handles = p.handles;
  few_users = p.few_users;
  bans = all_good-with_sticky ch m on r.bans ∙ p.bans;
  apart = repeats-with_sticky ch m on r.bans ∙ p.apart;
  few_bans = omega (arith, length-with_sticky ch m on r.bans, p.few_bans);
}

pub edit_made-sound : (r : Records) (c : Edit) → AreSound r → edit_refusal r c ≡ None → AreSound (edit_made r c)
edit_made-sound r c s free = sound_of (edit_made r c)
    (keeps_parts r c (parts_of r.users r.bans s.users s.bans s.together) (first_none free).0 (first_none free).1)

-- the edit of a change that isn't refused isn't refused in nobody's name
pub edit-free : (r : Records) (c : Change) → refusal r c ≡ None → edit_refusal r c.edit ≡ None
edit-free r c free =
    let parts = first_none {a = bad_shape c} {b = not_allowed r c} free in
    let shape = first_none {a = bad_asker c.by} {b = bad_edit c.edit} parts.0 in
    let right = first_none {a = no_right r.users c.by c.edit} {b = first_of_two (not_taken r c.edit) (over_share r.bans c.by c.edit)} parts.1 in
    let taken = first_none {a = not_taken r c.edit} {b = over_share r.bans c.by c.edit} right.1 in
    rw (shape.1, taken.0) refl

pub changed-sound : (r : Records) (c : Change) → AreSound r → refusal r c ≡ None → AreSound (changed r c)
changed-sound r c s free = edit_made-sound r c.edit s (edit-free r c free)
