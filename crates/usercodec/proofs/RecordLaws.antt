-- Records: what is read is spelled so, what is spelled so is read, and what was told stays.
use Rattle.std.proofs.Common.{◌≡◌, ℕ, suc, ◌^◌, ◌<◌, nat_le, nat_lt, Bool, true, false, eqb, ◌&&◌, List, [], ◌∷◌, ◌++◌, length, Ok, Err, refl, sym}
use Rattle.std.proofs.Common.{ap, subst, ◌∙◌, append_assoc, arith, inl, inr}
use Rattle.std.specs.Prelude.{not}
use Rattle.std.proofs.lemmas.Bool.{eqb-true, ltb-true}
use Rattle.std.proofs.lemmas.Bool.Decides.{nat_tests}
use Rattle.rfccase.specs.Casemapping.{is_same}
use Rattle.rfccase.specs.Channels.{is_channel_name}
use Rattle.rfccase.proofs.SameLemmas.{is_same-sym}
use Rattle.userfile.proofs.RepeatLemmas.{or_false, or_both, and_true, and_both}
use Rattle.userfile.specs.Held.{has_mask}
use Rattle.userfile.specs.Apply.{with_info}
use Rattle.userfile.specs.Shapes.{is_handle, is_hostmask, is_info}
use Rattle.userfile.specs.Together.{is_entry, is_user, is_good_ban, repeats_channel}
use Rattle.userfile.specs.declared.ban.Ban.{Ban}
use Rattle.userfile.specs.declared.channel_flags.ChannelFlags.{ChannelFlags}
use Rattle.userfile.specs.declared.user.User.{User}
use Rattle.usercodec.specs.declared.fault.CodecFault.TheVariants.{BadTag}
use Rattle.usercodec.specs.declared.records.Record.{Record}
use Rattle.usercodec.specs.declared.records.Record.TheVariants as records
use Rattle.usercodec.specs.Changes.{made}
use Rattle.usercodec.specs.Fields.{text, flags, counted, Reading, ◌>>=◌, checked, byte_at, flags_at, handle_at, channel_at}
use Rattle.usercodec.specs.Laws.{Stays}
use Rattle.usercodec.specs.Records.{entry_bytes, plain_user_bytes, user_bytes, held_ban_bytes, record_bytes, IsGoodRecord, mask_at, masks_at}
use Rattle.usercodec.specs.Records.{has_channel, entry_at, entries_at, plain_user, plain_user_at, user_at, held_ban_at, record_fields_at, record_at}
use Rattle.usercodec.proofs.Steps.{IsBytes, chosen, bind_ok, ok_is, Takes, Takes-then, stays_bind, stays_if, NoTag, no_tag_bind}
use Rattle.usercodec.proofs.FieldLaws.{IsSort, IsField, byte_field, also_field, both_field, made_field, mark_field}
use Rattle.usercodec.proofs.EditLaws.{handle_field, hostmask_field, channel_field, flags_field, info_field, BanPasses, ban_field}
use Rattle.usercodec.proofs.ItemLaws.{AreCounted, counted_field}
use Rattle.usercodec.proofs.NewLaws.{IsNew, not_true, not_false, all_new, were_new, both_all, all_both}

-- ---- hostmasks

mask_field : (held : List (List ℕ)) → IsField (mask_at held) text (IsNew is_hostmask is_same held)
unfolding mask_at
mask_field held = also_field hostmask_field (λ mask. not (has_mask mask held))

masks_field : IsField masks_at (counted text) (AreCounted (IsNew is_hostmask is_same) 16)
unfolding masks_at
masks_field = counted_field mask_at text (IsNew is_hostmask is_same) mask_field 16 (omega arith)

-- ---- flags on channels

-- an entry by itself: its channel is one, and its flags are some letters
abbrev pub passes : ChannelFlags → Bool
passes entry = is_entry entry && nat_lt entry.flags (2 ^ 52)

abbrev pub same_channel : ChannelFlags → ChannelFlags → Bool
same_channel a b = is_same a.channel b.channel

entry_field : (held : List ChannelFlags) → IsField (entry_at held) entry_bytes (IsNew passes same_channel held)
unfolding entry_at
entry_field held = record { laws = record { part = record { takes = takes; again = again }; stays = stays }; no_tag = no_tag }
  where
    name_field : IsField (λ bytes. checked (λ name. not (has_channel name held)) (channel_at bytes)) text
        (λ name. (is_channel_name name ≡ true) × (not (has_channel name held) ≡ true))
    name_field = also_field channel_field (λ name. not (has_channel name held))

    letters_field : IsField (λ bytes. checked (λ bits. not (eqb bits 0)) (flags_at bytes)) flags
        (λ bits. (nat_lt bits (2 ^ 52) ≡ true) × (not (eqb bits 0) ≡ true))
    letters_field = also_field flags_field (λ bits. not (eqb bits 0))

    new_entry : List ℕ → ℕ → ChannelFlags
    new_entry channel bits = record { channel = channel; flags = bits }

    takes : (bytes : List ℕ) (x : ChannelFlags) (rest : List ℕ) → IsBytes bytes → entry_at held bytes ≡ Ok (x, rest)
        → Takes bytes (entry_bytes x) rest × IsNew passes same_channel held x
    takes bytes x rest fits e =
        let a = bind_ok (checked (λ name. not (has_channel name held)) (channel_at bytes))
        (λ channel. checked (λ bits. not (eqb bits 0)) (flags_at channel.1) >>= λ bits. Ok (record { channel = channel.0; flags = bits.0 }, bits.1))
        (x, rest) e in
        let b = bind_ok (checked (λ bits. not (eqb bits 0)) (flags_at a.0.1)) (λ bits. Ok (record { channel = a.0.0; flags = bits.0 }, bits.1))
        (x, rest) a.2 in
        let t = name_field.laws.part.takes bytes a.0.0 a.0.1 fits a.1 in
        let u = letters_field.laws.part.takes a.0.1 b.0.0 b.0.1 t.0.rest_fits b.1 in
        let made_is : ChannelFlags × List ℕ = (record { channel = a.0.0; flags = b.0.0 }, b.0.1) in
        subst (λ (p : ChannelFlags × List ℕ). Takes bytes (entry_bytes p.0) p.1 × IsNew passes same_channel held p.0) (ok_is made_is (x, rest) b.2)
        (Takes-then bytes (text a.0.0) a.0.1 (flags b.0.0) b.0.1 t.0 u.0, (and_both (and_both t.1.0 u.1.1) u.1.0, t.1.1))

    again : (x : ChannelFlags) (rest : List ℕ) → IsNew passes same_channel held x → entry_at held (entry_bytes x ++ rest) ≡ Ok (x, rest)
    again x rest good =
        let parts = and_true good.0 in
        let own = and_true parts.0 in
        let after = flags x.flags ++ rest in
        let grouped : entry_bytes x ++ rest ≡ text x.channel ++ after = append_assoc (text x.channel) (flags x.flags) rest in
        ap (entry_at held) grouped
        ∙ ap (λ r. r >>= λ channel. checked (λ bits. not (eqb bits 0)) (flags_at channel.1) >>= λ bits. Ok
        (record { channel = channel.0; flags = bits.0 }, bits.1))
        (name_field.laws.part.again x.channel after (own.0, good.1))
        ∙ ap (λ r. r >>= λ bits. Ok (record { channel = x.channel; flags = bits.0 }, bits.1)) (letters_field.laws.part.again x.flags rest (parts.1, own.1))

    stays : (bytes more : List ℕ) → Stays (entry_at held bytes) (entry_at held (bytes ++ more)) more
    stays bytes more =
        stays_bind (checked (λ name. not (has_channel name held)) (channel_at bytes)) _ _ more (name_field.laws.stays bytes more) (λ channel.
        stays_bind (checked (λ bits. not (eqb bits 0)) (flags_at channel.1)) _ _ more (letters_field.laws.stays channel.1 more) (λ bits. refl))

    no_tag : (bytes : List ℕ) → NoTag (entry_at held bytes)
    no_tag bytes =
        no_tag_bind (checked (λ name. not (has_channel name held)) (channel_at bytes)) _ (name_field.no_tag bytes) (λ channel.
        no_tag_bind (checked (λ bits. not (eqb bits 0)) (flags_at channel.1)) _ (letters_field.no_tag channel.1) (λ bits. tt))

entries_field : IsField entries_at (counted entry_bytes) (AreCounted (IsNew passes same_channel) 16)
unfolding entries_at
entries_field = counted_field entry_at entry_bytes (IsNew passes same_channel) entry_field 16 (omega arith)

-- ---- users

-- whether a user's fields before the info text have a spelling
pub record UserPasses (user : User) : Type 0 where
  pub handle : is_handle user.handle ≡ true
  pub masks : AreCounted (IsNew is_hostmask is_same) 16 user.masks
  pub global : nat_lt user.global (2 ^ 52) ≡ true
  pub channels : AreCounted (IsNew passes same_channel) 16 user.channels
  pub bot : nat_lt user.bot (2 ^ 52) ≡ true

-- a user that is read of these alone has no info text
abbrev pub PlainUserPasses : User → Type 0
PlainUserPasses user = UserPasses user × (user.info ≡ [])

pub plain_user_field : IsField plain_user_at plain_user_bytes PlainUserPasses
unfolding plain_user_at
plain_user_field = record { laws = record { part = record { takes = takes; again = again }; stays = stays }; no_tag = no_tag }
  where
    takes : (bytes : List ℕ) (x : User) (rest : List ℕ) → IsBytes bytes → plain_user_at bytes ≡ Ok (x, rest)
        → Takes bytes (plain_user_bytes x) rest × PlainUserPasses x
    takes bytes x rest fits e =
        let a = bind_ok (handle_at bytes) (λ a. masks_at a.1 >>= λ b. flags_at b.1 >>= λ c. entries_at c.1 >>= λ d. flags_at d.1 >>= λ e. Ok
        (plain_user a.0 b.0 c.0 d.0 e.0, e.1)) (x, rest) e in
        let b = bind_ok (masks_at a.0.1) (λ b. flags_at b.1 >>= λ c. entries_at c.1 >>= λ d. flags_at d.1 >>= λ e. Ok
        (plain_user a.0.0 b.0 c.0 d.0 e.0, e.1)) (x, rest) a.2 in
        let c = bind_ok (flags_at b.0.1) (λ c. entries_at c.1 >>= λ d. flags_at d.1 >>= λ e. Ok (plain_user a.0.0 b.0.0 c.0 d.0 e.0, e.1)) (x, rest) b.2 in
        let d = bind_ok (entries_at c.0.1) (λ d. flags_at d.1 >>= λ e. Ok (plain_user a.0.0 b.0.0 c.0.0 d.0 e.0, e.1)) (x, rest) c.2 in
        let f = bind_ok (flags_at d.0.1) (λ e. Ok (plain_user a.0.0 b.0.0 c.0.0 d.0.0 e.0, e.1)) (x, rest) d.2 in
        let ta = handle_field.laws.part.takes bytes a.0.0 a.0.1 fits a.1 in
        let tb = masks_field.laws.part.takes a.0.1 b.0.0 b.0.1 ta.0.rest_fits b.1 in
        let tc = flags_field.laws.part.takes b.0.1 c.0.0 c.0.1 tb.0.rest_fits c.1 in
        let td = entries_field.laws.part.takes c.0.1 d.0.0 d.0.1 tc.0.rest_fits d.1 in
        let tf = flags_field.laws.part.takes d.0.1 f.0.0 f.0.1 td.0.rest_fits f.1 in
        let e4 = Takes-then c.0.1 (counted entry_bytes d.0.0) d.0.1 (flags f.0.0) f.0.1 td.0 tf.0 in
        let e3 = Takes-then b.0.1 (flags c.0.0) c.0.1 (counted entry_bytes d.0.0 ++ flags f.0.0) f.0.1 tc.0 e4 in
        let e2 = Takes-then a.0.1 (counted text b.0.0) b.0.1 (flags c.0.0 ++ (counted entry_bytes d.0.0 ++ flags f.0.0)) f.0.1 tb.0 e3 in
        let e1 = Takes-then bytes (text a.0.0) a.0.1 (counted text b.0.0 ++ (flags c.0.0 ++ (counted entry_bytes d.0.0 ++ flags f.0.0))) f.0.1 ta.0 e2 in
        subst (λ (p : User × List ℕ). Takes bytes (plain_user_bytes p.0) p.1 × PlainUserPasses p.0)
        (ok_is (plain_user a.0.0 b.0.0 c.0.0 d.0.0 f.0.0, f.0.1) (x, rest) f.2)
        (e1, (record { handle = ta.1; masks = tb.1; global = tc.1; channels = td.1; bot = tf.1 }, refl))

    again : (x : User) (rest : List ℕ) → PlainUserPasses x → plain_user_at (plain_user_bytes x ++ rest) ≡ Ok (x, rest)
    again x rest good =
        let after_channels = flags x.bot ++ rest in
        let after_global = counted entry_bytes x.channels ++ after_channels in
        let after_masks = flags x.global ++ after_global in
        let after_handle = counted text x.masks ++ after_masks in
        let grouped : plain_user_bytes x ++ rest ≡ text x.handle ++ after_handle = simp append_assoc in
        ap plain_user_at grouped
        ∙ rw (
          handle_field.laws.part.again x.handle after_handle good.0.handle,
          masks_field.laws.part.again x.masks after_masks good.0.masks,
          flags_field.laws.part.again x.global after_global good.0.global,
          entries_field.laws.part.again x.channels after_channels good.0.channels,
          flags_field.laws.part.again x.bot rest good.0.bot,
        ) refl
        ∙ ap (λ info. Ok (with_info info x, rest)) (sym good.1)

    stays : (bytes more : List ℕ) → Stays (plain_user_at bytes) (plain_user_at (bytes ++ more)) more
    stays bytes more =
        stays_bind (handle_at bytes) _ _ more (handle_field.laws.stays bytes more) (λ a.
        stays_bind (masks_at a.1) _ _ more (masks_field.laws.stays a.1 more) (λ b.
        stays_bind (flags_at b.1) _ _ more (flags_field.laws.stays b.1 more) (λ c.
        stays_bind (entries_at c.1) _ _ more (entries_field.laws.stays c.1 more) (λ d.
        stays_bind (flags_at d.1) _ _ more (flags_field.laws.stays d.1 more) (λ e. refl)))))

    no_tag : (bytes : List ℕ) → NoTag (plain_user_at bytes)
    no_tag bytes =
        no_tag_bind (handle_at bytes) _ (handle_field.no_tag bytes) (λ a.
        no_tag_bind (masks_at a.1) _ (masks_field.no_tag a.1) (λ b.
        no_tag_bind (flags_at b.1) _ (flags_field.no_tag b.1) (λ c.
        no_tag_bind (entries_at c.1) _ (entries_field.no_tag c.1) (λ d.
        no_tag_bind (flags_at d.1) _ (flags_field.no_tag d.1) (λ e. tt)))))

other_info : (info : List ℕ) (user : User) → UserPasses user → UserPasses (with_info info user)
other_info info user p = record { handle = p.handle; masks = p.masks; global = p.global; channels = p.channels; bot = p.bot }

-- whether a user has a spelling
abbrev pub HeldUserPasses : User → Type 0
HeldUserPasses user = UserPasses user × (is_info user.info ≡ true)

pub user_field : IsField user_at user_bytes HeldUserPasses
unfolding user_at
user_field =
    made_field (both_field plain_user_field info_field) (λ x. with_info x.1 x.0) (λ user. (with_info [] user, user.info)) (λ user. refl) user_bytes
    (λ x good. refl) (λ user. refl) HeldUserPasses (λ x good. (other_info x.1 x.0 good.0.0, good.1))
    (λ user good. ((other_info [] user good.0, refl), good.1))

-- ---- bans

other_mark : (on : Bool) (ban : Ban) → BanPasses ban → BanPasses (record ban { sticky = on })
other_mark on ban p = record { channel = p.channel; mask = p.mask; creator = p.creator; expires = p.expires; comment = p.comment }

pub held_ban_field : IsField held_ban_at held_ban_bytes BanPasses
unfolding held_ban_at
held_ban_field =
    made_field (both_field ban_field mark_field) (λ x. record x.0 { sticky = x.1 }) (λ ban. (record ban { sticky = false }, ban.sticky)) (λ ban. refl)
    held_ban_bytes (λ x good. refl) (λ ban. refl) BanPasses (λ x good. other_mark x.1 x.0 good.0.0) (λ ban good. ((other_mark false ban good, refl), tt))

-- ---- shapes

not_over : (n : ℕ) → nat_le n 16 ≡ true → nat_lt 16 n ≡ false
not_over n few = grind (arith, nat_tests)

not_many : (n : ℕ) → nat_lt 16 n ≡ false → nat_le n 16 ≡ true
not_many n few = grind (arith, nat_tests)

bits_pass : (bits : ℕ) → bits < 2 ^ 52 → nat_lt bits (2 ^ 52) ≡ true
bits_pass bits lt = grind (arith, nat_tests)

abbrev has_letters : ChannelFlags → Bool
has_letters entry = nat_lt entry.flags (2 ^ 52)

channel_sym : (a b : ChannelFlags) → same_channel a b ≡ same_channel b a
channel_sym a b = is_same-sym a.channel b.channel

pub user_is_good : (user : User) → HeldUserPasses user → IsGoodRecord (records.User user)
unfolding is_user
user_is_good user (p, info) =
    let masks = all_new is_hostmask is_same is_same-sym [] user.masks p.masks.good refl in
    let channels = all_new passes same_channel channel_sym [] user.channels p.channels.good refl in
    let entries = both_all is_entry has_letters user.channels channels.0 in
    record {
      shape = (
        and_both (and_both (and_both p.handle entries.0) (not_false (repeats_channel user.channels) channels.1)) info,
        masks.1,
        or_both (not_over (length user.masks) p.masks.few) (not_over (length user.channels) p.channels.few),
      );
      fields = (masks.0, ltb-true user.global (2 ^ 52) p.global, entries.1, ltb-true user.bot (2 ^ 52) p.bot);
    }

own_passes : (user : User) → IsGoodRecord (records.User user) → UserPasses user
unfolding is_user
own_passes user good =
    let own = and_true (and_true good.shape.0).0 in
    let handle_and_entries = and_true own.0 in
    let few : (nat_lt 16 (length user.masks) ≡ false) × (nat_lt 16 (length user.channels) ≡ false) = or_false good.shape.2 in
    record {
      handle = handle_and_entries.0;
      masks = record {
        few = not_many (length user.masks) few.0;
        good = were_new is_hostmask is_same is_same-sym [] user.masks good.fields.0 good.shape.1;
      };
      global = bits_pass user.global good.fields.1;
      channels = record {
        few = not_many (length user.channels) few.1;
        good = were_new passes same_channel channel_sym [] user.channels
            (all_both is_entry has_letters user.channels handle_and_entries.1 good.fields.2) (not_true (repeats_channel user.channels) own.1);
      };
      bot = bits_pass user.bot good.fields.3;
    }

pub user_passes : (user : User) → IsGoodRecord (records.User user) → HeldUserPasses user
unfolding is_user
user_passes user good = (own_passes user good, (and_true good.shape.0).1)

pub ban_is_good : (ban : Ban) → BanPasses ban → IsGoodRecord (records.Ban ban)
unfolding is_good_ban
ban_is_good ban p = record { shape = and_both (and_both p.creator p.channel) p.comment; fields = (p.mask, p.expires) }

pub ban_passes : (ban : Ban) → IsGoodRecord (records.Ban ban) → BanPasses ban
unfolding is_good_ban
ban_passes ban good =
    let texts = and_true good.shape in
    let names = and_true texts.0 in
    record { channel = names.1; mask = good.fields.0; creator = names.0; expires = good.fields.1; comment = texts.1 }

-- ---- records

abbrev Taken : ℕ → List ℕ → Record → List ℕ → Type 0
Taken tag bytes x rest = Takes (tag ∷ bytes) (record_bytes x) rest × IsGoodRecord x

tagged_takes : {A : Type 0} {read : List ℕ → Reading A} {spelling : A → List ℕ} {IsGood : A → Type 0} (kind tag : ℕ) (record_of : A → Record)
    → IsField read spelling IsGood → ((x : A) → record_bytes (record_of x) ≡ kind ∷ spelling x) → ((x : A) → IsGood x → IsGoodRecord (record_of x))
    → (bytes : List ℕ) (x : Record) (rest : List ℕ) → IsBytes bytes → eqb tag kind ≡ true → made record_of (read bytes) ≡ Ok (x, rest)
    → Taken tag bytes x rest
tagged_takes {A = A} {read = read} {spelling = spelling} kind tag record_of field spelled good bytes x rest fits same e =
    let tag_is : tag ≡ kind = eqb-true tag kind same in
    let a = bind_ok (read bytes) (λ y. Ok (record_of y.0, y.1)) (x, rest) e in
    let t = field.laws.part.takes bytes a.0.0 a.0.1 fits a.1 in
    let front : tag ∷ bytes ≡ (kind ∷ spelling a.0.0) ++ a.0.1 = ap (λ (k : ℕ). k ∷ bytes) tag_is ∙ ap (λ (b : List ℕ). kind ∷ b) t.0.parts in
    let parts : tag ∷ bytes ≡ record_bytes (record_of a.0.0) ++ a.0.1 = front ∙ ap (λ (b : List ℕ). b ++ a.0.1) (sym (spelled a.0.0)) in
    subst (λ (p : Record × List ℕ). Taken tag bytes p.0 p.1) (ok_is (record_of a.0.0, a.0.1) (x, rest) a.2)
    (record { parts = parts; rest_fits = t.0.rest_fits }, good a.0.0 t.1)

no_value : (x : Record) (rest : List ℕ) → (let r : Reading Record = Err BadTag in r) ≡ Ok (x, rest) → ⊥
no_value x rest e = cc

pub record_sort : IsSort record_at record_bytes IsGoodRecord
unfolding record_at record_fields_at byte_at
record_sort = record { part = record { takes = takes; again = again }; stays = stays }
  where
    fields_take : (tag : ℕ) (bytes : List ℕ) (x : Record) (rest : List ℕ) → IsBytes bytes → record_fields_at tag bytes ≡ Ok (x, rest) → Taken tag bytes x rest
    fields_take tag bytes x rest fits e =
        elim (chosen (eqb tag 3) _ _ _ e) [
          | inl p ↦ tagged_takes 3 tag records.User user_field (λ y. refl) user_is_good bytes x rest fits p.0 p.1
          | inr p ↦
              elim (chosen (eqb tag 4) _ _ _ p.1) [
                | inl p ↦ tagged_takes 4 tag records.Ban held_ban_field (λ y. refl) ban_is_good bytes x rest fits p.0 p.1
                | inr p ↦
                    absurd (no_value x rest p.1)
              ]
        ]

    takes : (bytes : List ℕ) (x : Record) (rest : List ℕ) → IsBytes bytes → record_at bytes ≡ Ok (x, rest)
        → Takes bytes (record_bytes x) rest × IsGoodRecord x
    takes [] x rest fits e = absurd cc
    takes (tag ∷ bytes) x rest fits e = fields_take tag bytes x rest (λ i. fits (suc i)) e

    again : (x : Record) (rest : List ℕ) → IsGoodRecord x → record_at (record_bytes x ++ rest) ≡ Ok (x, rest)
    again (records.User user) rest good = ap (made records.User) (user_field.laws.part.again user rest (user_passes user good))
    again (records.Ban ban) rest good = ap (made records.Ban) (held_ban_field.laws.part.again ban rest (ban_passes ban good))

    stays : (bytes more : List ℕ) → Stays (record_at bytes) (record_at (bytes ++ more)) more
    stays bytes more = stays_bind (byte_at bytes) _ _ more (byte_field.laws.stays bytes more) (λ tag.
        stays_if (eqb tag.0 3) _ _ _ _ more (stays_bind (user_at tag.1) _ _ more (user_field.laws.stays tag.1 more) (λ x. refl))
        (stays_if (eqb tag.0 4) _ _ _ _ more (stays_bind (held_ban_at tag.1) _ _ more (held_ban_field.laws.stays tag.1 more) (λ x. refl)) refl))
