-- Edits: what is read is spelled so, what is spelled so is read, and what was told stays.
use Rattle.std.proofs.Common.{◌≡◌, ℕ, suc, ◌^◌, ◌<◌, ◌≤◌, true, eqb, nat_lt, false, List, [], ◌∷◌, ◌++◌, Ok, Err, refl, sym, ap, subst, ◌∙◌, append_assoc, arith}
use Rattle.std.proofs.Common.{inl, inr}
use Rattle.std.specs.Int.{w64}
use Rattle.std.proofs.lemmas.Bool.{eqb-true, ltb-true}
use Rattle.std.proofs.lemmas.Bool.Decides.{nat_tests}
use Rattle.rfccase.specs.Channels.{is_channel_name}
use Rattle.userfile.specs.Shapes.{is_handle, is_hostmask, is_ban_channel, is_comment, is_info, is_person}
use Rattle.userfile.specs.Apply.{new_ban}
use Rattle.userfile.specs.declared.ban.Ban.{Ban}
use Rattle.userfile.specs.declared.edit.Edit.{Edit}
use Rattle.userfile.specs.declared.edit.Edit.TheVariants.{AddUser, DelUser, AddHost, DelHost, SetGlobal, SetChan, SetBot, AddBan, DelBan}
use Rattle.userfile.specs.declared.edit.Edit.TheVariants.{SetInfo, SetSticky}
use Rattle.usercodec.specs.declared.fault.CodecFault.TheVariants.{BadTag}
use Rattle.usercodec.specs.Fields.{number, text, flags, mark, Reading, ◌>>=◌, byte_at, number_at, flags_at}
use Rattle.usercodec.specs.Fields.{handle_at, hostmask_at, channel_at, ban_channel_at, comment_at, info_at, mark_at, person_at}
use Rattle.usercodec.specs.Changes.{ban_bytes, edit_bytes, IsGoodEdit, both, made, handle_and_mask_at, handle_and_flags_at, channel_and_mask_at}
use Rattle.usercodec.specs.Changes.{set_chan_at, ban_at, add_ban_at, set_info_at, set_sticky_at, is_edit_tag, edit_fields_at, edit_at}
use Rattle.usercodec.specs.Laws.{Stays}
use Rattle.usercodec.proofs.ShapeLaws.{handle_is_short, channel_is_short, ban_channel_is_short, hostmask_is_short, comment_is_short, info_is_short, person_is_short}
use Rattle.usercodec.proofs.ShapeLaws.{fields_pass, shape_passes}
use Rattle.usercodec.proofs.Steps.{IsBytes, chosen, bind_ok, ok_is, Takes, Takes-then, stays_bind, stays_if, NoTag, no_tag_bind, no_tag_where}
use Rattle.usercodec.proofs.FieldLaws.{IsSort, IsField, byte_field, field64, text_field, checked_field, both_field, mark_field}

-- ---- the fields of edits

pub handle_field : IsField handle_at text (λ handle. is_handle handle ≡ true)
unfolding handle_at
handle_field = checked_field text_field is_handle handle_is_short

pub hostmask_field : IsField hostmask_at text (λ mask. is_hostmask mask ≡ true)
unfolding hostmask_at
hostmask_field = checked_field text_field is_hostmask hostmask_is_short

pub channel_field : IsField channel_at text (λ channel. is_channel_name channel ≡ true)
unfolding channel_at
channel_field = checked_field text_field is_channel_name channel_is_short

pub ban_channel_field : IsField ban_channel_at text (λ channel. is_ban_channel channel ≡ true)
unfolding ban_channel_at
ban_channel_field = checked_field text_field is_ban_channel ban_channel_is_short

pub person_field : IsField person_at text (λ person. is_person person ≡ true)
unfolding person_at
person_field = checked_field text_field is_person person_is_short

pub comment_field : IsField comment_at text (λ comment. is_comment comment ≡ true)
unfolding comment_at
comment_field = checked_field text_field is_comment comment_is_short

pub info_field : IsField info_at text (λ info. is_info info ≡ true)
unfolding info_at
info_field = checked_field text_field is_info info_is_short

letters_fit : (bits : ℕ) → nat_lt bits (2 ^ 52) ≡ true → bits < 2 ^ 64
letters_fit bits passes = let lt = ltb-true bits (2 ^ 52) passes in omega arith

pub flags_field : IsField flags_at flags (λ bits. nat_lt bits (2 ^ 52) ≡ true)
unfolding flags_at
flags_field = checked_field field64 (λ bits. nat_lt bits (2 ^ 52)) letters_fit

-- ---- several fields, each after the other

handle_and_mask_field : IsField handle_and_mask_at (λ x. text x.0 ++ text x.1) (λ x. (is_handle x.0 ≡ true) × (is_hostmask x.1 ≡ true))
unfolding handle_and_mask_at
handle_and_mask_field = both_field handle_field hostmask_field

handle_and_flags_field : IsField handle_and_flags_at (λ x. text x.0 ++ flags x.1) (λ x. (is_handle x.0 ≡ true) × (nat_lt x.1 (2 ^ 52) ≡ true))
unfolding handle_and_flags_at
handle_and_flags_field = both_field handle_field flags_field

channel_and_mask_field : IsField channel_and_mask_at (λ x. text x.0 ++ text x.1) (λ x. (is_ban_channel x.0 ≡ true) × (is_hostmask x.1 ≡ true))
unfolding channel_and_mask_at
channel_and_mask_field = both_field ban_channel_field hostmask_field

-- whether the fields of a ban that is added have a spelling
pub record BanPasses (ban : Ban) : Type 0 where
  pub channel : is_ban_channel ban.channel ≡ true
  pub mask : is_hostmask ban.mask ≡ true
  pub creator : is_handle ban.creator ≡ true
  pub expires : ban.expires < 2 ^ 64
  pub comment : is_comment ban.comment ≡ true

-- a ban that is read isn't sticky
abbrev pub PlainBanPasses : Ban → Type 0
PlainBanPasses ban = BanPasses ban × (ban.sticky ≡ false)

pub ban_field : IsField ban_at ban_bytes PlainBanPasses
unfolding ban_at
ban_field = record { laws = record { part = record { takes = takes; again = again }; stays = stays }; no_tag = no_tag }
  where
    takes : (bytes : List ℕ) (x : Ban) (rest : List ℕ) → IsBytes bytes → ban_at bytes ≡ Ok (x, rest) → Takes bytes (ban_bytes x) rest × PlainBanPasses x
    takes bytes x rest fits e =
        let a = bind_ok (ban_channel_at bytes) (λ a. hostmask_at a.1 >>= λ b. handle_at b.1 >>= λ c. number_at w64 c.1 >>= λ d. comment_at d.1 >>=
        λ e. Ok (new_ban a.0 b.0 c.0 d.0 e.0, e.1)) (x, rest) e in
        let b = bind_ok (hostmask_at a.0.1) (λ b. handle_at b.1 >>= λ c. number_at w64 c.1 >>= λ d. comment_at d.1 >>= λ e. Ok
        (new_ban a.0.0 b.0 c.0 d.0 e.0, e.1)) (x, rest) a.2 in
        let c = bind_ok (handle_at b.0.1) (λ c. number_at w64 c.1 >>= λ d. comment_at d.1 >>= λ e. Ok (new_ban a.0.0 b.0.0 c.0 d.0 e.0, e.1)) (x, rest) b.2 in
        let d = bind_ok (number_at w64 c.0.1) (λ d. comment_at d.1 >>= λ e. Ok (new_ban a.0.0 b.0.0 c.0.0 d.0 e.0, e.1)) (x, rest) c.2 in
        let f = bind_ok (comment_at d.0.1) (λ e. Ok (new_ban a.0.0 b.0.0 c.0.0 d.0.0 e.0, e.1)) (x, rest) d.2 in
        let ta = ban_channel_field.laws.part.takes bytes a.0.0 a.0.1 fits a.1 in
        let tb = hostmask_field.laws.part.takes a.0.1 b.0.0 b.0.1 ta.0.rest_fits b.1 in
        let tc = handle_field.laws.part.takes b.0.1 c.0.0 c.0.1 tb.0.rest_fits c.1 in
        let td = field64.laws.part.takes c.0.1 d.0.0 d.0.1 tc.0.rest_fits d.1 in
        let tf = comment_field.laws.part.takes d.0.1 f.0.0 f.0.1 td.0.rest_fits f.1 in
        let e4 = Takes-then c.0.1 (number w64 d.0.0) d.0.1 (text f.0.0) f.0.1 td.0 tf.0 in
        let e3 = Takes-then b.0.1 (text c.0.0) c.0.1 (number w64 d.0.0 ++ text f.0.0) f.0.1 tc.0 e4 in
        let e2 = Takes-then a.0.1 (text b.0.0) b.0.1 (text c.0.0 ++ (number w64 d.0.0 ++ text f.0.0)) f.0.1 tb.0 e3 in
        let e1 = Takes-then bytes (text a.0.0) a.0.1 (text b.0.0 ++ (text c.0.0 ++ (number w64 d.0.0 ++ text f.0.0))) f.0.1 ta.0 e2 in
        subst (λ (p : Ban × List ℕ). Takes bytes (ban_bytes p.0) p.1 × PlainBanPasses p.0)
        (ok_is (new_ban a.0.0 b.0.0 c.0.0 d.0.0 f.0.0, f.0.1) (x, rest) f.2)
        (e1, (record { channel = ta.1; mask = tb.1; creator = tc.1; expires = td.1; comment = tf.1 }, refl))

    again : (x : Ban) (rest : List ℕ) → PlainBanPasses x → ban_at (ban_bytes x ++ rest) ≡ Ok (x, rest)
    again x rest good =
        let after_moment = text x.comment ++ rest in
        let after_creator = number w64 x.expires ++ after_moment in
        let after_mask = text x.creator ++ after_creator in
        let after_channel = text x.mask ++ after_mask in
        let grouped : ban_bytes x ++ rest ≡ text x.channel ++ after_channel = simp append_assoc in
        ap ban_at grouped
        ∙ rw (
          ban_channel_field.laws.part.again x.channel after_channel good.0.channel,
          hostmask_field.laws.part.again x.mask after_mask good.0.mask,
          handle_field.laws.part.again x.creator after_creator good.0.creator,
          field64.laws.part.again x.expires after_moment good.0.expires,
          comment_field.laws.part.again x.comment rest good.0.comment,
        ) refl
        ∙ ap (λ on. Ok (record x { sticky = on }, rest)) (sym good.1)

    stays : (bytes more : List ℕ) → Stays (ban_at bytes) (ban_at (bytes ++ more)) more
    stays bytes more =
        stays_bind (ban_channel_at bytes) _ _ more (ban_channel_field.laws.stays bytes more) (λ a.
        stays_bind (hostmask_at a.1) _ _ more (hostmask_field.laws.stays a.1 more) (λ b.
        stays_bind (handle_at b.1) _ _ more (handle_field.laws.stays b.1 more) (λ c.
        stays_bind (number_at w64 c.1) _ _ more (field64.laws.stays c.1 more) (λ d.
        stays_bind (comment_at d.1) _ _ more (comment_field.laws.stays d.1 more) (λ e. refl)))))

    no_tag : (bytes : List ℕ) → NoTag (ban_at bytes)
    no_tag bytes =
        no_tag_bind (ban_channel_at bytes) _ (ban_channel_field.no_tag bytes) (λ a.
        no_tag_bind (hostmask_at a.1) _ (hostmask_field.no_tag a.1) (λ b.
        no_tag_bind (handle_at b.1) _ (handle_field.no_tag b.1) (λ c.
        no_tag_bind (number_at w64 c.1) _ (field64.no_tag c.1) (λ d.
        no_tag_bind (comment_at d.1) _ (comment_field.no_tag d.1) (λ e. tt)))))

-- ---- what stands after a tag

-- the tag and its fields are an edit that has a spelling
abbrev pub Taken : ℕ → List ℕ → Edit → List ℕ → Type 0
Taken tag bytes x rest = Takes (tag ∷ bytes) (edit_bytes x) rest × IsGoodEdit x

-- edits of one tag
pub record IsTagged {A : Type 0} (read : List ℕ → Reading A) (spelling : A → List ℕ) (IsGood : A → Type 0) (tag : ℕ) (edit_of : A → Edit) : Type 0 where
  pub field : IsField read spelling IsGood
  pub spelled : (x : A) → edit_bytes (edit_of x) ≡ tag ∷ spelling x
  pub good : (x : A) → IsGood x → IsGoodEdit (edit_of x)

tagged_takes : {A : Type 0} {read : List ℕ → Reading A} {spelling : A → List ℕ} {IsGood : A → Type 0} (kind tag : ℕ) (edit_of : A → Edit)
    → IsTagged read spelling IsGood kind edit_of → (bytes : List ℕ) (x : Edit) (rest : List ℕ) → IsBytes bytes → eqb tag kind ≡ true
    → made edit_of (read bytes) ≡ Ok (x, rest) → Taken tag bytes x rest
tagged_takes {A = A} {read = read} {spelling = spelling} kind tag edit_of tagged bytes x rest fits same e =
    let tag_is : tag ≡ kind = eqb-true tag kind same in
    let a = bind_ok (read bytes) (λ y. Ok (edit_of y.0, y.1)) (x, rest) e in
    let t = tagged.field.laws.part.takes bytes a.0.0 a.0.1 fits a.1 in
    let front : tag ∷ bytes ≡ (kind ∷ spelling a.0.0) ++ a.0.1 = ap (λ (k : ℕ). k ∷ bytes) tag_is ∙ ap (λ (b : List ℕ). kind ∷ b) t.0.parts in
    let parts : tag ∷ bytes ≡ edit_bytes (edit_of a.0.0) ++ a.0.1 = front ∙ ap (λ (b : List ℕ). b ++ a.0.1) (sym (tagged.spelled a.0.0)) in
    subst (λ (p : Edit × List ℕ). Taken tag bytes p.0 p.1) (ok_is (edit_of a.0.0, a.0.1) (x, rest) a.2)
    (record { parts = parts; rest_fits = t.0.rest_fits }, tagged.good a.0.0 t.1)

made_stays : {A : Type 0} {read : List ℕ → Reading A} {spelling : A → List ℕ} {IsGood : A → Type 0} (edit_of : A → Edit)
    → IsField read spelling IsGood → (bytes more : List ℕ) → Stays (made edit_of (read bytes)) (made edit_of (read (bytes ++ more))) more
made_stays {read = read} edit_of field bytes more = stays_bind (read bytes) _ _ more (field.laws.stays bytes more) (λ x. refl)

pub made_no_tag : {A : Type 0} {read : List ℕ → Reading A} {spelling : A → List ℕ} {IsGood : A → Type 0} (edit_of : A → Edit)
    → IsField read spelling IsGood → (bytes : List ℕ) → NoTag (made edit_of (read bytes))
made_no_tag {read = read} edit_of field bytes = no_tag_bind (read bytes) _ (field.no_tag bytes) (λ x. tt)

pub add_user : IsTagged handle_at text (λ handle. is_handle handle ≡ true) 1 AddUser
add_user = record { field = handle_field; spelled = λ x. refl; good = λ x p. record { shape = shape_passes (AddUser x) p; room = tt } }

pub del_user : IsTagged handle_at text (λ handle. is_handle handle ≡ true) 2 DelUser
del_user = record { field = handle_field; spelled = λ x. refl; good = λ x p. record { shape = shape_passes (DelUser x) p; room = tt } }

pub add_host : IsTagged handle_and_mask_at (λ x. text x.0 ++ text x.1) (λ x. (is_handle x.0 ≡ true) × (is_hostmask x.1 ≡ true)) 3 (λ x. AddHost x.0 x.1)
add_host = record { field = handle_and_mask_field; spelled = λ x. refl; good = λ x p. record { shape = shape_passes (AddHost x.0 x.1) p; room = tt } }

pub del_host : IsTagged handle_and_mask_at (λ x. text x.0 ++ text x.1) (λ x. (is_handle x.0 ≡ true) × (is_hostmask x.1 ≡ true)) 4 (λ x. DelHost x.0 x.1)
del_host = record { field = handle_and_mask_field; spelled = λ x. refl; good = λ x p. record { shape = shape_passes (DelHost x.0 x.1) p; room = tt } }

pub set_global : IsTagged handle_and_flags_at (λ x. text x.0 ++ flags x.1) (λ x. (is_handle x.0 ≡ true) × (nat_lt x.1 (2 ^ 52) ≡ true)) 5
    (λ x. SetGlobal x.0 x.1)
set_global = record {
  field = handle_and_flags_field;
  spelled = λ x. refl;
  good = λ x p. record { shape = shape_passes (SetGlobal x.0 x.1) p.0; room = ltb-true x.1 (2 ^ 52) p.1 };
}

pub set_chan : IsTagged (both handle_at (both channel_at flags_at)) (λ x. text x.0 ++ (text x.1.0 ++ flags x.1.1))
    (λ x. (is_handle x.0 ≡ true) × ((is_channel_name x.1.0 ≡ true) × (nat_lt x.1.1 (2 ^ 52) ≡ true))) 6 (λ x. SetChan x.0 x.1.0 x.1.1)
set_chan = record {
  field = both_field handle_field (both_field channel_field flags_field);
  spelled = λ x. refl;
  good = λ x p. record { shape = shape_passes (SetChan x.0 x.1.0 x.1.1) (p.0, p.1.0); room = ltb-true x.1.1 (2 ^ 52) p.1.1 };
}

pub set_bot : IsTagged handle_and_flags_at (λ x. text x.0 ++ flags x.1) (λ x. (is_handle x.0 ≡ true) × (nat_lt x.1 (2 ^ 52) ≡ true)) 7 (λ x. SetBot x.0 x.1)
set_bot = record {
  field = handle_and_flags_field;
  spelled = λ x. refl;
  good = λ x p. record { shape = shape_passes (SetBot x.0 x.1) p.0; room = ltb-true x.1 (2 ^ 52) p.1 };
}

abbrev pub ban_edit : Ban → Edit
ban_edit ban = AddBan ban.channel ban.mask ban.creator ban.expires ban.comment

pub add_ban : IsTagged ban_at ban_bytes PlainBanPasses 8 ban_edit
add_ban = record {
  field = ban_field;
  spelled = λ x. refl;
  good = λ x p. record { shape = shape_passes (ban_edit x) (p.0.channel, p.0.mask, p.0.creator, p.0.comment); room = p.0.expires };
}

pub del_ban : IsTagged channel_and_mask_at (λ x. text x.0 ++ text x.1) (λ x. (is_ban_channel x.0 ≡ true) × (is_hostmask x.1 ≡ true)) 9 (λ x. DelBan x.0 x.1)
del_ban = record { field = channel_and_mask_field; spelled = λ x. refl; good = λ x p. record { shape = shape_passes (DelBan x.0 x.1) p; room = tt } }

pub set_info : IsTagged (both handle_at info_at) (λ x. text x.0 ++ text x.1) (λ x. (is_handle x.0 ≡ true) × (is_info x.1 ≡ true)) 10 (λ x. SetInfo x.0 x.1)
set_info = record {
  field = both_field handle_field info_field;
  spelled = λ x. refl;
  good = λ x p. record { shape = shape_passes (SetInfo x.0 x.1) p; room = tt };
}

pub set_sticky : IsTagged (both ban_channel_at (both hostmask_at mark_at)) (λ x. text x.0 ++ (text x.1.0 ++ mark x.1.1))
    (λ x. (is_ban_channel x.0 ≡ true) × ((is_hostmask x.1.0 ≡ true) × Unit {0})) 11 (λ x. SetSticky x.0 x.1.0 x.1.1)
set_sticky = record {
  field = both_field ban_channel_field (both_field hostmask_field mark_field);
  spelled = λ x. refl;
  good = λ x p. record { shape = shape_passes (SetSticky x.0 x.1.0 x.1.1) (p.0, p.1.0); room = tt };
}

pub fields_take : (tag : ℕ) (bytes : List ℕ) (x : Edit) (rest : List ℕ) → IsBytes bytes → edit_fields_at tag bytes ≡ Ok (x, rest) → Taken tag bytes x rest
unfolding edit_fields_at set_chan_at add_ban_at set_info_at set_sticky_at
fields_take tag bytes x rest fits e =
    elim (chosen (eqb tag 1) _ _ _ e) [
      | inl p ↦ tagged_takes 1 tag _ add_user bytes x rest fits p.0 p.1
      | inr p ↦
          elim (chosen (eqb tag 2) _ _ _ p.1) [
            | inl p ↦ tagged_takes 2 tag _ del_user bytes x rest fits p.0 p.1
            | inr p ↦
                elim (chosen (eqb tag 3) _ _ _ p.1) [
                  | inl p ↦ tagged_takes 3 tag _ add_host bytes x rest fits p.0 p.1
                  | inr p ↦
                      elim (chosen (eqb tag 4) _ _ _ p.1) [
                        | inl p ↦ tagged_takes 4 tag _ del_host bytes x rest fits p.0 p.1
                        | inr p ↦
                            elim (chosen (eqb tag 5) _ _ _ p.1) [
                              | inl p ↦ tagged_takes 5 tag _ set_global bytes x rest fits p.0 p.1
                              | inr p ↦
                                  elim (chosen (eqb tag 6) _ _ _ p.1) [
                                    | inl p ↦ tagged_takes 6 tag _ set_chan bytes x rest fits p.0 p.1
                                    | inr p ↦
                                        elim (chosen (eqb tag 7) _ _ _ p.1) [
                                          | inl p ↦ tagged_takes 7 tag _ set_bot bytes x rest fits p.0 p.1
                                          | inr p ↦
                                              elim (chosen (eqb tag 8) _ _ _ p.1) [
                                                | inl p ↦ tagged_takes 8 tag _ add_ban bytes x rest fits p.0 p.1
                                                | inr p ↦
                                                    elim (chosen (eqb tag 9) _ _ _ p.1) [
                                                      | inl p ↦ tagged_takes 9 tag _ del_ban bytes x rest fits p.0 p.1
                                                      | inr p ↦
                                                          elim (chosen (eqb tag 10) _ _ _ p.1) [
                                                            | inl p ↦ tagged_takes 10 tag _ set_info bytes x rest fits p.0 p.1
                                                            | inr p ↦
                                                                elim (chosen (eqb tag 11) _ _ _ p.1) [
                                                                  | inl p ↦ tagged_takes 11 tag _ set_sticky bytes x rest fits p.0 p.1
                                                                  | inr p ↦
                                                                      absurd (no_value x rest p.1)
                                                                ]
                                                          ]
                                                    ]
                                              ]
                                        ]
                                  ]
                            ]
                      ]
                ]
          ]
    ]
  where
    no_value : (x : Edit) (rest : List ℕ) → (let r : Reading Edit = Err BadTag in r) ≡ Ok (x, rest) → ⊥
    no_value x rest e = cc

pub fields_stay : (tag : ℕ) (bytes more : List ℕ) → Stays (edit_fields_at tag bytes) (edit_fields_at tag (bytes ++ more)) more
unfolding edit_fields_at set_chan_at add_ban_at set_info_at set_sticky_at
fields_stay tag bytes more =
    stays_if (eqb tag 1) _ _ _ _ more (made_stays AddUser add_user.field bytes more)
    (stays_if (eqb tag 2) _ _ _ _ more (made_stays DelUser del_user.field bytes more)
    (stays_if (eqb tag 3) _ _ _ _ more (made_stays (λ x. AddHost x.0 x.1) add_host.field bytes more)
    (stays_if (eqb tag 4) _ _ _ _ more (made_stays (λ x. DelHost x.0 x.1) del_host.field bytes more)
    (stays_if (eqb tag 5) _ _ _ _ more (made_stays (λ x. SetGlobal x.0 x.1) set_global.field bytes more)
    (stays_if (eqb tag 6) _ _ _ _ more (made_stays (λ x. SetChan x.0 x.1.0 x.1.1) set_chan.field bytes more)
    (stays_if (eqb tag 7) _ _ _ _ more (made_stays (λ x. SetBot x.0 x.1) set_bot.field bytes more)
    (stays_if (eqb tag 8) _ _ _ _ more (made_stays ban_edit add_ban.field bytes more)
    (stays_if (eqb tag 9) _ _ _ _ more (made_stays (λ x. DelBan x.0 x.1) del_ban.field bytes more)
    (stays_if (eqb tag 10) _ _ _ _ more (made_stays (λ x. SetInfo x.0 x.1) set_info.field bytes more)
    (stays_if (eqb tag 11) _ _ _ _ more (made_stays (λ x. SetSticky x.0 x.1.0 x.1.1) set_sticky.field bytes more) refl))))))))))

-- ---- edits

pub edit_sort : IsSort edit_at edit_bytes IsGoodEdit
unfolding edit_at edit_fields_at set_chan_at add_ban_at set_info_at set_sticky_at byte_at
edit_sort = record { part = record { takes = takes; again = again }; stays = stays }
  where
    takes : (bytes : List ℕ) (x : Edit) (rest : List ℕ) → IsBytes bytes → edit_at bytes ≡ Ok (x, rest)
        → Takes bytes (edit_bytes x) rest × IsGoodEdit x
    takes [] x rest fits e = absurd cc
    takes (tag ∷ bytes) x rest fits e = fields_take tag bytes x rest (λ i. fits (suc i)) e

    of : {A : Type 0} {read : List ℕ → Reading A} {spelling : A → List ℕ} {IsGood : A → Type 0} (edit_of : A → Edit) → IsField read spelling IsGood
        → (x : A) (rest : List ℕ) → IsGood x → made edit_of (read (spelling x ++ rest)) ≡ Ok (edit_of x, rest)
    of edit_of field x rest good = ap (made edit_of) (field.laws.part.again x rest good)

    bits_pass : (bits : ℕ) → bits < 2 ^ 52 → nat_lt bits (2 ^ 52) ≡ true
    bits_pass bits lt = grind (arith, nat_tests)

    again : (x : Edit) (rest : List ℕ) → IsGoodEdit x → edit_at (edit_bytes x ++ rest) ≡ Ok (x, rest)
    again (AddUser handle) rest good = of AddUser handle_field handle rest (fields_pass (AddUser handle) good.shape)
    again (DelUser handle) rest good = of DelUser handle_field handle rest (fields_pass (DelUser handle) good.shape)
    again (AddHost handle mask) rest good = of (λ x. AddHost x.0 x.1) handle_and_mask_field (handle, mask) rest (fields_pass (AddHost handle mask) good.shape)
    again (DelHost handle mask) rest good = of (λ x. DelHost x.0 x.1) handle_and_mask_field (handle, mask) rest (fields_pass (DelHost handle mask) good.shape)
    again (SetGlobal handle bits) rest good =
        of (λ x. SetGlobal x.0 x.1) handle_and_flags_field (handle, bits) rest (fields_pass (SetGlobal handle bits) good.shape, bits_pass bits good.room)
    again (SetChan handle channel bits) rest good =
        let p = fields_pass (SetChan handle channel bits) good.shape in
        of (λ x. SetChan x.0 x.1.0 x.1.1) set_chan.field (handle, (channel, bits)) rest (p.0, (p.1, bits_pass bits good.room))
    again (SetBot handle bits) rest good =
        of (λ x. SetBot x.0 x.1) handle_and_flags_field (handle, bits) rest (fields_pass (SetBot handle bits) good.shape, bits_pass bits good.room)
    again (AddBan channel mask creator expires comment) rest good =
        let p = fields_pass (AddBan channel mask creator expires comment) good.shape in
        of ban_edit ban_field (new_ban channel mask creator expires comment) rest
        (record { channel = p.0; mask = p.1; creator = p.2; expires = good.room; comment = p.3 }, refl)
    again (DelBan channel mask) rest good = of (λ x. DelBan x.0 x.1) channel_and_mask_field (channel, mask) rest
        (fields_pass (DelBan channel mask) good.shape)
    again (SetInfo handle info) rest good = of (λ x. SetInfo x.0 x.1) set_info.field (handle, info) rest (fields_pass (SetInfo handle info) good.shape)
    again (SetSticky channel mask on) rest good =
        let p = fields_pass (SetSticky channel mask on) good.shape in
        of (λ x. SetSticky x.0 x.1.0 x.1.1) set_sticky.field (channel, (mask, on)) rest (p.0, (p.1, tt))

    stays : (bytes more : List ℕ) → Stays (edit_at bytes) (edit_at (bytes ++ more)) more
    stays bytes more = stays_bind (byte_at bytes) _ _ more (byte_field.laws.stays bytes more) (λ tag. fields_stay tag.0 tag.1 more)

-- ---- a known tag is not at fault

above : (tag k : ℕ) → k ≤ tag → eqb tag k ≡ false → suc k ≤ tag
above tag k le other = grind (arith, nat_tests)

pub known_edit : (tag : ℕ) (bytes : List ℕ) → is_edit_tag tag ≡ true → NoTag (edit_fields_at tag bytes)
unfolding edit_fields_at set_chan_at add_ban_at set_info_at set_sticky_at
known_edit tag bytes known =
    no_tag_where (eqb tag 1) _ _ (λ e. made_no_tag AddUser add_user.field bytes) (λ n1. let l1 = above tag 1 first n1 in
    no_tag_where (eqb tag 2) _ _ (λ e. made_no_tag DelUser del_user.field bytes) (λ n2. let l2 = above tag 2 l1 n2 in
    no_tag_where (eqb tag 3) _ _ (λ e. made_no_tag (λ x. AddHost x.0 x.1) add_host.field bytes) (λ n3. let l3 = above tag 3 l2 n3 in
    no_tag_where (eqb tag 4) _ _ (λ e. made_no_tag (λ x. DelHost x.0 x.1) del_host.field bytes) (λ n4. let l4 = above tag 4 l3 n4 in
    no_tag_where (eqb tag 5) _ _ (λ e. made_no_tag (λ x. SetGlobal x.0 x.1) set_global.field bytes) (λ n5. let l5 = above tag 5 l4 n5 in
    no_tag_where (eqb tag 6) _ _ (λ e. made_no_tag (λ x. SetChan x.0 x.1.0 x.1.1) set_chan.field bytes) (λ n6. let l6 = above tag 6 l5 n6 in
    no_tag_where (eqb tag 7) _ _ (λ e. made_no_tag (λ x. SetBot x.0 x.1) set_bot.field bytes) (λ n7. let l7 = above tag 7 l6 n7 in
    no_tag_where (eqb tag 8) _ _ (λ e. made_no_tag ban_edit add_ban.field bytes) (λ n8. let l8 = above tag 8 l7 n8 in
    no_tag_where (eqb tag 9) _ _ (λ e. made_no_tag (λ x. DelBan x.0 x.1) del_ban.field bytes) (λ n9. let l9 = above tag 9 l8 n9 in
    no_tag_where (eqb tag 10) _ _ (λ e. made_no_tag (λ x. SetInfo x.0 x.1) set_info.field bytes) (λ n10. let l10 = above tag 10 l9 n10 in
    no_tag_where (eqb tag 11) _ _ (λ e. made_no_tag (λ x. SetSticky x.0 x.1.0 x.1.1) set_sticky.field bytes) (λ n11. let l11 = above tag 11 l10 n11 in
    absurd (let high : 12 ≤ tag = l11 in let low : tag ≤ 11 = last in omega arith))))))))))))
  where
    first : 1 ≤ tag
    first = grind (arith, nat_tests)

    last : tag ≤ 11
    last = grind (arith, nat_tests)
