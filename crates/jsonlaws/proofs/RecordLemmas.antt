-- A line of records is a document of JSON, whose value is that of the records.
use Rattle.std.proofs.Common.{◌≡◌, ℕ, suc, ◌<◌, ◌≤◌, ◌^◌, ◌==◌, Bool, true, false, cond, if◌then◌else◌, List, [], ◌∷◌, ◌++◌, Some, option_and_then, refl, sym, ap, ◌∙◌, subst, arith, append_assoc, decimal, codes, filter}
use Rattle.std.specs.List.{list_all}
use Rattle.std.proofs.lemmas.Bool.{and_parts, and_from, ltb-true}
use Rattle.std.proofs.Math.Nat.{max-le}
use Rattle.flagexpr.specs.Letters.{spelling, dash_for_none, letters, has_letter}
use Rattle.userfile.specs.Records.{Records}
use Rattle.userfile.specs.declared.user.User.{User}
use Rattle.userfile.specs.declared.channel_flags.ChannelFlags.{ChannelFlags}
use Rattle.userfile.specs.declared.ban.Ban.{Ban}
use Rattle.json.specs.Text.{content}
use Rattle.json.specs.Lex.{lex, fresh, punctuate, tokens}
use Rattle.json.specs.Json.{Json, null, boolean, number, value, if_last, max_depth, document}
use Rattle.json.specs.Tree.{json_tokens, depth, items_depth}
use Rattle.json.proofs.Printed.Decimals.{IsNumber-decimal}
use Rattle.json.proofs.Printed.Trees.{value-json_tokens}
use Rattle.recordjson.specs.Words.{first, listed, next, or_null, quoted, second_or_null, truth}
use Rattle.recordjson.specs.Users.{chan_text, user_text}
use Rattle.recordjson.specs.Bans.{ban_text}
use Rattle.recordjson.specs.Records.{records_text}
use Rattle.jsonlaws.specs.Strings.{is_byte}
use Rattle.jsonlaws.specs.Values.{are_bytes, ban_value, chan_value, characters, characters_or_null, fits_ban, fits_entry, fits_user, items_of, records_value, second_value, user_value}
use Rattle.jsonlaws.proofs.ReadLemmas.{Names, ReadsValue, all_read, array_reads, end_reads, false_reads, member_reads, null_reads, number_reads, object_reads, string_reads, true_reads}

-- ---- names

named_handle : Names (codes "handle")
unfolding lex content
named_handle r = refl

named_flags : Names (codes "flags")
unfolding lex content
named_flags r = refl

named_bot : Names (codes "bot")
unfolding lex content
named_bot r = refl

named_info : Names (codes "info")
unfolding lex content
named_info r = refl

named_masks : Names (codes "masks")
unfolding lex content
named_masks r = refl

named_channels : Names (codes "channels")
unfolding lex content
named_channels r = refl

named_channel : Names (codes "channel")
unfolding lex content
named_channel r = refl

named_mask : Names (codes "mask")
unfolding lex content
named_mask r = refl

named_creator : Names (codes "creator")
unfolding lex content
named_creator r = refl

named_expires : Names (codes "expires")
unfolding lex content
named_expires r = refl

named_comment : Names (codes "comment")
unfolding lex content
named_comment r = refl

named_sticky : Names (codes "sticky")
unfolding lex content
named_sticky r = refl

named_version : Names (codes "version")
unfolding lex content
named_version r = refl

named_users : Names (codes "users")
unfolding lex content
named_users r = refl

named_bans : Names (codes "bans")
unfolding lex content
named_bans r = refl

-- ---- values of one field

dash_bytes : (xs : List ℕ) → are_bytes xs ≡ true → are_bytes (dash_for_none xs) ≡ true
dash_bytes [] h = refl
dash_bytes (x ∷ xs) h = h

picked_bytes : (b : Bool) (x : ℕ) (xs : List ℕ) → is_byte x ≡ true → are_bytes xs ≡ true → are_bytes (cond b (x ∷ xs) xs) ≡ true
picked_bytes true x xs h rest = and_from _ _ h rest
picked_bytes false x xs h rest = rest

filter_bytes : (p : ℕ → Bool) (xs : List ℕ) → are_bytes xs ≡ true → are_bytes (filter p xs) ≡ true
filter_bytes p [] h = refl
filter_bytes p (x ∷ xs) h = let parts = and_parts _ _ h in picked_bytes (p x) x (filter p xs) parts.0 (filter_bytes p xs parts.1)

letters_bytes : are_bytes letters ≡ true
unfolding letters
letters_bytes = refl

spelling_bytes : (flags : ℕ) → are_bytes (spelling flags) ≡ true
unfolding spelling
spelling_bytes flags = dash_bytes (filter (has_letter flags) letters) (filter_bytes (has_letter flags) letters letters_bytes)

flags_read : (flags : ℕ) → ReadsValue (quoted (spelling flags)) (characters (spelling flags))
flags_read flags = string_reads (spelling flags) (spelling_bytes flags)

or_null_reads : (text : List ℕ) → are_bytes text ≡ true → ReadsValue (or_null text) (characters_or_null text)
or_null_reads [] h = null_reads
or_null_reads (b ∷ bs) h = string_reads (b ∷ bs) h

chosen_reads : (b : Bool) {t u : List ℕ} {j k : Json} → ReadsValue t j → ReadsValue u k → ReadsValue (if b then t else u) (if b then j else k)
chosen_reads true h k = h
chosen_reads false h k = k

second_reads : (n : ℕ) → n < 2 ^ 64 → ReadsValue (second_or_null n) (second_value n)
second_reads n h = chosen_reads (n == 0) null_reads (number_reads (decimal n) (IsNumber-decimal n h))

truth_reads : (b : Bool) → ReadsValue (truth b) (boolean b)
truth_reads true = true_reads
truth_reads false = false_reads

-- ---- objects

chan_shape : (a b c d e : List ℕ) → a ++ b ++ c ++ d ++ e ≡ a ++ (b ++ (c ++ (d ++ e)))
chan_shape a b c d e = simp append_assoc

chan_reads : (entry : ChannelFlags) → fits_entry entry ≡ true → ReadsValue (chan_text entry) (chan_value entry)
chan_reads entry h =
    subst (λ t. ReadsValue t (chan_value entry)) (sym (chan_shape (first (codes "channel")) (quoted entry.channel) (next (codes "flags")) (quoted (spelling entry.flags)) (codes "}")))
    (object_reads named_channel (string_reads entry.channel h) (member_reads named_flags (flags_read entry.flags) end_reads))

user_shape : (a b c d e f g h i l k m : List ℕ)
    → (a ++ b ++ c ++ d ++ e ++ f ++ g ++ h) ++ (i ++ (91 ∷ []) ++ l ++ (93 ∷ []) ++ k ++ (91 ∷ []) ++ m ++ (93 ∷ 125 ∷ []))
    ≡ a ++ (b ++ (c ++ (d ++ (e ++ (f ++ (g ++ (h ++ (i ++ ((91 ∷ (l ++ 93 ∷ [])) ++ (k ++ ((91 ∷ (m ++ 93 ∷ [])) ++ 125 ∷ [])))))))))))
user_shape a b c d e f g h i l k m = simp append_assoc

user_reads : (user : User) → fits_user user ≡ true → ReadsValue (user_text user) (user_value user)
unfolding fits_user
user_reads user h =
    let channels = and_parts _ _ h in
    let masks = and_parts _ _ channels.0 in
    let texts = and_parts _ _ masks.0 in
    subst (λ t. ReadsValue t (user_value user)) (sym (user_shape (first (codes "handle")) (quoted user.handle) (next (codes "flags")) (quoted (spelling user.global))
    (next (codes "bot")) (quoted (spelling user.bot)) (next (codes "info")) (or_null user.info) (next (codes "masks")) (listed quoted user.masks)
    (next (codes "channels")) (listed chan_text user.channels)))
    (object_reads named_handle (string_reads user.handle texts.0) (member_reads named_flags (flags_read user.global) (member_reads named_bot (flags_read user.bot)
    (member_reads named_info (or_null_reads user.info texts.1)
    (member_reads named_masks (array_reads quoted characters user.masks (all_read quoted characters are_bytes string_reads user.masks masks.1))
    (member_reads named_channels (array_reads chan_text chan_value user.channels (all_read chan_text chan_value fits_entry chan_reads user.channels channels.1)) end_reads))))))

ban_shape : (a b c d e f g h i l k m n : List ℕ) → (a ++ b ++ c ++ d ++ e ++ f) ++ (g ++ h ++ i ++ l ++ k ++ m ++ n)
    ≡ a ++ (b ++ (c ++ (d ++ (e ++ (f ++ (g ++ (h ++ (i ++ (l ++ (k ++ (m ++ n)))))))))))
ban_shape a b c d e f g h i l k m n = simp append_assoc

ban_reads : (ban : Ban) → fits_ban ban ≡ true → ReadsValue (ban_text ban) (ban_value ban)
unfolding fits_ban
ban_reads ban h =
    let comment = and_parts _ _ h in
    let expires = and_parts _ _ comment.0 in
    let creator = and_parts _ _ expires.0 in
    let texts = and_parts _ _ creator.0 in
    subst (λ t. ReadsValue t (ban_value ban)) (sym (ban_shape (first (codes "channel")) (or_null ban.channel) (next (codes "mask")) (quoted ban.mask)
    (next (codes "creator")) (quoted ban.creator) (next (codes "expires")) (second_or_null ban.expires) (next (codes "comment")) (or_null ban.comment)
    (next (codes "sticky")) (truth ban.sticky) (codes "}")))
    (object_reads named_channel (or_null_reads ban.channel texts.0) (member_reads named_mask (string_reads ban.mask texts.1)
    (member_reads named_creator (string_reads ban.creator creator.1) (member_reads named_expires (second_reads ban.expires (ltb-true _ _ expires.1))
    (member_reads named_comment (or_null_reads ban.comment comment.1) (member_reads named_sticky (truth_reads ban.sticky) end_reads))))))

records_shape : (a b c d e l k m : List ℕ) → a ++ b ++ c ++ d ++ e ++ (91 ∷ []) ++ l ++ (93 ∷ []) ++ k ++ (91 ∷ []) ++ m ++ (93 ∷ 125 ∷ [])
    ≡ a ++ (b ++ (c ++ (d ++ (e ++ ((91 ∷ (l ++ 93 ∷ [])) ++ (k ++ ((91 ∷ (m ++ 93 ∷ [])) ++ 125 ∷ [])))))))
records_shape a b c d e l k m = simp append_assoc

module _ (bot version : ℕ) (records : Records) where
  pub records_read : bot < 2 ^ 64 → version < 2 ^ 64 → list_all fits_user records.users ≡ true → list_all fits_ban records.bans ≡ true
      → ReadsValue (records_text bot version records) (records_value bot version records)
  records_read bot_fits version_fits users bans =
      subst (λ t. ReadsValue t (records_value bot version records)) (sym (records_shape (first (codes "bot")) (decimal bot) (next (codes "version")) (decimal version)
      (next (codes "users")) (listed user_text records.users) (next (codes "bans")) (listed ban_text records.bans)))
      (object_reads named_bot (number_reads (decimal bot) (IsNumber-decimal bot bot_fits)) (member_reads named_version (number_reads (decimal version) (IsNumber-decimal version version_fits))
      (member_reads named_users (array_reads user_text user_value records.users (all_read user_text user_value fits_user user_reads records.users users))
      (member_reads named_bans (array_reads ban_text ban_value records.bans (all_read ban_text ban_value fits_ban ban_reads records.bans bans)) end_reads))))

-- ---- how deep objects and lists nest

items_within : {A : Type 0} (g : A → Json) (k : ℕ) → ((x : A) → depth (g x) ≤ k) → (xs : List A) → items_depth (items_of g xs) ≤ k
items_within g k each [] = omega arith
items_within g k each (x ∷ xs) = max-le (each x) (items_within g k each xs)

maybe_flat : (text : List ℕ) → depth (characters_or_null text) ≤ 0
maybe_flat [] = omega arith
maybe_flat (b ∷ bs) = omega arith

chosen_flat : (b : Bool) (j k : Json) → depth j ≤ 0 → depth k ≤ 0 → depth (if b then j else k) ≤ 0
chosen_flat true j k h l = h
chosen_flat false j k h l = l

deeper : (n k : ℕ) → n ≤ k → suc n ≤ suc k
deeper n k h = omega (arith, h)

wider : {n : ℕ} (k : ℕ) → n ≤ 0 → n ≤ k
wider k h = omega (arith, h)

none : (k : ℕ) → 0 ≤ k
none k = omega arith

user_depth : (user : User) → depth (user_value user) ≤ 3
user_depth user =
    deeper _ 2 (max-le (none 2) (max-le (none 2) (max-le (none 2) (max-le (wider 2 (maybe_flat user.info))
    (max-le (deeper _ 1 (items_within characters 1 (λ t. none 1) user.masks))
    (max-le (deeper _ 1 (items_within chan_value 1 (λ e. deeper 0 0 (none 0)) user.channels)) (none 2)))))))

ban_depth : (ban : Ban) → depth (ban_value ban) ≤ 3
ban_depth ban =
    deeper _ 2 (max-le (wider 2 (maybe_flat ban.channel)) (max-le (none 2) (max-le (none 2)
    (max-le (wider 2 (chosen_flat (ban.expires == 0) null (number (decimal ban.expires)) (none 0) (none 0))) (max-le (wider 2 (maybe_flat ban.comment)) (max-le (none 2) (none 2)))))))

records_depth : (bot version : ℕ) (records : Records) → depth (records_value bot version records) ≤ 128
records_depth bot version records =
    deeper _ 127 (max-le (none 127) (max-le (none 127)
    (max-le (deeper _ 126 (items_within user_value 126 (λ u. omega (arith, user_depth u)) records.users))
    (max-le (deeper _ 126 (items_within ban_value 126 (λ b. omega (arith, ban_depth b)) records.bans)) (none 127)))))

-- ---- the line

line_end : (text : List ℕ) (j : Json) → ReadsValue text j → tokens (text ++ 10 ∷ []) ≡ json_tokens j ++ []
unfolding lex punctuate
line_end text j h = h.reads fresh (10 ∷ []) refl refl refl

pub line_is_document : (text : List ℕ) (j : Json) → ReadsValue text j → depth j ≤ 128 → document (text ++ 10 ∷ []) ≡ Some j
line_is_document text j h shallow =
    ap (λ ts. option_and_then (λ p. if_last p.0 p.1) (value max_depth ts)) (line_end text j h)
    ∙ ap (option_and_then (λ p. if_last p.0 p.1)) (value-json_tokens j max_depth [] shallow)

pub records_are_document : (bot version : ℕ) (records : Records) → bot < 2 ^ 64 → version < 2 ^ 64 → list_all fits_user records.users ≡ true
    → list_all fits_ban records.bans ≡ true → document (records_text bot version records ++ 10 ∷ []) ≡ Some (records_value bot version records)
records_are_document bot version records bot_fits version_fits users bans =
    line_is_document (records_text bot version records) (records_value bot version records) (records_read bot version records bot_fits version_fits users bans)
    (records_depth bot version records)
