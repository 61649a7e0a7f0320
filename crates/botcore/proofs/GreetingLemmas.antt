-- The greeting of a bot: no line of it is refused, and what waits of it.
use Rattle.std.proofs.Common.{◌≡◌, ◌∙◌, ℕ, zero, suc, ◌+◌, ◌≤◌, ◌<◌, ◌==◌, nat_le, Bool, true, false, cond, if◌then◌else◌, filter, not, ◌&&◌, ◌||◌, Option, None, Some, min}
use Rattle.std.proofs.Common.{List, [], ◌∷◌, ◌++◌, length, take, codes, slice_index, refl, ap, sym, arith, length-append}
use Rattle.std.proofs.lemmas.Bool.{and_parts, or_parts, or_from, le-ltb, leb-true, lt-leb, ne_eqb}
use Rattle.std.proofs.lemmas.List.{length-take}
use Rattle.std.proofs.lemmas.List.Folds.{list_any-append}
use Rattle.std.specs.Char.{is_ascii_alphanumeric}
use Rattle.std.specs.List.{list_any, list_all}
use Rattle.ircline.proofs.TextLemmas.{apart, none-all}
use Rattle.outqueue.specs.declared.fault.QueueFault.{QueueFault}
use Rattle.outqueue.specs.declared.limits.TheConstants.{MAX_BYTES, MAX_LINES}
use Rattle.outqueue.specs.declared.queue.Queue.TheVariants.{Mode}
use Rattle.outqueue.specs.declared.queues.Counts.{Counts}
use Rattle.outqueue.specs.Refusals.{is_break, is_bad_line, refusal}
use Rattle.outqueue.specs.Sending.{Sending, idle, waiting, sent, with_first, count_at}
use Rattle.outqueue.proofs.Drains.{length-sent}
use Rattle.outqueue.proofs.JoinedDrains.{nothing_leaves}
use Rattle.botcore.specs.Leaving.{leaving}
use Rattle.botcore.specs.Automatic.{greeting, or_bot, user_name, user_of, wish}
use Rattle.botcore.specs.Configs.{IsGood, is_nick, is_nick_byte}
use Rattle.botcore.specs.Putting.{put_faults, queued, queued_unless, with_line_fault}
use Rattle.botcore.specs.declared.config.Config.{Config}
use Rattle.botcore.specs.declared.limits.TheConstants.{MAX_NICK, MAX_USER}
use Rattle.botcore.specs.declared.manner.Manner.TheVariants.{InTurn}

-- no line is refused -----------------------------------------------------------------------------------------------------

-- a byte of a nick ends no line
no_break : (b : ℕ) → is_nick_byte b ≡ true → is_break b ≡ false
no_break b is = rw (apart is_nick_byte 0 b is refl, apart is_nick_byte 10 b is refl, apart is_nick_byte 13 b is refl) refl

-- of two texts neither of which has a break
no_breaks : (xs ys : List ℕ) → list_any is_break xs ≡ false → list_any is_break ys ≡ false → list_any is_break (xs ++ ys) ≡ false
no_breaks xs ys none nor = list_any-append is_break xs ys ∙ ap (λ b. b || list_any is_break ys) none ∙ nor

good_line : (line : List ℕ) → 0 < length line → length line ≤ MAX_BYTES → list_any is_break line ≡ false → is_bad_line line ≡ false
good_line line some short none = rw (ne_eqb (length line) 0 (λ e. absurd (omega arith)), le-ltb MAX_BYTES (length line) short, none) refl

-- a nick is short, and has no break
nick_parts : (nick : List ℕ) → is_nick nick ≡ true → (length nick ≤ MAX_NICK) × (list_any is_break nick ≡ false)
nick_parts nick is =
    let parts = (and_parts (nat_le (length nick) MAX_NICK) (not (slice_index nick 0 == 58) && list_all is_nick_byte nick)
    (and_parts (nat_le 1 (length nick)) (nat_le (length nick) MAX_NICK && (not (slice_index nick 0 == 58) && list_all is_nick_byte nick)) is).1) in (
      leb-true (length nick) MAX_NICK parts.0,
      none-all is_break is_nick_byte no_break nick (and_parts (not (slice_index nick 0 == 58)) (list_all is_nick_byte nick) parts.1).1,
    )

nick_good : (nick : List ℕ) → is_nick nick ≡ true → is_bad_line (codes "NICK " ++ (nick ++ [])) ≡ false
nick_good nick is =
    let parts = nick_parts nick is in
    let short = parts.0 in
    let len : length (nick ++ []) ≡ length nick + 0 = length-append nick [] in
    let all : length (codes "NICK " ++ (nick ++ [])) ≡ 5 + length (nick ++ []) = length-append (codes "NICK ") (nick ++ []) in
    good_line (codes "NICK " ++ (nick ++ [])) (omega arith) (omega arith) (no_breaks (codes "NICK ") (nick ++ []) refl (no_breaks nick [] parts.1 refl))

-- a user name is as short as a nick, and has no break
plain_byte : (b : ℕ) → is_ascii_alphanumeric b ≡ true → is_break b ≡ false
plain_byte b is =
    rw (apart is_ascii_alphanumeric 0 b is refl, apart is_ascii_alphanumeric 10 b is refl, apart is_ascii_alphanumeric 13 b is refl) refl

no_break-take : (n : ℕ) (xs : List ℕ) → list_any is_break xs ≡ false → list_any is_break (take n xs) ≡ false
no_break-take zero xs none = refl
no_break-take (suc n) [] none = refl
no_break-take (suc n) (x ∷ xs) none =
    let parts = or_parts (is_break x) (list_any is_break xs) none in
    or_from (is_break x) (list_any is_break (take n xs)) parts.0 (no_break-take n xs parts.1)

no_break-next : (x : ℕ) (rest : List ℕ) → list_any is_break rest ≡ false
    → (plain : Bool) → is_ascii_alphanumeric x ≡ plain → list_any is_break (cond plain (x ∷ rest) rest) ≡ false
no_break-next x rest none true is = or_from (is_break x) (list_any is_break rest) (plain_byte x is) none
no_break-next x rest none false is = none

no_break-plain : (xs : List ℕ) → list_any is_break (filter is_ascii_alphanumeric xs) ≡ false
no_break-plain [] = refl
no_break-plain (x ∷ xs) =
    no_break-next x (filter is_ascii_alphanumeric xs) (no_break-plain xs) (is_ascii_alphanumeric x) refl

or_bot-parts : (bytes : List ℕ) → length bytes ≤ MAX_NICK → list_any is_break bytes ≡ false
    → (length (or_bot bytes) ≤ MAX_NICK) × (list_any is_break (or_bot bytes) ≡ false)
or_bot-parts [] short none = (omega arith, refl)
or_bot-parts (b ∷ bytes) short none = (short, none)

user_parts : (config : Config) → is_nick config.nick ≡ true
    → (length (user_name config) ≤ MAX_NICK) × (list_any is_break (user_name config) ≡ false)
user_parts config is = by config.sends_at_once
  where
    by : (at_once : Bool) → (length (if at_once then user_of config.nick else config.nick) ≤ MAX_NICK)
        × (list_any is_break (if at_once then user_of config.nick else config.nick) ≡ false)
    by true =
        let plain = filter is_ascii_alphanumeric config.nick in
        let len : length (take MAX_USER plain) ≡ min MAX_USER (length plain) = length-take MAX_USER plain in
        or_bot-parts (take MAX_USER plain) (omega arith) (no_break-take MAX_USER plain (no_break-plain config.nick))
    by false = nick_parts config.nick is

user_good : (user nick : List ℕ) → length user ≤ MAX_NICK → list_any is_break user ≡ false → is_nick nick ≡ true
    → is_bad_line (codes "USER " ++ (user ++ (codes " 0 * :" ++ (nick ++ [])))) ≡ false
user_good user nick small unbroken is =
    let parts = nick_parts nick is in
    let short = parts.0 in
    let name = codes " 0 * :" ++ (nick ++ []) in
    let len : length (nick ++ []) ≡ length nick + 0 = length-append nick [] in
    let name_len : length name ≡ 6 + length (nick ++ []) = length-append (codes " 0 * :") (nick ++ []) in
    let rest_len : length (user ++ name) ≡ length user + length name = length-append user name in
    let all : length (codes "USER " ++ (user ++ name)) ≡ 5 + length (user ++ name) = length-append (codes "USER ") (user ++ name) in
    good_line (codes "USER " ++ (user ++ name)) (omega arith) (omega arith)
    (no_breaks (codes "USER ") (user ++ name) refl
    (no_breaks user name unbroken (no_breaks (codes " 0 * :") (nick ++ []) refl (no_breaks nick [] parts.1 refl))))

-- a good line is put into a queue that is not full
not_refused : (q : Sending) (line : List ℕ) → is_bad_line line ≡ false → length q.mode < MAX_LINES → refusal q Mode line ≡ None
unfolding refusal
not_refused q line good few = rw (good, lt-leb MAX_LINES (length q.mode) few) refl

-- so the greeting of a good configuration is queued whole
pub greeting_put : (config : Config) → IsGood config → put_faults InTurn idle (greeting config) ≡ []
greeting_put config good =
    let nick_wish = wish Mode (codes "NICK " ∷ config.nick ∷ []) in
    let user_wish = wish Mode (codes "USER " ∷ user_name config ∷ codes " 0 * :" ∷ config.nick ∷ []) in
    let queues : Sending = record idle { mode = nick_wish.line ∷ [] } in
    let nick : refusal idle Mode nick_wish.line ≡ None = not_refused idle nick_wish.line (nick_good config.nick good.nick) (omega arith) in
    let parts = user_parts config good.nick in
    let user : refusal queues Mode user_wish.line ≡ None =
    not_refused queues user_wish.line (user_good (user_name config) config.nick parts.0 parts.1 good.nick) (omega arith) in
    ap (λ (o : Option QueueFault). with_line_fault o (put_faults InTurn (queued InTurn idle nick_wish) (user_wish ∷ []))) nick
    ∙ ap (λ (o : Option QueueFault). put_faults InTurn (queued_unless o InTurn idle nick_wish) (user_wish ∷ [])) nick
    ∙ ap (λ (o : Option QueueFault). with_line_fault o []) user

-- what waits -------------------------------------------------------------------------------------------------------------

empty : {X : Type 0} (xs : List X) → length xs ≡ 0 → xs ≡ []
empty [] e = refl
empty (x ∷ xs) e = cc

-- if no line may go, then none waits
none_waits_alone : (q : Sending) (now : ℕ) → q.timer ≡ 0 → sent q now ≡ [] → waiting q ≡ []
none_waits_alone q now timer none =
    let count : length (sent q now) ≡ count_at q now = length-sent q now in
    let no : length (sent q now) ≡ 0 = ap length none in
    empty (waiting q) (omega arith)

pub none_waits : (most : Option ℕ) (q : Sending) (now : ℕ) → q.timer ≡ 0 → leaving most q now ≡ [] → waiting q ≡ []
none_waits None q now timer none = none_waits_alone q now timer none
none_waits (Some most) q now timer none = none_waits_alone q now timer (nothing_leaves most q now none)

-- then the first lines of each queue are none
pub none_left : (q : Sending) (left : Counts) → waiting (with_first q left) ≡ []
    → (min left.prompt (length q.prompt) == 0 && (min left.mode (length q.mode) == 0
    && (min left.server (length q.server) == 0 && min left.help (length q.help) == 0))) ≡ true
none_left q left none =
    let prompt : length (take left.prompt q.prompt) ≡ min left.prompt (length q.prompt) = length-take left.prompt q.prompt in
    let mode : length (take left.mode q.mode) ≡ min left.mode (length q.mode) = length-take left.mode q.mode in
    let server : length (take left.server q.server) ≡ min left.server (length q.server) = length-take left.server q.server in
    let help : length (take left.help q.help) ≡ min left.help (length q.help) = length-take left.help q.help in
    let lower : length (take left.server q.server ++ take left.help q.help) ≡ length (take left.server q.server) + length (take left.help q.help)
    = length-append (take left.server q.server) (take left.help q.help) in
    let queues : length (take left.mode q.mode ++ (take left.server q.server ++ take left.help q.help))
    ≡ length (take left.mode q.mode) + length (take left.server q.server ++ take left.help q.help)
    = length-append (take left.mode q.mode) (take left.server q.server ++ take left.help q.help) in
    let all : 0 ≡ length (take left.prompt q.prompt) + length (take left.mode q.mode ++ (take left.server q.server ++ take left.help q.help))
    = ap length (sym none) ∙ length-append (take left.prompt q.prompt) (take left.mode q.mode ++ (take left.server q.server ++ take left.help q.help)) in
    let no_prompt : min left.prompt (length q.prompt) ≡ 0 = omega arith in
    let no_mode : min left.mode (length q.mode) ≡ 0 = omega arith in
    let no_server : min left.server (length q.server) ≡ 0 = omega arith in
    let no_help : min left.help (length q.help) ≡ 0 = omega arith in
    rw (no_prompt, no_mode, no_server, no_help) refl
