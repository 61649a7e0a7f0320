-- What a server announces of its channels (RPL_ISUPPORT, numeric 005). PREFIX has the modes that mark a member and the
-- signs that stand for them before a nick. CHANMODES has the other modes by their type. What the server has not
-- announced is as in RFC 2812. Sets of ASCII bytes are tables; no other byte is in a set.
use Rattle.std.specs.Prelude.{ℕ, Bool, true, false, ◌||◌, ◌&&◌, ◌==◌, List, [], ◌∷◌, Option, None, Some, nat_lt, length, drop, take, replicate, codes, min}
use Rattle.std.specs.Prelude.{nat_le, ◌+◌, ◌*◌, ◌-◌, not, slice_get, slice_index, slice_set, unwrap_or, if◌then◌else◌, option_and_then}
use Rattle.std.specs.List.{position_or_len}
use Rattle.std.specs.Str.{bytes_eq}
use Rattle.rfccase.specs.declared.casemappings.Casemapping.TheVariants.{Rfc1459}
use Rattle.rfccase.specs.Casemapping.{mapping_named}
use Rattle.chanstate.specs.declared.letters.Letters.{Letters}
use Rattle.chanstate.specs.declared.support.Support.{Support}
use Rattle.chanstate.specs.declared.support.TheConstants.{MAX_MODES}

-- ---- sets of bytes

abbrev pub is_in : ℕ → Letters → Bool
is_in b set = unwrap_or (slice_get set.table b) false

abbrev pub with_letter : ℕ → Letters → Letters
with_letter b set = if nat_lt b 128 then record { table = slice_set set.table b true } else set

abbrev pub with_letters : List ℕ → Letters → Letters
with_letters [] set = set
with_letters (b ∷ bs) set = with_letters bs (with_letter b set)

unfoldable pub no_letters : Letters
no_letters = record { table = replicate 128 false }

abbrev pub letters_of : List ℕ → Letters
letters_of text = with_letters text no_letters

-- ---- what is announced

-- before a server has announced anything: o v h mark members; b e I k always have an argument, l has one when it is set;
-- one MODE line may have three modes with an argument (RFC 2812 section 3.2.3)
unfoldable pub unannounced : Support
unannounced = record {
  ranks = letters_of (codes "ovh");
  signs = letters_of (codes "@%+&~");
  always = letters_of (codes "beIk");
  when_set = letters_of (codes "l");
  status = no_letters;
  channel_types = letters_of (codes "&#+!");
  casemapping = Rfc1459;
  join_read = false;
  joins_tell = false;
  mode_limit = 3;
}

-- What holds after a welcome: nothing is announced, but the capabilities stay that the server acknowledged before it.
abbrev pub welcomed : Support → Support
welcomed s = record unannounced { joins_tell = s.joins_tell }

-- a text cut at the first such byte, which is dropped; without such a byte it is not cut
abbrev pub front_len : ℕ → List ℕ → ℕ
front_len byte text = position_or_len (λ b. b == byte) text

abbrev pub cut : ℕ → List ℕ → Option (List ℕ × List ℕ)
cut byte text =
    if front_len byte text == length text then None
    else Some (take (front_len byte text) text, drop 1 (drop (front_len byte text) text))

-- PREFIX=(letters)signs: as many signs as letters. An empty value says that no mode marks a member; any other value
-- announces nothing.
abbrev pub ranked : Option (List ℕ × List ℕ) → Support → Support
ranked None s = s
ranked (Some p) s =
    if length p.0 == length p.1 then record s { ranks = letters_of p.0; signs = letters_of p.1 } else s

abbrev pub opened : Option (List ℕ × List ℕ) → Support → Support
opened None s = s
opened (Some p) s = if length p.0 == 0 then ranked (cut 41 p.1) s else s

abbrev pub with_prefix : List ℕ → Support → Support
with_prefix value s =
    if length value == 0 then record s { ranks = no_letters; signs = no_letters } else opened (cut 40 value) s

-- CHANMODES=A,B,C,D: A and B always have an argument, C has one when it is set, and D never. Without all four the token
-- announces nothing.
abbrev pub typed_three : List ℕ → List ℕ → Option (List ℕ × List ℕ) → Support → Support
typed_three a b None s = s
typed_three a b (Some p) s = record s { always = with_letters b (letters_of a); when_set = letters_of p.0 }

abbrev pub typed_two : List ℕ → Option (List ℕ × List ℕ) → Support → Support
typed_two a None s = s
typed_two a (Some p) s = typed_three a p.0 (cut 44 p.1) s

abbrev pub typed_one : Option (List ℕ × List ℕ) → Support → Support
typed_one None s = s
typed_one (Some p) s = typed_two p.0 (cut 44 p.1) s

abbrev pub with_types : List ℕ → Support → Support
with_types value s = typed_one (cut 44 value) s

-- STATUSMSG=signs: the signs that may stand before the name of a channel to which a text is sent
abbrev pub with_status : List ℕ → Support → Support
with_status value s = record s { status = letters_of value }

-- CASEMAPPING=name: how the server compares names. It counts only while no JOIN has been read, so that no channel or
-- member is held that was found by another casemapping.
abbrev pub with_casemapping : List ℕ → Support → Support
with_casemapping value s = if s.join_read then s else record s { casemapping = mapping_named value }

-- CHANTYPES=bytes: the bytes with which the names of channels begin on this server. As with the casemapping, it counts
-- only while no JOIN has been read, so that no held channel stops being one.
abbrev pub with_channel_types : List ℕ → Support → Support
with_channel_types value s = if s.join_read then s else record s { channel_types = letters_of value }

-- decimal digits, and the number that they mean, at most MAX_MODES
abbrev pub is_digit : ℕ → Bool
is_digit b = nat_le 48 b && nat_le b 57

abbrev pub digit_onto : ℕ → ℕ → Option ℕ
digit_onto value b = if is_digit b then Some (min (value * 10 + (b - 48)) MAX_MODES) else None

abbrev pub number_from : ℕ → List ℕ → Option ℕ
number_from value [] = Some value
number_from value (b ∷ bs) = option_and_then (λ longer. number_from longer bs) (digit_onto value b)

abbrev pub number_in : List ℕ → Option ℕ
number_in text = number_from 0 text

-- MODES=number: how many modes with an argument one MODE line may have. An empty value says that there is no limit, and
-- is kept as MAX_MODES. The number 0 announces nothing, and neither does a value with another byte than a digit.
abbrev pub limited : Option ℕ → Support → Support
limited None s = s
limited (Some number) s = if number == 0 then s else record s { mode_limit = number }

abbrev pub with_modes : List ℕ → Support → Support
with_modes value s = if length value == 0 then record s { mode_limit = MAX_MODES } else limited (number_in value) s

-- a JOIN has been read
abbrev pub with_join : Support → Support
with_join s = record s { join_read = true }

-- whether a JOIN tells the account (the capability extended-join)
abbrev pub with_joins_tell : Bool → Support → Support
with_joins_tell tell s = record s { joins_tell = tell }

-- a token is KEY=value, or KEY alone with an empty value
abbrev pub key_and_value : List ℕ → Option (List ℕ × List ℕ) → List ℕ × List ℕ
key_and_value token None = (token, [])
key_and_value token (Some p) = p

-- one token; any other key, also a retracted one (-KEY), announces nothing here
abbrev pub announced_by : List ℕ × List ℕ → Support → Support
announced_by p s =
    if bytes_eq p.0 (codes "PREFIX") then with_prefix p.1 s
    else (if bytes_eq p.0 (codes "CHANMODES") then with_types p.1 s
    else (if bytes_eq p.0 (codes "CASEMAPPING") then with_casemapping p.1 s
    else (if bytes_eq p.0 (codes "CHANTYPES") then with_channel_types p.1 s
    else (if bytes_eq p.0 (codes "STATUSMSG") then with_status p.1 s
    else (if bytes_eq p.0 (codes "MODES") then with_modes p.1 s else s)))))

abbrev pub with_token : List ℕ → Support → Support
with_token token s = announced_by (key_and_value token (cut 61 token)) s

-- tokens in their order: the last value of each key holds
abbrev pub announced : List (List ℕ) → Support → Support
announced [] s = s
announced (token ∷ more) s = announced more (with_token token s)

-- ---- what it says

-- whether a mode has an argument when it is set, or when it is cleared
abbrev pub takes_argument : Support → Bool → ℕ → Bool
takes_argument s on b = is_in b s.ranks || (is_in b s.always || (on && is_in b s.when_set))

-- whether a byte is a sign that stands before a nick in a list of names
abbrev pub is_sign : Support → ℕ → Bool
is_sign s b = is_in b s.signs

-- whether a name begins with a byte with which the names of channels begin
abbrev pub is_typed : Support → List ℕ → Bool
is_typed s name = is_in (slice_index name 0) s.channel_types

-- whether a target begins with a sign of STATUSMSG
abbrev pub has_status : Support → List ℕ → Bool
has_status s target = not (length target == 0) && is_in (slice_index target 0) s.status
