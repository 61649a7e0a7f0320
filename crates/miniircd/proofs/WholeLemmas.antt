-- Each command leaves sound channels, whose members are held.
use Rattle.std.proofs.Common.{◌≡◌, ◌≢◌, ℕ, ◌<◌, Bool, true, not, ◌&&◌, ◌==◌, cond, List, [], ◌∷◌, Option, Some, None, is_some, filter, map, length, refl, sym, ◌∙◌, ap, subst, inl, inr, arith, zero, suc, ◌≤◌, ◌||◌, take, drop}
use Rattle.std.specs.List.{list_all, list_any, slice_split, position}
use Rattle.std.specs.Prelude.{slice_set, slice_get, slice_index_or, nat_le}
use Rattle.std.proofs.lemmas.Bool.{and_from, and_parts, cases_eq, cond_both, not-true, or_right, le-leb, leb-true}
use Rattle.std.proofs.lemmas.Bool.Decides.{nat_tests}
use Rattle.std.proofs.lemmas.List.{get_or-set_same, get_or-set_other, get_or_past, length-take, length-map}
use Rattle.std.proofs.lemmas.List.Folds.{list_all-append}
use Rattle.ircline.specs.Classes.{filled, nospcrlf, middle, trailing, is_end}
use Rattle.ircline.specs.Carrying.{kept_command, carries_prefix, carries_params}
use Rattle.ircline.specs.Words.{up_to}
use Rattle.ircline.specs.Reading.{line_of}
use Rattle.ircline.specs.Stream.{IsRun}
use Rattle.ircline.specs.declared.line.Line.{Line}
use Rattle.ircline.specs.declared.line.Line.TheVariants as line
use Rattle.ircline.proofs.GrammarLemmas.{middle_all, nospcrlf_octets}
use Rattle.ircline.proofs.PrintingLemmas.{parts_carried}
use Rattle.ircline.proofs.TextLemmas.{none-all, all-up_to}
use Rattle.ircline.specs.declared.message.Message.{Message}
use Rattle.miniircd.specs.declared.client_identity.ClientIdentity.{ClientIdentity}
use Rattle.miniircd.specs.declared.member.ServerMember.{ServerMember}
use Rattle.miniircd.specs.declared.member.ServerChannel.{ServerChannel}
use Rattle.miniircd.specs.declared.client_command.ClientCommand.{ClientCommand}
use Rattle.miniircd.specs.declared.client_command.ClientCommand.TheVariants as command
use Rattle.miniircd.specs.declared.server_change.ServerChange.{ServerChange}
use Rattle.miniircd.specs.declared.server_change.ServerChange.TheVariants as change
use Rattle.miniircd.specs.declared.server_change.Effect.{Effect}
use Rattle.miniircd.specs.declared.standing.Standing.{Standing}
use Rattle.miniircd.specs.declared.standing.Standing.TheVariants as standing
use Rattle.miniircd.specs.declared.modes.Single.{Single}
use Rattle.miniircd.specs.declared.entrance.Entrance.{Entrance}
use Rattle.miniircd.specs.declared.entrance.Entrance.TheVariants as entrance
use Rattle.miniircd.specs.People.{blank, held_at, holder, or_empty, word_at, is_registered}
use Rattle.miniircd.specs.Modes.{singles}
use Rattle.miniircd.specs.Rooms.{Edition, Enter, Leave, Title, Mark, Ban, is_client, is_named, plain, opened, marked, members_after, topic_after, edited, edited_if, concerns, is_used, rooms_after, room, is_full, entrance_of, entered_at, joined_by, joined, joined_each}
use Rattle.miniircd.specs.Lines.{source_of}
use Rattle.miniircd.specs.Commands.{part_change, topic_change, kicked, kick_change, target_on, is_mark, is_ban_of, counts, marked_on, banned_on, moded, moded_each, mode_change, nick_change, is_other, is_nick, user_change, change_by, is_admitted, change_of, command_of, needed, is_open, is_quit, user_byte, standing_in}
use Rattle.miniircd.specs.Server.{Server, changed, effected, left, after_message, after_line}
use Rattle.miniircd.specs.Whole.{is_held, are_clients, is_sound_channel, are_sound_channels, is_sound_person, is_sound_slot, IsWhole}
use Rattle.miniircd.proofs.ListLemmas.{list_all-filtered, list_all-mapped, list_all-weaker, list_all-taken, list_all-set, list_all-index}

-- ---- channels that all pass

-- what is kept of the channels after an edit
rooms_pass : (p q : ServerChannel → Bool) (f : ServerChannel → ServerChannel) → ((channel : ServerChannel) → p channel ≡ true → q (f channel) ≡ true)
    → (channels : List ServerChannel) → list_all p channels ≡ true → list_all q (filter is_used (map f channels)) ≡ true
rooms_pass p q f step channels all =
    list_all-filtered q q is_used (λ channel is used. is) (map f channels) (list_all-mapped p q f step channels all)

-- ---- members

-- who joins by an edit passes the test, and a new topic is a text
abbrev pub is_sound_edit : (ℕ → Bool) → Edition → Bool
is_sound_edit test (Enter client) = test client
is_sound_edit test (Leave client) = true
is_sound_edit test (Title topic) = trailing topic
is_sound_edit test (Mark client is_voice on) = true
is_sound_edit test (Ban text on) = true

marked_client : (client : ℕ) (is_voice on : Bool) (m : ServerMember) → (marked client is_voice on m).client ≡ m.client
marked_client client is_voice on m =
    let voiced = record m { voice = on } in
    let opped = record m { op = on } in
    cond_both (is_client client m) (cond is_voice voiced opped) m (λ (x : ServerMember). x.client ≡ m.client)
    (λ is. cond_both is_voice voiced opped (λ (x : ServerMember). x.client ≡ m.client) (λ b. refl) (λ b. refl)) (λ isnt. refl)

members_pass : (test : ℕ → Bool) (edit : Edition) (members : List ServerMember) → is_sound_edit test edit ≡ true → are_clients test members ≡ true
    → are_clients test (members_after edit members) ≡ true
members_pass test (Enter client) members is all =
    list_all-append (λ (m : ServerMember). test m.client) members (plain client ∷ []) ∙ and_from _ _ all (and_from _ true is refl)
members_pass test (Leave client) members is all =
    list_all-filtered (λ (m : ServerMember). test m.client) (λ (m : ServerMember). test m.client) (λ m. not (is_client client m))
    (λ m there other. there) members all
members_pass test (Title topic) members is all = all
members_pass test (Ban text on) members is all = all
members_pass test (Mark client is_voice on) members is all =
    list_all-mapped (λ (m : ServerMember). test m.client) (λ (m : ServerMember). test m.client) (marked client is_voice on)
    (λ m there. ap test (marked_client client is_voice on m) ∙ there) members all

members_left : (test next : ℕ → Bool) (client : ℕ) → ((k : ℕ) → test k ≡ true → k ≢ client → next k ≡ true)
    → (members : List ServerMember) → are_clients test members ≡ true → are_clients next (members_after (Leave client) members) ≡ true
members_left test next client step members all =
    list_all-filtered (λ (m : ServerMember). test m.client) (λ (m : ServerMember). next m.client) (λ m. not (is_client client m))
    (λ m there other. step m.client there (λ same. let is : (m.client == client) ≡ true = grind
    (arith, nat_tests) in let differs = not-true (m.client == client) other in cc))
    members all

-- ---- channels

topic_passes : (test : ℕ → Bool) (edit : Edition) (topic : List ℕ) → is_sound_edit test edit ≡ true → trailing topic ≡ true
    → trailing (topic_after edit topic) ≡ true
topic_passes test (Enter client) topic is old = old
topic_passes test (Ban text on) topic is old = old
topic_passes test (Leave client) topic is old = old
topic_passes test (Title new) topic is old = is
topic_passes test (Mark client is_voice on) topic is old = old

edited_passes : (test : ℕ → Bool) (edit : Edition) (channel : ServerChannel) → is_sound_edit test edit ≡ true
    → is_sound_channel test channel ≡ true → is_sound_channel test (edited edit channel) ≡ true
edited_passes test edit channel is there =
    let parts = and_parts (are_clients test channel.members) (trailing channel.topic) there in
    and_from _ _ (members_pass test edit channel.members is parts.0) (topic_passes test edit channel.topic is parts.1)

rooms_keep : (test : ℕ → Bool) (name : Option (List ℕ)) (edit : Edition) (channels : List ServerChannel) → is_sound_edit test edit ≡ true
    → are_sound_channels test channels ≡ true → are_sound_channels test (rooms_after name edit channels) ≡ true
rooms_keep test name edit channels is all =
    rooms_pass (is_sound_channel test) (is_sound_channel test) (edited_if name edit)
    (λ channel there. cond_both (concerns name channel) (edited edit channel) channel (λ (c : ServerChannel). is_sound_channel test c ≡ true)
    (λ b. edited_passes test edit channel is there) (λ b. there))
    channels all

channel_left : (test next : ℕ → Bool) (client : ℕ) → ((k : ℕ) → test k ≡ true → k ≢ client → next k ≡ true)
    → (channel : ServerChannel) → is_sound_channel test channel ≡ true → is_sound_channel next (edited (Leave client) channel) ≡ true
channel_left test next client step channel there =
    let parts = and_parts (are_clients test channel.members) (trailing channel.topic) there in
    and_from _ _ (members_left test next client step channel.members parts.0) parts.1

pub rooms_left : (test next : ℕ → Bool) (client : ℕ) → ((k : ℕ) → test k ≡ true → k ≢ client → next k ≡ true)
    → (channels : List ServerChannel) → are_sound_channels test channels ≡ true
    → are_sound_channels next (rooms_after None (Leave client) channels) ≡ true
rooms_left test next client step channels all =
    rooms_pass (is_sound_channel test) (is_sound_channel next) (edited_if None (Leave client))
    (λ channel there. channel_left test next client step channel there) channels all

-- ---- JOIN

opened_passes : (test : ℕ → Bool) (name : List ℕ) (client : ℕ) → test client ≡ true → is_sound_channel test (opened name client) ≡ true
opened_passes test name client is = and_from _ true (and_from _ true is refl) refl

at_keeps : (test : ℕ → Bool) (place : Option ℕ) (name : List ℕ) (client : ℕ) (channels : List ServerChannel) → test client ≡ true
    → are_sound_channels test channels ≡ true → are_sound_channels test (entered_at place name client channels) ≡ true
at_keeps test None name client channels is all =
    list_all-append (is_sound_channel test) channels (opened name client ∷ [])
    ∙ and_from _ _ all (and_from _ true (opened_passes test name client is) refl)
at_keeps test (Some place) name client channels is all =
    let channel = slice_index_or channels place (opened name client) in
    let sound = list_all-index (is_sound_channel test) channels place (opened name client) (opened_passes test name client is) all in
    list_all-set (is_sound_channel test) channels place (edited (Enter client) channel)
    (edited_passes test (Enter client) channel is sound) all

joined_by_keeps : (test : ℕ → Bool) (by : Entrance) (name : List ℕ) (client : ℕ) (channels : List ServerChannel) → test client ≡ true
    → are_sound_channels test channels ≡ true → are_sound_channels test (joined_by by name client channels) ≡ true
joined_by_keeps test entrance.Open name client channels is all = at_keeps test (position (is_named name) channels) name client channels is all
joined_by_keeps test entrance.Nameless name client channels is all = all
joined_by_keeps test entrance.Inside name client channels is all = all
joined_by_keeps test entrance.TooMany name client channels is all = all
joined_by_keeps test entrance.Banned name client channels is all = all

pub joined_keeps : (test : ℕ → Bool) (client : ℕ) (source name : List ℕ) (channels : List ServerChannel) → test client ≡ true
    → are_sound_channels test channels ≡ true → are_sound_channels test (joined client source name channels) ≡ true
joined_keeps test client source name channels is all = joined_by_keeps test (entrance_of client source name channels) name client channels is all

joined_each_keeps : (test : ℕ → Bool) (client : ℕ) (source : List ℕ) (names : List (List ℕ)) (channels : List ServerChannel) → test client ≡ true
    → are_sound_channels test channels ≡ true → are_sound_channels test (joined_each client source names channels) ≡ true
joined_each_keeps test client source [] channels is all = all
joined_each_keeps test client source (name ∷ names) channels is all =
    joined_each_keeps test client source names (joined client source name channels) is (joined_keeps test client source name channels is all)

-- ---- the other commands

-- a change to sound channels, or to a sound person
abbrev pub keeps : (ℕ → Bool) → ServerChange → Bool
keeps test change.Same = true
keeps test (change.Person p) = is_sound_person p
keeps test (change.Channels channels) = are_sound_channels test channels

part_keeps : (test : ℕ → Bool) (at : Standing) (client : ℕ) (name : List ℕ) (channels : List ServerChannel)
    → are_sound_channels test channels ≡ true → keeps test (part_change at client name channels) ≡ true
part_keeps test standing.Unknown client name channels all = refl
part_keeps test standing.Outside client name channels all = refl
part_keeps test standing.Plain client name channels all = rooms_keep test (Some name) (Leave client) channels refl all
part_keeps test standing.Op client name channels all = rooms_keep test (Some name) (Leave client) channels refl all

-- a text, if there is one
abbrev pub is_text : Option (List ℕ) → Bool
is_text None = true
is_text (Some text) = trailing text

topic_keeps : (test : ℕ → Bool) (at : Standing) (name : List ℕ) (text : Option (List ℕ)) (channels : List ServerChannel) → is_text text ≡ true
    → are_sound_channels test channels ≡ true → keeps test (topic_change at name text channels) ≡ true
topic_keeps test standing.Unknown name text channels is all = refl
topic_keeps test standing.Outside name text channels is all = refl
topic_keeps test standing.Plain name None channels is all = refl
topic_keeps test standing.Plain name (Some text) channels is all = rooms_keep test (Some name) (Title text) channels is all
topic_keeps test standing.Op name None channels is all = refl
topic_keeps test standing.Op name (Some text) channels is all = rooms_keep test (Some name) (Title text) channels is all

kicked_keeps : (test : ℕ → Bool) (client : Option ℕ) (name : List ℕ) (channels : List ServerChannel)
    → are_sound_channels test channels ≡ true → keeps test (kicked client name channels) ≡ true
kicked_keeps test None name channels all = refl
kicked_keeps test (Some client) name channels all = rooms_keep test (Some name) (Leave client) channels refl all

kick_keeps : (test : ℕ → Bool) (at : Standing) (clients : List (Option ClientIdentity)) (name nick : List ℕ) (channels : List ServerChannel)
    → are_sound_channels test channels ≡ true → keeps test (kick_change at clients name nick channels) ≡ true
kick_keeps test standing.Unknown clients name nick channels all = refl
kick_keeps test standing.Outside clients name nick channels all = refl
kick_keeps test standing.Plain clients name nick channels all = refl
kick_keeps test standing.Op clients name nick channels all = kicked_keeps test (target_on clients channels name nick) name channels all

marked_keeps : (test : ℕ → Bool) (client : Option ℕ) (name : List ℕ) (one : Single) (channels : List ServerChannel)
    → are_sound_channels test channels ≡ true → are_sound_channels test (marked_on client name one channels) ≡ true
marked_keeps test None name one channels all = all
marked_keeps test (Some client) name one channels all =
    rooms_keep test (Some name) (Mark client (one.letter == 118) one.on) channels refl all

banned_keeps : (test : ℕ → Bool) (name : List ℕ) (one : Single) (channels : List ServerChannel)
    → are_sound_channels test channels ≡ true → are_sound_channels test (banned_on name one channels) ≡ true
banned_keeps test name one channels all =
    cond_both (one.on && is_full one.argument (room name channels)) channels (rooms_after (Some name) (Ban one.argument one.on) channels)
    (λ cs. are_sound_channels test cs ≡ true) (λ b. all)
    (λ b. rooms_keep test (Some name) (Ban one.argument one.on) channels refl all)

moded_keeps : (test : ℕ → Bool) (clients : List (Option ClientIdentity)) (name : List ℕ) (one : Single) (channels : List ServerChannel)
    → are_sound_channels test channels ≡ true → are_sound_channels test (moded clients name one channels) ≡ true
moded_keeps test clients name one channels all =
    let banned = banned_on name one channels in
    cond_both (is_mark one.letter) (marked_on (target_on clients channels name one.argument) name one channels)
    (cond (is_ban_of one) banned channels) (λ cs. are_sound_channels test cs ≡ true)
    (λ b. marked_keeps test (target_on clients channels name one.argument) name one channels all)
    (λ b. cond_both (is_ban_of one) banned channels (λ cs. are_sound_channels test cs ≡ true)
    (λ k. banned_keeps test name one channels all) (λ k. all))

moded_each_keeps : (test : ℕ → Bool) (clients : List (Option ClientIdentity)) (name : List ℕ) (ones : List Single) (channels : List ServerChannel)
    → are_sound_channels test channels ≡ true → are_sound_channels test (moded_each clients name ones channels) ≡ true
moded_each_keeps test clients name [] channels all = all
moded_each_keeps test clients name (one ∷ ones) channels all =
    moded_each_keeps test clients name ones (moded clients name one channels) (moded_keeps test clients name one channels all)

mode_keeps : (test : ℕ → Bool) (at : Standing) (clients : List (Option ClientIdentity)) (name modes : List ℕ) (arguments : List (List ℕ)) (channels : List ServerChannel)
    → are_sound_channels test channels ≡ true → keeps test (mode_change at clients name modes arguments channels) ≡ true
mode_keeps test standing.Unknown clients name modes arguments channels all = refl
mode_keeps test standing.Outside clients name modes arguments channels all = refl
mode_keeps test standing.Plain clients name modes arguments channels all = refl
mode_keeps test standing.Op clients name modes arguments channels all =
    let ones = singles true modes arguments in
    cond_both (list_any counts ones) (change.Channels (moded_each clients name ones channels)) change.Same (λ c. keeps test c ≡ true)
    (λ b. moded_each_keeps test clients name ones channels all) (λ b. refl)

-- ---- NICK and USER

nick_keeps : (test : ℕ → Bool) (client : ℕ) (p : ClientIdentity) (clients : List (Option ClientIdentity)) (new : List ℕ)
    → is_sound_person p ≡ true → keeps test (nick_change client p clients new) ≡ true
nick_keeps test client p clients new sound =
    let after = change.Person (record p { nick = new }) in
    let user = (and_parts (not (filled p.nick) || is_nick p.nick) (nat_le (length p.user) 30 && list_all nospcrlf p.user) sound).1 in
    cond_both (is_other client (holder new clients)) change.Same (cond (is_nick new) after change.Same) (λ c. keeps test c ≡ true) (λ is. refl)
    (λ isnt. cond_both (is_nick new) after change.Same (λ c. keeps test c ≡ true)
    (λ is. and_from _ _ (or_right (not (filled new)) (is_nick new) is) user) (λ other. refl))

user_keeps : (test : ℕ → Bool) (p : ClientIdentity) (name : List ℕ)
    → is_sound_person p ≡ true → list_all nospcrlf name ≡ true → keeps test (user_change p name) ≡ true
user_keeps test p name sound word =
    let new = map user_byte (take 30 name) in
    let nick = (and_parts (not (filled p.nick) || is_nick p.nick) (nat_le (length p.user) 30 && list_all nospcrlf p.user) sound).0 in
    let short : length new ≤ 30 = omega (arith, length-map (take 30 name) user_byte, length-take 30 name) in
    let all = list_all-mapped nospcrlf nospcrlf user_byte
    (λ b is. cond_both (b == 33 || b == 64) 95 b (λ k. nospcrlf k ≡ true) (λ there. refl) (λ other. is))
    (take 30 name) (list_all-taken nospcrlf 30 name word) in
    cond_both (filled p.user) change.Same (change.Person (record p { user = new })) (λ c. keeps test c ≡ true) (λ is. refl)
    (λ isnt. and_from _ _ nick (and_from _ _ (le-leb (length new) 30 short) all))

-- ---- parameters

-- the parameters of a message have no NUL, CR or LF, and all but the last no space
pub middle_text : (text : List ℕ) → middle text ≡ true → trailing text ≡ true
middle_text text is = nospcrlf_octets text (middle_all text is)

pub params_texts : (ps : List (List ℕ)) → carries_params ps ≡ true → list_all trailing ps ≡ true
params_texts [] is = refl
params_texts (p ∷ []) is = and_from _ true is refl
params_texts (p ∷ next ∷ ps) is =
    let parts = and_parts (middle p) (carries_params (next ∷ ps)) is in
    and_from (trailing p) (list_all trailing (next ∷ ps)) (middle_text p parts.0) (params_texts (next ∷ ps) parts.1)

text_at : (i : ℕ) (ps : List (List ℕ)) → list_all trailing ps ≡ true → is_text (slice_get ps i) ≡ true
text_at i [] all = refl
text_at zero (p ∷ ps) all = (and_parts (trailing p) (list_all trailing ps) all).0
text_at (suc i) (p ∷ ps) all = text_at i ps (and_parts (trailing p) (list_all trailing ps) all).1

or_empty_text : (text : Option (List ℕ)) → is_text text ≡ true → trailing (or_empty text) ≡ true
or_empty_text None is = refl
or_empty_text (Some text) is = is

pub word_text : (i : ℕ) (ps : List (List ℕ)) → list_all trailing ps ≡ true → trailing (word_at i ps) ≡ true
word_text i ps all = or_empty_text (slice_get ps i) (text_at i ps all)

pub first_middle : (ps : List (List ℕ)) → carries_params ps ≡ true → 2 ≤ length ps → middle (word_at 0 ps) ≡ true
first_middle [] is more = absurd (omega arith)
first_middle (p ∷ []) is more = absurd (omega arith)
first_middle (p ∷ next ∷ ps) is more = (and_parts (middle p) (carries_params (next ∷ ps)) is).0

-- ---- a command, and a message

by_keeps : (test : ℕ → Bool) (c : ClientCommand) (client : ℕ) (p : ClientIdentity) (clients : List (Option ClientIdentity)) (channels : List ServerChannel) (ps : List (List ℕ))
    → test client ≡ true → is_sound_person p ≡ true → carries_params ps ≡ true → needed c ≤ length ps
    → are_sound_channels test channels ≡ true → keeps test (change_by c client p clients channels ps) ≡ true
by_keeps test command.Nick client p clients channels ps is sound carried enough all = nick_keeps test client p clients (word_at 0 ps) sound
by_keeps test command.User client p clients channels ps is sound carried enough all =
    user_keeps test p (word_at 0 ps) sound (middle_all (word_at 0 ps) (first_middle ps carried (omega arith)))
by_keeps test command.Join client p clients channels ps is sound carried enough all =
    joined_each_keeps test client (source_of p) (slice_split (λ b. b == 44) (word_at 0 ps)) channels is all
by_keeps test command.Part client p clients channels ps is sound carried enough all =
    part_keeps test (standing_in client (room (word_at 0 ps) channels)) client (word_at 0 ps) channels all
by_keeps test command.Topic client p clients channels ps is sound carried enough all =
    topic_keeps test (standing_in client (room (word_at 0 ps) channels)) (word_at 0 ps) (slice_get ps 1) channels
    (text_at 1 ps (params_texts ps carried)) all
by_keeps test command.Kick client p clients channels ps is sound carried enough all =
    kick_keeps test (standing_in client (room (word_at 0 ps) channels)) clients (word_at 0 ps) (word_at 1 ps) channels all
by_keeps test command.Mode client p clients channels ps is sound carried enough all =
    mode_keeps test (standing_in client (room (word_at 0 ps) channels)) clients (word_at 0 ps) (word_at 1 ps) (drop 2 ps) channels all
by_keeps test command.Quit client p clients channels ps is sound carried enough all = refl
by_keeps test (command.Ask asked) client p clients channels ps is sound carried enough all = refl
by_keeps test command.Privmsg client p clients channels ps is sound carried enough all = refl
by_keeps test command.Notice client p clients channels ps is sound carried enough all = refl
by_keeps test command.Names client p clients channels ps is sound carried enough all = refl
by_keeps test command.Who client p clients channels ps is sound carried enough all = refl
by_keeps test command.Ping client p clients channels ps is sound carried enough all = refl
by_keeps test command.Unknown client p clients channels ps is sound carried enough all = refl

pub change_keeps : (test : ℕ → Bool) (client : ℕ) (p : ClientIdentity) (clients : List (Option ClientIdentity)) (channels : List ServerChannel) (m : Message)
    → test client ≡ true → is_sound_person p ≡ true → carries_params m.params ≡ true
    → are_sound_channels test channels ≡ true → keeps test (change_of client p clients channels m) ≡ true
change_keeps test client p clients channels m is sound carried all =
    let c = command_of m.command in
    cond_both (is_admitted p c (length m.params)) (change_by c client p clients channels m.params) change.Same (λ d. keeps test d ≡ true)
    (λ admitted. by_keeps test c client p clients channels m.params is sound carried
    (leb-true (needed c) (length m.params) (and_parts (is_registered p || is_open c) (nat_le (needed c) (length m.params)) admitted).1) all)
    (λ other. refl)

-- ---- the server

run_up_to : (text : List ℕ) → IsRun (up_to is_end text)
run_up_to text = none-all is_end (λ b. not (is_end b)) (λ b is. not-true (is_end b) is) (up_to is_end text) (all-up_to is_end text)

-- the parts of a line that is read as a message
pub line_parts : (text : List ℕ) (m : Message) → line_of (up_to is_end text) ≡ line.Message m
    → (kept_command m.command ≡ true) × (carries_prefix m.prefix ≡ true) × (length m.params ≤ 15) × (carries_params m.params ≡ true)
    × (length (up_to is_end text) ≤ 510)
line_parts text m is = parts_carried (up_to is_end text) m (run_up_to text, m, is, (refl, refl, refl))

held_other : (clients : List (Option ClientIdentity)) (client : ℕ) (slot : Option ClientIdentity) (k : ℕ) → k ≢ client
    → held_at (slice_set clients client slot) k ≡ held_at clients k
held_other clients client slot k differs = get_or-set_other clients client k slot None differs

held_same : (clients : List (Option ClientIdentity)) (client : ℕ) (slot : Option ClientIdentity) → client < length clients
    → held_at (slice_set clients client slot) client ≡ slot
held_same clients client slot less = get_or-set_same clients client slot None less

pub within : (clients : List (Option ClientIdentity)) (client : ℕ) → is_held clients client ≡ true → client < length clients
within clients client held = grind (arith, get_or_past)

-- a client that is held is so after another has spoken of itself
pub held_person : (clients : List (Option ClientIdentity)) (client : ℕ) (p : ClientIdentity) (k : ℕ)
    → is_held clients k ≡ true → is_held (slice_set clients client (Some p)) k ≡ true
held_person clients client p k held =
    elim (cases_eq k client) [
      | inl same ↦
          let less : client < length clients = omega (arith, within clients k held, same) in
          ap (λ j. is_held (slice_set clients client (Some p)) j) same ∙ ap is_some (held_same clients client (Some p) less)
      | inr differs ↦ ap is_some (held_other clients client (Some p) k differs) ∙ held
    ]

people_set : (clients : List (Option ClientIdentity)) (client : ℕ) (slot : Option ClientIdentity) → is_sound_slot slot ≡ true → client < length clients
    → ((k : ℕ) → is_sound_slot (held_at clients k) ≡ true) → (k : ℕ) → is_sound_slot (held_at (slice_set clients client slot) k) ≡ true
people_set clients client slot sound less all k =
    elim (cases_eq k client) [
      | inl same ↦ ap (λ j. is_sound_slot (held_at (slice_set clients client slot) j)) same ∙ ap is_sound_slot (held_same clients client slot less) ∙ sound
      | inr differs ↦ ap is_sound_slot (held_other clients client slot k differs) ∙ all k
    ]

channels_weaker : (test next : ℕ → Bool) → ((k : ℕ) → test k ≡ true → next k ≡ true) → (channels : List ServerChannel)
    → are_sound_channels test channels ≡ true → are_sound_channels next channels ≡ true
channels_weaker test next step channels all =
    list_all-weaker (is_sound_channel test) (is_sound_channel next)
    (λ channel there. let parts = and_parts (are_clients test channel.members) (trailing channel.topic) there in
    and_from _ _ (list_all-weaker (λ (m : ServerMember). test m.client) (λ (m : ServerMember). next m.client)
    (λ m is. step m.client is) channel.members parts.0) parts.1)
    channels all

changed_whole : (client : ℕ) (one : ServerChange) (s : Server) → is_held s.clients client ≡ true → keeps (is_held s.clients) one ≡ true
    → IsWhole s.clients s.channels → IsWhole (changed client one s).clients (changed client one s).channels
changed_whole client change.Same s held kept whole = whole
changed_whole client (change.Person p) s held kept whole = record {
  people = people_set s.clients client (Some p) kept (within s.clients client held) whole.people;
  rooms = channels_weaker (is_held s.clients) (is_held (slice_set s.clients client (Some p))) (held_person s.clients client p) s.channels whole.rooms;
}
changed_whole client (change.Channels channels) s held kept whole = record { people = whole.people; rooms = kept }

pub left_whole : (client : ℕ) (s : Server) → is_held s.clients client ≡ true
    → IsWhole s.clients s.channels → IsWhole (left client s).clients (left client s).channels
left_whole client s held whole = record {
  people = people_set s.clients client None refl (within s.clients client held) whole.people;
  rooms = rooms_left (is_held s.clients) (is_held (slice_set s.clients client None)) client
      (λ k is differs. ap is_some (held_other s.clients client None k differs) ∙ is) s.channels whole.rooms;
}

message_whole : (client : ℕ) (p : ClientIdentity) (m : Message) (s : Server) → held_at s.clients client ≡ Some p → carries_params m.params ≡ true
    → IsWhole s.clients s.channels → IsWhole (after_message client p m s).clients (after_message client p m s).channels
message_whole client p m s is carried whole =
    let held = ap is_some is in
    let sound = sym (ap is_sound_slot is) ∙ whole.people client in
    let change = change_of client p s.clients s.channels m in
    cond_both (is_quit (command_of m.command)) (left client s) (changed client change s) (λ (t : Server). IsWhole t.clients t.channels)
    (λ quits. left_whole client s held whole)
    (λ other. changed_whole client change s held (change_keeps
    (is_held s.clients) client p s.clients s.channels m held sound carried whole.rooms) whole)

line_whole : (client : ℕ) (p : ClientIdentity) (text : List ℕ) (read : Line) (s : Server) → held_at s.clients client ≡ Some p
    → line_of (up_to is_end text) ≡ read → IsWhole s.clients s.channels
    → IsWhole (after_line client p read s).clients (after_line client p read s).channels
line_whole client p text (line.Message m) s is reads whole = message_whole client p m s is (line_parts text m reads).3 whole
line_whole client p text (line.Bad fault) s is reads whole = whole

-- a line of a client leaves the server whole
pub after_whole : (client : ℕ) (p : ClientIdentity) (text : List ℕ) (s : Server) → held_at s.clients client ≡ Some p → IsWhole s.clients s.channels
    → let next = after_line client p (line_of (up_to is_end text)) s in IsWhole next.clients next.channels
after_whole client p text s is whole = line_whole client p text (line_of (up_to is_end text)) s is refl whole

-- one who comes leaves it whole
pub came_whole : (old new : List (Option ClientIdentity)) (client : ℕ) (channels : List ServerChannel) → held_at new client ≡ Some blank
    → ((k : ℕ) → k ≢ client → held_at new k ≡ held_at old k) → IsWhole old channels → IsWhole new channels
came_whole old new client channels came others whole = record {
  people = λ k. elim (cases_eq k client) [
    | inl same ↦ ap (λ j. is_sound_slot (held_at new j)) same ∙ ap is_sound_slot came
    | inr differs ↦ ap is_sound_slot (others k differs) ∙ whole.people k
  ];
  rooms = channels_weaker (is_held old) (is_held new) (λ k is. elim (cases_eq k client) [
    | inl same ↦ ap (λ j. is_held new j) same ∙ ap is_some came
    | inr differs ↦ ap is_some (others k differs) ∙ is
  ]) channels whole.rooms;
}

pub effect_whole : (client : ℕ) (effect : Effect) (s next : Server) (clients : List (Option ClientIdentity)) (channels : List ServerChannel)
    → clients ≡ (effected client effect s).clients → channels ≡ (effected client effect s).channels → effected client effect s ≡ next
    → IsWhole next.clients next.channels → IsWhole clients channels
effect_whole client effect s next clients channels e k is whole =
    subst (λ cs. IsWhole cs channels) (sym (e ∙ ap (λ (t : Server). t.clients) is))
    (subst (λ chs. IsWhole next.clients chs) (sym (k ∙ ap (λ (t : Server). t.channels) is)) whole)
