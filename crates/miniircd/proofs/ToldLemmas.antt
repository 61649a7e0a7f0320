-- Nothing is left out of what is told of a PING, JOIN, PRIVMSG or NOTICE to a server that is whole.
use Rattle.std.proofs.Common.{◌≡◌, ℕ, zero, suc, ◌+◌, ◌-◌, ◌*◌, ◌/◌, ◌≤◌, Bool, true, false, ◌&&◌, ◌==◌, cond, List, [], ◌∷◌, ◌++◌, Option, Some, None, is_some, map, take, drop, length, codes, refl, sym, ◌∙◌, ap, subst, inl, inr, arith}
use Rattle.std.specs.List.{list_all, flat_map, slice_split, onto_first}
use Rattle.std.specs.Prelude.{nat_lt, IfSome}
use Rattle.std.proofs.lemmas.Bool.{and_from, and_parts, cond_both, or_cases, ltb-false}
use Rattle.std.proofs.lemmas.List.Folds.{list_all-append}
use Rattle.ircline.specs.Classes.{filled, octet, trailing, digit, is_end}
use Rattle.ircline.specs.Carrying.{capital, kept_command, carries_params}
use Rattle.ircline.specs.Words.{up_to}
use Rattle.ircline.specs.Reading.{line_of}
use Rattle.ircline.specs.declared.line.Line.{Line}
use Rattle.ircline.specs.declared.line.Line.TheVariants as line
use Rattle.ircline.specs.declared.message.Message.{Message}
use Rattle.ircline.proofs.TextLemmas.{all-append, all-weaker, apart}
use Rattle.ircline.proofs.GrammarLemmas.{nospcrlf_octets}
use Rattle.miniircd.specs.declared.client_identity.ClientIdentity.{ClientIdentity}
use Rattle.miniircd.specs.declared.member.ServerMember.{ServerMember}
use Rattle.miniircd.specs.declared.member.ServerChannel.{ServerChannel}
use Rattle.miniircd.specs.declared.client.SentLine.{SentLine}
use Rattle.miniircd.specs.declared.client_command.ClientCommand.{ClientCommand}
use Rattle.miniircd.specs.declared.client_command.ClientCommand.TheVariants as command
use Rattle.miniircd.specs.People.{held_at, word_at, is_registered}
use Rattle.miniircd.specs.declared.entrance.Entrance.{Entrance}
use Rattle.miniircd.specs.declared.entrance.Entrance.TheVariants as entrance
use Rattle.miniircd.specs.Rooms.{room, entrance_of, joined}
use Rattle.miniircd.specs.Mail.{Letter, IsTold, is_readable, deliveries, is_line, sent}
use Rattle.miniircd.specs.Lines.{Relays, repeated, relayed, source_of, told, spread, marks, name_of, names_of, row, listed, listed_before, listing, titling, arrival, join_letters_by, join_letters, join_letters_each}
use Rattle.miniircd.specs.Commands.{command_of, is_quit, needed}
use Rattle.miniircd.specs.Talk.{pong, too_few, exact_by, exact_of_few, exact_letters}
use Rattle.miniircd.specs.Server.{Server, letters_of, letters_held, letters}
use Rattle.miniircd.specs.Whole.{is_held, are_clients, are_sound_channels, is_sound_slot, IsWhole}
use Rattle.miniircd.proofs.WholeLemmas.{joined_keeps, params_texts, first_middle, word_text, line_parts}
use Rattle.miniircd.proofs.PeopleLemmas.{Texts, texts, source_octets, source_short, source_names, source_filled}
use Rattle.miniircd.proofs.PrintedLemmas.{length-head}
use Rattle.miniircd.proofs.LetterLemmas.{Speaks, all_arrive, arrives, told_arrives, repeated_octets, repeated_short, reply_arrives, alone, together, spread_arrives, relay_goes, delivered}
use Rattle.miniircd.proofs.TalkLemmas.{is_sound_room, room_sound, talk_arrives}
use Rattle.miniircd.proofs.ListLemmas.{list_all-taken, list_all-dropped}

-- ---- names

marks_octets : (m : ServerMember) → list_all octet (marks m) ≡ true
marks_octets m =
    cond_both m.op (codes "@") (cond m.voice (codes "+") []) (λ l. list_all octet l ≡ true) (λ b. refl)
    (λ b. cond_both m.voice (codes "+") [] (λ l. list_all octet l ≡ true) (λ k. refl) (λ k. refl))

name_texts : (slot : Option ClientIdentity) (m : ServerMember) → is_sound_slot slot ≡ true → list_all trailing (name_of slot m) ≡ true
name_texts None m is = refl
name_texts (Some p) m is = and_from _ true (all-append octet (marks m) p.nick (marks_octets m) (nospcrlf_octets p.nick (texts p is).nick)) refl

names_texts : (clients : List (Option ClientIdentity)) (members : List ServerMember) → ((k : ℕ) → is_sound_slot (held_at clients k) ≡ true)
    → list_all trailing (names_of clients members) ≡ true
names_texts clients [] all = refl
names_texts clients (m ∷ members) all =
    list_all-append trailing (name_of (held_at clients m.client) m) (names_of clients members)
    ∙ and_from _ _ (name_texts (held_at clients m.client) m (all m.client)) (names_texts clients members all)

spaced_octets : (names : List (List ℕ)) → list_all trailing names ≡ true → list_all octet (flat_map (λ name. 32 ∷ name) names) ≡ true
spaced_octets [] all = refl
spaced_octets (name ∷ names) all =
    let parts = and_parts (trailing name) (list_all trailing names) all in
    all-append octet (32 ∷ name) (flat_map (λ name. 32 ∷ name) names) parts.0 (spaced_octets names parts.1)

row_octets : (names : List (List ℕ)) (i : ℕ) → list_all trailing names ≡ true → list_all octet (row names i) ≡ true
row_octets names i all =
    let some = take 10 (drop (10 * i) names) in
    list_all-dropped octet 1 (flat_map (λ name. 32 ∷ name) some)
    (spaced_octets some (list_all-taken trailing 10 (drop (10 * i) names) (list_all-dropped trailing (10 * i) names all)))

listed_arrives : (clients : List (Option ClientIdentity)) (client : ℕ) (p : ClientIdentity) (name : List ℕ) (names : List (List ℕ)) (i : ℕ)
    → Speaks clients client p → trailing name ≡ true → list_all trailing names ≡ true
    → arrives clients (listed client p name names i) ≡ true
listed_arrives clients client p name names i by is all =
    told_arrives clients client p (codes "353") (codes " =" ++ repeated name) (row names i) by refl (omega arith)
    (repeated_octets name is) (omega (arith, repeated_short name)) (row_octets names i all) refl

listed_before_arrive : (clients : List (Option ClientIdentity)) (client : ℕ) (p : ClientIdentity) (name : List ℕ) (names : List (List ℕ)) (i : ℕ)
    → Speaks clients client p → trailing name ≡ true → list_all trailing names ≡ true
    → all_arrive clients (listed_before client p name names i)
unfolding listed_before
listed_before_arrive clients client p name names zero by is all = refl
listed_before_arrive clients client p name names (suc i) by is all =
    together clients (listed_before client p name names i) (listed client p name names i ∷ [])
    (listed_before_arrive clients client p name names i by is all)
    (alone clients (listed client p name names i) (listed_arrives clients client p name names i by is all))

listing_arrives : (clients : List (Option ClientIdentity)) (client : ℕ) (p : ClientIdentity) (name : List ℕ) (names : List (List ℕ))
    → Speaks clients client p → trailing name ≡ true → list_all trailing names ≡ true → all_arrive clients (listing client p name names)
listing_arrives clients client p name names by is all =
    let lines = (length names + 10 - 1) / 10 in
    let end = told client p (codes "366") (repeated name) (codes "End of names") in
    together clients (listed_before client p name names lines) (end ∷ []) (listed_before_arrive clients client p name names lines by is all)
    (alone clients end (reply_arrives clients client p (codes "366") name (codes "End of names") by refl (omega arith) is refl refl))

-- ---- JOIN

titling_arrives : (clients : List (Option ClientIdentity)) (client : ℕ) (p : ClientIdentity) (name topic : List ℕ)
    → Speaks clients client p → trailing name ≡ true → trailing topic ≡ true → all_arrive clients (titling client p name topic)
titling_arrives clients client p name topic by is more =
    let one = told client p (codes "332") (repeated name) topic in
    cond_both (filled topic) (one ∷ []) [] (λ l. all_arrive clients l)
    (λ b. alone clients one (reply_arrives clients client p (codes "332") name topic by refl (omega arith) is more refl)) (λ b. refl)

join_goes : (p : ClientIdentity) (name : List ℕ) → Texts p → filled p.nick ≡ true → trailing name ≡ true
    → (is_line (relayed (source_of p) (codes "JOIN") [] name) && is_readable (relayed (source_of p) (codes "JOIN") [] name)) ≡ true
join_goes p name t named is =
    let size = length-head (source_of p) (codes "JOIN") [] in
    let source = source_short p t in
    let parts : Relays (source_of p) (codes "JOIN") name [] = record {
      named = source_names p t named;
      there = source_filled p;
      kept = refl;
      words = refl;
      few = omega arith;
      text = is;
      short = omega arith;
    } in
    relay_goes (source_of p) (codes "JOIN") name [] parts (source_octets p t) refl refl

arrival_arrives : (client : ℕ) (p : ClientIdentity) (name : List ℕ) (clients : List (Option ClientIdentity)) (channel : Option ServerChannel)
    → ((k : ℕ) → is_sound_slot (held_at clients k) ≡ true) → Speaks clients client p → trailing name ≡ true
    → is_sound_room (is_held clients) channel ≡ true → all_arrive clients (arrival client p name clients channel)
arrival_arrives client p name clients None people by is sound = refl
arrival_arrives client p name clients (Some channel) people by is sound =
    let parts = and_parts (are_clients (is_held clients) channel.members) (trailing channel.topic) sound in
    let names = names_of clients channel.members in
    let join = relayed (source_of p) (codes "JOIN") [] name in
    together clients (spread join channel.members ++ titling client p name channel.topic) (listing client p name names)
    (together clients (spread join channel.members) (titling client p name channel.topic)
    (spread_arrives clients join channel.members (join_goes p name by.texts by.named is) parts.0)
    (titling_arrives clients client p name channel.topic by is parts.1))
    (listing_arrives clients client p name names by is (names_texts clients channel.members people))

by_entrance : (by : Entrance) (client : ℕ) (p : ClientIdentity) (clients : List (Option ClientIdentity)) (name : List ℕ) (after : List ServerChannel)
    → ((k : ℕ) → is_sound_slot (held_at clients k) ≡ true) → Speaks clients client p → trailing name ≡ true
    → are_sound_channels (is_held clients) after ≡ true → all_arrive clients (join_letters_by by client p clients name after)
by_entrance entrance.Nameless client p clients name after people by is all =
    alone clients (told client p (codes "403") (repeated name) (codes "No such channel"))
    (reply_arrives clients client p (codes "403") name (codes "No such channel") by refl (omega arith) is refl refl)
by_entrance entrance.Inside client p clients name after people by is all = refl
by_entrance entrance.TooMany client p clients name after people by is all =
    alone clients (told client p (codes "405") (repeated name) (codes "You have joined too many channels"))
    (reply_arrives clients client p (codes "405") name (codes "You have joined too many channels") by refl (omega arith) is refl refl)
by_entrance entrance.Banned client p clients name after people by is all =
    alone clients (told client p (codes "474") (repeated name) (codes "Cannot join channel (+b)"))
    (reply_arrives clients client p (codes "474") name (codes "Cannot join channel (+b)") by refl (omega arith) is refl refl)
by_entrance entrance.Open client p clients name after people by is all =
    arrival_arrives client p name clients (room name after) people by is (room_sound (is_held clients) name after all)

join_arrives : (client : ℕ) (p : ClientIdentity) (clients : List (Option ClientIdentity)) (name : List ℕ) (channels : List ServerChannel)
    → IsWhole clients channels → Speaks clients client p → trailing name ≡ true
    → all_arrive clients (join_letters client p clients name channels)
join_arrives client p clients name channels whole by is =
    by_entrance (entrance_of client (source_of p) name channels) client p clients name (joined client (source_of p) name channels)
    whole.people by is (joined_keeps (is_held clients) client (source_of p) name channels by.held whole.rooms)

join_each_arrives : (client : ℕ) (p : ClientIdentity) (clients : List (Option ClientIdentity)) (names : List (List ℕ)) (channels : List ServerChannel)
    → IsWhole clients channels → Speaks clients client p → list_all trailing names ≡ true
    → all_arrive clients (join_letters_each client p clients names channels)
join_each_arrives client p clients [] channels whole by all = refl
join_each_arrives client p clients (name ∷ names) channels whole by all =
    let parts = and_parts (trailing name) (list_all trailing names) all in
    let after = joined client (source_of p) name channels in
    let next : IsWhole clients after = record {
      people = whole.people;
      rooms = joined_keeps
          (is_held clients) client (source_of p) name channels by.held whole.rooms;
    } in
    together clients (join_letters client p clients name channels) (join_letters_each client p clients names after)
    (join_arrives client p clients name channels whole by parts.0) (join_each_arrives client p clients names after next by parts.1)

-- the pieces of a text
onto_texts : (b : ℕ) (parts : List (List ℕ)) → octet b ≡ true → list_all trailing parts ≡ true
    → list_all trailing (onto_first b parts) ≡ true
onto_texts b [] is all = and_from _ true (and_from (octet b) true is refl) refl
onto_texts b (part ∷ parts) is all =
    let both = and_parts (trailing part) (list_all trailing parts) all in
    and_from _ _ (and_from (octet b) (trailing part) is both.0) both.1

split_texts : (test : ℕ → Bool) (text : List ℕ) → trailing text ≡ true → list_all trailing (slice_split test text) ≡ true
split_texts test [] is = refl
split_texts test (b ∷ bs) is =
    let parts = and_parts (octet b) (trailing bs) is in
    let more = split_texts test bs parts.1 in
    cond_both (test b) ([] ∷ slice_split test bs) (onto_first b (slice_split test bs)) (λ l. list_all trailing l ≡ true)
    (λ k. more) (λ k. onto_texts b (slice_split test bs) parts.0 more)

-- ---- PING, and too few parameters

pong_arrives : (clients : List (Option ClientIdentity)) (client : ℕ) (text : List ℕ) → is_held clients client ≡ true → trailing text ≡ true
    → arrives clients (pong client text) ≡ true
pong_arrives clients client text held is =
    let parts : Relays (codes "irc.test") (codes "PONG") text (codes "irc.test" ∷ []) = record {
      named = refl;
      there = refl;
      kept = refl;
      words = refl;
      few = omega arith;
      text = is;
      short = omega arith;
    } in
    and_from _ _ held (relay_goes (codes "irc.test") (codes "PONG") text (codes "irc.test" ∷ []) parts refl refl refl)

capital-octet : (b : ℕ) → capital b ≡ true → octet b ≡ true
capital-octet b is = rw (apart capital 0 b is refl, apart capital 13 b is refl, apart capital 10 b is refl) refl

digit-octet : (b : ℕ) → digit b ≡ true → octet b ≡ true
digit-octet b is = rw (apart digit 0 b is refl, apart digit 13 b is refl, apart digit 10 b is refl) refl

command_text : (c : List ℕ) → kept_command c ≡ true → trailing c ≡ true
command_text c is =
    elim (or_cases (filled c && list_all capital c) (length c == 3 && list_all digit c) is) [
      | inl letters ↦ all-weaker capital octet capital-octet c (and_parts (filled c) (list_all capital c) letters).1
      | inr digits ↦ all-weaker digit octet digit-octet c (and_parts (length c == 3) (list_all digit c) digits).1
    ]

-- ---- a message

-- the letters, if they are stated, arrive
abbrev go_out : List (Option ClientIdentity) → Option (List Letter) → Type 0
go_out clients None = Unit {0}
go_out clients (Some letters) = all_arrive clients letters

few_arrives : (clients : List (Option ClientIdentity)) (client : ℕ) (p : ClientIdentity) (word : List ℕ) → Speaks clients client p → trailing word ≡ true
    → all_arrive clients (too_few client p word ∷ [])
few_arrives clients client p word by is =
    alone clients (too_few client p word) (reply_arrives clients client p (codes "461") word
    (codes "Need more parameters") by refl (omega arith) is refl refl)

of_few_arrives : (clients : List (Option ClientIdentity)) (c : ClientCommand) (client : ℕ) (p : ClientIdentity) (word : List ℕ) → Speaks clients client p
    → trailing word ≡ true → go_out clients (exact_of_few c client p word)
of_few_arrives clients command.Notice client p word by is = refl
of_few_arrives clients command.Ping client p word by is = few_arrives clients client p word by is
of_few_arrives clients command.Join client p word by is = few_arrives clients client p word by is
of_few_arrives clients command.Privmsg client p word by is = few_arrives clients client p word by is
of_few_arrives clients command.Nick client p word by is = tt
of_few_arrives clients command.User client p word by is = tt
of_few_arrives clients command.Part client p word by is = tt
of_few_arrives clients command.Topic client p word by is = tt
of_few_arrives clients command.Kick client p word by is = tt
of_few_arrives clients command.Mode client p word by is = tt
of_few_arrives clients command.Names client p word by is = tt
of_few_arrives clients command.Who client p word by is = tt
of_few_arrives clients command.Quit client p word by is = tt
of_few_arrives clients (command.Ask asked) client p word by is = tt
of_few_arrives clients command.Unknown client p word by is = tt

by_arrives : (c : ClientCommand) (client : ℕ) (p : ClientIdentity) (clients : List (Option ClientIdentity)) (channels : List ServerChannel) (ps : List (List ℕ))
    → IsWhole clients channels → Speaks clients client p → carries_params ps ≡ true → needed c ≤ length ps
    → go_out clients (exact_by c client p clients channels ps)
by_arrives command.Ping client p clients channels ps whole by carried enough =
    alone clients (pong client (word_at 0 ps)) (pong_arrives clients client (word_at 0 ps) by.held (word_text 0 ps (params_texts ps carried)))
by_arrives command.Join client p clients channels ps whole by carried enough =
    let names = slice_split (λ b. b == 44) (word_at 0 ps) in
    join_each_arrives client p clients names channels whole by (split_texts (λ b. b == 44) (word_at 0 ps) (word_text 0 ps (params_texts ps carried)))
by_arrives command.Privmsg client p clients channels ps whole by carried enough =
    talk_arrives true client p clients channels (word_at 0 ps) (word_at 1 ps) whole by (first_middle ps carried enough)
    (word_text 1 ps (params_texts ps carried))
by_arrives command.Notice client p clients channels ps whole by carried enough =
    talk_arrives false client p clients channels (word_at 0 ps) (word_at 1 ps) whole by (first_middle ps carried enough)
    (word_text 1 ps (params_texts ps carried))
by_arrives command.Nick client p clients channels ps whole by carried enough = tt
by_arrives command.User client p clients channels ps whole by carried enough = tt
by_arrives command.Part client p clients channels ps whole by carried enough = tt
by_arrives command.Topic client p clients channels ps whole by carried enough = tt
by_arrives command.Kick client p clients channels ps whole by carried enough = tt
by_arrives command.Mode client p clients channels ps whole by carried enough = tt
by_arrives command.Names client p clients channels ps whole by carried enough = tt
by_arrives command.Who client p clients channels ps whole by carried enough = tt
by_arrives command.Quit client p clients channels ps whole by carried enough = tt
by_arrives (command.Ask asked) client p clients channels ps whole by carried enough = tt
by_arrives command.Unknown client p clients channels ps whole by carried enough = tt

the_speaker : (clients : List (Option ClientIdentity)) (client : ℕ) (p : ClientIdentity) → is_held clients client ≡ true → Texts p → filled p.nick ≡ true
    → Speaks clients client p
the_speaker clients client p held t named = record { held = held; named = named; texts = t }

exact_arrives : (client : ℕ) (p : ClientIdentity) (clients : List (Option ClientIdentity)) (channels : List ServerChannel) (m : Message)
    → IsWhole clients channels → is_held clients client ≡ true → Texts p → kept_command m.command ≡ true → carries_params m.params ≡ true
    → go_out clients (exact_letters client p clients channels m)
exact_arrives client p clients channels m whole held t word carried =
    let by = λ (b : is_registered p ≡ true). the_speaker clients client p held t (and_parts (filled p.nick) (filled p.user) b).0 in
    let c = command_of m.command in
    let few = exact_of_few c client p m.command in
    let enough = exact_by c client p clients channels m.params in
    let short = nat_lt (length m.params) (needed c) in
    cond_both (is_registered p) (cond short few enough) None (λ o. go_out clients o)
    (λ b. cond_both short few enough (λ o. go_out clients o)
    (λ k. of_few_arrives clients c client p m.command (by b) (command_text m.command word))
    (λ k. by_arrives c client p clients channels m.params whole (by b) carried (ltb-false (length m.params) (needed c) k))) (λ b. tt)

-- ---- a line

line_arrives : (client : ℕ) (p : ClientIdentity) (text : List ℕ) (read : Line) (s : Server) → IsWhole s.clients s.channels
    → is_held s.clients client ≡ true → Texts p
    → line_of (up_to is_end text) ≡ read → go_out s.clients (letters_of client p read s)
line_arrives client p text (line.Message m) s whole held t reads =
    let parts = line_parts text m reads in
    let exact = exact_letters client p s.clients s.channels m in
    cond_both (is_quit (command_of m.command)) None exact (λ o. go_out s.clients o) (λ b. tt)
    (λ b. exact_arrives client p s.clients s.channels m whole held t parts.0 parts.3)
line_arrives client p text (line.Bad fault) s whole held t reads = refl

all_readable : (clients : List (Option ClientIdentity)) (letters : List Letter) → all_arrive clients letters
    → list_all (λ s. is_readable s.line) (map sent letters) ≡ true
all_readable clients [] all = refl
all_readable clients (one ∷ letters) all =
    let parts = and_parts (arrives clients one) (list_all (arrives clients) letters) all in
    let line = and_parts (is_line one.text) (is_readable one.text)
    (and_parts (is_held clients one.to) (is_line one.text && is_readable one.text) parts.0).1 in
    and_from _ _ line.1 (all_readable clients letters parts.1)

told_as_is : (clients : List (Option ClientIdentity)) (letters : Option (List Letter)) (lines : List SentLine) → go_out clients letters
    → IfSome letters (λ ls. lines ≡ deliveries clients None ls) → IfSome letters (λ ls. IsTold ls lines)
told_as_is clients None lines out told = told
told_as_is clients (Some letters) lines out told =
    let same = told ∙ delivered clients letters out in
    record { as_they_are = same; readable = ap (list_all (λ (s : SentLine). is_readable s.line)) same ∙ all_readable clients letters out }

-- what goes out of a line of a client that is held is its letters as they are
pub told_whole : (client : ℕ) (p : ClientIdentity) (text : List ℕ) (s : Server) (lines : List SentLine) → IsWhole s.clients s.channels
    → held_at s.clients client ≡ Some p
    → IfSome (letters_of client p (line_of (up_to is_end text)) s) (λ ls. lines ≡ deliveries s.clients None ls)
    → IfSome (letters client text s) (λ ls. IsTold ls lines)
told_whole client p text s lines whole is told =
    let sound = sym (ap is_sound_slot is) ∙ whole.people client in
    let read = line_of (up_to is_end text) in
    subst (λ o. IfSome o (λ ls. IsTold ls lines)) (sym (ap (λ slot. letters_held client slot text s) is))
    (told_as_is s.clients (letters_of client p read s) lines (line_arrives client p text read s whole (ap is_some is) (texts p sound) refl) told)
