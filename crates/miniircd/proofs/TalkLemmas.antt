-- Nothing is left out of a PRIVMSG or NOTICE to a server that is whole.
use Rattle.std.proofs.Common.{◌≡◌, ℕ, suc, ◌+◌, ◌≤◌, Bool, true, not, ◌&&◌, List, [], ◌∷◌, ◌++◌, Option, Some, None, is_some, length, nat_le, codes, refl, sym, ◌∙◌, ap, subst, arith}
use Rattle.std.specs.List.{list_all}
use Rattle.std.proofs.lemmas.Bool.{and_from, and_parts, cond_both, le-leb, leb-true}
use Rattle.std.proofs.lemmas.List.{length-append, append-nil}
use Rattle.rfccase.specs.Casemapping.{is_same}
use Rattle.rfccase.specs.Channels.{is_channel_name}
use Rattle.rfccase.proofs.ChannelLemmas.{channel_name_is_short}
use Rattle.rfccase.proofs.SameLemmas.{equal_keys, length-folded}
use Rattle.ircline.specs.Classes.{filled, octet, middle, trailing}
use Rattle.ircline.specs.Carrying.{kept_command}
use Rattle.slab.specs.Slab.{entries_from}
use Rattle.miniircd.specs.declared.client_identity.ClientIdentity.{ClientIdentity}
use Rattle.miniircd.specs.declared.member.ServerMember.{ServerMember}
use Rattle.miniircd.specs.declared.member.ServerChannel.{ServerChannel}
use Rattle.miniircd.specs.People.{held_at, holder, first_called, is_called}
use Rattle.miniircd.specs.Rooms.{is_client, is_named, has_member, room}
use Rattle.miniircd.specs.Mail.{Letter, is_readable, is_line}
use Rattle.miniircd.specs.Lines.{Relays, repeated, relayed, source_of, letter, told, spread, others}
use Rattle.miniircd.specs.Talk.{loudly, talk_command, speech, talk_to_room, is_there, if_there, talk_to_client, talk_letters}
use Rattle.miniircd.specs.Whole.{is_held, are_clients, is_sound_channel, are_sound_channels, is_sound_person, is_sound_slot, IsWhole}
use Rattle.miniircd.proofs.WholeLemmas.{middle_text}
use Rattle.miniircd.proofs.PeopleLemmas.{Texts, texts, source_octets, source_short, source_names, source_filled}
use Rattle.miniircd.proofs.PrintedLemmas.{length-head}
use Rattle.miniircd.proofs.LetterLemmas.{Speaks, all_arrive, arrives, reply_arrives, alone, spread_arrives, relay_goes}
use Rattle.miniircd.proofs.ListLemmas.{list_all-filtered}

loudly_arrives : (clients : List (Option ClientIdentity)) (loud : Bool) (one : Letter) → arrives clients one ≡ true
    → all_arrive clients (loudly loud one)
loudly_arrives clients loud one is = cond_both loud (one ∷ []) [] (λ l. all_arrive clients l) (λ b. alone clients one is) (λ b. refl)

-- what a speech is made of
speech_relays : (loud : Bool) (p : ClientIdentity) (target text : List ℕ) → Texts p → filled p.nick ≡ true → middle target ≡ true
    → length target ≤ 100
    → trailing text ≡ true → Relays (source_of p) (talk_command loud) text (target ∷ [])
speech_relays loud p target text t named is short more =
    let command = talk_command loud in
    let source = source_short p t in
    let size = length-head (source_of p) command ((32 ∷ target) ++ []) in
    let words = length-append (32 ∷ target) [] in
    let word = cond_both loud (codes "PRIVMSG") (codes "NOTICE") (λ l. length l ≤ 7) (λ b. omega arith) (λ b. omega arith) in
    record {
      named = source_names p t named;
      there = source_filled p;
      kept = cond_both loud (codes "PRIVMSG") (codes "NOTICE") (λ l. kept_command l ≡ true) (λ b. refl) (λ b. refl);
      words = and_from (middle target) true is refl;
      few = omega arith;
      text = more;
      short = omega arith;
    }

speech_goes : (loud : Bool) (p : ClientIdentity) (target text : List ℕ) → Texts p → filled p.nick ≡ true → middle target ≡ true
    → length target ≤ 100
    → trailing text ≡ true → (is_line (speech loud p target text) && is_readable (speech loud p target text)) ≡ true
speech_goes loud p target text t named is short more =
    let octets = cond_both loud (codes "PRIVMSG") (codes "NOTICE") (λ l. list_all octet l ≡ true) (λ b. refl) (λ b. refl) in
    let target_octets : list_all octet ((32 ∷ target) ++ []) ≡ true = ap (λ l. list_all octet (32 ∷ l)) (append-nil target) ∙ middle_text target is in
    let line = λ (words : List ℕ). relayed (source_of p) (talk_command loud) words text in
    subst (λ words. (is_line (line words) && is_readable (line words)) ≡ true) (append-nil (32 ∷ target))
    (relay_goes (source_of p) (talk_command loud) text (target ∷ []) (speech_relays loud p target text t named is short more)
    (source_octets p t) octets target_octets)

-- a sound channel, if there is one
abbrev pub is_sound_room : (ℕ → Bool) → Option ServerChannel → Bool
is_sound_room test None = true
is_sound_room test (Some channel) = is_sound_channel test channel

pub room_sound : (test : ℕ → Bool) (name : List ℕ) (channels : List ServerChannel) → are_sound_channels test channels ≡ true
    → is_sound_room test (room name channels) ≡ true
room_sound test name [] all = refl
room_sound test name (c ∷ channels) all =
    let parts = and_parts (is_sound_channel test c) (are_sound_channels test channels) all in
    cond_both (is_named name c) (Some c) (room name channels) (λ o. is_sound_room test o ≡ true)
    (λ b. parts.0) (λ b. room_sound test name channels parts.1)

room_arrives : (clients : List (Option ClientIdentity)) (loud : Bool) (client : ℕ) (p : ClientIdentity) (target text : List ℕ) (channel : Option ServerChannel)
    → Speaks clients client p → middle target ≡ true → length target ≤ 100 → trailing text ≡ true
    → is_sound_room (is_held clients) channel ≡ true → all_arrive clients (talk_to_room loud client p target text channel)
room_arrives clients loud client p target text None by is short more sound =
    loudly_arrives clients loud _ (reply_arrives clients client p (codes "403") target (codes "No such channel") by refl
    (omega arith) (middle_text target is) refl refl)
room_arrives clients loud client p target text (Some channel) by is short more sound =
    let line = speech loud p target text in
    let refusal = told client p (codes "442") (repeated target) (codes "Not on channel") in
    let members = (and_parts (are_clients (is_held clients) channel.members) (trailing channel.topic) sound).0 in
    let rest = list_all-filtered (λ (m : ServerMember). is_held clients m.client) (λ (m : ServerMember). is_held clients m.client) (λ m. not (is_client client m))
    (λ m there b. there) channel.members members in
    cond_both (has_member client channel.members) (spread line (others client channel.members)) (loudly loud refusal) (λ l. all_arrive clients l)
    (λ b. spread_arrives clients line (others client channel.members) (speech_goes loud p target text by.texts by.named is short more) rest)
    (λ b. loudly_arrives clients loud refusal (reply_arrives clients client p (codes "442") target
    (codes "Not on channel") by refl (omega arith) (middle_text target is) refl refl))

-- a nick that a client holds is short
abbrev is_short_if : List ℕ → Option ℕ → Bool
is_short_if nick None = true
is_short_if nick (Some client) = nat_le (length nick) 30

same_length : (a b : List ℕ) → is_same a b ≡ true → length a ≡ length b
same_length a b is = sym (length-folded a) ∙ ap length ((equal_keys a b).0 is) ∙ length-folded b

first_short : (nick : List ℕ) (es : List (ℕ × ClientIdentity)) → list_all (λ e. is_sound_person e.1) es ≡ true
    → is_short_if nick (first_called nick es) ≡ true
first_short nick [] all = refl
first_short nick (e ∷ es) all =
    let parts = and_parts (is_sound_person e.1) (list_all (λ (d : ℕ × ClientIdentity). is_sound_person d.1) es) all in
    cond_both (is_called nick e.1) (Some e.0) (first_called nick es) (λ o. is_short_if nick o ≡ true)
    (λ is.
    let same = same_length nick e.1.nick (and_parts (filled e.1.nick) (is_same nick e.1.nick) is).1 in
    let short = (texts e.1 parts.0).nick_short in
    le-leb (length nick) 30 (omega arith))
    (λ isnt. first_short nick es parts.1)

entries_sound : (key : ℕ) (clients : List (Option ClientIdentity)) → ((k : ℕ) → is_sound_slot (held_at clients k) ≡ true)
    → list_all (λ e. is_sound_person e.1) (entries_from key clients) ≡ true
entries_sound key [] all = refl
entries_sound key (None ∷ clients) all = entries_sound (key + 1) clients (λ k. all (suc k))
entries_sound key (Some p ∷ clients) all = and_from _ _ (all 0) (entries_sound (key + 1) clients (λ k. all (suc k)))

holder_short : (nick : List ℕ) (clients : List (Option ClientIdentity)) → ((k : ℕ) → is_sound_slot (held_at clients k) ≡ true)
    → is_short_if nick (holder nick clients) ≡ true
holder_short nick clients all = first_short nick (entries_from 0 clients) (entries_sound 0 clients all)

there_held : (slot : Option ClientIdentity) → is_there slot ≡ true → is_some slot ≡ true
there_held None is = is
there_held (Some p) is = refl

client_arrives : (clients : List (Option ClientIdentity)) (loud : Bool) (client : ℕ) (p : ClientIdentity) (target text : List ℕ) (found : Option ℕ)
    → Speaks clients client p → middle target ≡ true → is_short_if target found ≡ true → trailing text ≡ true
    → all_arrive clients (talk_to_client loud client p target text (if_there clients found))
client_arrives clients loud client p target text None by is short more =
    loudly_arrives clients loud _ (reply_arrives clients client p (codes "401") target (codes "No such nick") by refl
    (omega arith) (middle_text target is) refl refl)
client_arrives clients loud client p target text (Some to) by is short more =
    let less = leb-true (length target) 30 short in
    cond_both (is_there (held_at clients to)) (Some to) None (λ o. all_arrive clients (talk_to_client loud client p target text o))
    (λ b. alone clients (letter to (speech loud p target text))
    (and_from _ _ (there_held (held_at clients to) b) (speech_goes loud p target text by.texts by.named is (omega arith) more)))
    (λ b. loudly_arrives clients loud _ (reply_arrives clients client p (codes "401") target (codes "No such nick") by refl
    (omega arith) (middle_text target is) refl refl))

pub talk_arrives : (loud : Bool) (client : ℕ) (p : ClientIdentity) (clients : List (Option ClientIdentity)) (channels : List ServerChannel) (target text : List ℕ)
    → IsWhole clients channels → Speaks clients client p → middle target ≡ true → trailing text ≡ true
    → all_arrive clients (talk_letters loud client p clients channels target text)
talk_arrives loud client p clients channels target text whole by is more =
    cond_both (is_channel_name target) (talk_to_room loud client p target text (room target channels))
    (talk_to_client loud client p target text (if_there clients (holder target clients))) (λ l. all_arrive clients l)
    (λ named. room_arrives clients loud client p target text (room target channels) by is (channel_name_is_short target named) more
    (room_sound (is_held clients) target channels whole.rooms))
    (λ b. client_arrives clients loud client p target text (holder target clients) by is (holder_short target clients whole.people) more)
