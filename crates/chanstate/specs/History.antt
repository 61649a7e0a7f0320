-- What a history of items says of the bot's channels. Each question is answered by looking back over the history: the
-- newest item stands first, and the last item that concerns the question answers it. Nothing here is carried forward.
-- `first` is the nick under which the bot connected.
use Rattle.std.specs.Prelude.{◌≡◌, ℕ, Bool, true, false, not, ◌&&◌, ◌||◌, List, [], ◌∷◌, if◌then◌else◌, Option, None, Some, unwrap_or, IfSome, is_some, map}
use Rattle.std.specs.Prelude.{length, ◌<◌}
use Rattle.chanstate.specs.declared.member.Member.{Member}
use Rattle.chanstate.specs.declared.member.Mark.{Mark}
use Rattle.chanstate.specs.declared.member.Mark.TheVariants.{Op, Voice, HalfOp}
use Rattle.chanstate.specs.declared.state.ChanState.{ChanState}
use Rattle.ircline.specs.declared.message.Message.{Message}
use Rattle.rfccase.specs.Casemapping.{is_same_by}
use Rattle.rfccase.specs.declared.casemappings.Casemapping.{Casemapping}
use Rattle.chanstate.specs.declared.support.Support.{Support}
use Rattle.chanstate.specs.Announced.{unannounced, welcomed, announced, with_join, with_joins_tell}
use Rattle.chanstate.specs.declared.detail.Detail.TheVariants.{Account, Address}
use Rattle.chanstate.specs.Items.{Item, Welcomed, Announced, Joined, Left, Departed, Renamed, Marked, Titled, Listed, Addressed, Told, JoinsTell}
use Rattle.chanstate.specs.Items.{read_by, items_of}
use Rattle.chanstate.specs.Steps.{after}
use Rattle.chanstate.specs.Views.{channel_in, members_in, member_in}

-- What the server has announced, token by token, since it last welcomed the bot. A casemapping that it announces after
-- a JOIN does not count. Whether JOINs tell accounts is what the last item says of that, also before the welcome.
abbrev pub support_said : Item → Support → Support
support_said (Welcomed nick) was = welcomed was
support_said (Announced tokens) was = announced tokens was
support_said (Joined nick user host c) was = with_join was
support_said (JoinsTell tell) was = with_joins_tell tell was
support_said item was = was

abbrev pub support : List Item → Support
support [] = unannounced
support (item ∷ past) = support_said item (support past)

-- how names compare
abbrev pub mapping_at : List Item → Casemapping
mapping_at past = (support past).casemapping

-- the bot's nick, from the last welcome or the last change of that nick
abbrev pub own_said : Casemapping → Item → List ℕ → Option (List ℕ)
own_said mapping (Welcomed nick) me = Some nick
own_said mapping (Renamed old new) me = if is_same_by mapping old me then Some new else None
own_said mapping item me = None

abbrev pub own : List ℕ → List Item → List ℕ
own first [] = first
own first (item ∷ past) = unwrap_or (own_said (mapping_at past) item (own first past)) (own first past)

-- whether a channel is held: a join of the bot adds it; its leaving, its departure and a welcome remove it
abbrev pub channel_said : Casemapping → Item → List ℕ → List ℕ → Option Bool
channel_said mapping (Welcomed nick) me c = Some false
channel_said mapping (Joined nick user host d) me c =
    if is_same_by mapping c d && is_same_by mapping nick me then Some true else None
channel_said mapping (Left nick d) me c = if is_same_by mapping c d && is_same_by mapping nick me then Some false else None
channel_said mapping (Departed nick) me c = if is_same_by mapping nick me then Some false else None
channel_said mapping item me c = None

abbrev pub held : List ℕ → List ℕ → List Item → Bool
held first c [] = false
held first c (item ∷ past) = unwrap_or (channel_said (mapping_at past) item (own first past) c) (held first c past)

-- the topic of a held channel: what the last topic says, or none if the bot joined after that
abbrev pub topic_said : Casemapping → Item → List ℕ → List ℕ → Option (List ℕ)
topic_said mapping (Joined nick user host d) me c =
    if is_same_by mapping c d && is_same_by mapping nick me then Some [] else None
topic_said mapping (Titled d topic) me c = if is_same_by mapping c d then Some topic else None
topic_said mapping item me c = None

abbrev pub topic : List ℕ → List ℕ → List Item → List ℕ
topic first c [] = []
topic first c (item ∷ past) = unwrap_or (topic_said (mapping_at past) item (own first past) c) (topic first c past)

-- the spelling of a held channel, as in the bot's last join of it
abbrev pub name_said : Casemapping → Item → List ℕ → List ℕ → Option (List ℕ)
name_said mapping (Joined nick user host d) me c =
    if is_same_by mapping c d && is_same_by mapping nick me then Some d else None
name_said mapping item me c = None

abbrev pub spelling : List ℕ → List ℕ → List Item → List ℕ
spelling first c [] = []
spelling first c (item ∷ past) = unwrap_or (name_said (mapping_at past) item (own first past) c) (spelling first c past)

-- Whether a nick is on a channel. `here` says whether the channel was held, and `was` who was on it. After the bot's
-- own join nobody else is on it. A change of nick removes the old one and adds the new one.
abbrev pub nick_said : Casemapping → Item → List ℕ → Bool → List ℕ → (List ℕ → Bool) → List ℕ → Option Bool
nick_said mapping (Welcomed nick) me here c was x = Some false
nick_said mapping (Joined nick user host d) me here c was x =
    if is_same_by mapping c d
    then (if is_same_by mapping nick me
    then Some (is_same_by mapping x nick)
    else (if here && is_same_by mapping x nick then Some true else None))
    else None
nick_said mapping (Left nick d) me here c was x =
    if is_same_by mapping c d && (is_same_by mapping nick me || is_same_by mapping x nick) then Some false else None
nick_said mapping (Departed nick) me here c was x =
    if is_same_by mapping nick me || is_same_by mapping x nick then Some false else None
nick_said mapping (Renamed old new) me here c was x =
    if was old then (if is_same_by mapping x new then Some true else (if is_same_by mapping x old then Some false else None)) else None
nick_said mapping (Listed d one) me here c was x =
    if is_same_by mapping c d && (here && is_same_by mapping x one.nick) then Some true else None
nick_said mapping item me here c was x = None

abbrev pub on : List ℕ → List ℕ → List Item → List ℕ → Bool
on first c [] x = false
on first c (item ∷ past) x =
    unwrap_or (nick_said (mapping_at past) item (own first past) (held first c past) c (on first c past) x) (on first c past x)

-- What is known of a member, for example a mark. The item that puts the nick on the channel says how it begins, and the
-- last later item that concerns it says what it is now. Before a change of nick, the history is searched for the old
-- one.
abbrev pub member_said : {A : Type 0} → Casemapping → (Item → A) → (Item → Option A) → Item → List ℕ → List ℕ → (List ℕ → Bool)
    → (List ℕ → A) → List ℕ → A
member_said mapping begins says (Joined nick user host d) me c was before x =
    if is_same_by mapping c d && is_same_by mapping x nick
    then (if is_same_by mapping nick me || not (was x)
    then begins (Joined nick user host d)
    else unwrap_or (says (Joined nick user host d)) (before x))
    else before x
member_said mapping begins says (Listed d one) me c was before x =
    if is_same_by mapping c d && is_same_by mapping x one.nick
    then (if was x then unwrap_or (says (Listed d one)) (before x) else begins (Listed d one))
    else before x
member_said mapping begins says (Renamed old new) me c was before x =
    if was old && is_same_by mapping x new then unwrap_or (says (Renamed old new)) (before old) else before x
member_said mapping begins says (Marked d mark set nick) me c was before x =
    if is_same_by mapping c d && is_same_by mapping x nick then unwrap_or (says (Marked d mark set nick)) (before x) else before x
member_said mapping begins says (Addressed d nick user host) me c was before x =
    if is_same_by mapping c d && is_same_by mapping x nick then unwrap_or (says (Addressed d nick user host)) (before x) else before x
member_said mapping begins says (Told nick detail) me c was before x =
    if is_same_by mapping x nick then unwrap_or (says (Told nick detail)) (before x) else before x
member_said mapping begins says item me c was before x = before x

abbrev pub known : {A : Type 0} → (Item → A) → (Item → Option A) → A → List ℕ → List ℕ → List Item → List ℕ → A
known begins says none first c [] x = none
known begins says none first c (item ∷ past) x =
    member_said (mapping_at past) begins says item (own first past) c (on first c past) (known begins says none first c past) x

-- a mark: someone who joins has none, a listing gives the marks that it shows, and a mode sets or clears one
abbrev pub has_mark : Mark → Member → Bool
has_mark Op m = m.op
has_mark Voice m = m.voice
has_mark HalfOp m = m.half_op

abbrev pub mark_begins : Mark → Item → Bool
mark_begins mark (Listed d one) = has_mark mark one
mark_begins mark item = false

abbrev pub if_same_mark : Mark → Mark → Bool → Option Bool
if_same_mark Op Op set = Some set
if_same_mark Voice Voice set = Some set
if_same_mark HalfOp HalfOp set = Some set
if_same_mark mark other set = None

abbrev pub mark_says : Mark → Item → Option Bool
mark_says mark (Listed d one) = if has_mark mark one then Some true else None
mark_says mark (Marked d other set nick) = if_same_mark mark other set
mark_says mark item = None

abbrev pub marked : Mark → List ℕ → List ℕ → List Item → List ℕ → Bool
marked mark = known (mark_begins mark) (mark_says mark) false

-- the user and the host, as in the join, in a listing, in an answer to WHO or in the last change of them
abbrev pub user_begins : Item → List ℕ
user_begins (Joined nick user host d) = user
user_begins (Listed d one) = one.user
user_begins item = []

abbrev pub user_says : Item → Option (List ℕ)
user_says (Joined nick user host d) = Some user
user_says (Addressed d nick user host) = Some user
user_says (Told nick (Address user host)) = Some user
user_says item = None

abbrev pub host_begins : Item → List ℕ
host_begins (Joined nick user host d) = host
host_begins (Listed d one) = one.host
host_begins item = []

abbrev pub host_says : Item → Option (List ℕ)
host_says (Joined nick user host d) = Some host
host_says (Addressed d nick user host) = Some host
host_says (Told nick (Address user host)) = Some host
host_says item = None

-- The account: someone who joins or is listed has none. The last item that tells one says what it is, empty if the
-- member is logged out. A change of nick keeps it, and it is gone with the member.
abbrev pub account_begins : Item → List ℕ
account_begins (Listed d one) = one.account
account_begins item = []

abbrev pub account_says : Item → Option (List ℕ)
account_says (Told nick (Account account)) = Some account
account_says item = None

-- the nick's spelling, as when it was put on the channel or in the last change of nick
abbrev pub nick_begins : Item → List ℕ
nick_begins (Joined nick user host d) = nick
nick_begins (Listed d one) = one.nick
nick_begins item = []

abbrev pub nick_says : Item → Option (List ℕ)
nick_says (Renamed old new) = Some new
nick_says item = None

-- when a nick was put on a channel, as the number of earlier items; a change of nick keeps it
abbrev pub arrival : List ℕ → List ℕ → List Item → List ℕ → ℕ
arrival first c [] x = 0
arrival first c (item ∷ past) x =
    member_said (mapping_at past) (λ _. length past) (λ _. None) item (own first past) c (on first c past) (arrival first c past) x

-- when the bot joined a channel
abbrev pub joins : Casemapping → Item → List ℕ → List ℕ → Bool
joins mapping (Joined nick user host d) me c = is_same_by mapping c d && is_same_by mapping nick me
joins mapping item me c = false

abbrev pub opening : List ℕ → List Item → List ℕ → ℕ
opening first [] c = 0
opening first (item ∷ past) c = if joins (mapping_at past) item (own first past) c then length past else opening first past c

-- the number is below all that follow it
abbrev pub Behind : ℕ → List ℕ → Type 0
Behind n [] = Unit {0}
Behind n (k ∷ ks) = (n < k) × Behind n ks

abbrev pub Rising : List ℕ → Type 0
Rising [] = Unit {0}
Rising (n ∷ ns) = Behind n ns × Rising ns

-- a member is as the history says
pub record IsAsSaid (first c : List ℕ) (past : List Item) (x : List ℕ) (m : Member) : Type 0 where
  pub nick : m.nick ≡ known nick_begins nick_says [] first c past x
  pub user : m.user ≡ known user_begins user_says [] first c past x
  pub host : m.host ≡ known host_begins host_says [] first c past x
  pub account : m.account ≡ known account_begins account_says [] first c past x
  pub op : m.op ≡ marked Op first c past x
  pub voice : m.voice ≡ marked Voice first c past x
  pub half_op : m.half_op ≡ marked HalfOp first c past x

-- the state is as the history says
pub record Agrees (first : List ℕ) (past : List Item) (s : ChanState) : Type 0 where
  pub own_nick : s.nick ≡ own first past
  pub server : s.support ≡ support past
  pub channels : (c : List ℕ) → is_some (channel_in c s) ≡ held first c past
  pub names : (c : List ℕ) → IfSome (channel_in c s) (λ channel. channel.name ≡ spelling first c past)
  pub topics : (c : List ℕ) → IfSome (channel_in c s) (λ channel. channel.topic ≡ topic first c past)
  pub members : (c x : List ℕ) → is_some (member_in c x s) ≡ on first c past x
  pub details : (c x : List ℕ) → IfSome (member_in c x s) (IsAsSaid first c past x)
  pub member_order : (c : List ℕ) → Rising (map (λ m. arrival first c past m.nick) (members_in c s))
  pub channel_order : Rising (map (λ channel. opening first past channel.name) s.channels)

-- more items, the newest first
abbrev pub before : List Item → List Item → List Item
before past [] = past
before past (item ∷ more) = before (item ∷ past) more

-- the same, with each item read by what the server has announced before it
abbrev pub before_read : List Item → List Item → List Item
before_read past [] = past
before_read past (item ∷ more) = before_read (before past (read_by (support past) item)) more

-- the items of some messages, the newest first
abbrev pub history_from : List Item → List Message → List Item
history_from past [] = past
history_from past (m ∷ more) = history_from (before_read past (items_of m)) more

abbrev pub history : List Message → List Item
history messages = history_from [] messages

-- the state after some messages
abbrev pub after_all : List Message → ChanState → ChanState
after_all [] s = s
after_all (m ∷ more) s = after_all more (after m s)
