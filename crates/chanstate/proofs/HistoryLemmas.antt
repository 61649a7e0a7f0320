-- The state after some items is what looking back over them says.
use Rattle.std.proofs.Common.{◌≡◌, ℕ, Bool, true, false, cond, not, ◌||◌, ◌&&◌, suc, map, length, Option, Some, None, List, [], ◌∷◌, refl, sym, ap, subst}
use Rattle.std.proofs.Common.{◌∙◌}
use Rattle.std.specs.Prelude.{find, is_some, unwrap_or, IfSome}
use Rattle.std.specs.Option.{option_map}
use Rattle.chanstate.specs.declared.member.Member.{Member}
use Rattle.chanstate.specs.declared.member.Mark.TheVariants.{Op, Voice, HalfOp}
use Rattle.chanstate.specs.declared.channel.Channel.{Channel}
use Rattle.chanstate.specs.declared.state.ChanState.{ChanState}
use Rattle.ircline.specs.declared.message.Message.{Message}
use Rattle.rfccase.specs.Casemapping.{is_same_by}
use Rattle.chanstate.specs.Members.{is_called, with_nick}
use Rattle.chanstate.specs.Channels.{is_named, with_topic, with_members}
use Rattle.chanstate.specs.Items.{Item, Welcomed, Announced, Joined, Left, Departed, Renamed, ModesSet, Marked, Titled, NamesTold, Listed, Addressed}
use Rattle.chanstate.specs.Items.{Told, ToldAtJoin, JoinsTell}
use Rattle.chanstate.specs.Items.{read_by, items_of}
use Rattle.chanstate.specs.declared.support.Support.{Support}
use Rattle.chanstate.specs.Steps.{step, each_step, steps, after}
use Rattle.chanstate.specs.Views.{connected, channel_in, members_of, member_in}
use Rattle.chanstate.specs.History.{own, own_said, support, support_said, held, channel_said, topic, topic_said, spelling, name_said, on, nick_said, known, member_said, has_mark}
use Rattle.chanstate.specs.History.{marked, mark_begins, mark_says, user_begins, user_says, host_begins, host_says, nick_begins, nick_says, account_begins, account_says, IsAsSaid}
use Rattle.chanstate.specs.History.{Agrees, mapping_at, before, before_read, history_from, history, after_all, arrival, joins, opening}
use Rattle.chanstate.proofs.TypedLemmas.{one_support}
use Rattle.chanstate.proofs.FindLemmas.{list_any-find, find-agree}
use Rattle.chanstate.proofs.AnnouncedLemmas.{announced-same}
use Rattle.rfccase.proofs.SameLemmas.{is_same_by-left}
use Rattle.chanstate.specs.Firsts.{first_removed, first_changed}
use Rattle.chanstate.specs.Announced.{announced, welcomed, with_join}
use Rattle.chanstate.proofs.DistinctLemmas.{Distinct}
use Rattle.chanstate.proofs.OrderLemmas.{Ordered, at, on_name, arrival-alike, order-after, channels-in-order}
use Rattle.chanstate.proofs.LookLemmas.{rename_as, rename_as-none, rename_as-some}
use Rattle.chanstate.proofs.ItemLemmas.{nick_of_member, name_of, channel_after, channel_in-kept, distinct-step, members-after, member_after, member-after}
use Rattle.chanstate.proofs.PartLemmas.{Has, Part, known-after, nick_part, user_part, host_part, account_part, op_part, voice_part, half_op_part}
use Rattle.rfccase.specs.declared.casemappings.Casemapping.{Casemapping}
use Rattle.chanstate.specs.Views.{mapping_of}

-- ---- the bot's nick

chosen : {X : Type 0} (b : Bool) (x y : X) → cond b x y ≡ unwrap_or (cond b (Some x) None) y
chosen true x y = refl
chosen false x y = refl

one_nick : (b : Bool) (s t : ChanState) → s.nick ≡ t.nick → (cond b s t).nick ≡ t.nick
one_nick true s t is = is
one_nick false s t is = refl

own-step : (item : Item) (s : ChanState) → (step item s).nick ≡ unwrap_or (own_said (mapping_of s) item s.nick) s.nick
own-step (Welcomed nick) s = refl
own-step (Announced tokens) s = refl
own-step (Joined nick user host d) s = one_nick (is_same_by (mapping_of s) nick s.nick) _ _ refl
own-step (Left nick d) s = one_nick (is_same_by (mapping_of s) nick s.nick) _ _ refl
own-step (Departed nick) s = one_nick (is_same_by (mapping_of s) nick s.nick) _ _ refl
own-step (Renamed old new) s = chosen (is_same_by (mapping_of s) old s.nick) new s.nick
own-step (ModesSet channel modes arguments) s = refl
own-step (Marked d mark set nick) s = refl
own-step (Titled d topic) s = refl
own-step (NamesTold channel names) s = refl
own-step (Listed d one) s = refl
own-step (Addressed d nick user host) s = refl
own-step (Told nick detail) s = refl
own-step (ToldAtJoin nick account) s = refl
own-step (JoinsTell tell) s = refl

-- ---- what the server has announced

support-step : (item : Item) (s : ChanState) → (step item s).support ≡ support_said item s.support
support-step (Welcomed nick) s = refl
support-step (Announced tokens) s = refl
support-step (Joined nick user host d) s = one_support (is_same_by (mapping_of s) nick s.nick) _ _ refl
support-step (Left nick d) s = one_support (is_same_by (mapping_of s) nick s.nick) _ _ refl
support-step (Departed nick) s = one_support (is_same_by (mapping_of s) nick s.nick) _ _ refl
support-step (Renamed old new) s = refl
support-step (ModesSet channel modes arguments) s = refl
support-step (Marked d mark set nick) s = refl
support-step (Titled d topic) s = refl
support-step (NamesTold channel names) s = refl
support-step (Listed d one) s = refl
support-step (Addressed d nick user host) s = refl
support-step (Told nick detail) s = refl
support-step (ToldAtJoin nick account) s = refl
support-step (JoinsTell tell) s = refl

-- ---- channels

some-map : {X Y : Type 0} (f : X → Y) (o : Option X) → is_some (option_map f o) ≡ is_some o
some-map f None = refl
some-map f (Some x) = refl

some_same : {X : Type 0} (b : Bool) (o w : Option X) → is_some w ≡ is_some o → is_some (cond b w o) ≡ is_some o
some_same true o w is = is
some_same false o w is = refl

h_joined : (b1 b2 : Bool) (v : Channel) (w o : Option Channel) → is_some w ≡ is_some o
    → is_some (cond b1 (cond b2 (Some v) w) o) ≡ unwrap_or (cond (b1 && b2) (Some true) None) (is_some o)
h_joined true true v w o is = refl
h_joined true false v w o is = is
h_joined false b2 v w o is = refl

h_left : (b1 b2 : Bool) (w o : Option Channel) → is_some w ≡ is_some o
    → is_some (cond b1 (cond b2 None w) o) ≡ unwrap_or (cond (b1 && b2) (Some false) None) (is_some o)
h_left true true w o is = refl
h_left true false w o is = is
h_left false b2 w o is = refl

held-after : (mapping : Casemapping) (item : Item) (me c : List ℕ) (o : Option Channel) → is_some (channel_after mapping item me c o) ≡ unwrap_or (channel_said mapping item me c) (is_some o)
held-after mapping (Welcomed nick) me c o = refl
held-after mapping (Announced tokens) me c o = refl
held-after mapping (Joined nick user host d) me c o = h_joined (is_same_by mapping c d) (is_same_by mapping nick me) _ _ o (some-map _ o)
held-after mapping (Left nick d) me c o = h_left (is_same_by mapping c d) (is_same_by mapping nick me) _ o (some-map _ o)
held-after mapping (Departed nick) me c o = h_left true (is_same_by mapping nick me) _ o (some-map _ o)
held-after mapping (Renamed old new) me c o = some-map _ o
held-after mapping (ModesSet channel modes arguments) me c o = refl
held-after mapping (Marked d mark set nick) me c o = some_same (is_same_by mapping c d) o _ (some-map _ o)
held-after mapping (Titled d topic) me c o = some_same (is_same_by mapping c d) o _ (some-map _ o)
held-after mapping (NamesTold channel names) me c o = refl
held-after mapping (Listed d one) me c o = some_same (is_same_by mapping c d) o _ (some-map _ o)
held-after mapping (Addressed d nick user host) me c o = some_same (is_same_by mapping c d) o _ (some-map _ o)
held-after mapping (Told nick detail) me c o = some-map _ o
held-after mapping (ToldAtJoin nick account) me c o = refl
held-after mapping (JoinsTell tell) me c o = refl

-- ---- topics

abbrev HasTopic : List ℕ → Option Channel → Type 0
HasTopic t o = IfSome o (λ ch. ch.topic ≡ t)

t_members : (t : List ℕ) (f : List Member → List Member) (o : Option Channel) → HasTopic t o → HasTopic t (option_map (with_members f) o)
t_members t f None is = is
t_members t f (Some ch) is = is

t_same : (b : Bool) (t : List ℕ) (w o : Option Channel) → HasTopic t w → HasTopic t o → HasTopic t (cond b w o)
t_same true t w o one two = one
t_same false t w o one two = two

t_joined : (b1 b2 : Bool) (t : List ℕ) (v : Channel) (w o : Option Channel) → v.topic ≡ [] → HasTopic t w → HasTopic t o
    → HasTopic (unwrap_or (cond (b1 && b2) (Some []) None) t) (cond b1 (cond b2 (Some v) w) o)
t_joined true true t v w o new one two = new
t_joined true false t v w o new one two = one
t_joined false b2 t v w o new one two = two

t_left : (b1 b2 : Bool) (t : List ℕ) (w o : Option Channel) → HasTopic t w → HasTopic t o → HasTopic t (cond b1 (cond b2 None w) o)
t_left true true t w o one two = tt
t_left true false t w o one two = one
t_left false b2 t w o one two = two

t_titled : (b : Bool) (t new : List ℕ) (o : Option Channel) → HasTopic t o
    → HasTopic (unwrap_or (cond b (Some new) None) t) (cond b (option_map (with_topic new) o) o)
t_titled true t new None is = tt
t_titled true t new (Some ch) is = refl
t_titled false t new o is = is

topic-after : (mapping : Casemapping) (item : Item) (me c t : List ℕ) (o : Option Channel) → HasTopic t o
    → HasTopic (unwrap_or (topic_said mapping item me c) t) (channel_after mapping item me c o)
topic-after mapping (Welcomed nick) me c t o is = tt
topic-after mapping (Announced tokens) me c t o is = is
topic-after mapping (Joined nick user host d) me c t o is = t_joined (is_same_by mapping c d) (is_same_by mapping nick me) t _ _ o refl (t_members t _ o is) is
topic-after mapping (Left nick d) me c t o is = t_left (is_same_by mapping c d) (is_same_by mapping nick me) t _ o (t_members t _ o is) is
topic-after mapping (Departed nick) me c t o is = t_left true (is_same_by mapping nick me) t _ o (t_members t _ o is) is
topic-after mapping (Renamed old new) me c t o is = t_members t _ o is
topic-after mapping (ModesSet channel modes arguments) me c t o is = is
topic-after mapping (Marked d mark set nick) me c t o is = t_same (is_same_by mapping c d) t _ o (t_members t _ o is) is
topic-after mapping (Titled d new) me c t o is = t_titled (is_same_by mapping c d) t new o is
topic-after mapping (NamesTold channel names) me c t o is = is
topic-after mapping (Listed d one) me c t o is = t_same (is_same_by mapping c d) t _ o (t_members t _ o is) is
topic-after mapping (Addressed d nick user host) me c t o is = t_same (is_same_by mapping c d) t _ o (t_members t _ o is) is
topic-after mapping (Told nick detail) me c t o is = t_members t _ o is
topic-after mapping (ToldAtJoin nick account) me c t o is = is
topic-after mapping (JoinsTell tell) me c t o is = is

-- ---- spellings

abbrev HasName : List ℕ → Option Channel → Type 0
HasName t o = IfSome o (λ ch. ch.name ≡ t)

n_mapped : (t : List ℕ) (f : Channel → Channel) → ((ch : Channel) → (f ch).name ≡ ch.name) → (o : Option Channel) → HasName t o → HasName t (option_map f o)
n_mapped t f keeps None is = tt
n_mapped t f keeps (Some ch) is = keeps ch ∙ is

n_same : (b : Bool) (t : List ℕ) (w o : Option Channel) → HasName t w → HasName t o → HasName t (cond b w o)
n_same true t w o one two = one
n_same false t w o one two = two

n_joined : (b1 b2 : Bool) (t d : List ℕ) (v : Channel) (w o : Option Channel) → v.name ≡ d → HasName t w → HasName t o
    → HasName (unwrap_or (cond (b1 && b2) (Some d) None) t) (cond b1 (cond b2 (Some v) w) o)
n_joined true true t d v w o new one two = new
n_joined true false t d v w o new one two = one
n_joined false b2 t d v w o new one two = two

n_left : (b1 b2 : Bool) (t : List ℕ) (w o : Option Channel) → HasName t w → HasName t o → HasName t (cond b1 (cond b2 None w) o)
n_left true true t w o one two = tt
n_left true false t w o one two = one
n_left false b2 t w o one two = two

name-after : (mapping : Casemapping) (item : Item) (me c t : List ℕ) (o : Option Channel) → HasName t o → HasName (unwrap_or (name_said mapping item me c) t) (channel_after mapping item me c o)
name-after mapping (Welcomed nick) me c t o is = tt
name-after mapping (Announced tokens) me c t o is = is
name-after mapping (Joined nick user host d) me c t o is = n_joined (is_same_by mapping c d) (is_same_by mapping nick me) t d _ _ o refl (n_mapped t _ (λ ch. refl) o is) is
name-after mapping (Left nick d) me c t o is = n_left (is_same_by mapping c d) (is_same_by mapping nick me) t _ o (n_mapped t _ (λ ch. refl) o is) is
name-after mapping (Departed nick) me c t o is = n_left true (is_same_by mapping nick me) t _ o (n_mapped t _ (λ ch. refl) o is) is
name-after mapping (Renamed old new) me c t o is = n_mapped t _ (λ ch. refl) o is
name-after mapping (ModesSet channel modes arguments) me c t o is = is
name-after mapping (Marked d mark set nick) me c t o is = n_same (is_same_by mapping c d) t _ o (n_mapped t _ (λ ch. refl) o is) is
name-after mapping (Titled d new) me c t o is = n_same (is_same_by mapping c d) t _ o (n_mapped t _ (λ ch. refl) o is) is
name-after mapping (NamesTold channel names) me c t o is = is
name-after mapping (Listed d one) me c t o is = n_same (is_same_by mapping c d) t _ o (n_mapped t _ (λ ch. refl) o is) is
name-after mapping (Addressed d nick user host) me c t o is = n_same (is_same_by mapping c d) t _ o (n_mapped t _ (λ ch. refl) o is) is
name-after mapping (Told nick detail) me c t o is = n_mapped t _ (λ ch. refl) o is
name-after mapping (ToldAtJoin nick account) me c t o is = is
name-after mapping (JoinsTell tell) me c t o is = is

-- ---- who is on a channel

o_joined : (b1 b2 b3 here : Bool) (v w : Member) (o : Option Member) →
    is_some (cond b1 (cond b2 (cond b3 (Some v) None) (cond (here && b3) (Some w) o)) o)
    ≡ unwrap_or (cond b1 (cond b2 (Some b3) (cond (here && b3) (Some true) None)) None) (is_some o)
o_joined true true true here v w o = refl
o_joined true true false here v w o = refl
o_joined true false true true v w o = refl
o_joined true false true false v w o = refl
o_joined true false false true v w o = refl
o_joined true false false false v w o = refl
o_joined false b2 b3 here v w o = refl

o_gone : (b : Bool) (o : Option Member) → is_some (cond b None o) ≡ unwrap_or (cond b (Some false) None) (is_some o)
o_gone true o = refl
o_gone false o = refl

o_listed : (b : Bool) (w : Member) (o : Option Member) → is_some (cond b (Some w) o) ≡ unwrap_or (cond b (Some true) None) (is_some o)
o_listed true w o = refl
o_listed false w o = refl

o_renamed_some : (b2 b3 : Bool) (m : Member) (o : Option Member)
    → is_some (cond b2 (Some m) (cond b3 None o)) ≡ unwrap_or (cond b2 (Some true) (cond b3 (Some false) None)) (is_some o)
o_renamed_some true b3 m o = refl
o_renamed_some false true m o = refl
o_renamed_some false false m o = refl

o_renamed : (mapping : Casemapping) (old new x : List ℕ) (w o : Option Member) →
    is_some (rename_as mapping old new x w o)
    ≡ unwrap_or (cond (is_some w) (cond (is_same_by mapping x new) (Some true) (cond (is_same_by mapping x old) (Some false) None)) None) (is_some o)
o_renamed mapping old new x None o = ap is_some (rename_as-none mapping old new x o)
o_renamed mapping old new x (Some m) o = ap is_some (rename_as-some mapping old new x m o) ∙ o_renamed_some (is_same_by mapping x new) (is_same_by mapping x old) (with_nick new m) o

on-after : (mapping : Casemapping) (item : Item) (me : List ℕ) (here : Bool) (c x : List ℕ) (look : List ℕ → Option Member) →
    is_some (member_after mapping item me here c look x) ≡ unwrap_or (nick_said mapping item me here c (λ y. is_some (look y)) x) (is_some (look x))
on-after mapping (Welcomed nick) me here c x look = refl
on-after mapping (Announced tokens) me here c x look = refl
on-after mapping (Joined nick user host d) me here c x look = o_joined (is_same_by mapping c d) (is_same_by mapping nick me) (is_same_by mapping x nick) here _ _ (look x)
on-after mapping (Left nick d) me here c x look = o_gone (is_same_by mapping c d && (is_same_by mapping nick me || is_same_by mapping x nick)) (look x)
on-after mapping (Departed nick) me here c x look = o_gone (is_same_by mapping nick me || is_same_by mapping x nick) (look x)
on-after mapping (Renamed old new) me here c x look = o_renamed mapping old new x (look old) (look x)
on-after mapping (ModesSet channel modes arguments) me here c x look = refl
on-after mapping (Marked d mark set nick) me here c x look = some_same (is_same_by mapping c d && is_same_by mapping x nick) (look x) _ (some-map _ (look x))
on-after mapping (Titled d topic) me here c x look = refl
on-after mapping (NamesTold channel names) me here c x look = refl
on-after mapping (Listed d one) me here c x look = o_listed (is_same_by mapping c d && (here && is_same_by mapping x one.nick)) _ (look x)
on-after mapping (Addressed d nick user host) me here c x look = some_same (is_same_by mapping c d && is_same_by mapping x nick) (look x) _ (some-map _ (look x))
on-after mapping (Told nick detail) me here c x look = some_same (is_same_by mapping x nick) (look x) _ (some-map _ (look x))
on-after mapping (ToldAtJoin nick account) me here c x look = refl
on-after mapping (JoinsTell tell) me here c x look = refl

-- ---- all of it

nick_said-same : (mapping : Casemapping) (item : Item) (me : List ℕ) (here : Bool) (c x : List ℕ) (was now : List ℕ → Bool) → ((y : List ℕ) → was y ≡ now y)
    → nick_said mapping item me here c was x ≡ nick_said mapping item me here c now x
nick_said-same mapping (Welcomed nick) me here c x was now same = refl
nick_said-same mapping (Announced tokens) me here c x was now same = refl
nick_said-same mapping (Joined nick user host d) me here c x was now same = refl
nick_said-same mapping (Left nick d) me here c x was now same = refl
nick_said-same mapping (Departed nick) me here c x was now same = refl
nick_said-same mapping (Renamed old new) me here c x was now same = ap
    (λ b. cond b (cond (is_same_by mapping x new) (Some true) (cond (is_same_by mapping x old) (Some false) None)) None) (same old)
nick_said-same mapping (ModesSet channel modes arguments) me here c x was now same = refl
nick_said-same mapping (Marked d mark set nick) me here c x was now same = refl
nick_said-same mapping (Titled d topic) me here c x was now same = refl
nick_said-same mapping (NamesTold channel names) me here c x was now same = refl
nick_said-same mapping (Listed d one) me here c x was now same = refl
nick_said-same mapping (Addressed d nick user host) me here c x was now same = refl
nick_said-same mapping (Told nick detail) me here c x was now same = refl
nick_said-same mapping (ToldAtJoin nick account) me here c x was now same = refl
nick_said-same mapping (JoinsTell tell) me here c x was now same = refl

member_said-same : {A : Type 0} (mapping : Casemapping) (begins : Item → A) (says : Item → Option A) (item : Item) (me c x : List ℕ) (was now : List ℕ → Bool)
    (old_values : List ℕ → A) → ((y : List ℕ) → was y ≡ now y) →
    member_said mapping begins says item me c was old_values x ≡ member_said mapping begins says item me c now old_values x
member_said-same mapping begins says (Welcomed nick) me c x was now vs same = refl
member_said-same mapping begins says (Announced tokens) me c x was now vs same = refl
member_said-same mapping begins says (Joined nick user host d) me c x was now vs same =
    ap (λ b. cond (is_same_by mapping c d && is_same_by mapping x nick)
    (cond (is_same_by mapping nick me || not b) (begins (Joined nick user host d)) (unwrap_or (says (Joined nick user host d)) (vs x))) (vs x)) (same x)
member_said-same mapping begins says (Left nick d) me c x was now vs same = refl
member_said-same mapping begins says (Departed nick) me c x was now vs same = refl
member_said-same mapping begins says (Renamed old new) me c x was now vs same = ap
    (λ b. cond (b && is_same_by mapping x new) (unwrap_or (says (Renamed old new)) (vs old)) (vs x)) (same old)
member_said-same mapping begins says (ModesSet channel modes arguments) me c x was now vs same = refl
member_said-same mapping begins says (Marked d mark set nick) me c x was now vs same = refl
member_said-same mapping begins says (Titled d topic) me c x was now vs same = refl
member_said-same mapping begins says (NamesTold channel names) me c x was now vs same = refl
member_said-same mapping begins says (Listed d one) me c x was now vs same =
    ap (λ b. cond (is_same_by mapping c d && is_same_by mapping x one.nick) (cond b (unwrap_or (says (Listed d one)) (vs x)) (begins (Listed d one))) (vs x)) (same x)
member_said-same mapping begins says (Addressed d nick user host) me c x was now vs same = refl
member_said-same mapping begins says (Told nick detail) me c x was now vs same = refl
member_said-same mapping begins says (ToldAtJoin nick account) me c x was now vs same = refl
member_said-same mapping begins says (JoinsTell tell) me c x was now vs same = refl

if_some : {X : Type 0} (P Q : X → Type 0) (o : Option X) → ((x : X) → P x → Q x) → IfSome o P → IfSome o Q
if_some P Q None f is = tt
if_some P Q (Some x) f is = f x is

gather : (first c : List ℕ) (past : List Item) (x : List ℕ) (o : Option Member) →
    Has (λ m. m.nick) (known nick_begins nick_says [] first c past x) o → Has (λ m. m.user) (known user_begins user_says [] first c past x) o
    → Has (λ m. m.host) (known host_begins host_says [] first c past x) o → Has (λ m. m.account) (known account_begins account_says [] first c past x) o →
    Has (has_mark Op) (marked Op first c past x) o → Has (has_mark Voice) (marked Voice first c past x) o
    → Has (has_mark HalfOp) (marked HalfOp first c past x) o → IfSome o (IsAsSaid first c past x)
gather first c past x None a b d l e f g = tt
gather first c past x (Some m) a b d l e f g = record { nick = a; user = b; host = d; account = l; op = e; voice = f; half_op = g }

-- the state stands for the history, no name is twice in it, and no channel is held before a JOIN has been read
pub record Stands (first : List ℕ) (past : List Item) (s : ChanState) : Type 0 where
  pub names : Distinct (mapping_of s) name_of s.channels
  pub nicks : (c : List ℕ) → Distinct (mapping_of s) nick_of_member (members_of (channel_in c s))
  pub places : (c : List ℕ) → Ordered (length past) (map (at (arrival first c past)) (members_of (channel_in c s)))
  pub joined : Ordered (length past) (map (on_name (opening first past)) s.channels)
  pub alike : (c x y : List ℕ) → on first c past x ≡ true → is_same_by (mapping_of s) x y ≡ true → arrival first c past x ≡ arrival first c past y
  pub early : s.support.join_read ≡ false → s.channels ≡ []
  pub agrees : Agrees first past s

-- the casemapping of the state is that of the history
at_is : (first : List ℕ) (past : List Item) (s : ChanState) → Stands first past s → mapping_of s ≡ mapping_at past
at_is first past s stands = ap (λ (sup : Support). sup.casemapping) stands.agrees.server

-- an item that keeps the casemapping
abbrev Keeps : Item → ChanState → Type 0
Keeps item s = mapping_of (step item s) ≡ mapping_of s

channel_is : (item : Item) (s : ChanState) (first c : List ℕ) (past : List Item) → Keeps item s → Stands first past s
    → channel_in c (step item s) ≡ channel_after (mapping_at past) item s.nick c (channel_in c s)
channel_is item s first c past kept stands =
    channel_in-kept item s c kept stands.names ∙ ap (λ mapping. channel_after mapping item s.nick c (channel_in c s)) (at_is first past s stands)

nicks_at : (s : ChanState) (first c : List ℕ) (past : List Item) → Stands first past s → Distinct (mapping_at past) nick_of_member (members_of (channel_in c s))
nicks_at s first c past stands = subst (λ mapping. Distinct mapping nick_of_member (members_of (channel_in c s))) (at_is first past s stands) (stands.nicks c)

-- who is on a channel, by the history's casemapping
look_at : (s : ChanState) (first c x : List ℕ) (past : List Item) → Stands first past s
    → member_in c x s ≡ find (is_called (mapping_at past) x) (members_of (channel_in c s))
look_at s first c x past stands = ap (λ mapping. find (is_called mapping x) (members_of (channel_in c s))) (at_is first past s stands)

no_channel : (mapping : Casemapping) (x : List ℕ) (o : Option Channel) → is_some o ≡ false → find (is_called mapping x) (members_of o) ≡ None
no_channel mapping x None is = refl
no_channel mapping x (Some ch) is = cc

member_is : (item : Item) (s : ChanState) (first c x : List ℕ) (past : List Item) → Keeps item s → Stands first past s →
    member_in c x (step item s) ≡ member_after (mapping_at past) item (own first past) (held first c past) c (λ y. member_in c y s) x
member_is item s first c x past kept stands =
    subst (λ mapping. member_in c x (step item s) ≡ member_after mapping item (own first past) (held first c past) c (λ y. member_in c y s) x)
    (at_is first past s stands)
    (ap (λ mapping. find (is_called mapping x) (members_of (channel_in c (step item s)))) kept
    ∙ (ap (λ o. find (is_called (mapping_of s) x) (members_of o)) (channel_in-kept item s c kept stands.names)
    ∙ (member-after (mapping_of s) item s.nick c x (channel_in c s) (stands.nicks c)
    ∙ (ap (λ me. member_after (mapping_of s) item me (is_some (channel_in c s)) c (λ y. member_in c y s) x) stands.agrees.own_nick
    ∙ ap (λ here. member_after (mapping_of s) item (own first past) here c (λ y. member_in c y s) x) (stands.agrees.channels c)))))

part_is : {A : Type 0} (get : Member → A) (begins : Item → A) (says : Item → Option A) (none : A) → Part get begins says →
    (item : Item) (s : ChanState) (first c x : List ℕ) (past : List Item) → Keeps item s → Stands first past s
    → ((y : List ℕ) → Has get (known begins says none first c past y) (member_in c y s)) →
    Has get (known begins says none first c (item ∷ past) x) (member_in c x (step item s))
part_is get begins says none part item s first c x past kept stands is =
    subst (λ o. Has get (known begins says none first c (item ∷ past) x) o) (sym (member_is item s first c x past kept stands))
    (subst (λ a. Has get a (member_after (mapping_at past) item (own first past) (held first c past) c (λ y. member_in c y s) x))
    (member_said-same (mapping_at past) begins says item (own first past) c x (λ y. is_some (member_in c y s)) (on first c past) (known begins says none first c past)
    (stands.agrees.members c))
    (known-after (mapping_at past) get begins says part item (own first past) (held first c past) c x (λ y. member_in c y s) (known begins says none first c past)
    (λ away. no_channel (mapping_of s) x (channel_in c s) (stands.agrees.channels c ∙ away)) is))

-- the places of members and of channels

places-step : (item : Item) (s : ChanState) (first c : List ℕ) (past : List Item) → Keeps item s → Stands first past s
    → Ordered (suc (length past)) (map (at (arrival first c (item ∷ past))) (members_of (channel_in c (step item s))))
places-step item s first c past kept stands =
    subst (λ o. Ordered (suc (length past)) (map (at (arrival first c (item ∷ past))) (members_of o))) (sym (channel_is item s first c past kept stands))
    (subst (λ me. Ordered (suc (length past))
    (map (at (member_said (mapping_at past) (λ _. length past) (λ _. None) item me c (on first c past) (arrival first c past)))
    (members_of (channel_after (mapping_at past) item s.nick c (channel_in c s))))) stands.agrees.own_nick
    (order-after (mapping_at past) item s.nick c (channel_in c s) (on first c past) (arrival first c past) (length past) (nicks_at s first c past stands)
    (λ x. sym (stands.agrees.members c x) ∙ ap is_some (look_at s first c x past stands)
    ∙ sym (list_any-find (is_called (mapping_at past) x) (members_of (channel_in c s))))
    (λ x y there same. stands.alike c x y there (ap (λ mapping. is_same_by mapping x y) (at_is first past s stands) ∙ same)) (stands.places c)))

joined-step : (item : Item) (s : ChanState) (first : List ℕ) (past : List Item) → Stands first past s
    → Ordered (suc (length past)) (map (on_name (opening first (item ∷ past))) (step item s).channels)
joined-step item s first past stands =
    subst (λ mapping. Ordered (suc (length past))
    (map (on_name (λ c. cond (joins mapping item (own first past) c) (length past) (opening first past c))) (step item s).channels)) (at_is first past s stands)
    (subst (λ me. Ordered (suc (length past))
    (map (on_name (λ c. cond (joins (mapping_of s) item me c) (length past) (opening first past c))) (step item s).channels)) stands.agrees.own_nick
    (channels-in-order item s (opening first past) (length past) stands.names stands.joined))

-- the same nick is on the same channels, and has the same places
alike-step : (item : Item) (s : ChanState) (first c x y : List ℕ) (past : List Item) → Keeps item s → Stands first past s → on first c (item ∷ past) x ≡ true
    → is_same_by (mapping_of (step item s)) x y ≡ true → arrival first c (item ∷ past) x ≡ arrival first c (item ∷ past) y
alike-step item s first c x y past kept stands there same =
    let before : is_same_by (mapping_of s) x y ≡ true = ap (λ mapping. is_same_by mapping x y) (sym kept) ∙ same in
    let at : is_same_by (mapping_at past) x y ≡ true = ap (λ mapping. is_same_by mapping x y) (sym (at_is first past s stands)) ∙ before in
    let found : member_in c x s ≡ member_in c y s = find-agree (is_called (mapping_of s) x) (is_called (mapping_of s) y)
    (λ m. is_same_by-left (mapping_of s) x y m.nick before) (members_of (channel_in c s)) in
    arrival-alike (mapping_at past) item (own first past) (held first c past) c x y (on first c past) (arrival first c past) (length past) at
    (sym (stands.agrees.members c x) ∙ (ap is_some found ∙ stands.agrees.members c y)) (λ was. stands.alike c x y was before) there

agrees-step : (item : Item) (s : ChanState) (first : List ℕ) (past : List Item) → Keeps item s → Stands first past s → Agrees first (item ∷ past) (step item s)
agrees-step item s first past kept stands = record {
  own_nick = own-step item s ∙ (ap (λ nick. unwrap_or (own_said (mapping_of s) item nick) nick) stands.agrees.own_nick
      ∙ ap (λ mapping. unwrap_or (own_said mapping item (own first past)) (own first past)) (at_is first past s stands));
  server = support-step item s ∙ ap (support_said item) stands.agrees.server;
  channels = λ c. ap is_some (channel_is item s first c past kept stands) ∙ (held-after (mapping_at past) item s.nick c (channel_in c s)
      ∙ (ap (λ me. unwrap_or (channel_said (mapping_at past) item me c) (is_some (channel_in c s))) stands.agrees.own_nick
      ∙ ap (λ b. unwrap_or (channel_said (mapping_at past) item (own first past) c) b) (stands.agrees.channels c)));
  names = λ c. subst (λ o. HasName (spelling first c (item ∷ past)) o) (sym (channel_is item s first c past kept stands))
      (subst (λ me. HasName (unwrap_or (name_said (mapping_at past) item me c) (spelling first c past)) (channel_after (mapping_at past) item s.nick c (channel_in c s))) stands.agrees.own_nick
      (name-after (mapping_at past) item s.nick c (spelling first c past) (channel_in c s) (stands.agrees.names c)));
  topics = λ c. subst (λ o. HasTopic (topic first c (item ∷ past)) o) (sym (channel_is item s first c past kept stands))
      (subst (λ me. HasTopic (unwrap_or (topic_said (mapping_at past) item me c) (topic first c past)) (channel_after (mapping_at past) item s.nick c (channel_in c s))) stands.agrees.own_nick
      (topic-after (mapping_at past) item s.nick c (topic first c past) (channel_in c s) (stands.agrees.topics c)));
  members = λ c x. ap is_some (member_is item s first c x past kept stands) ∙ (on-after (mapping_at past) item (own first past) (held first c past) c x (λ y. member_in c y s)
      ∙ (ap (λ o. unwrap_or o (is_some (member_in c x s)))
      (nick_said-same (mapping_at past) item (own first past) (held first c past) c x (λ y. is_some (member_in c y s)) (on first c past) (stands.agrees.members c))
      ∙ ap (λ b. unwrap_or (nick_said (mapping_at past) item (own first past) (held first c past) c (on first c past) x) b) (stands.agrees.members c x)));
  member_order = λ c. (places-step item s first c past kept stands).0;
  channel_order = (joined-step item s first past stands).0;
  details = λ c x. gather first c (item ∷ past) x (member_in c x (step item s))
      (part_is (λ m. m.nick) nick_begins nick_says [] nick_part item s first c x past kept stands
      (λ y. if_some (IsAsSaid first c past y) _ (member_in c y s) (λ m known. known.nick) (stands.agrees.details c y)))
      (part_is (λ m. m.user) user_begins user_says [] user_part item s first c x past kept stands
      (λ y. if_some (IsAsSaid first c past y) _ (member_in c y s) (λ m known. known.user) (stands.agrees.details c y)))
      (part_is (λ m. m.host) host_begins host_says [] host_part item s first c x past kept stands
      (λ y. if_some (IsAsSaid first c past y) _ (member_in c y s) (λ m known. known.host) (stands.agrees.details c y)))
      (part_is (λ m. m.account) account_begins account_says [] account_part item s first c x past kept stands
      (λ y. if_some (IsAsSaid first c past y) _ (member_in c y s) (λ m known. known.account) (stands.agrees.details c y)))
      (part_is (has_mark Op) (mark_begins Op) (mark_says Op) false op_part item s first c x past kept stands
      (λ y. if_some (IsAsSaid first c past y) _ (member_in c y s) (λ m known. known.op) (stands.agrees.details c y)))
      (part_is (has_mark Voice) (mark_begins Voice) (mark_says Voice) false voice_part item s first c x past kept stands
      (λ y. if_some (IsAsSaid first c past y) _ (member_in c y s) (λ m known. known.voice) (stands.agrees.details c y)))
      (part_is (has_mark HalfOp) (mark_begins HalfOp) (mark_says HalfOp) false half_op_part item s first c x past kept stands
      (λ y. if_some (IsAsSaid first c past y) _ (member_in c y s) (λ m known. known.half_op) (stands.agrees.details c y)));
}

stands-kept : (item : Item) (s : ChanState) (first : List ℕ) (past : List Item) → Keeps item s
    → ((step item s).support.join_read ≡ false → (step item s).channels ≡ []) → Stands first past s → Stands first (item ∷ past) (step item s)
stands-kept item s first past kept early stands = record {
  names = subst (λ mapping. Distinct mapping name_of (step item s).channels) (sym kept) (distinct-step item s stands.names);
  nicks = λ c. subst (λ mapping. Distinct mapping nick_of_member (members_of (channel_in c (step item s)))) (sym kept)
      (subst (λ o. Distinct (mapping_of s) nick_of_member (members_of o)) (sym (channel_in-kept item s c kept stands.names))
      (members-after (mapping_of s) item s.nick c (channel_in c s) (stands.nicks c)));
  places = λ c. places-step item s first c past kept stands;
  joined = joined-step item s first past stands;
  alike = λ c x y there same. alike-step item s first c x y past kept stands there same;
  early = early;
  agrees = agrees-step item s first past kept stands;
}

-- a JOIN has been read
after_join : (item : Item) (s : ChanState) → (step item s).support ≡ with_join s.support → (step item s).support.join_read ≡ false → (step item s).channels ≡ []
after_join item s is read = let true_is : (step item s).support.join_read ≡ true = ap (λ (sup : Support). sup.join_read) is in cc

-- no channel is held still
still_none : (item : Item) (s : ChanState) (first : List ℕ) (past : List Item) → (step item s).support ≡ s.support
    → (s.channels ≡ [] → (step item s).channels ≡ []) → Stands first past s → (step item s).support.join_read ≡ false → (step item s).channels ≡ []
still_none item s first past is none stands read = none (stands.early (ap (λ (sup : Support). sup.join_read) (sym is) ∙ read))

either_none : (b : Bool) (s t : ChanState) → s.channels ≡ [] → t.channels ≡ [] → (cond b s t).channels ≡ []
either_none true s t one two = one
either_none false s t one two = two

-- an item that leaves what the server has announced
stands-plain : (item : Item) (s : ChanState) (first : List ℕ) (past : List Item) → (step item s).support ≡ s.support
    → (s.channels ≡ [] → (step item s).channels ≡ []) → Stands first past s → Stands first (item ∷ past) (step item s)
stands-plain item s first past is none stands =
    stands-kept item s first past (ap (λ (sup : Support). sup.casemapping) is) (still_none item s first past is none stands) stands

-- a welcome
stands-welcomed : (nick : List ℕ) (s : ChanState) (first : List ℕ) (past : List Item) → Stands first past s
    → Stands first (Welcomed nick ∷ past) (step (Welcomed nick) s)
stands-welcomed nick s first past stands = record {
  names = tt;
  nicks = λ c. tt;
  places = λ c. (tt, tt);
  joined = (tt, tt);
  alike = λ c x y there same. cc;
  early = λ read. refl;
  agrees = record {
    own_nick = refl;
    server = ap welcomed stands.agrees.server;
    channels = λ c. refl;
    names = λ c. tt;
    topics = λ c. tt;
    members = λ c x. refl;
    details = λ c x. tt;
    member_order = λ c. tt;
    channel_order = tt;
  };
}

-- an announcement before any JOIN, when no channel is held
stands-early : (tokens : List (List ℕ)) (s : ChanState) (first : List ℕ) (past : List Item) → s.channels ≡ [] → Stands first past s
    → Stands first (Announced tokens ∷ past) (step (Announced tokens) s)
stands-early tokens s first past none stands =
    subst (λ chs. Stands first (Announced tokens ∷ past) (record { nick = s.nick; channels = chs; support = announced tokens s.support })) (sym none) (record {
      names = tt;
      nicks = λ c. tt;
      places = λ c. (tt, tt);
      joined = (tt, tt);
      alike = λ c x y there same. let off = nobody c x in cc;
      early = λ read. refl;
      agrees = record {
        own_nick = stands.agrees.own_nick;
        server = ap (announced tokens) stands.agrees.server;
        channels = λ c. ap (λ chs. is_some (find (is_named (mapping_of s) c) chs)) (sym none) ∙ stands.agrees.channels c;
        names = λ c. tt;
        topics = λ c. tt;
        members = λ c x. sym (nobody c x);
        details = λ c x. tt;
        member_order = λ c. tt;
        channel_order = tt;
      };
    })
  where
    nobody : (c x : List ℕ) → on first c past x ≡ false
    nobody c x = sym (stands.agrees.members c x)
        ∙ ap (λ chs. is_some (find (is_called (mapping_of s) x) (members_of (find (is_named (mapping_of s) c) chs)))) none

stands-announced : (tokens : List (List ℕ)) (s : ChanState) (first : List ℕ) (past : List Item) → Stands first past s
    → Stands first (Announced tokens ∷ past) (step (Announced tokens) s)
stands-announced tokens s first past stands = by s.support.join_read refl
  where
    by : (b : Bool) → s.support.join_read ≡ b → Stands first (Announced tokens ∷ past) (step (Announced tokens) s)
    by true read =
        let same = announced-same tokens s.support read in
        stands-kept (Announced tokens) s first past same.0 (λ no. let yes = same.1 ∙ read in cc) stands
    by false read = stands-early tokens s first past (stands.early read) stands

stands-step : (item : Item) (s : ChanState) (first : List ℕ) (past : List Item) → Stands first past s → Stands first (item ∷ past) (step item s)
stands-step (Welcomed nick) s first past stands = stands-welcomed nick s first past stands
stands-step (Announced tokens) s first past stands = stands-announced tokens s first past stands
stands-step (Joined nick user host d) s first past stands =
    let is = support-step (Joined nick user host d) s in
    stands-kept (Joined nick user host d) s first past (ap (λ (sup : Support). sup.casemapping) is) (after_join (Joined nick user host d) s is) stands
stands-step (Left nick d) s first past stands =
    stands-plain (Left nick d) s first past (support-step (Left nick d) s)
    (λ none. either_none (is_same_by (mapping_of s) nick s.nick) _ _ (ap (first_removed _) none) (ap (first_changed _ _) none)) stands
stands-step (Departed nick) s first past stands =
    stands-plain (Departed nick) s first past (support-step (Departed nick) s)
    (λ none. either_none (is_same_by (mapping_of s) nick s.nick) (record s { channels = [] }) _ refl (ap (map _) none)) stands
stands-step (Renamed old new) s first past stands = stands-plain (Renamed old new) s first past refl (λ none. ap (map _) none) stands
stands-step (ModesSet channel modes arguments) s first past stands = stands-plain (ModesSet channel modes arguments) s first past refl (λ none. none) stands
stands-step (Marked d mark set nick) s first past stands =
    stands-plain (Marked d mark set nick) s first past refl (λ none. ap (first_changed _ _) none) stands
stands-step (Titled d topic) s first past stands = stands-plain (Titled d topic) s first past refl (λ none. ap (first_changed _ _) none) stands
stands-step (NamesTold channel names) s first past stands = stands-plain (NamesTold channel names) s first past refl (λ none. none) stands
stands-step (Listed d one) s first past stands = stands-plain (Listed d one) s first past refl (λ none. ap (first_changed _ _) none) stands
stands-step (Addressed d nick user host) s first past stands =
    stands-plain (Addressed d nick user host) s first past refl (λ none. ap (first_changed _ _) none) stands
stands-step (Told nick detail) s first past stands = stands-plain (Told nick detail) s first past refl (λ none. ap (map _) none) stands
stands-step (ToldAtJoin nick account) s first past stands = stands-plain (ToldAtJoin nick account) s first past refl (λ none. none) stands
stands-step (JoinsTell tell) s first past stands = stands-kept (JoinsTell tell) s first past refl (λ read. stands.early read) stands

stands-each : (items : List Item) (s : ChanState) (first : List ℕ) (past : List Item) → Stands first past s
    → Stands first (before past items) (each_step items s)
stands-each [] s first past stands = stands
stands-each (item ∷ more) s first past stands = stands-each more (step item s) first (item ∷ past) (stands-step item s first past stands)

-- an item that is read by what the history says that the server has announced
stands-read : (item : Item) (s : ChanState) (first : List ℕ) (past : List Item) → Stands first past s
    → Stands first (before past (read_by (support past) item)) (each_step (read_by s.support item) s)
stands-read item s first past stands =
    subst (λ (sup : Support). Stands first (before past (read_by sup item)) (each_step (read_by s.support item) s)) stands.agrees.server
    (stands-each (read_by s.support item) s first past stands)

stands-steps : (items : List Item) (s : ChanState) (first : List ℕ) (past : List Item) → Stands first past s
    → Stands first (before_read past items) (steps items s)
stands-steps [] s first past stands = stands
stands-steps (item ∷ more) s first past stands =
    stands-steps more (each_step (read_by s.support item) s) first (before past (read_by (support past) item)) (stands-read item s first past stands)

stands-all : (messages : List Message) (s : ChanState) (first : List ℕ) (past : List Item) → Stands first past s
    → Stands first (history_from past messages) (after_all messages s)
stands-all [] s first past stands = stands
stands-all (m ∷ more) s first past stands = stands-all more (after m s) first (before_read past (items_of m)) (stands-steps (items_of m) s first past stands)

pub stands-connected : (first : List ℕ) → Stands first [] (connected first)
stands-connected first = record {
  names = tt;
  nicks = λ c. tt;
  places = λ c. (tt, tt);
  joined = (tt, tt);
  alike = λ c x y there same. cc;
  early = λ read. refl;
  agrees = record {
    own_nick = refl;
    server = refl;
    channels = λ c. refl;
    names = λ c. tt;
    topics = λ c. tt;
    members = λ c x. refl;
    details = λ c x. tt;
    member_order = λ c. tt;
    channel_order = tt;
  };
}

pub history-stands : (first : List ℕ) (messages : List Message) → Stands first (history messages) (after_all messages (connected first))
history-stands first messages = stands-all messages (connected first) first [] (stands-connected first)
