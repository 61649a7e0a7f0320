-- What is known of a member, part by part, is what looking back says.
use Rattle.std.proofs.Common.{◌≡◌, ℕ, Bool, true, false, cond, not, ◌||◌, ◌&&◌, Option, Some, None, List, refl, sym, ap, subst, ◌∙◌}
use Rattle.std.specs.Prelude.{is_some, unwrap_or, IfSome}
use Rattle.std.specs.Option.{option_map}
use Rattle.chanstate.specs.declared.member.Member.{Member}
use Rattle.chanstate.specs.declared.member.Mark.{Mark}
use Rattle.chanstate.specs.declared.member.Mark.TheVariants.{Op, Voice, HalfOp}
use Rattle.rfccase.specs.Casemapping.{is_same_by}
use Rattle.chanstate.specs.Members.{unmarked, with_mark, with_address, with_detail, with_marks_of, with_nick}
use Rattle.chanstate.specs.Items.{Item, Welcomed, Announced, Joined, Left, Departed, Renamed, ModesSet, Marked, Titled, NamesTold, Listed, Addressed}
use Rattle.chanstate.specs.Items.{Told, ToldAtJoin, JoinsTell}
use Rattle.chanstate.specs.declared.detail.Detail.{Detail}
use Rattle.chanstate.specs.declared.detail.Detail.TheVariants.{Account, Address}
use Rattle.chanstate.specs.History.{topic, member_said, has_mark, mark_begins, mark_says, if_same_mark, user_begins, user_says, host_begins, host_says}
use Rattle.chanstate.specs.History.{nick_begins, nick_says, account_begins, account_says, before}
use Rattle.chanstate.proofs.LookLemmas.{come_as, come_as-none, come_as-some, rename_as, rename_as-none, rename_as-some}
use Rattle.chanstate.proofs.ItemLemmas.{member_after, mark_keeps, detail_keeps}
use Rattle.rfccase.specs.declared.casemappings.Casemapping.{Casemapping}

-- how a part of a member begins and changes, as the items say
pub record Part {A : Type 0} (get : Member → A) (begins : Item → A) (says : Item → Option A) : Type 0 where
  pub joins : (nick user host d : List ℕ) → get (unmarked nick user host) ≡ begins (Joined nick user host d)
  pub rejoins : (nick user host d : List ℕ) (m : Member) → get (with_address user host m) ≡ unwrap_or (says (Joined nick user host d)) (get m)
  pub lists : (d : List ℕ) (one : Member) → get one ≡ begins (Listed d one)
  pub relists : (d : List ℕ) (one m : Member) → get (with_marks_of one m) ≡ unwrap_or (says (Listed d one)) (get m)
  pub renames : (old new : List ℕ) (m : Member) → get (with_nick new m) ≡ unwrap_or (says (Renamed old new)) (get m)
  pub marks : (d : List ℕ) (mark : Mark) (set : Bool) (nick : List ℕ) (m : Member)
      → get (with_mark mark set m) ≡ unwrap_or (says (Marked d mark set nick)) (get m)
  pub addresses : (d nick user host : List ℕ) (m : Member) → get (with_address user host m) ≡ unwrap_or (says (Addressed d nick user host)) (get m)
  pub tells : (nick : List ℕ) (detail : Detail) (m : Member) → get (with_detail detail m) ≡ unwrap_or (says (Told nick detail)) (get m)

abbrev pub Has : {A : Type 0} → (Member → A) → A → Option Member → Type 0
Has get a o = IfSome o (λ m. get m ≡ a)

d_come : {A : Type 0} (get : Member → A) (one : Member) (f : Member → Member) (begins : A) (says : Option A) (a : A) (o : Option Member) →
    get one ≡ begins → ((m : Member) → get (f m) ≡ unwrap_or says (get m)) → Has get a o
    → get (come_as one f o) ≡ cond (not (is_some o)) begins (unwrap_or says a)
d_come get one f begins says a None new old is = ap get (come_as-none one f) ∙ new
d_come get one f begins says a (Some m) new old is = ap get (come_as-some one f m) ∙ (old m ∙ ap (unwrap_or says) is)

d_joined : {A : Type 0} (get : Member → A) (one : Member) (f : Member → Member) (begins : A) (says : Option A) (a : A) (o : Option Member)
    (b1 b2 b3 here : Bool) →
    get one ≡ begins → ((m : Member) → get (f m) ≡ unwrap_or says (get m)) → (here ≡ false → o ≡ None) → Has get a o →
    Has get (cond (b1 && b3) (cond (b2 || not (is_some o)) begins (unwrap_or says a)) a)
    (cond b1 (cond b2 (cond b3 (Some one) None) (cond (here && b3) (Some (come_as one f o)) o)) o)
d_joined get one f begins says a o true true true here new old away is = new
d_joined get one f begins says a o true true false here new old away is = tt
d_joined get one f begins says a o true false true true new old away is = d_come get one f begins says a o new old is
d_joined get one f begins says a o true false true false new old away is = subst (λ w. Has get (cond (not (is_some o)) begins (unwrap_or says a)) w)
    (sym (away refl)) tt
d_joined get one f begins says a o true false false true new old away is = is
d_joined get one f begins says a o true false false false new old away is = is
d_joined get one f begins says a o false b2 b3 here new old away is = is

swapped : {A : Type 0} (b : Bool) (x y : A) → cond (not b) x y ≡ cond b y x
swapped true x y = refl
swapped false x y = refl

d_listed : {A : Type 0} (get : Member → A) (one : Member) (f : Member → Member) (begins : A) (says : Option A) (a : A) (o : Option Member)
    (b1 b3 here : Bool) →
    get one ≡ begins → ((m : Member) → get (f m) ≡ unwrap_or says (get m)) → (here ≡ false → o ≡ None) → Has get a o →
    Has get (cond (b1 && b3) (cond (is_some o) (unwrap_or says a) begins) a) (cond (b1 && (here && b3)) (Some (come_as one f o)) o)
d_listed get one f begins says a o true true true new old away is = d_come get one f begins says a o new old is
    ∙ swapped (is_some o) begins (unwrap_or says a)
d_listed get one f begins says a o true true false new old away is = subst (λ w. Has get (cond (is_some o) (unwrap_or says a) begins) w)
    (sym (away refl)) tt
d_listed get one f begins says a o true false true new old away is = is
d_listed get one f begins says a o true false false new old away is = is
d_listed get one f begins says a o false b3 here new old away is = is

d_changed : {A : Type 0} (get : Member → A) (f : Member → Member) (says : Option A) (a : A) (o : Option Member) (b : Bool) →
    ((m : Member) → get (f m) ≡ unwrap_or says (get m)) → Has get a o → Has get (cond b (unwrap_or says a) a) (cond b (option_map f o) o)
d_changed get f says a None true old is = tt
d_changed get f says a (Some m) true old is = old m ∙ ap (unwrap_or says) is
d_changed get f says a o false old is = is

d_gone : {A : Type 0} (get : Member → A) (a : A) (o : Option Member) (b : Bool) → Has get a o → Has get a (cond b None o)
d_gone get a o true is = tt
d_gone get a o false is = is

d_renamed_some : {A : Type 0} (get : Member → A) (new : Member) (now a : A) (o : Option Member) (b2 b3 : Bool) → get new ≡ now → Has get a o
    → Has get (cond b2 now a) (cond b2 (Some new) (cond b3 None o))
d_renamed_some get new now a o true b3 made is = made
d_renamed_some get new now a o false true made is = tt
d_renamed_some get new now a o false false made is = is

d_renamed : {A : Type 0} (mapping : Casemapping) (get : Member → A) (old new x : List ℕ) (says : Option A) (a e : A) (w o : Option Member)
    → ((m : Member) → get (with_nick new m) ≡ unwrap_or says (get m)) → Has get e w → Has get a o →
    Has get (cond (is_some w && is_same_by mapping x new) (unwrap_or says e) a) (rename_as mapping old new x w o)
d_renamed mapping get old new x says a e None o made before is = subst (λ z. Has get a z) (sym (rename_as-none mapping old new x o)) is
d_renamed mapping get old new x says a e (Some m) o made before is =
    subst (λ z. Has get (cond (is_same_by mapping x new) (unwrap_or says e) a) z) (sym (rename_as-some mapping old new x m o))
    (d_renamed_some get (with_nick new m) (unwrap_or says e) a o (is_same_by mapping x new) (is_same_by mapping x old) (made m ∙ ap (unwrap_or says) before) is)

pub known-after : {A : Type 0} (mapping : Casemapping) (get : Member → A) (begins : Item → A) (says : Item → Option A) → Part get begins says →
    (item : Item) (me : List ℕ) (here : Bool) (c x : List ℕ) (look : List ℕ → Option Member) (before : List ℕ → A) → (here ≡ false → look x ≡ None)
    → ((y : List ℕ) → Has get (before y) (look y)) →
    Has get (member_said mapping begins says item me c (λ y. is_some (look y)) before x) (member_after mapping item me here c look x)
known-after mapping get begins says part (Welcomed nick) me here c x look before away is = tt
known-after mapping get begins says part (Announced tokens) me here c x look before away is = is x
known-after mapping get begins says part (Joined nick user host d) me here c x look before away is =
    d_joined get (unmarked nick user host) (with_address user host) (begins (Joined nick user host d)) (says (Joined nick user host d)) (before x)
    (look x) (is_same_by mapping c d) (is_same_by mapping nick me) (is_same_by mapping x nick) here
    (part.joins nick user host d) (part.rejoins nick user host d) away (is x)
known-after mapping get begins says part (Left nick d) me here c x look before away is = d_gone get (before x) (look x)
    (is_same_by mapping c d && (is_same_by mapping nick me || is_same_by mapping x nick)) (is x)
known-after mapping get begins says part (Departed nick) me here c x look before away is = d_gone get (before x) (look x) (is_same_by mapping nick me || is_same_by mapping x nick) (is x)
known-after mapping get begins says part (Renamed old new) me here c x look before away is =
    d_renamed mapping get old new x (says (Renamed old new)) (before x) (before old) (look old) (look x) (part.renames old new) (is old) (is x)
known-after mapping get begins says part (ModesSet channel modes arguments) me here c x look before away is = is x
known-after mapping get begins says part (Marked d mark set nick) me here c x look before away is =
    d_changed get (with_mark mark set) (says (Marked d mark set nick)) (before x) (look x) (is_same_by mapping c d && is_same_by mapping x nick) (part.marks d mark set nick)
    (is x)
known-after mapping get begins says part (Titled d topic) me here c x look before away is = is x
known-after mapping get begins says part (NamesTold channel names) me here c x look before away is = is x
known-after mapping get begins says part (Listed d one) me here c x look before away is =
    d_listed get one (with_marks_of one) (begins (Listed d one)) (says (Listed d one)) (before x) (look x) (is_same_by mapping c d) (is_same_by mapping x one.nick) here
    (part.lists d one) (part.relists d one) away (is x)
known-after mapping get begins says part (Addressed d nick user host) me here c x look before away is =
    d_changed get (with_address user host) (says (Addressed d nick user host)) (before x) (look x) (is_same_by mapping c d && is_same_by mapping x nick)
    (part.addresses d nick user host) (is x)
known-after mapping get begins says part (Told nick detail) me here c x look before away is =
    d_changed get (with_detail detail) (says (Told nick detail)) (before x) (look x) (is_same_by mapping x nick) (part.tells nick detail) (is x)
known-after mapping get begins says part (ToldAtJoin nick account) me here c x look before away is = is x
known-after mapping get begins says part (JoinsTell tell) me here c x look before away is = is x

-- ---- the parts of a member

mark_keeps_user : (mark : Mark) (set : Bool) (m : Member) → (with_mark mark set m).user ≡ m.user
mark_keeps_user Op set m = refl
mark_keeps_user Voice set m = refl
mark_keeps_user HalfOp set m = refl

mark_keeps_host : (mark : Mark) (set : Bool) (m : Member) → (with_mark mark set m).host ≡ m.host
mark_keeps_host Op set m = refl
mark_keeps_host Voice set m = refl
mark_keeps_host HalfOp set m = refl

mark_keeps_account : (mark : Mark) (set : Bool) (m : Member) → (with_mark mark set m).account ≡ m.account
mark_keeps_account Op set m = refl
mark_keeps_account Voice set m = refl
mark_keeps_account HalfOp set m = refl

tells_user : (nick : List ℕ) (detail : Detail) (m : Member) → (with_detail detail m).user ≡ unwrap_or (user_says (Told nick detail)) m.user
tells_user nick (Account account) m = refl
tells_user nick (Address user host) m = refl

tells_host : (nick : List ℕ) (detail : Detail) (m : Member) → (with_detail detail m).host ≡ unwrap_or (host_says (Told nick detail)) m.host
tells_host nick (Account account) m = refl
tells_host nick (Address user host) m = refl

tells_account : (nick : List ℕ) (detail : Detail) (m : Member) → (with_detail detail m).account ≡ unwrap_or (account_says (Told nick detail)) m.account
tells_account nick (Account account) m = refl
tells_account nick (Address user host) m = refl

detail_keeps_mark : (mark : Mark) (detail : Detail) (m : Member) → has_mark mark (with_detail detail m) ≡ has_mark mark m
detail_keeps_mark Op (Account account) m = refl
detail_keeps_mark Op (Address user host) m = refl
detail_keeps_mark Voice (Account account) m = refl
detail_keeps_mark Voice (Address user host) m = refl
detail_keeps_mark HalfOp (Account account) m = refl
detail_keeps_mark HalfOp (Address user host) m = refl

or_is : (a b : Bool) → (a || b) ≡ unwrap_or (cond b (Some true) None) a
or_is true true = refl
or_is true false = refl
or_is false true = refl
or_is false false = refl

mark_set : (k mark : Mark) (set : Bool) (m : Member) → has_mark k (with_mark mark set m) ≡ unwrap_or (if_same_mark k mark set) (has_mark k m)
mark_set Op Op set m = refl
mark_set Op Voice set m = refl
mark_set Op HalfOp set m = refl
mark_set Voice Op set m = refl
mark_set Voice Voice set m = refl
mark_set Voice HalfOp set m = refl
mark_set HalfOp Op set m = refl
mark_set HalfOp Voice set m = refl
mark_set HalfOp HalfOp set m = refl

pub nick_part : Part (λ m. m.nick) nick_begins nick_says
nick_part = record {
  joins = λ nick user host d. refl;
  rejoins = λ nick user host d m. refl;
  lists = λ d one. refl;
  relists = λ d one m. refl;
  renames = λ old new m. refl;
  marks = λ d mark set nick m. mark_keeps mark set m;
  addresses = λ d nick user host m. refl;
  tells = λ nick detail m. detail_keeps detail m;
}

pub user_part : Part (λ m. m.user) user_begins user_says
user_part = record {
  joins = λ nick user host d. refl;
  rejoins = λ nick user host d m. refl;
  lists = λ d one. refl;
  relists = λ d one m. refl;
  renames = λ old new m. refl;
  marks = λ d mark set nick m. mark_keeps_user mark set m;
  addresses = λ d nick user host m. refl;
  tells = λ nick detail m. tells_user nick detail m;
}

pub host_part : Part (λ m. m.host) host_begins host_says
host_part = record {
  joins = λ nick user host d. refl;
  rejoins = λ nick user host d m. refl;
  lists = λ d one. refl;
  relists = λ d one m. refl;
  renames = λ old new m. refl;
  marks = λ d mark set nick m. mark_keeps_host mark set m;
  addresses = λ d nick user host m. refl;
  tells = λ nick detail m. tells_host nick detail m;
}

pub account_part : Part (λ m. m.account) account_begins account_says
account_part = record {
  joins = λ nick user host d. refl;
  rejoins = λ nick user host d m. refl;
  lists = λ d one. refl;
  relists = λ d one m. refl;
  renames = λ old new m. refl;
  marks = λ d mark set nick m. mark_keeps_account mark set m;
  addresses = λ d nick user host m. refl;
  tells = λ nick detail m. tells_account nick detail m;
}

pub op_part : Part (has_mark Op) (mark_begins Op) (mark_says Op)
op_part = record {
  joins = λ nick user host d. refl;
  rejoins = λ nick user host d m. refl;
  lists = λ d one. refl;
  relists = λ d one m. or_is m.op one.op;
  renames = λ old new m. refl;
  marks = λ d mark set nick m. mark_set Op mark set m;
  addresses = λ d nick user host m. refl;
  tells = λ nick detail m. detail_keeps_mark Op detail m;
}

pub voice_part : Part (has_mark Voice) (mark_begins Voice) (mark_says Voice)
voice_part = record {
  joins = λ nick user host d. refl;
  rejoins = λ nick user host d m. refl;
  lists = λ d one. refl;
  relists = λ d one m. or_is m.voice one.voice;
  renames = λ old new m. refl;
  marks = λ d mark set nick m. mark_set Voice mark set m;
  addresses = λ d nick user host m. refl;
  tells = λ nick detail m. detail_keeps_mark Voice detail m;
}

pub half_op_part : Part (has_mark HalfOp) (mark_begins HalfOp) (mark_says HalfOp)
half_op_part = record {
  joins = λ nick user host d. refl;
  rejoins = λ nick user host d m. refl;
  lists = λ d one. refl;
  relists = λ d one m. or_is m.half_op one.half_op;
  renames = λ old new m. refl;
  marks = λ d mark set nick m. mark_set HalfOp mark set m;
  addresses = λ d nick user host m. refl;
  tells = λ nick detail m. detail_keeps_mark HalfOp detail m;
}
