-- What a MODE leaves of what the bot reads of its channels to judge whether it is op there.
use Rattle.std.proofs.Common.{◌≡◌, ◌∙◌, ℕ, ◌+◌, ◌<◌, ◌≤◌, Bool, true, false, cond, Option, None, Some, List, [], ◌∷◌, ◌++◌}
use Rattle.std.proofs.Common.{length, get_or, drop, refl, sym, ap, subst, append-nil, append_assoc, arith}
use Rattle.std.specs.Prelude.{codes, find, if◌then◌else◌, is_some}
use Rattle.std.specs.List.{flat_map}
use Rattle.std.specs.Option.{option_map, option_to_list}
use Rattle.std.proofs.lemmas.Bool.{cond-true, cond-false}
use Rattle.std.proofs.lemmas.List.{at_drop_more}
use Rattle.std.proofs.lemmas.List.Concat.{flat_map-append}
use Rattle.rfccase.specs.declared.casemappings.Casemapping.{Casemapping}
use Rattle.rfccase.specs.Casemapping.{is_same_by}
use Rattle.ircline.specs.declared.message.Message.{Message}
use Rattle.ircline.specs.declared.numeric.Numeric.{Numeric}
use Rattle.ircline.specs.declared.numeric.Numeric.TheVariants.{Welcome, ErroneousNickname, NicknameInUse, NickCollision, UnavailableResource, Other}
use Rattle.ircline.specs.Sources.{Source, Nobody, Server, Person, source_of}
use Rattle.procs.specs.declared.action.PutWish.{PutWish}
use Rattle.userfile.specs.declared.ban.Ban.{Ban}
use Rattle.chanstate.specs.declared.channel.Channel.{Channel}
use Rattle.chanstate.specs.declared.member.Mark.{Mark}
use Rattle.chanstate.specs.declared.member.Mark.TheVariants.{Op, Voice, HalfOp}
use Rattle.chanstate.specs.declared.member.Member.{Member}
use Rattle.chanstate.specs.declared.state.ChanState.{ChanState}
use Rattle.chanstate.specs.declared.support.Support.{Support}
use Rattle.chanstate.specs.declared.channel_command.ChannelCommand.{ChannelCommand}
use Rattle.chanstate.specs.declared.channel_command.ChannelCommand.TheVariants as verb
use Rattle.chanstate.specs.Channels.{with_members}
use Rattle.chanstate.specs.Comings.{spelled}
use Rattle.chanstate.specs.Firsts.{first_changed}
use Rattle.chanstate.specs.Given.{text_at}
use Rattle.chanstate.specs.Items.{Single, Marked, items_by, verb_of, marking, markings, mode_items, rank_of}
use Rattle.chanstate.specs.Items.{singles, single_at, sign_after, arguments_after}
use Rattle.chanstate.specs.Members.{is_called, with_mark}
use Rattle.chanstate.specs.Steps.{after, step, each_step, steps}
use Rattle.chanstate.specs.Views.{channel_in, is_op, mapping_of, member_in, members_of}
use Rattle.rfccase.proofs.SameLemmas.{is_same_by-refl}
use Rattle.chanstate.proofs.FindLemmas.{pointwise-same, none-is}
use Rattle.chanstate.proofs.LookLemmas.{find-changed}
use Rattle.botcore.specs.declared.watched_command.WatchedCommand.TheVariants as cue
use Rattle.botcore.specs.Automatic.{cue_of, numeric_cue, guarded_as, is_own, mode_wishes, modes_in, set_again}
use Rattle.chanstate.proofs.ItemLemmas.{mark_keeps}
use Rattle.botcore.specs.Operators.{is_op_after, op_left, op_marked}
use Rattle.botcore.proofs.AutomaticLemmas.{nothing_left, nothing_right}

-- ---- one mark

-- a channel as its modes leave it
channel-marked : (c nick : List ℕ) (mark : Mark) (on : Bool) (s : ChanState)
    → channel_in c (step (Marked c mark on nick) s)
    ≡ option_map (with_members (first_changed (is_called (mapping_of s) nick) (with_mark mark on))) (channel_in c s)
channel-marked c nick mark on s =
    find-changed (mapping_of s) (λ (channel : Channel). channel.name)
    (with_members (first_changed (is_called (mapping_of s) nick) (with_mark mark on))) (λ x. refl) c c s.channels
    ∙ cond-true _ _ _ (is_same_by-refl (mapping_of s) c)

name-marked : (f : List Member → List Member) (o : Option Channel)
    → option_map (λ (channel : Channel). channel.name) (option_map (with_members f) o) ≡ option_map (λ (channel : Channel). channel.name) o
name-marked f None = refl
name-marked f (Some channel) = refl

spelled-marked : (c nick : List ℕ) (mark : Mark) (on : Bool) (s : ChanState)
    → spelled false (step (Marked c mark on nick) s) c ≡ spelled false s c
spelled-marked c nick mark on s =
    ap (option_map (λ (channel : Channel). channel.name)) (channel-marked c nick mark on s)
    ∙ name-marked (first_changed (is_called (mapping_of s) nick) (with_mark mark on)) (channel_in c s)

-- one of its members
abbrev marked_if : Bool → Mark → Bool → Option Member → Option Member
marked_if mine mark on o = cond mine (option_map (with_mark mark on) o) o

nobody-marked : (mine : Bool) (mark : Mark) (on : Bool) → None ≡ marked_if mine mark on None
nobody-marked true mark on = refl
nobody-marked false mark on = refl

member-found : (mapping : Casemapping) (me nick : List ℕ) (mark : Mark) (on : Bool) (o : Option Channel)
    → find (is_called mapping me) (members_of (option_map (with_members (first_changed (is_called mapping nick) (with_mark mark on))) o))
    ≡ marked_if (is_same_by mapping me nick) mark on (find (is_called mapping me) (members_of o))
member-found mapping me nick mark on None = nobody-marked (is_same_by mapping me nick) mark on
member-found mapping me nick mark on (Some channel) =
    find-changed mapping (λ (m : Member). m.nick) (with_mark mark on) (mark_keeps mark on) me nick channel.members

member-marked : (c me nick : List ℕ) (mark : Mark) (on : Bool) (s : ChanState)
    → member_in c me (step (Marked c mark on nick) s)
    ≡ marked_if (is_same_by (mapping_of s) me nick) mark on (member_in c me s)
member-marked c me nick mark on s =
    ap (λ o. find (is_called (mapping_of s) me) (members_of o)) (channel-marked c nick mark on s)
    ∙ member-found (mapping_of s) me nick mark on (channel_in c s)

there-marked : (mine : Bool) (mark : Mark) (on : Bool) (o : Option Member) → is_some (marked_if mine mark on o) ≡ is_some o
there-marked true mark on None = refl
there-marked true mark on (Some m) = refl
there-marked false mark on o = refl

op-marked : (mine : Bool) (mark : Mark) (on : Bool) (m : Member)
    → is_op (marked_if mine mark on (Some m)) ≡ op_marked (Some mark) mine on m.op
op-marked true Op on m = refl
op-marked true Voice on m = refl
op-marked true HalfOp on m = refl
op-marked false Op on m = refl
op-marked false Voice on m = refl
op-marked false HalfOp on m = refl

-- ---- all modes of a string

-- what no mark changes stays
kept_one : {A : Type 0} (read : ChanState → A) (c : List ℕ)
    → ((mark : Mark) (on : Bool) (nick : List ℕ) (s : ChanState) → read (step (Marked c mark on nick) s) ≡ read s)
    → (sup : Support) (one : Single) (more : List Single)
    → ((s : ChanState) → read (each_step (markings sup c more) s) ≡ read s)
    → (mark : Option Mark) (s : ChanState) → read (each_step (marking c one.on one.argument mark ++ markings sup c more) s) ≡ read s
kept_one read c same sup one more rest None s = rest s
kept_one read c same sup one more rest (Some mark) s =
    rest (step (Marked c mark one.on one.argument) s) ∙ same mark one.on one.argument s

kept : {A : Type 0} (read : ChanState → A) (c : List ℕ)
    → ((mark : Mark) (on : Bool) (nick : List ℕ) (s : ChanState) → read (step (Marked c mark on nick) s) ≡ read s)
    → (sup : Support) (ones : List Single) (s : ChanState) → read (each_step (markings sup c ones) s) ≡ read s
kept read c same sup [] s = refl
kept read c same sup (one ∷ more) s = kept_one read c same sup one more (kept read c same sup more) (rank_of sup one.letter) s

-- the member after single modes
nobody_left : (sup : Support) (c me : List ℕ) (ones : List Single) (s : ChanState) → member_in c me s ≡ None
    → is_op (member_in c me (each_step (markings sup c ones) s)) ≡ false
nobody_left sup c me ones s none =
    ap is_op (none-is _ (kept (λ (t : ChanState). is_some (member_in c me t)) c
    (λ mark on nick t. ap is_some (member-marked c me nick mark on t)
    ∙ there-marked (is_same_by (mapping_of t) me nick) mark on (member_in c me t)) sup ones s
    ∙ ap is_some none))

-- somebody is there, who is op or isn't
abbrev IsThere : List ℕ → List ℕ → Bool → ChanState → Type 0
IsThere c me was s = (m : Member) × ((member_in c me s ≡ Some m) × (m.op ≡ was))

some-marked : (mine : Bool) (mark : Mark) (on : Bool) (m : Member) → (new : Member) × (marked_if mine mark on (Some m) ≡ Some new)
some-marked true mark on m = (with_mark mark on m, refl)
some-marked false mark on m = (m, refl)

there_step : (c me nick : List ℕ) (mark : Mark) (on was : Bool) (s : ChanState) → IsThere c me was s
    → IsThere c me (op_marked (Some mark) (is_same_by (mapping_of s) me nick) on was) (step (Marked c mark on nick) s)
there_step c me nick mark on was s (m, (found, op)) =
    let mine = is_same_by (mapping_of s) me nick in
    let one = member-marked c me nick mark on s ∙ ap (marked_if mine mark on) found in
    let new = some-marked mine mark on m in (
      new.0,
      (
        one ∙ new.1,
        ap is_op (sym new.1) ∙ op-marked mine mark on m ∙ ap (op_marked (Some mark) mine on) op,
      ),
    )

op_one : (sup : Support) (c me : List ℕ) (one : Single) (more : List Single)
    → ((was : Bool) (s : ChanState) → s.support ≡ sup → IsThere c me was s
    → is_op (member_in c me (each_step (markings sup c more) s)) ≡ op_left sup me more was)
    → (mark : Option Mark) (was : Bool) (s : ChanState) → s.support ≡ sup → IsThere c me was s
    → is_op (member_in c me (each_step (marking c one.on one.argument mark ++ markings sup c more) s))
    ≡ op_left sup me more (op_marked mark (is_same_by sup.casemapping me one.argument) one.on was)
op_one sup c me one more rest None was s same there = rest was s same there
op_one sup c me one more rest (Some mark) was s same there =
    let next = step (Marked c mark one.on one.argument) s in
    rest (op_marked (Some mark) (is_same_by sup.casemapping me one.argument) one.on was) next same
    (subst (λ (by : Support). IsThere c me (op_marked (Some mark) (is_same_by by.casemapping me one.argument) one.on was) next) same
    (there_step c me one.argument mark one.on was s there))

somebody_left : (sup : Support) (c me : List ℕ) (ones : List Single) (was : Bool) (s : ChanState) → s.support ≡ sup → IsThere c me was s
    → is_op (member_in c me (each_step (markings sup c ones) s)) ≡ op_left sup me ones was
somebody_left sup c me [] was s same (m, (found, op)) = ap is_op found ∙ op
somebody_left sup c me (one ∷ more) was s same there =
    op_one sup c me one more (somebody_left sup c me more) (rank_of sup one.letter) was s same there

op_by : (c me : List ℕ) (ones : List Single) (s : ChanState) (o : Option Member) → member_in c me s ≡ o
    → is_op (member_in c me (each_step (markings s.support c ones) s)) ≡ is_op_after s.support me ones o
op_by c me ones s None is = nobody_left s.support c me ones s is
op_by c me ones s (Some m) is = somebody_left s.support c me ones m.op s refl (m, (is, refl))

-- ---- a MODE

abbrev after_modes : List ℕ → List ℕ → List (List ℕ) → ChanState → ChanState
after_modes c letters arguments s = each_step (markings s.support c (singles s.support true letters arguments)) s

module _ (c letters : List ℕ) (arguments : List (List ℕ)) (s : ChanState) where
  abbrev ones : List Single
  ones = singles s.support true letters arguments

  same_nick : (after_modes c letters arguments s).nick ≡ s.nick
  same_nick = kept (λ (t : ChanState). t.nick) c (λ mark on nick t. refl) s.support ones s

  same_support : (after_modes c letters arguments s).support ≡ s.support
  same_support = kept (λ (t : ChanState). t.support) c (λ mark on nick t. refl) s.support ones s

  same_name : spelled false (after_modes c letters arguments s) c ≡ spelled false s c
  same_name = kept (λ (t : ChanState). spelled false t c) c (λ mark on nick t. spelled-marked c nick mark on t) s.support ones s

  is_op_then : Bool
  is_op_then = is_op_after s.support s.nick ones (member_in c s.nick s)

  guarded_then : guarded_as (after_modes c letters arguments s) c
      ≡ (if is_op_after s.support s.nick ones (member_in c s.nick s) then spelled false s c else None)
  guarded_then =
      ap (λ nick. if is_op (member_in c nick (after_modes c letters arguments s)) then spelled false (after_modes c letters arguments s) c else None)
      same_nick
      ∙ ap (λ b. if b then spelled false (after_modes c letters arguments s) c else None)
      (op_by c s.nick ones s (member_in c s.nick s) refl)
      ∙ ap (λ name. if is_op_after s.support s.nick ones (member_in c s.nick s) then name else None) same_name

-- what a mode string puts on each of some channels
abbrev wishes_on : Casemapping → List Ban → ℕ → List Single → Option (List ℕ) → List PutWish
wishes_on mapping bans now ones channel = flat_map (λ channel. flat_map (set_again mapping bans now channel) ones) (option_to_list channel)

none_on : (mapping : Casemapping) (bans : List Ban) (now : ℕ) (channel : Option (List ℕ)) → wishes_on mapping bans now [] channel ≡ []
none_on mapping bans now None = refl
none_on mapping bans now (Some channel) = refl

own_then : (who : Source) (s t : ChanState) → t.nick ≡ s.nick → t.support ≡ s.support → is_own who t ≡ is_own who s
own_then Nobody s t same announced = refl
own_then (Server name) s t same announced = refl
own_then (Person nick user host) s t same announced =
    ap (is_same_by (mapping_of t) nick) same ∙ ap (λ (by : Support). is_same_by by.casemapping nick s.nick) announced

-- the channel on which a MODE leaves the bot op
abbrev pub left_to : List (List ℕ) → ChanState → Option (List ℕ)
left_to params s =
    if is_op_after s.support s.nick (modes_in params s) (member_in (text_at params 0) s.nick s) then spelled false s (text_at params 0)
    else None

if_none : (b : Bool) (x y : List PutWish) → x ≡ [] → y ≡ [] → (if b then [] else x) ≡ (if b then [] else y)
if_none b x y one other = ap (λ z. if b then [] else z) (one ∙ sym other)

-- the lines of a MODE, told by the channels before it
pub wishes_before : (bans : List Ban) (now : ℕ) (who : Source) (params : List (List ℕ)) (s : ChanState)
    → mode_wishes bans now who params (steps (mode_items params) s)
    ≡ (if is_own who s then []
    else flat_map (λ channel. flat_map (set_again (mapping_of s) bans now channel) (modes_in params s)) (option_to_list (left_to params s)))
wishes_before bans now who [] s = if_none (is_own who s) _ _ (none_on (mapping_of s) bans now _) (none_on (mapping_of s) bans now _)
wishes_before bans now who (c ∷ []) s = if_none (is_own who s) _ _ (none_on (mapping_of s) bans now _) (none_on (mapping_of s) bans now _)
wishes_before bans now who (c ∷ letters ∷ arguments) s =
    let t = after_modes c letters arguments s in
    let same = same_support c letters arguments s in
    ap (λ b. if b then [] else wishes_on (mapping_of t) bans now (modes_in (c ∷ letters ∷ arguments) t) (guarded_as t c))
    (own_then who s t (same_nick c letters arguments s) same)
    ∙ ap (λ (sup : Support). if is_own who s then [] else wishes_on sup.casemapping bans now (singles sup true letters arguments) (guarded_as t c)) same
    ∙ ap (λ channel. if is_own who s then [] else wishes_on (mapping_of s) bans now (singles s.support true letters arguments) channel)
    (guarded_then c letters arguments s)

-- the same, by the parameters' parts
module _ (bans : List Ban) (now : ℕ) (who : Source) (s : ChanState) (name letters : List ℕ) where
  abbrev wishes_by : List ℕ → List ℕ → List (List ℕ) → List PutWish
  wishes_by c string arguments =
      if is_own who s then []
      else wishes_on (mapping_of s) bans now (singles s.support true string arguments)
      (if is_op_after s.support s.nick (singles s.support true string arguments) (member_in c s.nick s) then spelled false s c else None)

  by_parts : (params : List (List ℕ)) → 2 ≤ length params → name ≡ get_or params 0 name → letters ≡ get_or params 1 letters
      → mode_wishes bans now who params (steps (mode_items params) s) ≡ wishes_by name letters (drop 2 params)
  by_parts [] two is_name is_letters = grind arith
  by_parts (c ∷ []) two is_name is_letters = grind arith
  by_parts (c ∷ string ∷ arguments) two is_name is_letters =
      wishes_before bans now who (c ∷ string ∷ arguments) s
      ∙ ap (λ x. wishes_by x string arguments) (sym is_name) ∙ ap (λ x. wishes_by name x arguments) (sym is_letters)

  pub own_wishes : (params : List (List ℕ)) → 2 ≤ length params → name ≡ get_or params 0 name → letters ≡ get_or params 1 letters
      → is_own who s ≡ true → mode_wishes bans now who params (steps (mode_items params) s) ≡ []
  own_wishes params two is_name is_letters own = by_parts params two is_name is_letters ∙ cond-true _ _ _ own

  pub no_op_wishes : (params : List (List ℕ)) → 2 ≤ length params → name ≡ get_or params 0 name → letters ≡ get_or params 1 letters
      → is_own who s ≡ false
      → is_op_after s.support s.nick (singles s.support true letters (drop 2 params)) (member_in name s.nick s) ≡ false
      → mode_wishes bans now who params (steps (mode_items params) s) ≡ []
  no_op_wishes params two is_name is_letters other no_op =
      by_parts params two is_name is_letters ∙ cond-false _ _ _ other
      ∙ ap (wishes_on (mapping_of s) bans now (singles s.support true letters (drop 2 params))) (cond-false _ _ _ no_op)

  pub op_wishes : (params : List (List ℕ)) (channel : List ℕ) → 2 ≤ length params → name ≡ get_or params 0 name
      → letters ≡ get_or params 1 letters → is_own who s ≡ false
      → is_op_after s.support s.nick (singles s.support true letters (drop 2 params)) (member_in name s.nick s) ≡ true
      → Some channel ≡ spelled false s name
      → mode_wishes bans now who params (steps (mode_items params) s)
      ≡ flat_map (set_again (mapping_of s) bans now channel) (singles s.support true letters (drop 2 params))
  op_wishes params channel two is_name is_letters other op held =
      by_parts params two is_name is_letters ∙ cond-false _ _ _ other
      ∙ ap (wishes_on (mapping_of s) bans now (singles s.support true letters (drop 2 params))) (cond-true _ _ _ op ∙ sym held)
      ∙ append-nil _

-- the same by equal parts
pub same_op : (s : ChanState) (sup : Support) (string letters name c : List ℕ) (some rest : List (List ℕ))
    → sup ≡ s.support → string ≡ letters → some ≡ rest → name ≡ c
    → is_op_after sup s.nick (singles sup true string some) (member_in name s.nick s)
    ≡ is_op_after s.support s.nick (singles s.support true letters rest) (member_in c s.nick s)
same_op s sup string letters name c some rest a b d e = cc

pub same_lines : (f : Single → List PutWish) (one sup : Support) (string letters : List ℕ) (some rest : List (List ℕ))
    → one ≡ sup → string ≡ letters → some ≡ rest → flat_map f (singles one true string some) ≡ flat_map f (singles sup true letters rest)
same_lines f one sup string letters some rest a b d = cc

-- ---- one byte of a mode string more

op_left-append : (sup : Support) (nick : List ℕ) (xs ys : List Single) (was : Bool)
    → op_left sup nick (xs ++ ys) was ≡ op_left sup nick ys (op_left sup nick xs was)
op_left-append sup nick [] ys was = refl
op_left-append sup nick (x ∷ xs) ys was =
    op_left-append sup nick xs ys (op_marked (rank_of sup x.letter) (is_same_by sup.casemapping nick x.argument) x.on was)

pub op_more : (sup : Support) (nick : List ℕ) (on : Bool) (string : List ℕ) (i d : ℕ) (arguments : List (List ℕ)) (was new : Bool)
    → i < length string → let b = get_or string i d in
    new ≡ op_left sup nick (option_to_list (single_at sup on b arguments)) was →
    op_left sup nick (singles sup (sign_after on b) (drop (i + 1) string) (arguments_after sup on b arguments)) new
    ≡ op_left sup nick (singles sup on (drop i string) arguments) was
op_more sup nick on string i d arguments was new less is =
    let b = get_or string i d in
    let one = option_to_list (single_at sup on b arguments) in
    let rest = singles sup (sign_after on b) (drop (i + 1) string) (arguments_after sup on b arguments) in
    ap (op_left sup nick rest) is
    ∙ sym (op_left-append sup nick one rest was)
    ∙ sym (at_drop_more (λ bs. op_left sup nick (singles sup on bs arguments) was) string i d less)

pub lines_more : (sup : Support) (f : Single → List PutWish) (on : Bool) (string : List ℕ) (i d : ℕ) (arguments : List (List ℕ))
    (old new : List PutWish) → i < length string → let b = get_or string i d in
    new ≡ old ++ flat_map f (option_to_list (single_at sup on b arguments)) →
    new ++ flat_map f (singles sup (sign_after on b) (drop (i + 1) string) (arguments_after sup on b arguments))
    ≡ old ++ flat_map f (singles sup on (drop i string) arguments)
lines_more sup f on string i d arguments old new less is =
    let b = get_or string i d in
    let one = option_to_list (single_at sup on b arguments) in
    let rest = singles sup (sign_after on b) (drop (i + 1) string) (arguments_after sup on b arguments) in
    ap (λ z. z ++ flat_map f rest) is
    ∙ append_assoc old (flat_map f one) (flat_map f rest)
    ∙ ap (λ z. old ++ z) (sym (flat_map-append f one rest))
    ∙ sym (at_drop_more (λ bs. old ++ flat_map f (singles sup on bs arguments)) string i d less)

-- where all bytes put no line, the next one puts none
pub lines_none : (sup : Support) (f : Single → List PutWish) (on : Bool) (string : List ℕ) (i d : ℕ) (arguments : List (List ℕ))
    (old all : List PutWish) → i < length string
    → old ++ flat_map f (singles sup on (drop i string) arguments) ≡ all → all ≡ []
    → flat_map f (option_to_list (single_at sup on (get_or string i d) arguments)) ≡ []
lines_none sup f on string i d arguments old all less is none =
    let b = get_or string i d in
    let one = option_to_list (single_at sup on b arguments) in
    let rest = singles sup (sign_after on b) (drop (i + 1) string) (arguments_after sup on b arguments) in
    let left = nothing_right old _ (is ∙ none) in
    nothing_left (flat_map f one) (flat_map f rest)
    (sym (flat_map-append f one rest)
    ∙ sym (at_drop_more (λ bs. flat_map f (singles sup on bs arguments)) string i d less) ∙ left)

-- ---- the command

-- the command whose cue is MODE
third_of : (a b c : Bool) (n : Numeric)
    → (if a then cue.Ping else (if b then cue.Join else (if c then cue.Mode else numeric_cue n))) ≡ cue.Mode → c ≡ true
third_of true b c n is = cc
third_of false true c n is = cc
third_of false false true n is = refl
third_of false false false Welcome is = cc
third_of false false false ErroneousNickname is = cc
third_of false false false NicknameInUse is = cc
third_of false false false NickCollision is = cc
third_of false false false UnavailableResource is = cc
third_of false false false Other is = cc

mode_verb : (command : List ℕ) → cue_of command ≡ cue.Mode → verb_of command ≡ verb.Mode
mode_verb command is = ap verb_of (pointwise-same command (codes "MODE") (third_of _ _ _ _ is))

-- the channels after a MODE
pub after_mode : (message : Message) (s : ChanState) → cue_of message.command ≡ cue.Mode
    → steps (mode_items message.params) s ≡ after message s
after_mode message s is =
    ap (λ (v : ChannelCommand). steps (items_by v (source_of message.prefix) message.params) s) (sym (mode_verb message.command is))
