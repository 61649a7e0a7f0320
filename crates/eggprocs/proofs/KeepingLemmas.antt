-- What the procs request that keep a channel, and when they request nothing.
use Rattle.std.proofs.Common.{◌≡◌, ◌∙◌, ◌&&◌, ◌||◌, ◌∷◌, not, ℕ, List, [], take, Bool, true, false, refl, ap, sym, codes, if◌then◌else◌, Option, Some, None}
use Rattle.std.proofs.lemmas.List.Elements.{All-take}
use Rattle.std.proofs.lemmas.List.Sums.{AllPass-from_list_all, list_all-from_AllPass}
use Rattle.std.proofs.lemmas.Slice.Eq.{bytes_eq-Decides}
use Rattle.std.specs.List.{list_all, list_any, filter_map}
use Rattle.userfile.specs.declared.flags.PersonFlags.{PersonFlags}
use Rattle.userfile.specs.Shapes.{is_hostmask}
use Rattle.chanstate.specs.declared.member.Member.{Member}
use Rattle.chanstate.specs.Views.{members_in}
use Rattle.outqueue.specs.declared.queue.Queue.TheVariants.{Mode as mode_queue}
use Rattle.procs.specs.declared.action.Action.{Action}
use Rattle.procs.specs.declared.call.Call.{Call}
use Rattle.procs.specs.declared.limits.TheConstants.{MAX_ACTIONS}
use Rattle.procs.specs.Seen.{Seen}
use Rattle.eggprocs.specs.declared.rights.TheConstants.{FRIEND}
use Rattle.eggprocs.specs.declared.proc_name.ProcName.TheVariants as which
use Rattle.eggprocs.specs.Everyone.{flags_of_member}
use Rattle.eggprocs.specs.Args.{channel_of, mode_argument}
use Rattle.eggprocs.specs.Channel.{put}
use Rattle.eggprocs.specs.Keeping.{is_change_here, is_by_bot, is_by_server, is_by_trusted, is_change_by_others, is_change_by_untrusted}
use Rattle.eggprocs.specs.Keeping.{mode_back, flags_named, names_bot, names_caller, takes_op, gives_op, op_again, op_undone}
use Rattle.eggprocs.specs.Guards.{is_guarded, hits_guarded, removes, ban_undone}
use Rattle.eggprocs.specs.Keeping.{is_hit, is_self, is_spared, kick_for}
use Rattle.eggprocs.specs.Laws.{IsOnlyByOps, IsOnlyForOthers, LeavesTrusted, LeavesServers, DoesOnly, DoesOnlyForTrusted, is_line, is_line_in_turn, has_op_flag, lacks_op_flag, is_bot_or_known}
use Rattle.eggprocs.specs.Laws.{is_op_of_known, is_deop_of_unknown, is_end_of_ban, is_end_of_ban_on_bot, is_kick_of, is_kick_of_banned}
use Rattle.eggprocs.specs.Lines.{mode, kick}
use Rattle.eggprocs.specs.Procs.{wanted_by}
use Rattle.eggprocs.specs.Rights.{has_op, has_bot, is_change, is_bot_op, is_protected}
use Rattle.eggprocs.proofs.LawLemmas.{and-false, alone-kept, shares-kept, does-nothing, has_one_of-ops, has_one_of-more}
use Rattle.eggprocs.proofs.Lists.{any-more, all-given}
use Rattle.eggprocs.proofs.TurnLemmas.{KeepsLooks, keeps-line}

-- ---- when nothing is requested

-- a conjunction fails with its first part
pub false-and : (a b : Bool) → a ≡ false → (a && b) ≡ false
false-and a b e = ap (λ (x : Bool). x && b) e

-- nothing is requested where the test fails
pub nothing-if : (test : Bool) (actions : List Action) → test ≡ false → (if test then actions else []) ≡ []
nothing-if test actions e = ap (λ (x : Bool). if x then actions else []) e

pub is_change_here-bot : (change : List ℕ) (call : Call) (seen : Seen) → is_bot_op call seen ≡ false → is_change_here change call seen ≡ false
is_change_here-bot change call seen = and-false (is_change change call) (is_bot_op call seen)

by_others-bot : (change : List ℕ) (call : Call) (seen : Seen) → is_bot_op call seen ≡ false → is_change_by_others change call seen ≡ false
by_others-bot change call seen denied = false-and (is_change_here change call seen) (not (is_by_bot call seen)) (is_change_here-bot change call seen denied)

by_others-own : (change : List ℕ) (call : Call) (seen : Seen) → is_by_bot call seen ≡ true → is_change_by_others change call seen ≡ false
by_others-own change call seen own = and-false (is_change_here change call seen) (not (is_by_bot call seen)) (ap not own)

pub by_untrusted-bot : (change : List ℕ) (call : Call) (seen : Seen) → is_bot_op call seen ≡ false → is_change_by_untrusted change call seen ≡ false
by_untrusted-bot change call seen denied =
    false-and (is_change_by_others change call seen) (not (is_by_trusted call seen)) (by_others-bot change call seen denied)

pub by_untrusted-own : (change : List ℕ) (call : Call) (seen : Seen) → is_by_bot call seen ≡ true → is_change_by_untrusted change call seen ≡ false
by_untrusted-own change call seen own =
    false-and (is_change_by_others change call seen) (not (is_by_trusted call seen)) (by_others-own change call seen own)

pub by_untrusted-trusted : (change : List ℕ) (call : Call) (seen : Seen) → is_by_trusted call seen ≡ true
    → is_change_by_untrusted change call seen ≡ false
by_untrusted-trusted change call seen trusted = and-false (is_change_by_others change call seen) (not (is_by_trusted call seen)) (ap not trusted)

protectops-none : (call : Call) (seen : Seen) → is_change_by_untrusted (codes "-o") call seen ≡ false → wanted_by which.ProtectOps call seen ≡ []
unfolding wanted_by
protectops-none call seen none =
    nothing-if (takes_op call seen) (op_again call (flags_named call seen))
    (false-and (is_change_by_untrusted (codes "-o") call seen) (not (names_bot call seen) && not (names_caller call seen)) none)

bitch-none : (call : Call) (seen : Seen) → gives_op call seen ≡ false → wanted_by which.Bitch call seen ≡ []
unfolding wanted_by
bitch-none call seen = nothing-if (gives_op call seen) (op_undone call (flags_named call seen))

gives_op-none : (call : Call) (seen : Seen) → is_change_by_untrusted (codes "+o") call seen ≡ false → gives_op call seen ≡ false
gives_op-none call seen = false-and (is_change_by_untrusted (codes "+o") call seen) (not (is_by_server call) && not (names_bot call seen))

gives_op-servers : (call : Call) (seen : Seen) → is_by_server call ≡ true → gives_op call seen ≡ false
gives_op-servers call seen server =
    and-false (is_change_by_untrusted (codes "+o") call seen) (not (is_by_server call) && not (names_bot call seen))
    (false-and (not (is_by_server call)) (not (names_bot call seen)) (ap not server))

guard-none : (call : Call) (seen : Seen) → is_change_by_others (codes "+b") call seen ≡ false → wanted_by which.Guard call seen ≡ []
unfolding wanted_by
guard-none call seen none =
    let hits : Bool = list_any (hits_guarded (mode_argument call) call seen) (members_in (channel_of call) seen.sight.channels) in
    let may : Bool = is_change_by_others (codes "+b") call seen && is_hostmask (mode_argument call) in
    nothing-if (may && hits) (ban_undone (mode_argument call) call seen)
    (false-and may hits (false-and (is_change_by_others (codes "+b") call seen) (is_hostmask (mode_argument call)) none))

enforcebans-none : (call : Call) (seen : Seen) → is_change_here (codes "+b") call seen ≡ false → wanted_by which.EnforceBans call seen ≡ []
unfolding wanted_by
enforcebans-none call seen none =
    nothing-if (is_change_here (codes "+b") call seen && is_hostmask (mode_argument call))
    (take MAX_ACTIONS (filter_map (kick_for (mode_argument call) call seen) (members_in (channel_of call) seen.sight.channels)))
    (false-and (is_change_here (codes "+b") call seen) (is_hostmask (mode_argument call)) none)

-- on a channel on which the bot is no operator
pub protectops-bot : IsOnlyByOps (codes "protectops")
protectops-bot call seen denied = does-nothing which.ProtectOps call seen (protectops-none call seen (by_untrusted-bot (codes "-o") call seen denied))

pub bitch-bot : IsOnlyByOps (codes "bitch")
bitch-bot call seen denied =
    does-nothing which.Bitch call seen (bitch-none call seen (gives_op-none call seen (by_untrusted-bot (codes "+o") call seen denied)))

pub guard-bot : IsOnlyByOps (codes "guard")
guard-bot call seen denied = does-nothing which.Guard call seen (guard-none call seen (by_others-bot (codes "+b") call seen denied))

pub enforcebans-bot : IsOnlyByOps (codes "enforcebans")
enforcebans-bot call seen denied = does-nothing which.EnforceBans call seen (enforcebans-none call seen (is_change_here-bot (codes "+b") call seen denied))

-- for what the bot does
pub protectops-own : IsOnlyForOthers (codes "protectops")
protectops-own call seen own = does-nothing which.ProtectOps call seen (protectops-none call seen (by_untrusted-own (codes "-o") call seen own))

pub bitch-own : IsOnlyForOthers (codes "bitch")
bitch-own call seen own =
    does-nothing which.Bitch call seen (bitch-none call seen (gives_op-none call seen (by_untrusted-own (codes "+o") call seen own)))

pub guard-own : IsOnlyForOthers (codes "guard")
guard-own call seen own = does-nothing which.Guard call seen (guard-none call seen (by_others-own (codes "+b") call seen own))

-- for what a master or another bot does, and for what a server does
pub protectops-trusted : LeavesTrusted (codes "protectops")
protectops-trusted call seen trusted =
    does-nothing which.ProtectOps call seen (protectops-none call seen (by_untrusted-trusted (codes "-o") call seen trusted))

pub bitch-trusted : LeavesTrusted (codes "bitch")
bitch-trusted call seen trusted =
    does-nothing which.Bitch call seen (bitch-none call seen (gives_op-none call seen (by_untrusted-trusted (codes "+o") call seen trusted)))

pub bitch-servers : LeavesServers (codes "bitch")
bitch-servers call seen server = does-nothing which.Bitch call seen (bitch-none call seen (gives_op-servers call seen server))

-- ---- what is requested

-- a line is that line
pub is_line-put : (line : List ℕ) → is_line line (put mode_queue line) ≡ true
is_line-put line = (bytes_eq-Decides line line).1 refl

-- a lone line where a test passes is that line, and the test passes
pub lone-line : (test : Bool) (line : List ℕ) → list_all (λ action. test && is_line_in_turn line action) (if test then put mode_queue line ∷ [] else []) ≡ true
lone-line false line = refl
lone-line true line = ap (λ (b : Bool). (b || false) && true) (is_line-put line)

lone-line-not : (test : Bool) (line : List ℕ)
    → list_all (λ action. not test && is_line_in_turn line action) (if test then [] else put mode_queue line ∷ []) ≡ true
lone-line-not true line = refl
lone-line-not false line = lone-line true line

-- a look keeps a test that says nothing of the action, and the line
pub test-kept : (call : Call) (seen : Seen) (test : Bool) (line : List ℕ) → KeepsLooks call seen (λ action. test && is_line_in_turn line action)
test-kept call seen true line turn action look is right = keeps-line line call seen turn action look is right
test-kept call seen false line turn action look is right = cc

op_again-only : (may : Bool) (call : Call) (flags : Option PersonFlags)
    → list_all (λ action. has_op_flag flags && is_line_in_turn (mode (channel_of call) (codes "+o") (mode_argument call)) action)
    (if may then op_again call flags else []) ≡ true
op_again-only false call flags = refl
op_again-only true call None = refl
op_again-only true call (Some flags) =
    let line = mode (channel_of call) (codes "+o") (mode_argument call) in
    ap (λ (known : Bool). list_all (λ action. known && is_line_in_turn line action) (if has_op flags then put mode_queue line ∷ [] else []))
    (has_one_of-ops flags)
    ∙ lone-line (has_op flags) line

pub protectops-only : DoesOnly is_op_of_known (codes "protectops")
unfolding wanted_by
protectops-only call seen =
    shares-kept which.ProtectOps call seen (is_op_of_known call seen)
    (test-kept call seen (has_op_flag (flags_named call seen)) (mode (channel_of call) (codes "+o") (mode_argument call)))
    (op_again-only (takes_op call seen) call (flags_named call seen))

op_undone-only : (may : Bool) (call : Call) (flags : Option PersonFlags)
    → list_all (λ action. lacks_op_flag flags && is_line_in_turn (mode (channel_of call) (codes "-o") (mode_argument call)) action)
    (if may then op_undone call flags else []) ≡ true
op_undone-only false call flags = refl
op_undone-only true call None = refl
op_undone-only true call (Some flags) =
    let line = mode (channel_of call) (codes "-o") (mode_argument call) in
    ap (λ (known : Bool). list_all (λ action. not (known || has_bot flags) && is_line_in_turn line action)
    (if has_op flags || has_bot flags then [] else put mode_queue line ∷ [])) (has_one_of-ops flags)
    ∙ lone-line-not (has_op flags || has_bot flags) line

pub bitch-only : DoesOnly is_deop_of_unknown (codes "bitch")
unfolding wanted_by
bitch-only call seen =
    shares-kept which.Bitch call seen (is_deop_of_unknown call seen)
    (test-kept call seen (lacks_op_flag (flags_named call seen)) (mode (channel_of call) (codes "-o") (mode_argument call)))
    (op_undone-only (gives_op call seen) call (flags_named call seen))

-- the bot, and who has one of the letters, are those whom bans spare
pub known-spared : (call : Call) (seen : Seen) (member : Member) → is_bot_or_known call seen member ≡ is_spared call seen member
known-spared call seen member =
    ap (λ (known : Bool). is_self seen member || known) (has_one_of-more FRIEND (flags_of_member call seen member))

-- a guarded member is one of these, and the bot itself if a master or another bot sets the ban
guarded-known : (call : Call) (seen : Seen) (member : Member) → is_guarded call seen member ≡ true → is_bot_or_known call seen member ≡ true
guarded-known call seen member is =
    known-spared call seen member ∙ by (is_by_trusted call seen) (is_self seen member) (is_protected (flags_of_member call seen member)) is
  where
    by : (trusted self known : Bool) → (if trusted then self else (self || known)) ≡ true → (self || known) ≡ true
    by true self known is = ap (λ (b : Bool). b || known) is
    by false self known is = is

guarded-self : (call : Call) (seen : Seen) → is_by_trusted call seen ≡ true → (member : Member) → is_guarded call seen member ≡ true
    → is_self seen member ≡ true
guarded-self call seen trusted member is =
    sym (ap (λ (b : Bool). if b then is_self seen member else is_spared call seen member) trusted) ∙ is

-- if a mask hits a guarded member, it hits one that has what guarded members have
hits-some : (call : Call) (seen : Seen) (is_right : Member → Bool)
    → ((member : Member) → is_guarded call seen member ≡ true → is_right member ≡ true)
    → (members : List Member) → list_any (hits_guarded (mode_argument call) call seen) members ≡ true
    → list_any (λ member. is_hit (mode_argument call) seen member && is_right member) members ≡ true
hits-some call seen is_right right [] is = is
hits-some call seen is_right right (member ∷ members) is =
    either (hits_guarded (mode_argument call) call seen member) (is_hit (mode_argument call) seen member && is_right member)
    (list_any (hits_guarded (mode_argument call) call seen) members) (list_any (λ one. is_hit (mode_argument call) seen one && is_right one) members)
    (both (is_hit (mode_argument call) seen member) (is_guarded call seen member) (is_right member) (right member))
    (hits-some call seen is_right right members) is
  where
    both : (hit a b : Bool) → (a ≡ true → b ≡ true) → (hit && a) ≡ true → (hit && b) ≡ true
    both false a b more is = is
    both true a b more is = more is

    either : (a b c d : Bool) → (a ≡ true → b ≡ true) → (c ≡ true → d ≡ true) → (a || c) ≡ true → (b || d) ≡ true
    either true b c d first rest is = ap (λ (x : Bool). x || d) (first refl)
    either false true c d first rest is = refl
    either false false c d first rest is = rest is

-- the end of a ban is that line, or nothing if another bot removes it
undone-only : (call : Call) (seen : Seen) (mask line : List ℕ) → mode_back (codes "-b") call ≡ put mode_queue line ∷ []
    → list_all (is_line line) (ban_undone mask call seen) ≡ true
undone-only call seen mask line is =
    ap (λ (wanted : List Action). list_all (is_line line) (if removes mask call seen then wanted else [])) is ∙ by (removes mask call seen)
  where
    by : (first : Bool) → list_all (is_line line) (if first then put mode_queue line ∷ [] else []) ≡ true
    by true = ap (λ (b : Bool). b && true) (is_line-put line)
    by false = refl

-- a ban is removed only if it hits a guarded member
unbanned-only : (may hits right : Bool) (line : List ℕ) (actions : List Action) → (hits ≡ true → right ≡ true) → list_all (is_line line) actions ≡ true
    → list_all (λ action. right && is_line line action) (if may && hits then actions else []) ≡ true
unbanned-only false hits right line actions is lines = refl
unbanned-only true false right line actions is lines = refl
unbanned-only true true right line actions is lines =
    ap (λ (b : Bool). list_all (λ action. b && is_line line action) actions) (is refl) ∙ lines

guard-hits : (call : Call) (seen : Seen) (is_right : Member → Bool)
    → ((member : Member) → is_guarded call seen member ≡ true → is_right member ≡ true)
    → list_all (λ action. list_any (λ member. is_hit (mode_argument call) seen member && is_right member) (members_in (channel_of call) seen.sight.channels)
    && is_line (mode (channel_of call) (codes "-b") (mode_argument call)) action) (wanted_by which.Guard call seen) ≡ true
unfolding wanted_by
guard-hits call seen is_right right =
    let members = members_in (channel_of call) seen.sight.channels in
    unbanned-only (is_change_by_others (codes "+b") call seen && is_hostmask (mode_argument call))
    (list_any (hits_guarded (mode_argument call) call seen) members)
    (list_any (λ member. is_hit (mode_argument call) seen member && is_right member) members)
    (mode (channel_of call) (codes "-b") (mode_argument call)) (ban_undone (mode_argument call) call seen) (hits-some call seen is_right right members)
    (undone-only call seen (mode_argument call) (mode (channel_of call) (codes "-b") (mode_argument call)) refl)

pub guard-only : DoesOnly is_end_of_ban (codes "guard")
guard-only call seen reply kept =
    ap (list_all (is_end_of_ban call seen)) (alone-kept which.Guard call seen reply refl kept)
    ∙ guard-hits call seen (is_bot_or_known call seen) (guarded-known call seen)

pub guard-trusted : DoesOnlyForTrusted is_end_of_ban_on_bot (codes "guard")
guard-trusted call seen trusted reply kept =
    ap (list_all (is_end_of_ban_on_bot call seen)) (alone-kept which.Guard call seen reply refl kept)
    ∙ guard-hits call seen (is_self seen) (guarded-self call seen trusted)

-- a kick is of the member that gives it
pub kick-by : (test : Bool) (line : List ℕ) (action : Action) → (if test then Some (put mode_queue line) else None) ≡ Some action
    → (test && is_line_in_turn line action) ≡ true
kick-by false line action is = cc
kick-by true line action is = ap (is_line-if line) (sym is) ∙ ap (λ (b : Bool). b || false) (is_line-put line)
  where
    is_line-if : List ℕ → Option Action → Bool
    is_line-if line None = true
    is_line-if line (Some one) = is_line_in_turn line one

kick-given : (call : Call) (seen : Seen) (member : Member) (action : Action) → kick_for (mode_argument call) call seen member ≡ Some action
    → is_kick_of call seen action member ≡ true
kick-given call seen member action is =
    let line = kick (channel_of call) member.nick (codes "banned") in
    ap (λ (known : Bool). (is_hit (mode_argument call) seen member && not known) && is_line_in_turn line action) (known-spared call seen member)
    ∙ kick-by (is_hit (mode_argument call) seen member && not (is_spared call seen member)) line action is

kicks-only : (may : Bool) (call : Call) (seen : Seen) → list_all (is_kick_of_banned call seen)
    (if may then take MAX_ACTIONS (filter_map (kick_for (mode_argument call) call seen) (members_in (channel_of call) seen.sight.channels)) else []) ≡ true
kicks-only false call seen = refl
kicks-only true call seen =
    let members = members_in (channel_of call) seen.sight.channels in
    let kicks = filter_map (kick_for (mode_argument call) call seen) members in
    list_all-from_AllPass (is_kick_of_banned call seen) (take MAX_ACTIONS kicks)
    (All-take (λ action. is_kick_of_banned call seen action ≡ true) MAX_ACTIONS kicks
    (AllPass-from_list_all (is_kick_of_banned call seen) kicks
    (all-given (kick_for (mode_argument call) call seen) (is_kick_of call seen) (kick-given call seen) members)))

-- a look for a kick of a member is for that member
kick-kept : (call : Call) (seen : Seen) → KeepsLooks call seen (is_kick_of_banned call seen)
kick-kept call seen turn action look is right =
    any-more (is_kick_of call seen action) (is_kick_of call seen look) (members_in (channel_of call) seen.sight.channels)
    (λ member. test-kept call seen (is_hit (mode_argument call) seen member && not (is_bot_or_known call seen member))
    (kick (channel_of call) member.nick (codes "banned")) turn action look is) right

pub enforcebans-only : DoesOnly is_kick_of_banned (codes "enforcebans")
unfolding wanted_by
enforcebans-only call seen =
    shares-kept which.EnforceBans call seen (is_kick_of_banned call seen) (kick-kept call seen)
    (kicks-only (is_change_here (codes "+b") call seen && is_hostmask (mode_argument call)) call seen)
