-- What `needin` and `letin` request, and when they request nothing.
use Rattle.std.proofs.Common.{◌≡◌, ◌∙◌, ◌⊎◌, inl, inr, ◌&&◌, ◌==◌, ◌∷◌, ◌++◌, not, ℕ, List, [], length, Bool, true, false, refl, ap, codes, if◌then◌else◌, Option, Some, None}
use Rattle.std.specs.Prelude.{is_some}
use Rattle.std.specs.List.{list_all}
use Rattle.std.proofs.lemmas.Bool.{and_parts}
use Rattle.std.proofs.lemmas.Slice.Eq.{bytes_eq-Decides}
use Rattle.chanstate.specs.declared.member.Member.{Member}
use Rattle.chanstate.specs.Views.{member_in}
use Rattle.outqueue.specs.declared.queue.Queue.TheVariants.{Server}
use Rattle.procs.specs.declared.call.Call.{Call}
use Rattle.procs.specs.Seen.{Seen}
use Rattle.eggprocs.specs.declared.proc_name.ProcName.TheVariants as which
use Rattle.eggprocs.specs.ChannelLaws.{IsInvitation, InvitesWhoIsNamed, is_entry_text, IsOnlyForRefusals}
use Rattle.eggprocs.specs.Channel.{put}
use Rattle.eggprocs.specs.Ctcp.{is_raw, command_of}
use Rattle.eggprocs.specs.Entries.{refuses_join, closed_channel, is_kept_out, needs_in, is_outside, may_let_in}
use Rattle.eggprocs.specs.Laws.{DoesOnly}
use Rattle.eggprocs.specs.Lines.{invite}
use Rattle.eggprocs.specs.Needs.{is_bot_text, needed_on, needed_by}
use Rattle.eggprocs.specs.Procs.{wanted_by}
use Rattle.eggprocs.specs.Rights.{is_op_of}
use Rattle.eggprocs.proofs.KeepingLemmas.{false-and, nothing-if}
use Rattle.eggprocs.proofs.LawLemmas.{and-false, alone-kept, does-nothing}

-- ---- letin

-- nobody is there if it is not so that somebody is
none-there : (member : Option Member) → not (is_some member) ≡ true → member ≡ None
none-there None is = refl
none-there (Some member) is = cc

pub letin-one : InvitesWhoIsNamed (codes "letin")
unfolding wanted_by
letin-one call seen reply kept = by (may_let_in call seen) refl (alone-kept which.LetIn call seen reply refl kept)
  where
    by : (may : Bool) → may_let_in call seen ≡ may
        → reply.actions ≡ (if may then put Server (invite (needed_by call) (needed_on call)) ∷ [] else [])
        → (reply.actions ≡ []) ⊎ IsInvitation call seen reply.actions
    by false is one = inl one
    by true is one =
        let known : Bool = not (length (needed_by call) == 0) in
        let parts = and_parts (is_bot_text call.kind && is_op_of (needed_on call) seen) (known && is_outside call seen) is in
        inr (record {
          by_op = (and_parts (is_bot_text call.kind) (is_op_of (needed_on call) seen) parts.0).1;
          outside = none-there (member_in (needed_on call) (needed_by call) seen.sight.channels) (and_parts known (is_outside call seen) parts.1).1;
          one = one;
        })

-- ---- needin

entry-text : (call : Call) (seen : Seen) (out : Bool) → list_all (is_entry_text call seen) (if out then needs_in (closed_channel call) seen ∷ [] else []) ≡ true
entry-text call seen false = refl
entry-text call seen true =
    let text : List ℕ = codes "needin " ++ closed_channel call ++ codes " " ++ seen.sight.channels.nick in
    ap (λ (b : Bool). b && true) ((bytes_eq-Decides text text).1 refl)

pub needin-only : DoesOnly is_entry_text (codes "needin")
unfolding wanted_by
needin-only call seen reply kept =
    ap (list_all (is_entry_text call seen)) (alone-kept which.NeedIn call seen reply refl kept) ∙ entry-text call seen (is_kept_out call)

pub needin-refused : IsOnlyForRefusals (codes "needin")
unfolding wanted_by
needin-refused call seen other =
    let named : Bool = not (length (closed_channel call) == 0) in
    does-nothing which.NeedIn call seen
    (nothing-if (is_kept_out call) (needs_in (closed_channel call) seen ∷ [])
    (false-and (is_raw call.kind && refuses_join (command_of call)) named (and-false (is_raw call.kind) (refuses_join (command_of call)) other)))
