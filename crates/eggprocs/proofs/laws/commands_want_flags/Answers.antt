use Rattle.std.proofs.Common.{◌≡◌, ◌∙◌, ◌∷◌, [], false, sym}
use Rattle.procs.specs.declared.call.Call.{Call}
use Rattle.procs.specs.Seen.{Seen}
use Rattle.eggprocs.specs.declared.proc_name.ProcName.{ProcName}
use Rattle.eggprocs.specs.declared.proc_name.ProcName.TheVariants as which
use Rattle.eggprocs.specs.declared.rights.TheConstants.{OP, VOICE, MASTER, OWNER}
use Rattle.eggprocs.specs.Laws.{IsOnlyForOneOf}
use Rattle.eggprocs.specs.Procs.{name_of, wanted_by}
use Rattle.eggprocs.specs.Rights.{flags_by, is_from_op, is_from_voice}
use Rattle.eggprocs.proofs.DueLemmas.{opall-law}
use Rattle.eggprocs.proofs.LawLemmas.{does-nothing, has_one_of-ops, has_one_of-more, is_from_op-lacks, is_from_voice-lacks, autoop-lacks, op-refused, deop-refused, kick-refused, topic-refused, invite-refused, ban-refused, unban-refused, voice-refused, devoice-refused}
use Rattle.eggprocs.proofs.laws.commands_want_flags.Goals as goal

-- a command that does nothing for a caller without the rights of an operator, or without these and voice
for-ops : (w : ProcName) → ((call : Call) (seen : Seen) → is_from_op call seen ≡ false → wanted_by w call seen ≡ [])
    → IsOnlyForOneOf (OP ∷ MASTER ∷ OWNER ∷ []) (name_of w)
for-ops w refused = λ call seen lacks.
    does-nothing w call seen (refused call seen (is_from_op-lacks call seen (sym (has_one_of-ops (flags_by call seen)) ∙ lacks)))

for-voice : (w : ProcName) → ((call : Call) (seen : Seen) → is_from_voice call seen ≡ false → wanted_by w call seen ≡ [])
    → IsOnlyForOneOf (OP ∷ MASTER ∷ OWNER ∷ VOICE ∷ []) (name_of w)
for-voice w refused = λ call seen lacks.
    does-nothing w call seen (refused call seen (is_from_voice-lacks call seen (sym (has_one_of-more VOICE (flags_by call seen)) ∙ lacks)))

pub returns-clause-op : goal.returns-clause-op
returns-clause-op c = for-ops which.Op op-refused

pub returns-clause-deop : goal.returns-clause-deop
returns-clause-deop c = for-ops which.Deop deop-refused

pub returns-clause-kick : goal.returns-clause-kick
returns-clause-kick c = for-ops which.Kick kick-refused

pub returns-clause-topic : goal.returns-clause-topic
returns-clause-topic c = for-ops which.Topic topic-refused

pub returns-clause-invite : goal.returns-clause-invite
returns-clause-invite c = for-ops which.Invite invite-refused

pub returns-clause-ban : goal.returns-clause-ban
returns-clause-ban c = for-ops which.Ban ban-refused

pub returns-clause-unban : goal.returns-clause-unban
returns-clause-unban c = for-ops which.Unban unban-refused

pub returns-clause-voice : goal.returns-clause-voice
returns-clause-voice c = for-voice which.Voice voice-refused

pub returns-clause-devoice : goal.returns-clause-devoice
returns-clause-devoice c = for-voice which.Devoice devoice-refused

pub returns-clause-autoop : goal.returns-clause-autoop
returns-clause-autoop c = λ call seen lacks. does-nothing which.AutoOp call seen (autoop-lacks call seen lacks)

pub returns-clause-opall : goal.returns-clause-opall
returns-clause-opall c = λ call seen none. opall-law call seen none
