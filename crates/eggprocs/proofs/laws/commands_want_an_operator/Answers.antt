use Rattle.eggprocs.specs.declared.proc_name.ProcName.TheVariants as which
use Rattle.eggprocs.proofs.LawLemmas.{does-nothing, is_from_op-bot, is_from_voice-bot, autoop-bot, op-refused, deop-refused, kick-refused, topic-refused, invite-refused, ban-refused, unban-refused, voice-refused, devoice-refused}
use Rattle.eggprocs.proofs.KeepingLemmas.{protectops-bot, bitch-bot, guard-bot, enforcebans-bot}
use Rattle.eggprocs.proofs.ChannelLemmas.{keepmodes-bot, dynamicbans-bot}
use Rattle.eggprocs.proofs.laws.commands_want_an_operator.Goals as goal

pub returns-clause-op : goal.returns-clause-op
returns-clause-op c = λ call seen denied. does-nothing which.Op call seen (op-refused call seen (is_from_op-bot call seen denied))

pub returns-clause-deop : goal.returns-clause-deop
returns-clause-deop c = λ call seen denied. does-nothing which.Deop call seen (deop-refused call seen (is_from_op-bot call seen denied))

pub returns-clause-voice : goal.returns-clause-voice
returns-clause-voice c = λ call seen denied. does-nothing which.Voice call seen (voice-refused call seen (is_from_voice-bot call seen denied))

pub returns-clause-devoice : goal.returns-clause-devoice
returns-clause-devoice c = λ call seen denied. does-nothing which.Devoice call seen (devoice-refused call seen (is_from_voice-bot call seen denied))

pub returns-clause-autoop : goal.returns-clause-autoop
returns-clause-autoop c = λ call seen denied. does-nothing which.AutoOp call seen (autoop-bot call seen denied)

pub returns-clause-kick : goal.returns-clause-kick
returns-clause-kick c = λ call seen denied. does-nothing which.Kick call seen (kick-refused call seen (is_from_op-bot call seen denied))

pub returns-clause-topic : goal.returns-clause-topic
returns-clause-topic c = λ call seen denied. does-nothing which.Topic call seen (topic-refused call seen (is_from_op-bot call seen denied))

pub returns-clause-invite : goal.returns-clause-invite
returns-clause-invite c = λ call seen denied. does-nothing which.Invite call seen (invite-refused call seen (is_from_op-bot call seen denied))

pub returns-clause-ban : goal.returns-clause-ban
returns-clause-ban c = λ call seen denied. does-nothing which.Ban call seen (ban-refused call seen (is_from_op-bot call seen denied))

pub returns-clause-unban : goal.returns-clause-unban
returns-clause-unban c = λ call seen denied. does-nothing which.Unban call seen (unban-refused call seen (is_from_op-bot call seen denied))

pub returns-clause-protectops : goal.returns-clause-protectops
returns-clause-protectops c = protectops-bot

pub returns-clause-bitch : goal.returns-clause-bitch
returns-clause-bitch c = bitch-bot

pub returns-clause-guard : goal.returns-clause-guard
returns-clause-guard c = guard-bot

pub returns-clause-enforcebans : goal.returns-clause-enforcebans
returns-clause-enforcebans c = enforcebans-bot

pub returns-clause-keepmodes : goal.returns-clause-keepmodes
returns-clause-keepmodes c = keepmodes-bot

pub returns-clause-dynamicbans : goal.returns-clause-dynamicbans
returns-clause-dynamicbans c = dynamicbans-bot
