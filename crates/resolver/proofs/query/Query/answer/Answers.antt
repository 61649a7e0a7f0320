use Rattle.resolver.proofs.HeldLemmas.{answer-held}
use Rattle.resolver.proofs.query.Query.answer.Goals as goal

pub returns-then-is_reply-clause-held : goal.returns-then-is_reply-clause-held
returns-then-is_reply-clause-held c = answer-held c.args.self.now c.args.reply.now c.answer_in.result c.answer_in.ensures
