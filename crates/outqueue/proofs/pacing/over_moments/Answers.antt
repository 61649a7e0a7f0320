use Rattle.outqueue.proofs.Drains.{sent_over-order, sent_over-pace, next_line-prompt, sent_over-prompt}
use Rattle.outqueue.proofs.pacing.over_moments.Goals as goal

pub returns-clause-order : goal.returns-clause-order
returns-clause-order c = sent_over-order

pub returns-clause-pace : goal.returns-clause-pace
returns-clause-pace c = sent_over-pace

pub returns-clause-prompt : goal.returns-clause-prompt
returns-clause-prompt c = next_line-prompt

pub returns-clause-prompt_first : goal.returns-clause-prompt_first
returns-clause-prompt_first c = sent_over-prompt
