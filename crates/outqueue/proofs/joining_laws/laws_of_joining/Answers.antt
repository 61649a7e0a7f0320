use Rattle.outqueue.proofs.JoiningLaws.{group_together, group_short, moment_order, moments_pace, moment_greatest, prompt_first, moment_once, moment_fair}
use Rattle.outqueue.proofs.joining_laws.laws_of_joining.Goals as goal

pub returns-clause-order : goal.returns-clause-order
returns-clause-order c = moment_order

pub returns-clause-together : goal.returns-clause-together
returns-clause-together c = group_together

pub returns-clause-short : goal.returns-clause-short
returns-clause-short c = group_short

pub returns-clause-pace : goal.returns-clause-pace
returns-clause-pace c = moments_pace

pub returns-clause-greatest : goal.returns-clause-greatest
returns-clause-greatest c = moment_greatest

pub returns-clause-prompt : goal.returns-clause-prompt
returns-clause-prompt c = prompt_first

pub returns-clause-once : goal.returns-clause-once
returns-clause-once c = moment_once

pub returns-clause-fair : goal.returns-clause-fair
returns-clause-fair c = moment_fair
