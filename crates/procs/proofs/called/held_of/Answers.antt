use Rattle.std.proofs.Common.{rules}
use Rattle.std.proofs.lemmas.List.Sorted.{answers_always}
use Rattle.procs.proofs.BehindLemmas.{searched-found, searched-none}
use Rattle.procs.proofs.called.held_of.Goals as goal

pub returns-in-Ok : goal.returns-in-Ok
returns-in-Ok c =
    searched-found c.args.held.now c.requires c.args.number c.in-Ok.at c.index-held-at.result c.in-Ok.ensures.bound
    (c.in-Ok.ensures.position (λ b. b.number) (answers_always _ _ _ (λ f a r g called. search rules))) c.index-held-at.is

pub returns-in-Err : goal.returns-in-Err
returns-in-Err c =
    searched-none c.args.held.now c.requires c.args.number c.in-Err.field-0
    (c.in-Err.ensures.position (λ b. b.number) (answers_always _ _ _ (λ f a r g called. search rules)))
