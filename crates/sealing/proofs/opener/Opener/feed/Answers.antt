use Rattle.std.proofs.Common.{◌++◌, List, ℕ, sym, ap, subst, ◌∙◌}
use Rattle.sealing.specs.declared.opener.OpenedPiece.{OpenedPiece}
use Rattle.sealing.specs.Streams.{Opening, Opens, GoesOn, ended}
use Rattle.sealing.specs.Steps.{IsTaken}
use Rattle.sealing.proofs.ReadingLemmas.{told_on, failed_on, same_on, none_is}
use Rattle.sealing.proofs.opener.Opener.feed.Goals as goal

pub returns-then-is_some-clause-opens : goal.returns-then-is_some-clause-opens
returns-then-is_some-clause-opens c = λ stream bodies o.
    failed_on stream c.args.piece.now bodies c.self.inside.held.items c.self.inside.fault c.args.self.now c.nothing.result
    (ap (λ (v : Opening). v.ending) c.self.view_is) (sym c.is_some.ensures ∙ c.if-is_some.true) c.nothing.ensures.frames c.nothing.ensures.beats o

pub returns-then-is_empty-clause-opens : goal.returns-then-is_empty-clause-opens
returns-then-is_empty-clause-opens c = λ stream bodies o.
    same_on stream c.args.piece.now bodies c.args.self.now c.nothing-then-is_empty.result (sym c.is_empty.ensures ∙ c.if-is_empty.true)
    c.nothing-then-is_empty.ensures.frames c.nothing-then-is_empty.ensures.beats o

pub returns-in-Ok-clause-opens : goal.returns-in-Ok-clause-opens
returns-in-Ok-clause-opens c = λ stream bodies o.
    let held : List ℕ = c.self.inside.held.items in
    let inside : Opening = record { key = c.self.inside.key; count = c.self.inside.count; ending = ended held c.self.inside.fault } in
    let left : List ℕ = c.take_records.new.held.items in
    let new : Opening = record { key = c.self.inside.key; count = c.in-Ok.field-0.count; ending = ended left c.in-Ok.field-0.fault } in
    let opened : OpenedPiece = record { frames = c.in-Ok.field-0.frames; beats = c.in-Ok.field-0.beats; fault = c.in-Ok.field-0.fault } in
    let taken : IsTaken c.self.inside.key c.self.inside.count (held ++ c.args.piece.now) c.in-Ok.field-0 (ended left c.in-Ok.field-0.fault) =
    subst (λ (l : List ℕ). IsTaken c.self.inside.key c.self.inside.count l c.in-Ok.field-0 (ended left c.in-Ok.field-0.fault))
    c.in_ok-extend_from_slice.ensures.items c.in-Ok.ensures.taken in
    subst (λ (v : Opening). Opens v.key stream bodies v → GoesOn stream c.args.piece.now bodies v new opened) c.self.view_is
    (told_on stream c.args.piece.now held bodies inside new opened taken.rest
    (none_is held c.self.inside.fault (sym c.is_some.ensures ∙ c.if-is_some.false)) taken.told taken.ends) o
