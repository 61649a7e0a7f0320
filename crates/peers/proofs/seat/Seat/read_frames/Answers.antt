use Rattle.std.proofs.Common.{ap, subst, sym, ◌∙◌}
use Rattle.std.specs.List.{AllByRecursion, list_all}
use Rattle.sharelink.specs.Shapes.{HasGoodRecords}
use Rattle.peers.specs.declared.seat.Seat.{Seat}
use Rattle.peers.specs.Speakers.{is_own}
use Rattle.peers.proofs.HearingLemmas.{frames_good, frames_read, ended_by}
use Rattle.peers.proofs.seat.Seat.read_frames.Goals as goal

pub returns-clause-good : goal.returns-clause-good
returns-clause-good c =
    frames_good c.pick.result _ _ _ c.pick.ensures.picked
    (subst (AllByRecursion HasGoodRecords) (sym c.into_vec.ensures) c.in_ok-feed.ensures.good)

pub returns-clause-reads : goal.returns-clause-reads
returns-clause-reads c =
    frames_read c.pick.result c.args.frames.now c.args.self.now c.note_version.new.self c.pick.new.self c.in_ok-feed.feed.packets _
    c.feed.new.self c.into_vec.ensures (ap (λ (s : Seat). s.may) c.note_version.ensures.same)
    (ap (λ (s : Seat). s.layout) c.note_version.ensures.same) c.pick.ensures.picked c.pick.ensures.said
    (ap (list_all (is_own c.args.self.now.leaf)) (sym c.as_slice.ensures) ∙ sym c.are_said_by.ensures ∙ c.if-not-are_said_by.false)
    (ap (λ (s : Seat). s.reader) c.pick.ensures.same ∙ ap (λ (s : Seat). s.reader) c.note_version.ensures.same) c.in_ok-feed.ensures.told
    (ended_by c.args.self.now.wire c.end_at.new.self c.pick.new.self.wire
    (ap (λ (s : Seat). s.wire) c.pick.ensures.same ∙ ap (λ (s : Seat). s.wire) c.note_version.ensures.same) c.end_at.ensures.same)
