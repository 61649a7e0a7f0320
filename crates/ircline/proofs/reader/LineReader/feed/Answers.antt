use Rattle.std.proofs.Common.{◌≢◌, ◌<◌, ℕ, List, ◌++◌, [], length, take, ap, ◌∙◌, sym, arith, refl, map, subst}
use Rattle.std.proofs.lemmas.Bool.{eqb-true, eqb-false}
use Rattle.std.proofs.lemmas.List.{nil_from_length, append-nil}
use Rattle.bytetext.proofs.Errors.{at_err}
use Rattle.ircline.specs.declared.line.Line.{Line}
use Rattle.ircline.specs.Classes.{is_end}
use Rattle.ircline.specs.Reading.{line_of}
use Rattle.ircline.specs.Stream.{lines_of, held_of, with_run}
use Rattle.ircline.proofs.StreamLemmas.{piece_without, feed_with}
use Rattle.ircline.proofs.EndsLemmas.{some_front, some_run, some_rest, some_begun}
use Rattle.ircline.proofs.reader.LineReader.feed.Goals as goal

pub returns-then-is_empty-clause-lines : goal.returns-then-is_empty-clause-lines
returns-then-is_empty-clause-lines c = λ stream is.
    let none = nil_from_length c.args.piece.now (eqb-true _ 0 (sym c.is_empty.ensures ∙ c.if-is_empty.true)) in
    ap (λ (p : List ℕ). lines_of (stream ++ p)) none ∙ ap lines_of (append-nil stream) ∙ sym (append-nil (lines_of stream))
    ∙ ap (λ (l : List Line). lines_of stream ++ l) (sym c.new.ensures.items)

pub returns-then-is_empty-clause-held : goal.returns-then-is_empty-clause-held
returns-then-is_empty-clause-held c = λ stream is.
    let none = nil_from_length c.args.piece.now (eqb-true _ 0 (sym c.is_empty.ensures ∙ c.if-is_empty.true)) in
    is ∙ sym (ap (λ (p : List ℕ). held_of (stream ++ p)) none ∙ ap held_of (append-nil stream))

pub returns-in_err-run-clause-memory : goal.returns-in_err-run-clause-memory
returns-in_err-run-clause-memory c = λ none.
    let parts = c.parted.ensures is_end c.first_end.ensures in
    let front = c.parted.result.0.now in
    let held = c.as_slice-held.ensures.value ∙ c.self.view_is ∙ none in
    let some = subst (λ (h : List ℕ). 0 < length (h ++ front)) held c.in_err-run.ensures.memory in
    at_err c.from_residual.result (some_front c.args.piece.now front parts.0 some)

pub returns-in_err-push_line-clause-memory : goal.returns-in_err-push_line-clause-memory
returns-in_err-push_line-clause-memory c = λ none.
    let parts = c.parted.ensures is_end c.first_end.ensures in
    let front = c.parted.result.0.now in
    let held = c.as_slice-held.ensures.value ∙ c.self.view_is ∙ none in
    let run = c.as_slice.ensures.value ∙ c.in_ok-run.ensures.run ∙ ap (λ (h : List ℕ). take 511 (h ++ front)) held in
    at_err c.from_residual-in_err-push_line.result
    (some_run c.args.piece.now front c.as_slice.result.now parts.0 run c.in_err-push_line.ensures.memory)

pub returns-in_err-tail-clause-memory : goal.returns-in_err-tail-clause-memory
returns-in_err-tail-clause-memory c = λ none.
    let parts = c.parted.ensures is_end c.first_end.ensures in
    at_err c.from_residual-in_err-tail.result (some_rest c.args.piece.now c.parted.result.1.now parts.1 c.in_err-tail.ensures.memory)

pub returns-in_err-self-inside-clause-memory : goal.returns-in_err-self-inside-clause-memory
returns-in_err-self-inside-clause-memory c = λ none.
    let parts = c.parted.ensures is_end c.first_end.ensures in
    let rest = c.parted.result.1.now in
    let some = subst (λ (t : List ℕ). 0 < length t) (append-nil c.in_ok-tail.tail.now) c.in_err-self-inside.ensures.memory in
    at_err c.from_residual-in_err-self-inside.result
    (some_rest c.args.piece.now rest parts.1 (some_begun rest c.in_ok-tail.tail.now c.in_ok-tail.ensures.rest some))

pub returns-then-is_empty-2-clause-lines : goal.returns-then-is_empty-2-clause-lines
returns-then-is_empty-2-clause-lines c = λ stream is.
    let parts = c.parted.ensures is_end c.first_end.ensures in
    let none = nil_from_length c.parted.result.1.now (eqb-true _ 0 (sym c.is_empty-2.ensures ∙ c.if-is_empty-2.true)) in
    let run-is = c.in_ok-run.ensures.run ∙ ap (λ (h : List ℕ). take 511 (h ++ c.parted.result.0.now)) (c.as_slice-held.ensures.value ∙ c.self.view_is) in
    let step = piece_without c.args.self.now stream c.args.piece.now c.parted.result.0.now c.parted.result.1.now c.in_ok-run.run'.items is parts.0
    parts.1 none run-is in
    step.0 ∙ ap (λ (l : List Line). lines_of stream ++ l) (sym c.new-lines.ensures.items)

pub returns-then-is_empty-2-clause-held : goal.returns-then-is_empty-2-clause-held
returns-then-is_empty-2-clause-held c = λ stream is.
    let parts = c.parted.ensures is_end c.first_end.ensures in
    let none = nil_from_length c.parted.result.1.now (eqb-true _ 0 (sym c.is_empty-2.ensures ∙ c.if-is_empty-2.true)) in
    let run-is = c.in_ok-run.ensures.run ∙ ap (λ (h : List ℕ). take 511 (h ++ c.parted.result.0.now)) (c.as_slice-held.ensures.value ∙ c.self.view_is) in
    (piece_without c.args.self.now stream c.args.piece.now c.parted.result.0.now c.parted.result.1.now c.in_ok-run.run'.items is parts.0 parts.1 none run-is).1

pub returns-clause-lines : goal.returns-clause-lines
returns-clause-lines c = λ stream is.
    let parts = c.parted.ensures is_end c.first_end.ensures in
    let some : length c.parted.result.1.now ≢ 0 = eqb-false _ 0 (sym c.is_empty-2.ensures ∙ c.if-is_empty-2.false) in
    let run-is = c.in_ok-run.ensures.run ∙ ap (λ (h : List ℕ). take 511 (h ++ c.parted.result.0.now)) (c.as_slice-held.ensures.value ∙ c.self.view_is) in
    let first-is = c.in_ok-push_line.ensures.lines ∙ ap (λ (l : List Line). l
    ++ map line_of (with_run c.as_slice.result.now [])) c.new-lines.ensures.items
    ∙ ap (λ (r : List ℕ). map line_of (with_run r [])) c.as_slice.ensures.value in
    (feed_with c.args.self.now stream c.args.piece.now c.parted.result.0.now c.parted.result.1.now c.in_ok-run.run'.items c.push_line.new.lines.items
    _ is parts.0 parts.1 (omega (arith, some)) run-is first-is c.in_ok-tail.ensures.lines).0

pub returns-clause-held : goal.returns-clause-held
returns-clause-held c = λ stream is.
    let parts = c.parted.ensures is_end c.first_end.ensures in
    let some : length c.parted.result.1.now ≢ 0 = eqb-false _ 0 (sym c.is_empty-2.ensures ∙ c.if-is_empty-2.false) in
    let step = feed_with c.args.self.now stream c.args.piece.now c.parted.result.0.now c.parted.result.1.now (take 511 (c.args.self.now
    ++ c.parted.result.0.now)) _ _ is parts.0 parts.1 (omega (arith, some)) refl refl refl in
    c.in_ok-self-inside.ensures.run ∙ ap (take 511) (append-nil c.in_ok-tail.tail.now ∙ c.in_ok-tail.ensures.rest) ∙ sym step.1
