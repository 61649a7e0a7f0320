use Rattle.std.proofs.Common.{◌≡◌, ℕ, List, ◌++◌, take, ap, ◌∙◌, arith, Option}
use Rattle.std.specs.List.{flat_map}
use Rattle.std.specs.Option.{option_to_list}
use Rattle.std.proofs.lemmas.List.{take_all}
use Rattle.bytetext.proofs.Errors.{at_err}
use Rattle.ircline.specs.declared.line.Line.{Line}
use Rattle.ircline.specs.Stream.{lines_of, begun, last_line}
use Rattle.ircline.proofs.EndsLemmas.{piece_goes_on, piece_ends, run_held, run_last}
use Rattle.ircline.proofs.pieces.read_pieces.Goals as goal

pub returns-in_err-ended-clause-memory : goal.returns-in_err-ended-clause-memory
returns-in_err-ended-clause-memory c =
    let i = c.loop-piece.piece-index in
    at_err c.from_residual.result
    (piece_goes_on c.args.pieces.now i c.piece-item.result c.as_bytes.result.now c.loop-piece.reader (omega arith)
    (c.as_bytes.ensures ∙ c.piece-item.is) c.loop-piece.invariant.held c.in_err-ended.ensures.memory)

pub returns-in_err-append-clause-memory : goal.returns-in_err-append-clause-memory
returns-in_err-append-clause-memory c =
    let i = c.loop-piece.piece-index in
    let before = flat_map (λ (piece : List ℕ). piece) (take i c.args.pieces.now) in
    let ended = c.in_ok-ended.ended in
    at_err c.from_residual-in_err-append.result
    (piece_ends c.args.pieces.now i c.piece-item.result c.as_bytes.result.now ended.items (omega arith) (c.as_bytes.ensures ∙ c.piece-item.is)
    (c.in_ok-ended.ensures.lines before c.loop-piece.invariant.held)
    (omega (arith, c.in_err-append.ensures.full, c.loop-piece.lines.ok.1, ended.ok.0)))

pub returns-in_err-last-clause-memory : goal.returns-in_err-last-clause-memory
returns-in_err-last-clause-memory c =
    at_err c.from_residual-in_err-last.result
    (run_held c.args.pieces.now c.loop-piece.piece-index c.loop-piece.reader c.loop-piece.invariant.held c.in_err-last.ensures.memory.0)

pub returns-in_err-push_last-clause-memory : goal.returns-in_err-push_last-clause-memory
returns-in_err-push_last-clause-memory c =
    let before = flat_map (λ (piece : List ℕ). piece) (take c.loop-piece.piece-index c.args.pieces.now) in
    at_err c.from_residual-in_err-push_last.result
    (run_last c.args.pieces.now c.loop-piece.piece-index c.in_ok-last.last (c.in_ok-last.ensures.line before c.loop-piece.invariant.held)
    c.in_err-push_last.ensures.memory)

pub returns-clause-lines : goal.returns-clause-lines
returns-clause-lines c =
    let whole = (λ (pieces : List (List ℕ)). flat_map (λ (piece : List ℕ). piece) pieces) in
    let all : take c.loop-piece.piece-index c.args.pieces.now ≡ c.args.pieces.now = take_all c.loop-piece.piece-index c.args.pieces.now (omega arith) in
    let so_far = c.loop-piece.invariant.lines ∙ ap (λ (pieces : List (List ℕ)). lines_of (whole pieces)) all in
    let last = c.in_ok-last.ensures.line (whole (take c.loop-piece.piece-index c.args.pieces.now)) c.loop-piece.invariant.held
    ∙ ap (λ (pieces : List (List ℕ)). last_line (begun (whole pieces))) all in
    c.in_ok-push_last.ensures.last ∙ ap (λ (l : List Line). l ++ option_to_list c.in_ok-last.last) so_far
    ∙ ap (λ (o : Option Line). lines_of (whole c.args.pieces.now) ++ option_to_list o) last
