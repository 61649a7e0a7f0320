use Rattle.std.proofs.Common.{◌≡◌, ℕ, List, [], ◌∷◌, ◌++◌, Result, Ok, Err, IfOk, ap, sym, ◌∙◌}
use Rattle.std.specs.declared.vec.Vec.{Vec}
use Rattle.std.specs.declared.alloc.Global.{Global}
use Rattle.ircline.specs.declared.line.Line.{Line}
use Rattle.ircline.specs.Stream.{lines_of}
use Rattle.script.proofs.lines.lines_of.Goals as goal

-- the lines of the only piece of a stream
of_piece : {E : Type 0} (fed : Result (Vec Line Global) E) (piece text : List ℕ) → piece ≡ text ++ 10 ∷ []
    → IfOk fed (λ lines. lines_of piece ≡ lines.items) → IfOk fed (λ lines. lines.items ≡ lines_of (text ++ 10 ∷ []))
of_piece (Ok lines) piece text is fed = sym fed ∙ ap lines_of is
of_piece (Err e) piece text is fed = tt

pub returns : goal.returns
returns c =
    of_piece _ c.as_slice.result.now c.args.text
    (c.as_slice.ensures.value ∙ c.in_ok-push.ensures.items ∙ ap (λ bytes. bytes ++ 10 ∷ []) c.into_vec-piece.ensures)
    (c.feed.ensures.lines [] c.new-reader.ensures)
