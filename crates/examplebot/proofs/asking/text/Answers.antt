use Rattle.std.proofs.Common.{◌≡◌, ℕ, ◌+◌, ◌<◌, List, [], ◌∷◌, ◌++◌, length, take, get_or, map, append-nil, arith, ap, sym, ◌∙◌}
use Rattle.std.specs.List.{concat}
use Rattle.std.proofs.lemmas.List.{map_more}
use Rattle.std.proofs.lemmas.List.Folds.{concat-append}
use Rattle.examplebot.proofs.asking.text.Goals as goal

-- one part more
part_more : {X : Type 0} (of : X → List ℕ) (xs : List X) (i : ℕ) (d : X) (old new : List ℕ) → i < length xs
    → old ≡ concat (map of (take i xs)) → new ≡ old ++ of (get_or xs i d) → new ≡ concat (map of (take (i + 1) xs))
part_more of xs i d old new less so_far more =
    let last = of (get_or xs i d) in
    more ∙ ap (λ front. front ++ last) so_far ∙ ap (λ end. concat (map of (take i xs)) ++ end) (sym (append-nil last))
    ∙ sym (concat-append (map of (take i xs)) (last ∷ [])) ∙ sym (ap concat (map_more of xs i d less))

pub loop-part-preserved : goal.loop-part-preserved
loop-part-preserved c =
    part_more (λ part. part.now) c.args.parts.now c.loop-part.part-index _ _ _ (omega arith) c.loop-part.invariant
    c.in_ok-extend_from_slice.ensures.items
