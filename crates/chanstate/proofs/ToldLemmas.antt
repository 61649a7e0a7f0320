-- The events of a list, one after the other.
use Rattle.std.proofs.Common.{◌≡◌, ℕ, ◌<◌, ◌+◌, Bool, Option, List, [], ◌∷◌, ◌++◌, length, get_or, drop, map, filter, sym, ap, append_assoc, ◌∙◌}
use Rattle.std.specs.List.{filter_map}
use Rattle.std.specs.Option.{option_to_list}
use Rattle.std.proofs.lemmas.List.{map-append, at_drop_more}
use Rattle.std.proofs.lemmas.List.Elements.{filter-append, filter_map-append}
use Rattle.chanstate.specs.declared.event.IrcEvent.{IrcEvent}
use Rattle.chanstate.specs.declared.support.Support.{Support}
use Rattle.chanstate.specs.Items.{Single, single_at, singles, sign_after, arguments_after}

-- one more piece of a list that is cut into pieces, of which some name a channel that events tell of
pub told_more : {X : Type 0} (v : X → List ℕ) (f : List ℕ → IrcEvent) (g : List ℕ → Option (List ℕ)) (p : List ℕ → Bool) (xs : List X) (x : X)
    (names : List (List ℕ)) (old new : List IrcEvent) → old ≡ map f (filter_map g (filter p (map v xs)))
    → names ≡ filter_map g (filter p (v x ∷ [])) → new ≡ old ++ map f names
    → new ≡ map f (filter_map g (filter p (map v (xs ++ x ∷ []))))
told_more v f g p xs x names old new so_far named more =
    let first = map v xs in
    let last = filter p (v x ∷ []) in
    more ∙ ap (λ z. old ++ map f z) named ∙ ap (λ z. z ++ map f (filter_map g last)) so_far
    ∙ sym (map-append f (filter_map g (filter p first)) (filter_map g last))
    ∙ sym (ap (map f) (filter_map-append g (filter p first) last))
    ∙ sym (ap (λ ps. map f (filter_map g ps)) (filter-append p first (v x ∷ [])))
    ∙ sym (ap (λ ps. map f (filter_map g (filter p ps))) (map-append v xs (x ∷ [])))

-- one more byte of a mode string: the events so far and those of the bytes that are left are all events still
pub modes_more : (sup : Support) (f : Single → IrcEvent) (on : Bool) (string : List ℕ) (i d : ℕ) (arguments : List (List ℕ)) (old new : List IrcEvent) → i < length string
    → let b = get_or string i d in
    new ≡ old ++ map f (option_to_list (single_at sup on b arguments)) →
    new ++ map f (singles sup (sign_after on b) (drop (i + 1) string) (arguments_after sup on b arguments))
    ≡ old ++ map f (singles sup on (drop i string) arguments)
modes_more sup f on string i d arguments old new less is =
    let b = get_or string i d in
    let one = option_to_list (single_at sup on b arguments) in
    let rest = singles sup (sign_after on b) (drop (i + 1) string) (arguments_after sup on b arguments) in
    ap (λ z. z ++ map f rest) is
    ∙ append_assoc old (map f one) (map f rest)
    ∙ ap (λ z. old ++ z) (sym (map-append f one rest))
    ∙ sym (at_drop_more (λ bs. old ++ map f (singles sup on bs arguments)) string i d less)
