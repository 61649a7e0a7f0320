-- The single modes of a mode string, one byte after another.
use Rattle.std.proofs.Common.{◌≡◌, ℕ, ◌+◌, ◌<◌, Bool, List, [], ◌∷◌, ◌++◌, length, drop, get_or, refl, sym, ◌∙◌, ap, append_assoc}
use Rattle.std.proofs.lemmas.List.{drop_more}
use Rattle.miniircd.specs.declared.modes.Single.{Single}
use Rattle.miniircd.specs.Modes.{sign_after, arguments_after, single_at, singles}

singles-cons : (on : Bool) (b : ℕ) (bs : List ℕ) (arguments : List (List ℕ))
    → singles on (b ∷ bs) arguments ≡ single_at on b arguments ++ singles (sign_after on b) bs (arguments_after on b arguments)
unfolding singles
singles-cons on b bs arguments = refl

pub singles-none : (on : Bool) (arguments : List (List ℕ)) → singles on [] arguments ≡ []
unfolding singles
singles-none on arguments = refl

-- a byte goes from what is left to what is done
pub singles_step : (done : List Single) (on : Bool) (modes : List ℕ) (i d : ℕ) (arguments : List (List ℕ)) → i < length modes
    → (done ++ single_at on (get_or modes i d) arguments)
    ++ singles (sign_after on (get_or modes i d)) (drop (i + 1) modes) (arguments_after on (get_or modes i d) arguments)
    ≡ done ++ singles on (drop i modes) arguments
singles_step done on modes i d arguments less =
    append_assoc done (single_at on (get_or modes i d) arguments) _
    ∙ ap (λ more. done ++ more) (sym (singles-cons on (get_or modes i d) (drop (i + 1) modes) arguments)
    ∙ ap (λ bs. singles on bs arguments) (sym (drop_more modes i d less)))
