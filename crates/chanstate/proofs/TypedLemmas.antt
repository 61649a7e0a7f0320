-- The joins of a line are those of the channels on this server.
use Rattle.std.proofs.Common.{◌≡◌, ℕ, ◌&&◌, Bool, true, false, cond, List, [], ◌∷◌, map, filter, refl, ap, ◌∙◌}
use Rattle.std.specs.Prelude.{◌==◌}
use Rattle.std.specs.List.{slice_split}
use Rattle.rfccase.specs.Casemapping.{is_same_by}
use Rattle.rfccase.specs.Channels.{is_channel_name}
use Rattle.chanstate.specs.declared.state.ChanState.{ChanState}
use Rattle.chanstate.specs.declared.support.Support.{Support}
use Rattle.chanstate.specs.Announced.{is_typed, with_join}
use Rattle.chanstate.specs.Items.{Item, Joined, channels_in, channels_on}
use Rattle.chanstate.specs.Steps.{step, each_step, steps}
use Rattle.chanstate.specs.Views.{mapping_of}

-- two filters, one after the other, are one
filter-both : {X : Type 0} (p q : X → Bool) (xs : List X) → filter q (filter p xs) ≡ filter (λ x. p x && q x) xs
filter-both p q [] = refl
filter-both {X = X} p q (x ∷ xs) = by (p x) (filter-both p q xs)
  where
    by : (b : Bool) → filter q (filter p xs) ≡ filter (λ y. p y && q y) xs
        → filter q (cond b (x ∷ filter p xs) (filter p xs))
        ≡ cond (b && q x) (x ∷ filter (λ y. p y && q y) xs) (filter (λ y. p y && q y) xs)
    by true rest = ap (λ ys. cond (q x) (x ∷ ys) ys) rest
    by false rest = rest

pub channels_on-is : (s : Support) (list : List ℕ) → filter (is_typed s) (channels_in list) ≡ channels_on s list
channels_on-is s list = filter-both is_channel_name (is_typed s) (slice_split (λ b. b == 44) list)

-- a join leaves the types of channels
pub one_support : (b : Bool) (s t : ChanState) → s.support ≡ t.support → (cond b s t).support ≡ t.support
one_support true s t is = is
one_support false s t is = refl

typed-step : (nick user host n : List ℕ) (s : ChanState) → (step (Joined nick user host n) s).support ≡ with_join s.support
typed-step nick user host n s = one_support (is_same_by (mapping_of s) nick s.nick) _ _ refl

steps-typed : (nick user host : List ℕ) (names : List (List ℕ)) (s : ChanState)
    → steps (map (Joined nick user host) names) s ≡ each_step (map (Joined nick user host) (filter (is_typed s.support) names)) s
steps-typed nick user host [] s = refl
steps-typed nick user host (n ∷ ns) s =
    by (is_typed s.support n) (steps-typed nick user host ns (step (Joined nick user host n) s)) (steps-typed nick user host ns s)
  where
    says : List ℕ → Item
    says = Joined nick user host

    left : List (List ℕ)
    left = filter (is_typed s.support) ns

    next : ChanState
    next = step (says n) s

    by : (b : Bool) → steps (map says ns) next ≡ each_step (map says (filter (is_typed next.support) ns)) next
        → steps (map says ns) s ≡ each_step (map says left) s
        → steps (map says ns) (each_step (cond b (says n ∷ []) []) s) ≡ each_step (map says (cond b (n ∷ left) left)) s
    by true joined other =
        joined ∙ ap (λ (sup : Support). each_step (map says (filter (is_typed sup) ns)) next) (typed-step nick user host n s)
    by false joined other = other

pub steps-joins : (nick user host list : List ℕ) (s : ChanState)
    → steps (map (Joined nick user host) (channels_in list)) s ≡ each_step (map (Joined nick user host) (channels_on s.support list)) s
steps-joins nick user host list s =
    steps-typed nick user host (channels_in list) s ∙ ap (λ names. each_step (map (Joined nick user host) names) s) (channels_on-is s.support list)
