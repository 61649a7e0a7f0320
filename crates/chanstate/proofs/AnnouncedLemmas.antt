-- What an announcement leaves once a JOIN has been read.
use Rattle.std.proofs.Common.{◌≡◌, ℕ, ◌==◌, Bool, true, false, cond, Option, None, Some, List, [], ◌∷◌, length, refl, sym, subst, ◌∙◌}
use Rattle.std.specs.Prelude.{codes}
use Rattle.std.specs.Str.{bytes_eq}
use Rattle.std.proofs.lemmas.Bool.{cond-true}
use Rattle.chanstate.specs.declared.support.Support.{Support}
use Rattle.chanstate.specs.Announced.{ranked, opened, with_prefix, typed_three, typed_two, typed_one, with_casemapping, with_channel_types, cut, key_and_value}
use Rattle.chanstate.specs.Announced.{limited, number_in, with_modes, announced_by, with_token, announced}

-- the casemapping is the same, and whether a JOIN has been read
abbrev pub Same : Support → Support → Type 0
Same s t = (t.casemapping ≡ s.casemapping) × (t.join_read ≡ s.join_read)

same_if : (b : Bool) (s x y : Support) → Same s x → Same s y → Same s (cond b x y)
same_if true s x y one two = one
same_if false s x y one two = two

ranked-same : (o : Option (List ℕ × List ℕ)) (s : Support) → Same s (ranked o s)
ranked-same None s = (refl, refl)
ranked-same (Some p) s = same_if (length p.0 == length p.1) s _ s (refl, refl) (refl, refl)

opened-same : (o : Option (List ℕ × List ℕ)) (s : Support) → Same s (opened o s)
opened-same None s = (refl, refl)
opened-same (Some p) s = same_if (length p.0 == 0) s _ s (ranked-same (cut 41 p.1) s) (refl, refl)

prefix-same : (value : List ℕ) (s : Support) → Same s (with_prefix value s)
prefix-same value s = same_if (length value == 0) s _ _ (refl, refl) (opened-same (cut 40 value) s)

three-same : (a b : List ℕ) (o : Option (List ℕ × List ℕ)) (s : Support) → Same s (typed_three a b o s)
three-same a b None s = (refl, refl)
three-same a b (Some p) s = (refl, refl)

two-same : (a : List ℕ) (o : Option (List ℕ × List ℕ)) (s : Support) → Same s (typed_two a o s)
two-same a None s = (refl, refl)
two-same a (Some p) s = three-same a p.0 (cut 44 p.1) s

one-same : (o : Option (List ℕ × List ℕ)) (s : Support) → Same s (typed_one o s)
one-same None s = (refl, refl)
one-same (Some p) s = two-same p.0 (cut 44 p.1) s

casemapping-same : (value : List ℕ) (s : Support) → s.join_read ≡ true → Same s (with_casemapping value s)
casemapping-same value s read = subst (Same s) (sym (cond-true s.join_read s _ read)) (refl, refl)

channel_types-same : (value : List ℕ) (s : Support) → Same s (with_channel_types value s)
channel_types-same value s = same_if s.join_read s s _ (refl, refl) (refl, refl)

limited-same : (o : Option ℕ) (s : Support) → Same s (limited o s)
limited-same None s = (refl, refl)
limited-same (Some number) s = same_if (number == 0) s s _ (refl, refl) (refl, refl)

modes-same : (value : List ℕ) (s : Support) → Same s (with_modes value s)
modes-same value s = same_if (length value == 0) s _ _ (refl, refl) (limited-same (number_in value) s)

key-same : (p : List ℕ × List ℕ) (s : Support) → s.join_read ≡ true → Same s (announced_by p s)
key-same p s read =
    same_if (bytes_eq p.0 (codes "PREFIX")) s _ _ (prefix-same p.1 s)
    (same_if (bytes_eq p.0 (codes "CHANMODES")) s _ _ (one-same (cut 44 p.1) s)
    (same_if (bytes_eq p.0 (codes "CASEMAPPING")) s _ _ (casemapping-same p.1 s read)
    (same_if (bytes_eq p.0 (codes "CHANTYPES")) s _ _ (channel_types-same p.1 s)
    (same_if (bytes_eq p.0 (codes "STATUSMSG")) s _ _ (refl, refl)
    (same_if (bytes_eq p.0 (codes "MODES")) s _ s (modes-same p.1 s) (refl, refl))))))

pub announced-same : (tokens : List (List ℕ)) (s : Support) → s.join_read ≡ true → Same s (announced tokens s)
announced-same [] s read = (refl, refl)
announced-same (token ∷ more) s read =
    let one = key-same (key_and_value token (cut 61 token)) s read in
    let rest = announced-same more (with_token token s) (one.1 ∙ read) in
    (rest.0 ∙ one.0, rest.1 ∙ one.1)
