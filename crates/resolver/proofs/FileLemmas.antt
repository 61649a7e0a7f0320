-- The lines of a file and the words of a line, one after another.
use Rattle.std.proofs.Common.{◌≡◌, ◌∙◌, ℕ, Bool, true, false, List, [], ◌∷◌, ◌++◌, map, Option, ap, sym, refl, subst}
use Rattle.std.specs.Prelude.{◌||◌}
use Rattle.std.specs.Borrow.{Bor}
use Rattle.std.specs.List.{list_any}
use Rattle.std.specs.declared.net.ip_addr.IpAddr.{IpAddr}
use Rattle.resolver.specs.Files.{Spells, added, Collects}

-- the texts of a list of them
abbrev pub now_of : List (Bor (List ℕ)) → List (List ℕ)
now_of texts = map (λ text. text.now) texts

now_of-more : (texts : List (Bor (List ℕ))) (text : Bor (List ℕ)) → now_of (texts ++ text ∷ []) ≡ now_of texts ++ text.now ∷ []
now_of-more [] text = refl
now_of-more (next ∷ texts) text = ap (λ rest. next.now ∷ rest) (now_of-more texts text)

-- ---- lines

collects : (text_on : List ℕ → Option (List ℕ)) (most : ℕ) (lines : List (List ℕ)) (line : List ℕ) (found old new : List IpAddr)
    (said : Option IpAddr) → Collects text_on most lines found old → Spells (text_on line) said → new ≡ added most said old
    → Collects text_on most (lines ++ line ∷ []) found new
collects text_on most [] line found old new said so_far spells is = (said, spells, is ∙ ap (added most said) so_far)
collects text_on most (next ∷ lines) line found old new said (first, says, so_far) spells is =
    (first, says, collects text_on most lines line (added most first found) old new said so_far spells is)

-- one line more
pub collects-more : (text_on : List ℕ → Option (List ℕ)) (most : ℕ) (lines : List (Bor (List ℕ))) (line : Bor (List ℕ)) (old new : List IpAddr)
    (said : Option IpAddr) → Collects text_on most (now_of lines) [] old → Spells (text_on line.now) said → new ≡ added most said old
    → Collects text_on most (now_of (lines ++ line ∷ [])) [] new
collects-more text_on most lines line old new said so_far spells is =
    subst (λ texts. Collects text_on most texts [] new) (sym (now_of-more lines line))
    (collects text_on most (now_of lines) line.now [] old new said so_far spells is)

-- ---- words

or_false : (b : Bool) → (b || false) ≡ b
or_false true = refl
or_false false = refl

or_assoc : (a b c : Bool) → (a || (b || c)) ≡ ((a || b) || c)
or_assoc true b c = refl
or_assoc false b c = refl

any : (test : List ℕ → Bool) (words : List (List ℕ)) (word : List ℕ) → list_any test (words ++ word ∷ []) ≡ (list_any test words || test word)
any test [] word = or_false (test word)
any test (next ∷ words) word =
    ap (λ b. test next || b) (any test words word) ∙ or_assoc (test next) (list_any test words) (test word)

-- one word more
pub any-more : (test : List ℕ → Bool) (words : List (Bor (List ℕ))) (word : Bor (List ℕ)) (old same : Bool)
    → old ≡ list_any test (now_of words) → same ≡ test word.now → (old || same) ≡ list_any test (now_of (words ++ word ∷ []))
any-more test words word old same so_far is =
    ap (λ b. b || same) so_far ∙ ap (λ b. list_any test (now_of words) || b) is
    ∙ sym (ap (list_any test) (now_of-more words word) ∙ any test (now_of words) word.now)
