-- The words of the lines that the procs send.
use Rattle.std.proofs.Common.{◌≡◌, ◌∙◌, ◌==◌, ◌+◌, ◌∷◌, ◌++◌, not, ℕ, List, [], length, take, drop, Bool, true, false, cond, refl, ap, sym, arith, codes, append_assoc, if◌then◌else◌}
use Rattle.std.specs.List.{list_all}
use Rattle.std.specs.Str.{bytes_eq}
use Rattle.std.proofs.lemmas.Bool.{and_parts}
use Rattle.std.proofs.lemmas.List.{take_all, take-append-le}
use Rattle.bytetext.specs.Words.{spaces_len, trimmed, word_len, first_word, after_word}
use Rattle.eggprocs.specs.declared.effects.LineEffect.TheVariants.{Kick, Other}
use Rattle.eggprocs.specs.Effects.{after_channel, is_kick, effect_of}
use Rattle.eggprocs.specs.Lines.{mode, kick}
use Rattle.eggprocs.specs.TurnLaws.{is_word, ReadsModes, ReadsKicks}

-- ---- words

abbrev lacks_space : List ℕ → Bool
lacks_space text = list_all (λ b. not (b == 32)) text

-- a text begins with another byte than a space
abbrev begins : List ℕ → Bool
begins [] = false
begins (b ∷ bs) = not (b == 32)

length-alone : (word : List ℕ) → lacks_space word ≡ true → word_len word ≡ length word
length-alone [] none = refl
length-alone (b ∷ bs) none =
    let parts = and_parts (not (b == 32)) (lacks_space bs) none in
    ap (λ (t : Bool). cond t (1 + word_len bs) 0) parts.0 ∙ omega (arith, length-alone bs parts.1)

first-alone : (word : List ℕ) → lacks_space word ≡ true → first_word word ≡ word
first-alone word none = ap (λ (n : ℕ). take n word) (length-alone word none) ∙ take_all (length word) word (omega arith)

-- a word, a space, and what follows
length-front : (word rest : List ℕ) → lacks_space word ≡ true → word_len (word ++ 32 ∷ rest) ≡ length word
length-front [] rest none = refl
length-front (b ∷ bs) rest none =
    let parts = and_parts (not (b == 32)) (lacks_space bs) none in
    ap (λ (t : Bool). cond t (1 + word_len (bs ++ 32 ∷ rest)) 0) parts.0 ∙ omega (arith, length-front bs rest parts.1)

first-front : (word rest : List ℕ) → lacks_space word ≡ true → first_word (word ++ 32 ∷ rest) ≡ word
first-front word rest none =
    ap (λ (n : ℕ). take n (word ++ 32 ∷ rest)) (length-front word rest none)
    ∙ take-append-le (length word) word (32 ∷ rest) (omega arith)
    ∙ take_all (length word) word (omega arith)

drop-front : (front rest : List ℕ) → drop (length front) (front ++ rest) ≡ rest
drop-front [] rest = refl
drop-front (b ∷ bs) rest = drop-front bs rest

trimmed-one : (rest : List ℕ) → begins rest ≡ true → trimmed (32 ∷ rest) ≡ rest
trimmed-one [] starts = cc
trimmed-one (b ∷ bs) starts = ap (λ (t : Bool). drop (1 + cond (not t) (1 + spaces_len bs) 0) (32 ∷ b ∷ bs)) starts

after-front : (word rest : List ℕ) → lacks_space word ≡ true → begins rest ≡ true → after_word (word ++ 32 ∷ rest) ≡ rest
after-front word rest none starts =
    ap (λ (n : ℕ). trimmed (drop n (word ++ 32 ∷ rest))) (length-front word rest none)
    ∙ ap trimmed (drop-front word (32 ∷ rest))
    ∙ trimmed-one rest starts

word-lacks : (word : List ℕ) → is_word word ≡ true → lacks_space word ≡ true
word-lacks word is = (and_parts (not (length word == 0)) (lacks_space word) is).1

-- a word begins what it is the front of
word-begins : (word rest : List ℕ) → is_word word ≡ true → begins (word ++ rest) ≡ true
word-begins [] rest is = cc
word-begins (b ∷ bs) rest is = (and_parts (not (b == 32)) (lacks_space bs) (word-lacks (b ∷ bs) is)).0

-- ---- lines

mode-is : (channel change nick : List ℕ) → mode channel change nick ≡ codes "MODE" ++ 32 ∷ (channel ++ 32 ∷ (change ++ 32 ∷ nick))
mode-is channel change nick = simp append_assoc refl

kick-is : (channel nick reason : List ℕ) → kick channel nick reason ≡ codes "KICK" ++ 32 ∷ (channel ++ 32 ∷ (nick ++ 32 ∷ (58 ∷ reason)))
kick-is channel nick reason = simp append_assoc refl

pub reads-modes : (change : List ℕ) → is_word change ≡ true → ReadsModes change (effect_of change)
reads-modes change plain channel nick is_channel is_nick = record {
  effect =
      ap (λ (kicks : Bool). if kicks then Kick else if bytes_eq (first_word line) (codes "MODE") then effect_of (first_word (after_channel line)) else Other) no_kick
      ∙ ap (λ (word : List ℕ). if bytes_eq word (codes "MODE") then effect_of (first_word (after_channel line)) else Other) command
      ∙ ap (λ (text : List ℕ). effect_of (first_word text)) second
      ∙ ap effect_of (first-front change nick (word-lacks change plain));
  channel = ap first_word first ∙ first-front channel (change ++ 32 ∷ nick) (word-lacks channel is_channel);
  nick =
      ap (λ (kicks : Bool). if kicks then first_word (after_channel line) else first_word (after_word (after_channel line))) no_kick
      ∙ ap (λ (text : List ℕ). first_word (after_word text)) second
      ∙ ap first_word (after-front change nick (word-lacks change plain) nick-begins)
      ∙ first-alone nick (word-lacks nick is_nick);
}
  where
    line : List ℕ
    line = mode channel change nick

    nick-begins : begins nick ≡ true
    nick-begins = ap begins (sym (append-none nick)) ∙ word-begins nick [] is_nick
      where
        append-none : (xs : List ℕ) → xs ++ [] ≡ xs
        append-none [] = refl
        append-none (x ∷ xs) = ap (λ (l : List ℕ). x ∷ l) (append-none xs)

    command : first_word line ≡ codes "MODE"
    command = ap first_word (mode-is channel change nick) ∙ first-front (codes "MODE") (channel ++ 32 ∷ (change ++ 32 ∷ nick)) refl

    no_kick : is_kick line ≡ false
    no_kick = ap (λ (word : List ℕ). bytes_eq word (codes "KICK")) command

    first : after_word line ≡ channel ++ 32 ∷ (change ++ 32 ∷ nick)
    first =
        ap after_word (mode-is channel change nick)
        ∙ after-front (codes "MODE") (channel ++ 32 ∷ (change ++ 32 ∷ nick)) refl (word-begins channel (32 ∷ (change ++ 32 ∷ nick)) is_channel)

    second : after_channel line ≡ change ++ 32 ∷ nick
    second = ap after_word first
        ∙ after-front channel (change ++ 32 ∷ nick) (word-lacks channel is_channel) (word-begins change (32 ∷ nick) plain)

pub reads-kicks : ReadsKicks
reads-kicks channel nick reason is_channel is_nick = record {
  effect = ap (λ (kicks : Bool). if kicks then Kick else if bytes_eq (first_word line) (codes "MODE") then effect_of (first_word (after_channel line)) else Other) kicks;
  channel = ap first_word first ∙ first-front channel rest (word-lacks channel is_channel);
  nick =
      ap (λ (kicks : Bool). if kicks then first_word (after_channel line) else first_word (after_word (after_channel line))) kicks
      ∙ ap first_word second
      ∙ first-front nick (58 ∷ reason) (word-lacks nick is_nick);
}
  where
    line : List ℕ
    line = kick channel nick reason

    rest : List ℕ
    rest = nick ++ 32 ∷ (58 ∷ reason)

    kicks : is_kick line ≡ true
    kicks = ap (λ (word : List ℕ). bytes_eq word (codes "KICK")) (ap first_word (kick-is channel nick reason) ∙ first-front (codes "KICK") (channel ++ 32 ∷ rest) refl)

    first : after_word line ≡ channel ++ 32 ∷ rest
    first = ap after_word (kick-is channel nick reason) ∙ after-front (codes "KICK") (channel ++ 32 ∷ rest) refl (word-begins channel (32 ∷ rest) is_channel)

    second : after_channel line ≡ rest
    second = ap after_word first ∙ after-front channel rest (word-lacks channel is_channel) (word-begins nick (32 ∷ (58 ∷ reason)) is_nick)
