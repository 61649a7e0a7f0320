-- The share of what a proc wants: what each of its actions keeps.
use Rattle.std.proofs.Common.{◌≡◌, ◌∙◌, ◌||◌, ◌==◌, ◌*◌, ◌∷◌, ℕ, List, [], take, Bool, true, false, refl, ap, sym, subst, codes, if◌then◌else◌, Option, Some, None}
use Rattle.std.specs.List.{list_all, filter_map, cons_option}
use Rattle.std.specs.Str.{bytes_eq}
use Rattle.std.proofs.lemmas.Bool.{and_from, and_parts, or_right}
use Rattle.std.proofs.lemmas.List.Elements.{All-take}
use Rattle.std.proofs.lemmas.List.Sums.{AllPass-from_list_all, list_all-from_AllPass}
use Rattle.std.proofs.lemmas.Slice.Eq.{bytes_eq-Decides}
use Rattle.bytetext.specs.Words.{after_word}
use Rattle.procs.specs.declared.action.Action.{Action}
use Rattle.procs.specs.declared.action.Action.TheVariants.{Ask, Timer, Utimer, KillTimer, SendBot, Put}
use Rattle.procs.specs.declared.call.Call.{Call}
use Rattle.procs.specs.declared.limits.TheConstants.{MAX_ACTIONS}
use Rattle.procs.specs.Seen.{Seen}
use Rattle.eggprocs.specs.declared.duties.Duty.{Duty}
use Rattle.eggprocs.specs.declared.looks.TheConstants.{LOOK_SECONDS}
use Rattle.eggprocs.specs.Effects.{target_in}
use Rattle.eggprocs.specs.Laws.{is_line_in_turn}
use Rattle.eggprocs.specs.Looks.{look_text, look_after, look_if, or_at_once, address_now, look_for}
use Rattle.eggprocs.specs.Turns.{turn_of, has_look, by_turn, share_out}

-- ---- shares

-- the share of nothing is nothing
pub share-none : (duty : Duty) (call : Call) (seen : Seen) → share_out duty call seen [] ≡ []
share-none duty call seen = by (turn_of duty call seen == 0) (has_look duty (turn_of duty call seen))
  where
    by : (first turns : Bool) → (if first then [] else if turns then take MAX_ACTIONS (filter_map (look_for (turn_of duty call seen) call seen) []) else []) ≡ []
    by true turns = refl
    by false true = refl
    by false false = refl

-- the share of a bot that looks
pub share-looks : (duty : Duty) (turn : ℕ) (call : Call) (seen : Seen) (wanted slice actions : List Action) → turn ≡ turn_of duty call seen
    → (turn == 0) ≡ false → has_look duty turn ≡ true → slice ≡ wanted
    → actions ≡ take MAX_ACTIONS (filter_map (look_for turn call seen) slice) → actions ≡ share_out duty call seen wanted
share-looks duty turn call seen wanted slice actions at later looks same is =
    let found : List Action = take MAX_ACTIONS (filter_map (look_for turn call seen) wanted) in
    is
    ∙ ap (λ (list : List Action). take MAX_ACTIONS (filter_map (look_for turn call seen) list)) same
    ∙ sym (ap (λ (b : Bool). if b then wanted else if has_look duty turn then found else []) later ∙ ap (λ (b : Bool). if b then found else []) looks)
    ∙ ap (λ (t : ℕ). by_turn duty t call seen wanted) at

-- the look for an action passes a test that the action passes
abbrev pub KeepsLooks : Call → Seen → (Action → Bool) → Type 0
KeepsLooks call seen is_right =
    (turn : ℕ) (action look : Action) → look_for turn call seen action ≡ Some look → is_right action ≡ true → is_right look ≡ true

-- the look passes one of two tests if the action does
pub either-kept : (call : Call) (seen : Seen) (p q : Action → Bool) → KeepsLooks call seen p → KeepsLooks call seen q
    → KeepsLooks call seen (λ action. p action || q action)
either-kept call seen p q first second turn action look is right = by (p action) (q action) refl refl right
  where
    by : (a b : Bool) → p action ≡ a → q action ≡ b → (a || b) ≡ true → (p look || q look) ≡ true
    by true b one other some = ap (λ (x : Bool). x || q look) (first turn action look is one)
    by false true one other some = or_right (p look) (q look) (second turn action look is other)
    by false false one other some = cc

looks-only : (is_right : Action → Bool) (turn : ℕ) (call : Call) (seen : Seen) → KeepsLooks call seen is_right
    → (wanted : List Action) → list_all is_right wanted ≡ true → list_all is_right (filter_map (look_for turn call seen) wanted) ≡ true
looks-only is_right turn call seen keeps [] all = refl
looks-only is_right turn call seen keeps (action ∷ actions) all =
    let parts = and_parts (is_right action) (list_all is_right actions) all in
    by (look_for turn call seen action) (λ look is. keeps turn action look is parts.0) (looks-only is_right turn call seen keeps actions parts.1)
  where
    by : (given : Option Action) → ((look : Action) → given ≡ Some look → is_right look ≡ true)
        → list_all is_right (filter_map (look_for turn call seen) actions) ≡ true
        → list_all is_right (cons_option given (filter_map (look_for turn call seen) actions)) ≡ true
    by None here rest = rest
    by (Some look) here rest = and_from (is_right look) (list_all is_right (filter_map (look_for turn call seen) actions)) (here look refl) rest

pub share-only : (is_right : Action → Bool) (duty : Duty) (call : Call) (seen : Seen) (wanted : List Action) → KeepsLooks call seen is_right
    → list_all is_right wanted ≡ true → list_all is_right (share_out duty call seen wanted) ≡ true
share-only is_right duty call seen wanted keeps all =
    by (turn_of duty call seen == 0) (has_look duty (turn_of duty call seen))
  where
    looks : List Action
    looks = filter_map (look_for (turn_of duty call seen) call seen) wanted

    by : (first turns : Bool) → list_all is_right (if first then wanted else if turns then take MAX_ACTIONS looks else []) ≡ true
    by true turns = all
    by false false = refl
    by false true = list_all-from_AllPass is_right (take MAX_ACTIONS looks)
        (All-take (λ action. is_right action ≡ true) MAX_ACTIONS looks
        (AllPass-from_list_all is_right looks (looks-only is_right (turn_of duty call seen) call seen keeps wanted all)))

-- ---- looks

-- a look after so many seconds, if there is an address
abbrev pub after_if : ℕ → List ℕ → Option (List ℕ) → Option Action
after_if seconds line None = None
after_if seconds line (Some address) = look_after seconds line address

abbrev in_turn_if : List ℕ → Option Action → Bool
in_turn_if line None = true
in_turn_if line (Some action) = is_line_in_turn line action

-- the look for a line is for that line
look-line : (turn : ℕ) (line wanted : List ℕ) (address : Option (List ℕ)) (look : Action) → look_if turn wanted address ≡ Some look
    → bytes_eq wanted line ≡ true → is_line_in_turn line look ≡ true
look-line turn line wanted None look is same = cc
look-line turn line wanted (Some address) look is same = by (bytes_eq (after_word (look_text address wanted)) wanted) refl is
  where
    by : (reads : Bool) → bytes_eq (after_word (look_text address wanted)) wanted ≡ reads
        → (if reads then Some (Utimer (record { interval = turn * LOOK_SECONDS; count = 1; proc = codes "later"; text = look_text address wanted })) else None) ≡ Some look
        → is_line_in_turn line look ≡ true
    by true reads here = subst (λ (one : Option Action). in_turn_if line one ≡ true) here
        ((bytes_eq-Decides (after_word (look_text address wanted)) line).1
        ((bytes_eq-Decides (after_word (look_text address wanted)) wanted).0 reads ∙ (bytes_eq-Decides wanted line).0 same))
    by false reads here = cc

-- a look in place of a line, or the line at once, is that line in turn
pub in-place : (seconds : ℕ) (line : List ℕ) (address : Option (List ℕ)) → is_line_in_turn line (or_at_once line (after_if seconds line address)) ≡ true
in-place seconds line None = ap (λ (b : Bool). b || false) ((bytes_eq-Decides line line).1 refl)
in-place seconds line (Some address) = by (bytes_eq (after_word (look_text address line)) line) refl
  where
    by : (reads : Bool) → bytes_eq (after_word (look_text address line)) line ≡ reads
        → is_line_in_turn line (or_at_once line
        (if reads then Some (Utimer (record { interval = seconds; count = 1; proc = codes "later"; text = look_text address line })) else None)) ≡ true
    by true reads = reads
    by false reads = ap (λ (b : Bool). b || false) ((bytes_eq-Decides line line).1 refl)

pub keeps-line : (line : List ℕ) (call : Call) (seen : Seen) → KeepsLooks call seen (is_line_in_turn line)
keeps-line line call seen turn (Put wish) look is right =
    look-line turn line wish.line (address_now call seen (target_in wish.line)) look is (or-none (bytes_eq wish.line line) right)
  where
    or-none : (b : Bool) → (b || false) ≡ true → b ≡ true
    or-none true e = refl
    or-none false e = e
keeps-line line call seen turn (Ask change) look is right = cc
keeps-line line call seen turn (Timer wish) look is right = cc
keeps-line line call seen turn (Utimer wish) look is right = cc
keeps-line line call seen turn (KillTimer name) look is right = cc
keeps-line line call seen turn (SendBot wish) look is right = cc
