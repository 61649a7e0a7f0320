-- What becomes of lines, whatever they say.
use Rattle.std.proofs.Common.{◌≡◌, ◌≢◌, ◌≤◌, ℕ, Bool, true, false, not, List, [], ◌∷◌, ◌++◌, ◌&&◌, ◌==◌, Option, None, Some, length, nat_lt, codes, if◌then◌else◌, refl, sym, ◌∙◌, ap, inl, inr}
use Rattle.std.specs.List.{AllByRecursion}
use Rattle.std.specs.Str.{bytes_eq}
use Rattle.std.proofs.lemmas.Bool.{and_parts, and_right, cases_Bool, cond-false, cond-true, eqb-true, le-ltb, not-true, or_from}
use Rattle.std.proofs.lemmas.List.{append-nil, append_assoc}
use Rattle.bytetext.specs.Words.{after_word, first_word}
use Rattle.ircline.specs.Classes.{filled, is_end}
use Rattle.ircline.specs.Sources.{Source, Nobody, Person, Server, source_of}
use Rattle.floods.specs.declared.act.Act.{Act}
use Rattle.floods.specs.declared.command.Command.{Command}
use Rattle.floods.specs.declared.command.Command.TheVariants.{Joins, Kicks, Renames, Says, SetsModes}
use Rattle.floods.specs.declared.counts.Count.{Count}
use Rattle.floods.specs.declared.deed.Deed.{Deed}
use Rattle.floods.specs.declared.floods.Verdict.{Verdict}
use Rattle.floods.specs.declared.floods.Verdict.TheVariants.{Dropped, Ignores, Passes, PassesAndIgnores}
use Rattle.floods.specs.declared.ignores.Ignore.{Ignore}
use Rattle.floods.specs.declared.kind.FloodKind.{FloodKind}
use Rattle.floods.specs.declared.kind.FloodKind.TheVariants.{Channel, Ctcp, Deop, Join, Kick, Message, Nick}
use Rattle.floods.specs.declared.limits.Limit.{Limit}
use Rattle.floods.specs.declared.sieve.TheConstants.{MAX_LINE}
use Rattle.floods.specs.Acts.{act_by, act_of, by_source, command_named, deed_of, deops, is_channel, is_said, key_of, on_channel, person_of, place_of, second_of, target_of, told_by, words_of}
use Rattle.floods.specs.Sifting.{Sieving, after_bytes, are_short, at_byte, drops, given, longer, passed, sifted}
use Rattle.floods.specs.Watching.{HasNoLimits, Watch, after, after_by, after_limit, by_limit, if_ignored, if_over, is_ignored, is_over, unless, verdict, verdict_by, with_line}
use Rattle.floods.specs.Windows.{fresh, is_at, is_of, is_speech, kind_number, limit_of, window_in}

-- ---- ignores that are over

pub not_ignored : (now : ℕ) (key : List ℕ) (ignores : List Ignore) → AllByRecursion (λ ignore. ignore.until ≤ now) ignores
    → is_ignored now key ignores ≡ false
not_ignored now key [] all = refl
not_ignored now key (i ∷ is) all =
    or_from (bytes_eq i.key key && nat_lt now i.until) (is_ignored now key is)
    (and_right (bytes_eq i.key key) (nat_lt now i.until) (le-ltb now i.until all.0)) (not_ignored now key is all.1)

-- ---- lines that are not counted

uncounted : (person words name : List ℕ) → command_named name ≡ None → told_by person (command_named name) words ≡ None
unfolding told_by
uncounted person words name none = ap (λ (command : Option Command). told_by person command words) none

act-uncounted : (line : List ℕ) → command_named (first_word (words_of line)) ≡ None → act_of line ≡ None
act-uncounted line none = uncounted (person_of line) (after_word (words_of line)) (first_word (words_of line)) none

pub uncounted_passes : (trusted : List ℕ → Bool) (now : ℕ) (watch : Watch) (line : List ℕ)
    → command_named (first_word (words_of line)) ≡ None
    → (verdict trusted now watch line ≡ Passes) × (after trusted now watch line ≡ watch)
unfolding verdict after
uncounted_passes trusted now watch line none = (
  ap (verdict_by (trusted (person_of line)) now watch) (act-uncounted line none),
  ap (after_by (trusted (person_of line)) now watch) (act-uncounted line none),
)

unnamed : (b : ℕ) (bs : List ℕ) → b ≢ 58 → command_named (first_word (words_of (b ∷ bs))) ≡ None
unnamed b bs other =
    elim (cases_Bool (b == 58)) [
      | inl same ↦ absurd (other (eqb-true b 58 same))
      | inr differs ↦ ap (λ (words : List ℕ). command_named (first_word words)) (cond-false (b == 58) (after_word (b ∷ bs)) [] differs)
    ]

pub bare_passes : (trusted : List ℕ → Bool) (now : ℕ) (watch : Watch) (b : ℕ) (bs : List ℕ) → b ≢ 58
    → (verdict trusted now watch (b ∷ bs) ≡ Passes) × (after trusted now watch (b ∷ bs) ≡ watch)
bare_passes trusted now watch b bs other = uncounted_passes trusted now watch (b ∷ bs) (unnamed b bs other)

-- ---- lines that are counted, and that nobody says

-- no line that may be dropped
abbrev is_quiet : Option Act → Bool
is_quiet None = true
is_quiet (Some act) = not (is_speech act.kind)

source-quiet : (deed : Deed) → is_speech deed.kind ≡ false → (source : Source) → is_quiet (by_source deed source) ≡ true
source-quiet deed silent Nobody = refl
source-quiet deed silent (Server name) = refl
source-quiet deed silent (Person nick user host) =
    let act : Act = record { key = key_of user host; kind = deed.kind; place = deed.place; weight = deed.weight } in
    elim (cases_Bool (filled user && filled host)) [
      | inl whole ↦ ap is_quiet (cond-true (filled user && filled host) (Some act) None whole) ∙ ap not silent
      | inr part ↦ ap is_quiet (cond-false (filled user && filled host) (Some act) None part)
    ]

channel-quiet : (person : List ℕ) (kind : FloodKind) → is_speech kind ≡ false → (target : List ℕ) (weight : ℕ)
    → is_quiet (act_by person (on_channel kind target weight)) ≡ true
channel-quiet person kind silent target weight =
    let deed : Deed = record { kind = kind; place = place_of target; weight = weight } in
    let counts = is_channel target && nat_lt 0 weight in
    let by = λ (found : Option Deed). is_quiet (act_by person found) in
    elim (cases_Bool counts) [
      | inl holds ↦ ap by (cond-true counts (Some deed) None holds) ∙ source-quiet deed silent (source_of person)
      | inr fails ↦ ap by (cond-false counts (Some deed) None fails)
    ]

-- the command of a line that nobody says
abbrev unsaid : Bool → Bool → Bool → Bool → Option Command
unsaid joins renames kicks modes =
    if joins then Some Joins else if renames then Some Renames else if kicks then Some Kicks else if modes then Some SetsModes else None

unsaid-quiet : (person words : List ℕ) (joins renames kicks modes : Bool)
    → is_quiet (told_by person (unsaid joins renames kicks modes) words) ≡ true
unfolding told_by deed_of
unsaid-quiet person words true renames kicks modes = channel-quiet person Join refl (target_of words) 1
unsaid-quiet person words false true kicks modes = source-quiet (record { kind = Nick; place = []; weight = 1 }) refl (source_of person)
unsaid-quiet person words false false true modes = channel-quiet person Kick refl (target_of words) 1
unsaid-quiet person words false false false true = channel-quiet person Deop refl (target_of words) (deops (second_of words))
unsaid-quiet person words false false false false = refl

told-quiet : (person words name : List ℕ) → is_said name ≡ false → is_quiet (told_by person (command_named name) words) ≡ true
told-quiet person words name silent =
    let joins = bytes_eq (codes "JOIN") name in
    let renames = bytes_eq (codes "NICK") name in
    let kicks = bytes_eq (codes "KICK") name in
    let modes = bytes_eq (codes "MODE") name in
    ap (λ (command : Option Command). is_quiet (told_by person command words))
    (cond-false (is_said name) (Some Says) (unsaid joins renames kicks modes) silent)
    ∙ unsaid-quiet person words joins renames kicks modes

unless-none : (trusted : Bool) (verdict : Verdict) → drops verdict ≡ 0 → drops (unless trusted verdict) ≡ 0
unless-none true verdict none = refl
unless-none false verdict none = none

limit-quiet : (trusted : Bool) (now : ℕ) (watch : Watch) (act : Act) → is_speech act.kind ≡ false → (limit : Option Limit)
    → drops (by_limit trusted now watch act limit) ≡ 0
limit-quiet trusted now watch act silent None = refl
limit-quiet trusted now watch act silent (Some limit) =
    let over = is_over now watch act limit in
    elim (cases_Bool over) [
      | inl holds ↦ ap drops (cond-true over (unless trusted (if_over act.kind)) Passes holds)
          ∙ unless-none trusted (if_over act.kind) (ap drops (cond-false (is_speech act.kind) Ignores PassesAndIgnores silent))
      | inr fails ↦ ap drops (cond-false over (unless trusted (if_over act.kind)) Passes fails)
    ]

quiet-passes : (trusted : Bool) (now : ℕ) (watch : Watch) (act : Option Act) → is_quiet act ≡ true
    → drops (verdict_by trusted now watch act) ≡ 0
quiet-passes trusted now watch None quiet = refl
quiet-passes trusted now watch (Some act) quiet =
    let silent : is_speech act.kind ≡ false = not-true (is_speech act.kind) quiet in
    let ignored = is_ignored now act.key watch.ignores in
    let dropping = unless trusted (if_ignored act.kind) in
    let limited = by_limit trusted now watch act (limit_of watch.limits act.kind) in
    elim (cases_Bool ignored) [
      | inl holds ↦ ap drops (cond-true ignored dropping limited holds)
          ∙ unless-none trusted (if_ignored act.kind) (ap drops (cond-false (is_speech act.kind) Dropped Passes silent))
      | inr fails ↦ ap drops (cond-false ignored dropping limited fails)
          ∙ limit-quiet trusted now watch act silent (limit_of watch.limits act.kind)
    ]

pub unsaid_passes : (trusted : List ℕ → Bool) (now : ℕ) (watch : Watch) (line : List ℕ) → is_said (first_word (words_of line)) ≡ false
    → drops (verdict trusted now watch line) ≡ 0
unfolding verdict
unsaid_passes trusted now watch line silent =
    quiet-passes (trusted (person_of line)) now watch (act_of line)
    (told-quiet (person_of line) (after_word (words_of line)) (first_word (words_of line)) silent)

-- ---- lines on other channels

pub apart : (now : ℕ) (act : Act) (counts : List Count)
    → AllByRecursion (λ count. is_at act.kind count.place act.place ≡ false) counts → window_in counts act now ≡ fresh now
apart now act [] all = refl
apart now act (c ∷ cs) all =
    let same_key = bytes_eq c.key act.key in
    let same_place = is_at act.kind c.place act.place in
    cond-false (is_of act c) c.window (window_in cs act now)
    (and_right (kind_number c.kind == kind_number act.kind) (same_key && same_place) (and_right same_key same_place all.0))
    ∙ apart now act cs all.1

-- ---- trusted persons

by_limit-trusted : (now : ℕ) (watch : Watch) (act : Act) (limit : Option Limit) → by_limit true now watch act limit ≡ Passes
by_limit-trusted now watch act None = refl
by_limit-trusted now watch act (Some limit) =
    elim (cases_Bool (is_over now watch act limit)) [
      | inl over ↦ cond-true (is_over now watch act limit) (unless true (if_over act.kind)) Passes over
      | inr within ↦ cond-false (is_over now watch act limit) (unless true (if_over act.kind)) Passes within
    ]

verdict-trusted : (now : ℕ) (watch : Watch) (act : Option Act) → verdict_by true now watch act ≡ Passes
verdict-trusted now watch None = refl
verdict-trusted now watch (Some act) =
    let dropping = unless true (if_ignored act.kind) in
    let limited = by_limit true now watch act (limit_of watch.limits act.kind) in
    elim (cases_Bool (is_ignored now act.key watch.ignores)) [
      | inl ignored ↦ cond-true (is_ignored now act.key watch.ignores) dropping limited ignored
      | inr not_yet ↦ cond-false (is_ignored now act.key watch.ignores) dropping limited not_yet
          ∙ by_limit-trusted now watch act (limit_of watch.limits act.kind)
    ]

pub trusted_passes : (trusted : List ℕ → Bool) (now : ℕ) (watch : Watch) (line : List ℕ) → trusted (person_of line) ≡ true
    → verdict trusted now watch line ≡ Passes
unfolding verdict
trusted_passes trusted now watch line trust =
    ap (λ (b : Bool). verdict_by b now watch (act_of line)) trust ∙ verdict-trusted now watch (act_of line)

limit-begins : (now : ℕ) (watch : Watch) (act : Act) (limit : Option Limit)
    → (after_limit true now watch act limit).ignores ≡ watch.ignores
limit-begins now watch act None = refl
limit-begins now watch act (Some limit) =
    let line = with_line now watch act limit in
    elim (cases_Bool (is_over now watch act limit)) [
      | inl over ↦ ap (λ (w : Watch). w.ignores) (cond-true (is_over now watch act limit) watch line over)
      | inr within ↦ ap (λ (w : Watch). w.ignores) (cond-false (is_over now watch act limit) watch line within)
    ]

after-begins : (now : ℕ) (watch : Watch) (act : Option Act) → (after_by true now watch act).ignores ≡ watch.ignores
after-begins now watch None = refl
after-begins now watch (Some act) =
    let limited = after_limit true now watch act (limit_of watch.limits act.kind) in
    elim (cases_Bool (is_ignored now act.key watch.ignores)) [
      | inl ignored ↦ ap (λ (w : Watch). w.ignores) (cond-true (is_ignored now act.key watch.ignores) watch limited ignored)
      | inr not_yet ↦ ap (λ (w : Watch). w.ignores) (cond-false (is_ignored now act.key watch.ignores) watch limited not_yet)
          ∙ limit-begins now watch act (limit_of watch.limits act.kind)
    ]

pub trusted_begins_none : (trusted : List ℕ → Bool) (now : ℕ) (watch : Watch) (line : List ℕ) → trusted (person_of line) ≡ true
    → (after trusted now watch line).ignores ≡ watch.ignores
unfolding after
trusted_begins_none trusted now watch line trust =
    ap (λ (b : Bool). (after_by b now watch (act_of line)).ignores) trust ∙ after-begins now watch (act_of line)

-- ---- no limits

limit_of-none : (watch : Watch) → HasNoLimits watch → (kind : FloodKind) → limit_of watch.limits kind ≡ None
limit_of-none watch none Message = none.0
limit_of-none watch none Ctcp = none.1
limit_of-none watch none Channel = none.2
limit_of-none watch none Join = none.3
limit_of-none watch none Nick = none.4
limit_of-none watch none Kick = none.5
limit_of-none watch none Deop = none.6

verdict-free : (trusted : Bool) (now : ℕ) (watch : Watch) → HasNoLimits watch → (act : Option Act)
    → (verdict_by trusted now watch act ≡ Passes) × (after_by trusted now watch act ≡ watch)
verdict-free trusted now watch none None = (refl, refl)
verdict-free trusted now watch none (Some act) =
    let limit = limit_of watch.limits act.kind in
    let nobody = ap (is_ignored now act.key) none.7 in
    let unlimited = limit_of-none watch none act.kind in (
      cond-false (is_ignored now act.key watch.ignores) (unless trusted (if_ignored act.kind)) (by_limit trusted now watch act limit) nobody
          ∙ ap (by_limit trusted now watch act) unlimited,
      cond-false (is_ignored now act.key watch.ignores) watch (after_limit trusted now watch act limit) nobody
          ∙ ap (after_limit trusted now watch act) unlimited,
    )

free_passes : (trusted : List ℕ → Bool) (now : ℕ) (watch : Watch) → HasNoLimits watch → (line : List ℕ)
    → (verdict trusted now watch line ≡ Passes) × (after trusted now watch line ≡ watch)
unfolding verdict after
free_passes trusted now watch none line = verdict-free (trusted (person_of line)) now watch none (act_of line)

abbrev whole : (List ℕ → Bool) → ℕ → Sieving → List ℕ → List ℕ
whole trusted now sieve bytes = sifted trusted now sieve bytes ++ (after_bytes trusted now sieve bytes).line

all_pass : (trusted : List ℕ → Bool) (now : ℕ) (watch : Watch) → HasNoLimits watch → (line bytes : List ℕ) → are_short line bytes ≡ true
    → whole trusted now (record { watch = watch; line = line }) bytes ≡ line ++ bytes
all_pass trusted now watch none line [] short = sym (append-nil line)
all_pass trusted now watch none line (b ∷ bs) short =
    let sieve : Sieving = record { watch = watch; line = line } in
    let ended : Sieving = record { watch = after trusted now watch line; line = [] } in
    let going : Sieving = record { watch = watch; line = longer line b } in
    let passes = passed (verdict trusted now watch line) (line ++ b ∷ []) in
    let free = free_passes trusted now watch none line in
    let from = λ (given_now : List ℕ) (next : Sieving). given_now ++ sifted trusted now next bs ++ (after_bytes trusted now next bs).line in
    elim (cases_Bool (is_end b)) [
      | inl ends ↦
          let fresh : Sieving = record { watch = watch; line = [] } in
          let gives : given trusted now sieve b ≡ line ++ b ∷ [] =
          cond-true (is_end b) passes [] ends ∙ ap (λ (v : Verdict). passed v (line ++ b ∷ [])) free.0 in
          let goes : at_byte trusted now sieve b ≡ fresh =
          cond-true (is_end b) ended going ends ∙ ap (λ (w : Watch). record { watch = w; line = [] }) free.1 in
          let rest = all_pass trusted now watch none [] bs (sym (cond-true (is_end b) (are_short [] bs) (nat_lt (length line) MAX_LINE && are_short (line ++ b ∷ []) bs) ends) ∙ short) in
          ap (λ (g : List ℕ). from g (at_byte trusted now sieve b)) gives
          ∙ ap (from (line ++ b ∷ [])) goes
          ∙ append_assoc (line ++ b ∷ []) (sifted trusted now fresh bs) (after_bytes trusted now fresh bs).line
          ∙ ap (λ (r : List ℕ). line ++ b ∷ [] ++ r) rest
          ∙ append_assoc line (b ∷ []) bs
      | inr goes_on ↦
          let next : Sieving = record { watch = watch; line = line ++ b ∷ [] } in
          let parts = and_parts (nat_lt (length line) MAX_LINE) (are_short (line ++ b ∷ []) bs)
          (sym (cond-false (is_end b) (are_short [] bs) (nat_lt (length line) MAX_LINE && are_short (line ++ b ∷ []) bs) goes_on) ∙ short) in
          let gives : given trusted now sieve b ≡ [] = cond-false (is_end b) passes [] goes_on in
          let goes : at_byte trusted now sieve b ≡ next =
          cond-false (is_end b) ended going goes_on
          ∙ ap (λ (l : List ℕ). record { watch = watch; line = l }) (cond-true (nat_lt (length line) MAX_LINE) (line ++ b ∷ []) line parts.0) in
          ap (λ (g : List ℕ). from g (at_byte trusted now sieve b)) gives
          ∙ ap (from []) goes
          ∙ all_pass trusted now watch none (line ++ b ∷ []) bs parts.1
          ∙ append_assoc line (b ∷ []) bs
    ]

pub without_limits_all_pass : (trusted : List ℕ → Bool) (now : ℕ) (sieve : Sieving) (bytes : List ℕ) → HasNoLimits sieve.watch
    → are_short sieve.line bytes ≡ true → whole trusted now sieve bytes ≡ sieve.line ++ bytes
without_limits_all_pass trusted now sieve bytes none short = all_pass trusted now sieve.watch none sieve.line bytes short
