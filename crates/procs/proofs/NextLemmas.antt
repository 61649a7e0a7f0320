-- What follows an occasion, by the calls that were made.
use Rattle.std.proofs.Common.{◌≡◌, ◌∙◌, ℕ, List, [], ◌∷◌, ◌++◌, Bool, true, false, if◌then◌else◌, ◌||◌, ◌&&◌, not, map, length, drop, refl, ap, sym, append_assoc}
use Rattle.std.proofs.Math.Seq.{drop-append_seam}
use Rattle.std.proofs.lemmas.List.Elements.{filter_map-append}
use Rattle.procs.specs.Promises.{Promised}
use Rattle.procs.specs.Seen.{Seen}
use Rattle.procs.specs.Tellings.{Telling, called_in, calls_in}
use Rattle.std.specs.List.{list_any}
use Rattle.std.proofs.lemmas.List.{length-map, drop-map}
use Rattle.procs.specs.declared.made_call.MadeCall.{MadeCall}
use Rattle.procs.specs.Made.{Made, IsMade, IsFrontMade, Adds, entry_of}
use Rattle.procs.specs.Dispatching.{Setting, is_one, is_raw, has_one, has_raw_one, is_logged, is_silencing, is_word, next_of, next_after, told, told_alone, told_from}
use Rattle.procs.specs.Occasions.{kind_for}
use Rattle.procs.specs.declared.next.Next.{Next}
use Rattle.procs.specs.declared.next.Next.TheVariants.{Go}
use Rattle.procs.specs.declared.trigger.Trigger.{Trigger}

pub has_one_entries : (calls : List MadeCall) → has_one (map entry_of calls) ≡ list_any (λ m. is_one m.reply.code) calls
has_one_entries [] = refl
has_one_entries (m ∷ ms) = ap (λ b. is_one m.reply.code || b) (has_one_entries ms)

pub length_entries : (calls : List MadeCall) → length (map entry_of calls) ≡ length calls
length_entries calls = length-map calls entry_of

pub is_logged_entries : (calls : List MadeCall) → is_logged (map entry_of calls) ≡ not (list_any (λ m. is_silencing m.call.kind && is_one m.reply.code) calls)
is_logged_entries calls = ap not (by calls)
  where
    by : (calls : List MadeCall) → list_any (λ e. is_silencing e.call.kind && is_one e.code) (map entry_of calls)
        ≡ list_any (λ m. is_silencing m.call.kind && is_one m.reply.code) calls
    by [] = refl
    by (m ∷ ms) = ap (λ b. (is_silencing m.call.kind && is_one m.reply.code) || b) (by ms)

pub has_raw_one_entries : (calls : List MadeCall) → has_raw_one (map entry_of calls) ≡ list_any (λ m. is_raw m.call.kind && is_one m.reply.code) calls
has_raw_one_entries [] = refl
has_raw_one_entries (m ∷ ms) = ap (λ b. (is_raw m.call.kind && is_one m.reply.code) || b) (has_raw_one_entries ms)

-- the calls that came with a part of what was made
pub calls_since-part : (promised : Promised) (seen : Seen) (old new : Made) (before part : List Telling) (count : ℕ)
    → IsMade promised seen old before → IsMade promised seen new (before ++ part) → count ≡ length old.calls
    → map entry_of (drop count new.calls) ≡ calls_in part
calls_since-part promised seen old new before part count made more is =
    let count_is : count ≡ length (calls_in before) = is ∙ sym (length-map old.calls entry_of) ∙ ap length made.calls in
    let all : map entry_of new.calls ≡ calls_in before ++ calls_in part = more.calls ∙ filter_map-append called_in before part in
    sym (drop-map entry_of count new.calls) ∙ ap (drop count) all ∙ ap (λ (n : ℕ). drop n (calls_in before ++ calls_in part)) count_is
    ∙ drop-append_seam (calls_in before) (calls_in part)

-- an occasion whose text isn't taken
pub told-loud : (setting : Setting) (taken : Bool) (occasion : Trigger) → (setting.exclusive && (taken && is_word (kind_for occasion))) ≡ false
    → told setting taken occasion ≡ told_alone setting occasion
told-loud setting taken occasion loud = ap (λ (t : Bool). if t then [] else told_alone setting occasion) loud

-- one more occasion was dispatched, and the rest are left
pub dispatched-more : (promised : Promised) (seen : Seen) (setting : Setting) (old new : Made) (next after : Next) (taken : Bool) (occasion : Trigger)
    (rest behind : List Trigger) (done all : List Telling) (count : ℕ) (calls : List MadeCall)
    → rest ≡ occasion ∷ behind → next ≡ Go taken → done ++ told_from setting next rest ≡ all
    → IsMade promised seen old done → Adds promised seen old (told setting taken occasion) new
    → count ≡ length old.calls → calls ≡ drop count new.calls → after ≡ next_of (kind_for occasion) (map entry_of calls)
    → (so_far : List Telling) × IsMade promised seen new so_far × (so_far ++ told_from setting after behind ≡ all)
dispatched-more promised seen setting old new next after taken occasion rest behind done all count calls first goes whole made adds count_is calls_are after_is =
    let here : List Telling = told setting taken occasion in
    let more : IsMade promised seen new (done ++ here) = adds done made in
    let follows : after ≡ next_after (kind_for occasion) here = after_is ∙ ap (next_of (kind_for occasion))
    (ap (map entry_of) calls_are ∙ calls_since-part promised seen old new done here count made more count_is) in
    let split : told_from setting next rest ≡ here ++ told_from setting (next_after (kind_for occasion) here) behind = rw (goes, first) refl in (
      done ++ here,
      more,
      append_assoc done here (told_from setting after behind)
          ∙ ap (λ (n : Next). done ++ (here ++ told_from setting n behind)) follows ∙ ap (λ (ts : List Telling). done ++ ts) (sym split) ∙ whole,
    )

-- what some of the later occasions are, some of all are
pub any-behind : (test : Trigger → Bool) (rest behind : List Trigger) (occasion : Trigger) → rest ≡ occasion ∷ behind → list_any test behind ≡ true
    → list_any test rest ≡ true
any-behind test rest behind occasion first some = ap (list_any test) first ∙ ap (λ (b : Bool). test occasion || b) some ∙ by (test occasion)
  where
    by : (b : Bool) → (b || true) ≡ true
    by true = refl
    by false = refl

-- where an occasion stops early, the first calls of all have been made
pub IsFrontMade-occasion : (promised : Promised) (seen : Seen) (setting : Setting) (new : Made)
    (next : Next) (taken : Bool) (occasion : Trigger) (rest behind : List Trigger) (done all : List Telling)
    → rest ≡ occasion ∷ behind → next ≡ Go taken → done ++ told_from setting next rest ≡ all
    → IsFrontMade promised seen new (done ++ told setting taken occasion) → IsFrontMade promised seen new all
IsFrontMade-occasion promised seen setting new next taken occasion rest behind done all first goes whole front =
    let more : List Telling = told_from setting (next_after (kind_for occasion) (told setting taken occasion)) behind in
    let split : told_from setting next rest ≡ told setting taken occasion ++ more = rw (goes, first) refl in
    let shown : all ≡ (done ++ told setting taken occasion) ++ more
    = sym whole ∙ ap (λ (ts : List Telling). done ++ ts) split ∙ sym (append_assoc done (told setting taken occasion) more) in
    (front.0, front.1 ++ more, shown ∙ ap (λ (ts : List Telling). ts ++ more) front.2 ∙ append_assoc front.0 front.1 more, front.3)
