-- The lines that the server writes are lines as the protocol allows them, and read as messages.
use Rattle.std.proofs.Common.{◌≡◌, ℕ, ◌+◌, ◌-◌, ◌<◌, ◌≤◌, true, ◌&&◌, ◌==◌, List, [], ◌∷◌, ◌++◌, cond, take, length, nat_le, refl, sym, ◌∙◌, ap, subst, arith}
use Rattle.std.specs.Prelude.{nat_lt}
use Rattle.std.specs.List.{list_all, flat_map}
use Rattle.std.proofs.lemmas.Bool.{and_from, and_parts, cond_both, cond-false, lt-ltb, le-ltb, le-leb, leb-true}
use Rattle.std.proofs.lemmas.List.{length-take, length-append}
use Rattle.std.proofs.lemmas.List.Folds.{list_all-append}
use Rattle.ircline.specs.Classes.{filled, octet, middle, trailing, names}
use Rattle.ircline.specs.Carrying.{carries_prefix, carries_params, carries}
use Rattle.ircline.specs.Words.{holds}
use Rattle.ircline.specs.Reading.{flush, line_at}
use Rattle.ircline.specs.Printing.{wants_colon, last_text, canonical, ReadsBack}
use Rattle.ircline.specs.declared.line.Line.TheVariants as line
use Rattle.ircline.specs.declared.fault.LineFault.TheVariants as fault
use Rattle.ircline.proofs.TextLemmas.{all-append, octet-nul, none-all}
use Rattle.ircline.proofs.PrintingLemmas.{carried_reads}
use Rattle.miniircd.specs.Rooms.{room}
use Rattle.miniircd.specs.Mail.{is_message, is_readable, is_line}
use Rattle.miniircd.specs.Lines.{Relays, relay, relay_message, shown, numbered_head, numbered, cut, head, relayed}
use Rattle.miniircd.proofs.CutLemmas.{cut_longest, relayed_canonical}
use Rattle.miniircd.proofs.ListLemmas.{list_all-taken}

line_from : (text : List ℕ) → 0 < length text → length text ≤ 510 → list_all octet text ≡ true → is_line text ≡ true
line_from text there short all = and_from _ _ (lt-ltb 0 (length text) there) (and_from _ _ (le-leb (length text) 510 short) all)

shown_octets : (nick : List ℕ) → list_all octet nick ≡ true → list_all octet (shown nick) ≡ true
shown_octets nick all = cond_both (filled nick) nick (42 ∷ []) (λ l. list_all octet l ≡ true) (λ is. all) (λ isnt. refl)

shown_short : (nick : List ℕ) → length nick ≤ 30 → length (shown nick) ≤ 30
shown_short nick short = cond_both (filled nick) nick (42 ∷ []) (λ l. length l ≤ 30) (λ is. short) (λ isnt. omega arith)

numbered_head-octets : (nick code words : List ℕ) → list_all octet nick ≡ true → list_all octet code ≡ true → list_all octet words ≡ true
    → list_all octet (numbered_head nick code words) ≡ true
numbered_head-octets nick code words n k w =
    let m = shown_octets nick n in
    simp (list_all-append, k, m, w)

length-numbered_head : (nick code words : List ℕ)
    → length (numbered_head nick code words) ≡ 13 + (length code + (length (shown nick) + length words))
length-numbered_head nick code words = simp length-append (omega arith)

pub numbered_line : (nick code words last : List ℕ) → list_all octet nick ≡ true → length nick ≤ 30
    → list_all octet code ≡ true → length code ≤ 3
    → list_all octet words ≡ true → length words ≤ 400 → trailing last ≡ true → is_line (numbered nick code words last) ≡ true
numbered_line nick code words last n nick_short k code_short w words_short l =
    let front = numbered_head nick code words in
    let back = take (510 - length front) last in
    let whole = length-append front back in
    let cut_to = length-take (510 - length front) last in
    let size = length-numbered_head nick code words in
    let shown_is = shown_short nick nick_short in
    line_from (numbered nick code words last) (omega arith) (omega arith)
    (all-append octet front back (numbered_head-octets nick code words n k w) (list_all-taken octet (510 - length front) last l))

pub length-head : (source command words : List ℕ)
    → length (head source command words) ≡ 2 + (length source + (length command + length words))
length-head source command words = simp length-append (omega arith)

head_octets : (source command words : List ℕ) → list_all octet source ≡ true → list_all octet command ≡ true → list_all octet words ≡ true
    → list_all octet (head source command words) ≡ true
head_octets source command words s c w =
    simp (list_all-append, s, c, w)

last_octets : (last : List ℕ) → list_all octet last ≡ true → list_all octet (last_text last) ≡ true
last_octets last all = cond_both (wants_colon last) (58 ∷ last) last (λ l. list_all octet (32 ∷ l) ≡ true) (λ is. all) (λ isnt. all)

cut_octets : (room : ℕ) (last : List ℕ) → list_all octet last ≡ true → list_all octet (cut room last) ≡ true
cut_octets room last all =
    cond_both (wants_colon (take room last) && nat_le room (length last)) (take (room - 1) last) (take room last) (λ l. list_all octet l ≡ true)
    (λ is. list_all-taken octet (room - 1) last all) (λ isnt. list_all-taken octet room last all)

-- ---- lines that read as messages

-- a text without NUL, CR and LF that isn't too long reads as what stands in it
reads_from : (text : List ℕ) → is_line text ≡ true → is_message (line_at (flush text)) ≡ true → is_readable text ≡ true
reads_from text is reads =
    let more = and_parts (nat_le (length text) 510) (list_all octet text)
    (and_parts (filled text) (nat_le (length text) 510 && list_all octet text) is).1 in
    let short = le-ltb 510 (length text) (leb-true (length text) 510 more.0) in
    let clean = none-all (λ b. b == 0) octet octet-nul text more.1 in
    ap is_message (cond-false (nat_lt 510 (length text)) (line.Bad fault.TooLong)
    (cond (holds 0 text) (line.Bad fault.NulByte) (line_at (flush text))) short
    ∙ cond-false (holds 0 text) (line.Bad fault.NulByte) (line_at (flush text)) clean) ∙ reads

pub numbered_reads : (nick code words last : List ℕ) → is_line (numbered nick code words last) ≡ true
    → is_message (line_at (flush (numbered nick code words last))) ≡ true
    → (is_line (numbered nick code words last) && is_readable (numbered nick code words last)) ≡ true
numbered_reads nick code words last is reads =
    and_from _ _ is (reads_from (numbered nick code words last) is reads)

-- ---- lines that are passed on

params_carried : (middles : List (List ℕ)) (last : List ℕ) → list_all middle middles ≡ true → trailing last ≡ true
    → carries_params (middles ++ last ∷ []) ≡ true
params_carried [] last all is = is
params_carried (word ∷ []) last all is = and_from (middle word) (trailing last) (and_parts (middle word) true all).0 is
params_carried (word ∷ next ∷ middles) last all is =
    let parts = and_parts (middle word) (list_all middle (next ∷ middles)) all in
    and_from (middle word) (carries_params ((next ∷ middles) ++ last ∷ [])) parts.0 (params_carried (next ∷ middles) last parts.1 is)

prefix_carried : (source : List ℕ) → names source ≡ true → carries_prefix source ≡ true
prefix_carried [] is = refl
prefix_carried (b ∷ bs) is = is

relay_short : (source command last : List ℕ) (middles : List (List ℕ)) → Relays source command last middles
    → length (relay source command last middles) ≤ 510
relay_short source command last middles r =
    let front = head source command (flat_map (λ word. 32 ∷ word) middles) in
    let room = 509 - length front in
    let short = r.short in
    let fits = (cut_longest room last (omega arith)).0 in
    omega (arith, length-append front (last_text (cut room last)))

relay_carried : (source command last : List ℕ) (middles : List (List ℕ)) → Relays source command last middles
    → carries (relay_message source command last middles) ≡ true
relay_carried source command last middles r =
    let m = relay_message source command last middles in
    let front = cut (509 - length (head source command (flat_map (λ word. 32 ∷ word) middles))) last in
    let few = r.few in
    let count : length (middles ++ front ∷ []) ≤ 15 = omega (arith, length-append middles (front ∷ [])) in
    let size = ap length (relayed_canonical source command last middles r.there) in
    let short : length (canonical m) ≤ 510 = subst (λ n. n ≤ 510) size (relay_short source command last middles r) in
    and_from _ _ r.kept (and_from _ _ (prefix_carried source r.named) (and_from _ _ (le-leb (length (middles ++ front ∷ [])) 15 count)
    (and_from _ _ (params_carried middles front r.words (cut_octets _ last r.text)) (le-leb (length (canonical m)) 510 short))))

-- a line that is passed on reads back as its message with the last parameter cut
pub relay_reads : (source command last : List ℕ) (middles : List (List ℕ)) → Relays source command last middles
    → ReadsBack (relay source command last middles) (relay_message source command last middles)
relay_reads source command last middles r =
    subst (λ text. ReadsBack text (relay_message source command last middles)) (sym (relayed_canonical source command last middles r.there))
    (carried_reads (relay_message source command last middles) (relay_carried source command last middles r))

pub relayed_line : (source command words last : List ℕ) → length (head source command words) ≤ 508
    → list_all octet source ≡ true → list_all octet command ≡ true → list_all octet words ≡ true → trailing last ≡ true
    → is_line (relayed source command words last) ≡ true
relayed_line source command words last short s c w l =
    let front = head source command words in
    let room = 509 - length front in
    let back = last_text (cut room last) in
    let whole = length-append front back in
    let size = length-head source command words in
    let fits = (cut_longest room last (omega arith)).0 in
    line_from (relayed source command words last) (omega arith) (omega arith)
    (all-append octet front back (head_octets source command words s c w) (last_octets (cut room last) (cut_octets room last l)))
