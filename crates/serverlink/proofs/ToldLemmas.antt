-- What a connection was told are lines, whatever its stream does.
use Rattle.std.proofs.Common.{◌≡◌, ◌++◌, ◌∷◌, ◌∙◌, ℕ, Bool, true, false, List, [], Result, Ok, Err, IfOk, OnErr, ap, sym, append-nil, append_assoc, if◌then◌else◌}
use Rattle.std.proofs.lemmas.List.Concat.{flat_map-append}
use Rattle.std.specs.List.{AllByRecursion, flat_map}
use Rattle.streams.specs.State.{Sink}
use Rattle.streams.specs.declared.stream.Given.{Given}
use Rattle.net.specs.Connections.{HearsAll, Reads, ReadsFewer, Talk, told_bytes, with_bytes}
use Rattle.serverlink.specs.Told.{TellsLines, IsLine, ended}
use Rattle.serverlink.specs.Talks.{told as told_talk}
use Rattle.serverlink.specs.declared.server_wire.TheConstants.{MOST}

-- ---- lines, and one more

each_more : (lines : List (List ℕ)) (line : List ℕ) → AllByRecursion IsLine lines → IsLine line → AllByRecursion IsLine (lines ++ line ∷ [])
each_more [] line each is = (is, tt)
each_more (first ∷ lines) line each is = (each.0, each_more lines line each.1 is)

told_more : (lines : List (List ℕ)) (line : List ℕ) → flat_map ended (lines ++ line ∷ []) ≡ flat_map ended lines ++ ended line
told_more lines line = flat_map-append ended lines (line ∷ []) ∙ ap (λ last. flat_map ended lines ++ last) (append-nil (ended line))

-- ---- a connection that begins, and what it does then

-- over a stream that has taken nothing
pub tells_begun : (sink : Sink) → sink.past.taken ≡ [] → TellsLines sink []
tells_begun sink fresh = record { lines = []; each = tt; told = append-nil sink.past.taken ∙ fresh }

-- the same bytes were taken or are unsent
tells_same : (sink new_sink : Sink) (unsent new_unsent : List ℕ) → TellsLines sink unsent
    → new_sink.past.taken ++ new_unsent ≡ sink.past.taken ++ unsent → TellsLines new_sink new_unsent
tells_same sink new_sink unsent new_unsent tells same = record { lines = tells.lines; each = tells.each; told = same ∙ tells.told }

-- reads of a stream leave alone what it takes, and what is unsent
heard_keeps : (most : ℕ) (answers : List Given) (old new : Talk) → HearsAll most answers old new → (new.sink ≡ old.sink) × (new.unsent ≡ old.unsent)
heard_keeps most [] old new is = (ap (λ talk. talk.sink) is, ap (λ talk. talk.unsent) is)
heard_keeps most (answer ∷ answers) old new heard =
    let rest : (new.sink ≡ heard.1.0.sink) × (new.unsent ≡ heard.1.0.unsent) = heard_keeps most answers heard.1.0 new heard.1.1.1 in
    (rest.0 ∙ heard.1.1.0.sink, rest.1 ∙ heard.1.1.0.unsent)

tells_heard : (most : ℕ) (answers : List Given) (old new : Talk) → HearsAll most answers old new
    → TellsLines old.sink old.unsent → TellsLines new.sink new.unsent
tells_heard most answers old new heard tells =
    let kept : (new.sink ≡ old.sink) × (new.unsent ≡ old.unsent) = heard_keeps most answers old new heard in
    tells_same old.sink new.sink old.unsent new.unsent tells
    (ap (λ sink. sink.past.taken ++ new.unsent) kept.0 ∙ ap (λ unsent. old.sink.past.taken ++ unsent) kept.1)

pub tells_read : {E : Type 0} (pieces most : ℕ) (old new : Talk) (result : Result Bool E)
    → IfOk result (λ came. Reads pieces most old came new) → OnErr result (ReadsFewer pieces most old new)
    → TellsLines old.sink old.unsent → TellsLines new.sink new.unsent
tells_read pieces most old new (Ok came) reads fewer tells = tells_heard most reads.answers old new reads.heard tells
tells_read pieces most old new (Err error) reads fewer tells = tells_heard most fewer.answers old new fewer.heard tells

-- it is told a line, or has no room for it
pub tells_told : {E : Type 0} (sink new_sink : Sink) (unsent new_unsent line : List ℕ) (result : Result Bool E) → IsLine line
    → TellsLines sink unsent → new_sink ≡ sink → new_unsent ≡ unsent ++ told_bytes result (ended line) → TellsLines new_sink new_unsent
tells_told sink new_sink unsent new_unsent line (Ok true) is tells same more = record {
  lines = tells.lines ++ line ∷ [];
  each = each_more tells.lines line tells.each is;
  told = ap (λ sink. sink.past.taken ++ new_unsent) same ∙ ap (λ unsent. sink.past.taken ++ unsent) more
      ∙ sym (append_assoc sink.past.taken unsent (ended line)) ∙ ap (λ before. before ++ ended line) tells.told
      ∙ sym (told_more tells.lines line);
}
tells_told sink new_sink unsent new_unsent line (Ok false) is tells same more =
    tells_same sink new_sink unsent new_unsent tells
    (ap (λ sink. sink.past.taken ++ new_unsent) same ∙ ap (λ unsent. sink.past.taken ++ unsent) (more ∙ append-nil unsent))
tells_told sink new_sink unsent new_unsent line (Err error) is tells same more =
    tells_same sink new_sink unsent new_unsent tells
    (ap (λ sink. sink.past.taken ++ new_unsent) same ∙ ap (λ unsent. sink.past.taken ++ unsent) (more ∙ append-nil unsent))

-- ---- what a call did

-- a line is queued
pub told_line : (line : List ℕ) (talk : Talk) → IsLine line → told_talk line talk ≡ with_bytes MOST (ended line) talk
told_line line talk is = ap (λ is_it. if is_it then with_bytes MOST (ended line) talk else talk) is
