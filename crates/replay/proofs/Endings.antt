-- How a replay ends.
use Rattle.std.proofs.Common.{◌≡◌, ℕ, ◌+◌, List, take, sym, ap, subst, ◌∙◌, Option, None, Some, Result, Ok, Err, OnOk, IfOk, IfErr, IfSome}
use Rattle.std.specs.declared.vec.Vec.{Vec}
use Rattle.std.specs.declared.alloc.Global.{Global}
use Rattle.streams.specs.State.{Source, Sink}
use Rattle.streams.specs.Transfers.{ReadsUpTo, WritesFront, WritesOut}
use Rattle.streams.proofs.ReadLemmas.{ReadsUpTo-known}
use Rattle.bytetext.specs.declared.failure.Failure.{Failure}
use Rattle.bytetext.specs.declared.failure.Failure.TheVariants.{Refused, NoMemory as failed_no_memory}
use Rattle.procs.specs.Promises.{Promised}
use Rattle.script.specs.declared.TheConstants.{MAX_SCRIPT}
use Rattle.script.specs.declared.error.ScriptFault.{ScriptFault}
use Rattle.script.specs.declared.reading.Script.{Script}
use Rattle.script.specs.Reasons.{TellsWhy}
use Rattle.script.specs.Outcomes.{ReadsAs}
use Rattle.script.specs.Reading.{HasFault, Spells}
use Rattle.script.proofs.Faults.{HasFault-not_spelled, HasFault-same, Spells-take, HasFault-take}
use Rattle.replay.specs.declared.error.ReplayError.{ReplayError}
use Rattle.replay.specs.declared.error.ReplayError.TheVariants.{Script as script_fault, Read, Write, NoMemory}
use Rattle.replay.specs.Transcript.{IsTranscript, TellsFault}
use Rattle.replay.specs.Ending.{IsTranscriptFault, GivesScript, GivesNone, Plays, EndsEarly, Ends, TellsLine}

-- faults ----------------------------------------------------------------------------------------------------------------

-- an answer that is right for the bytes tells their fault
pub TellsFault-read : (T : Type 0) (bytes : List ℕ) (line : ℕ) (e : Failure ScriptFault) → ReadsAs bytes (Err e) → HasFault bytes line
    → TellsFault {T = T} line (Err e)
TellsFault-read T bytes line (Refused told) reads fault = HasFault-same bytes told.line line reads fault
TellsFault-read T bytes line failed_no_memory reads fault = tt

-- and why there is one
pub TellsWhy-read : (T : Type 0) (bytes : List ℕ) (e : Failure ScriptFault) → TellsWhy {T = Script} bytes (Err e) → TellsWhy {T = T} bytes (Err e)
TellsWhy-read T bytes (Refused told) why = why
TellsWhy-read T bytes failed_no_memory why = tt

-- reading ---------------------------------------------------------------------------------------------------------------

pub GivesScript-of : (old new : Source) (bytes : List ℕ) → ReadsUpTo (MAX_SCRIPT + 1) old bytes new → GivesScript old bytes new
GivesScript-of old new bytes read = record { read = read; known = ReadsUpTo-known (MAX_SCRIPT + 1) old new bytes read }

-- an error of reading is one before the first write
pub EndsEarly-read : (e : ReplayError) (old new : Source) → GivesNone e old new → EndsEarly e old new
EndsEarly-read (script_fault fault) old new gives = absurd gives
EndsEarly-read Read old new gives = gives
EndsEarly-read Write old new gives = gives
EndsEarly-read NoMemory old new gives = gives

EndsEarly-bytes : (e : ReplayError) (old new : Source) (bytes : List ℕ) → GivesScript old bytes new → IsTranscriptFault bytes e → EndsEarly e old new
EndsEarly-bytes (script_fault fault) old new bytes gives has = (bytes, gives, has)
EndsEarly-bytes Read old new bytes gives has = absurd has
EndsEarly-bytes Write old new bytes gives has = has
EndsEarly-bytes NoMemory old new bytes gives has = tt

pub EndsEarly-of : {T : Type 0} (old new : Source) (given bytes : List ℕ) (r : Result T ReplayError) → given ≡ bytes → GivesScript old bytes new
    → IfErr r (λ e. IsTranscriptFault given e) → IfErr r (λ e. EndsEarly e old new)
EndsEarly-of old new given bytes (Ok t) same gives has = tt
EndsEarly-of old new given bytes (Err e) same gives has =
    EndsEarly-bytes e old new bytes gives (subst (λ (xs : List ℕ). IsTranscriptFault xs e) same has)

-- what was asked of a replay with these procs ---------------------------------------------------------------------------

module _ (promised : Promised) (names : List (List ℕ)) where
  pub Plays-of : {E : Type 0} (old new : Source) (given bytes : List ℕ) (r : Result (Vec ℕ Global) E) → given ≡ bytes → GivesScript old bytes new
      → IfOk r (λ text. IsTranscript promised names given text.items) → IfOk r (λ text. Plays promised names old text.items new)
  Plays-of old new given bytes (Ok text) same gives is =
      (bytes, gives, subst (λ (xs : List ℕ). IsTranscript promised names xs text.items) same is)
  Plays-of old new given bytes (Err e) same gives is = tt

  -- where nothing is written
  pub Ends-early : (e : ReplayError) (source left : Source) (sink taken : Sink) → EndsEarly e source left → taken ≡ sink
      → Ends promised names source sink (Err e) left taken
  Ends-early (script_fault fault) source left sink taken early same = (early, same)
  Ends-early Read source left sink taken early same = (early, same)
  Ends-early Write source left sink taken early same = absurd early
  Ends-early NoMemory source left sink taken early same = same

  -- where a text is
  pub Ends-written : (r : Result Unit ReplayError) (source between left : Source) (sink middle taken : Sink) (text written : List ℕ)
      → Plays promised names source text between → written ≡ text → left ≡ between → middle ≡ sink → OnOk r (WritesOut middle written taken)
      → IfErr r (λ e. (e ≡ Write) × WritesFront middle written taken) → Ends promised names source sink r left taken
  Ends-written (Ok u) source between left sink middle taken text written plays is other same whole front = (
    text,
    subst (λ (x : Source). Plays promised names source text x) (sym other) plays,
    subst (λ (x : Sink). WritesOut x text taken) same (subst (λ (xs : List ℕ). WritesOut middle xs taken) is whole),
  )
  Ends-written (Err Write) source between left sink middle taken text written plays is other same whole front = (
    text,
    subst (λ (x : Source). Plays promised names source text x) (sym other) plays,
    subst (λ (x : Sink). WritesFront x text taken) same (subst (λ (xs : List ℕ). WritesFront middle xs taken) is front.1),
  )
  Ends-written (Err (script_fault fault)) source between left sink middle taken text written plays is other same whole front =
      let told : script_fault fault ≡ Write = front.0 in cc
  Ends-written (Err Read) source between left sink middle taken text written plays is other same whole front =
      let told : Read ≡ Write = front.0 in cc
  Ends-written (Err NoMemory) source between left sink middle taken text written plays is other same whole front =
      let told : NoMemory ≡ Write = front.0 in cc

  -- a transcript of what was read has no fault, nor has what was known
  no_fault : (known : Option (List ℕ)) (bytes text input : List ℕ) (line : ℕ) → IfSome known (λ xs. bytes ≡ take (MAX_SCRIPT + 1) xs)
      → IsTranscript promised names bytes text → known ≡ Some input → HasFault input line → ⊥
  no_fault None bytes text input line first is e fault = cc
  no_fault (Some xs) bytes text input line first is e fault =
      let all : xs ≡ input = cc in
      let spells = subst (λ (b : List ℕ). Spells b is.script) (first ∙ ap (take (MAX_SCRIPT + 1)) all) is.spells in
      HasFault-not_spelled input line is.script fault (Spells-take input is.script spells)

  -- the fault that was told is that of what was known
  same_fault : (known : Option (List ℕ)) (bytes input : List ℕ) (told line : ℕ) → IfSome known (λ xs. bytes ≡ take (MAX_SCRIPT + 1) xs)
      → HasFault bytes told → known ≡ Some input → HasFault input line → told ≡ line
  same_fault None bytes input told line first has e fault = cc
  same_fault (Some xs) bytes input told line first has e fault =
      let all : xs ≡ input = cc in
      let there = subst (λ (b : List ℕ). HasFault b told) (first ∙ ap (take (MAX_SCRIPT + 1)) all) has in
      HasFault-same input told line (HasFault-take input told there) fault

  -- so a fault is told
  pub TellsLine-at : (source left : Source) (sink taken : Sink) (result : Result Unit ReplayError)
      → Ends promised names source sink result left taken
      → (input : List ℕ) (line : ℕ) → source.left ≡ Some input → HasFault input line → TellsLine line result
  TellsLine-at source left sink taken (Ok u) (text, (bytes, gives, is), writes) input line e fault =
      no_fault source.left bytes text input line gives.known is e fault
  TellsLine-at source left sink taken (Err (script_fault told)) ((bytes, gives, has), same) input line e fault =
      same_fault source.left bytes input told.line line gives.known has e fault
  TellsLine-at source left sink taken (Err Read) ends input line e fault = tt
  TellsLine-at source left sink taken (Err Write) (text, (bytes, gives, is), writes) input line e fault =
      no_fault source.left bytes text input line gives.known is e fault
  TellsLine-at source left sink taken (Err NoMemory) ends input line e fault = tt
