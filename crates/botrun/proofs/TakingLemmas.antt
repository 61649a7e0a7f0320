-- A turn in which changes are asked for, and turns one after another.
use Rattle.std.proofs.Common.{◌≡◌, ℕ, zero, suc, Bool, true, false, not, cond, List, [], ◌∷◌, Option, refl, sym, subst}
use Rattle.std.specs.List.{AllByRecursion, filter}
use Rattle.sharewire.specs.declared.packet.Packet.{Packet}
use Rattle.userfile.specs.declared.change.Change.{Change}
use Rattle.procs.specs.Promises.{Promised}
use Rattle.botcore.specs.Bots.{Bot}
use Rattle.turns.specs.declared.turn.Heard.{Heard}
use Rattle.turns.specs.declared.turn.Told.{Told}
use Rattle.turns.specs.Turns.{Turns}
use Rattle.net.specs.Connections.{Talk}
use Rattle.administrators.specs.declared.change_outcome.ChangeOutcome.{ChangeOutcome}
use Rattle.peers.specs.Picking.{is_request}
use Rattle.peers.specs.Tells.{granted}
use Rattle.upkeep.specs.Spaces.{admitted}
use Rattle.botrun.specs.Outcomes.{outcome_of}
use Rattle.botrun.specs.Passing.{told_of}
use Rattle.botrun.specs.Taking.{GoesOn, HearsNothing, TakesChanges, TakesQuietTurn, TakesQuietTurns}

-- ---- turns in which nothing is heard

-- no turn
pub stays : (promised : Promised) (names : List (List ℕ)) (bot : Bot) (held : List ℕ) → GoesOn promised names bot held bot held
unfolding TakesQuietTurns
stays promised names bot held = record { count = zero; turns = (refl, refl) }

-- one turn more
pub goes_on : (promised : Promised) (names : List (List ℕ)) (old mid new : Bot) (held between after : List ℕ)
    → GoesOn promised names old held mid between → TakesQuietTurn promised names mid between new after
    → GoesOn promised names old held new after
unfolding TakesQuietTurns
goes_on promised names old mid new held between after far turn =
    record { count = suc far.count; turns = (mid, between, far.turns, turn) }

goes_far : (count : ℕ) (promised : Promised) (names : List (List ℕ)) (old mid new : Bot) (held between after : List ℕ)
    → GoesOn promised names old held mid between → TakesQuietTurns count promised names mid between new after
    → GoesOn promised names old held new after
unfolding TakesQuietTurns
goes_far zero promised names old mid new held between after far (same, kept) =
    subst (λ (bot : Bot). GoesOn promised names old held bot after) (sym same)
    (subst (λ (line : List ℕ). GoesOn promised names old held mid line) (sym kept) far)
goes_far (suc count) promised names old mid new held between after far (next, line, turns, turn) =
    goes_on promised names old next new held line after (goes_far count promised names old mid next held between line far turns) turn

-- turns after turns
pub goes_further : (promised : Promised) (names : List (List ℕ)) (old mid new : Bot) (held between after : List ℕ)
    → GoesOn promised names old held mid between → GoesOn promised names mid between new after → GoesOn promised names old held new after
goes_further promised names old mid new held between after far further =
    goes_far further.count promised names old mid new held between after far further.turns

-- ---- a turn in which changes are asked for

-- a turn whose reports are passed on
pub takes_changes : (promised : Promised) (names : List (List ℕ)) (old : Bot) (held : List ℕ) (changes : List Change) (compacts : Bool)
    (new : Bot) (after : List ℕ) (outcome : ChangeOutcome) (talk new_talk : Option Talk) (heard : Heard) (told : Told) (mid : Bot) (between : List ℕ)
    → Turns promised names old held heard told mid between → new ≡ mid → after ≡ between
    → HearsNothing heard → heard.changes.items ≡ changes → heard.compact ≡ compacts → heard.pump ≡ not compacts
    → outcome ≡ outcome_of told.reports → new_talk ≡ told_of told.reports talk
    → TakesChanges promised names old held changes compacts new after outcome talk new_talk
takes_changes promised names old held changes compacts new after outcome talk new_talk heard told mid between turn same kept quiet asked compacted pumped tells server =
    record {
      heard = heard;
      quiet = quiet;
      asked = asked;
      compacted = compacted;
      pumped = pumped;
      takes = record {
        told = told;
        turn = subst (λ (bot : Bot). Turns promised names old held heard told bot after) (sym same)
            (subst (λ (line : List ℕ). Turns promised names old held heard told mid line) (sym kept) turn);
        tells = tells;
        server = server;
      };
    }

pub quiet_turn : (promised : Promised) (names : List (List ℕ)) (old : Bot) (held : List ℕ) (changes : List Change) (compacts : Bool)
    (new : Bot) (after : List ℕ) (outcome : ChangeOutcome) (talk new_talk : Option Talk)
    → TakesChanges promised names old held changes compacts new after outcome talk new_talk → TakesQuietTurn promised names old held new after
quiet_turn promised names old held changes compacts new after outcome talk new_talk taken =
    record { heard = taken.heard; told = taken.takes.told; quiet = taken.quiet; turn = taken.takes.turn }

-- ---- the packets of a turn

-- what is true of all packets that wait is true of those that a turn takes
pub all_admitted : (Holds : Packet → Type 0) (has_room : Bool) (waiting packets : List Packet) → packets ≡ admitted has_room waiting
    → AllByRecursion Holds waiting → AllByRecursion Holds packets
all_admitted Holds has_room waiting packets is all =
    subst (λ (p : List Packet). AllByRecursion Holds p) (sym is) (by has_room)
  where
    by : (room : Bool) → AllByRecursion Holds (admitted room waiting)
    by true = all
    by false = tt

-- the same of those that are taken while a hub may be handed over
pub all_taken : (Holds : Packet → Type 0) (hands_over : Bool) (waiting packets : List Packet) → packets ≡ granted hands_over waiting
    → AllByRecursion Holds waiting → AllByRecursion Holds packets
all_taken Holds hands_over waiting packets is all =
    subst (λ (p : List Packet). AllByRecursion Holds p) (sym is) (by hands_over)
  where
    one : (test : Bool) (packet : Packet) (rest : List Packet) → Holds packet → AllByRecursion Holds rest
        → AllByRecursion Holds (cond test (packet ∷ rest) rest)
    one true packet rest holds more = (holds, more)
    one false packet rest holds more = more

    some : (packets : List Packet) → AllByRecursion Holds packets → AllByRecursion Holds (filter (λ packet. not (is_request packet)) packets)
    some [] holds = tt
    some (packet ∷ packets) holds =
        one (not (is_request packet)) packet (filter (λ packet. not (is_request packet)) packets) holds.0 (some packets holds.1)

    by : (held : Bool) → AllByRecursion Holds (granted held waiting)
    by true = some waiting all
    by false = all
