-- What is read piece by piece, and what a whole drive makes of it.
use Rattle.std.proofs.Common.{◌≡◌, ◌++◌, ℕ, ◌+◌, ◌<◌, ◌≤◌, Bool, true, false, List, [], ◌∷◌, take, append-nil, refl, sym, subst, arith, inl, inr}
use Rattle.streams.specs.State.{Source, Sink}
use Rattle.streams.specs.Transfers.{Reads}
use Rattle.streams.proofs.ReadLemmas.{Reads-none, Reads-more, ReadsUntil-end, ReadsUntil-stall, ReadsUntil-fault}
use Rattle.procs.specs.Promises.{Promised}
use Rattle.sharelink.specs.declared.answer.Outgoing.{Outgoing}
use Rattle.botcore.specs.Bots.{Bot}
use Rattle.botcore.specs.declared.event.BotEvent.TheVariants.{Clock}
use Rattle.turns.specs.declared.driving.DriveEnd.{DriveEnd}
use Rattle.turns.specs.declared.driving.DriveEnd.TheVariants.{Done, Read, Write, NoMemory}
use Rattle.turns.specs.declared.outcome.DriveOutcome.{DriveOutcome}
use Rattle.turns.specs.Driving.{Course, Makes, Hears, HearsPiece, HearsNoPiece, HearsAll, HearsSome, ReadsEnough, ReadsSome, TakesAll, TakesFirst, TakesSome, DrivesAll, DrivesTo, course_at, line_events, all_events}
use Rattle.turns.proofs.DrivingLemmas.{Makes-then, MakesFirst-more, Hears-none, Hears-then, HearsFirst-then}

-- ---- piece after piece

-- so many pieces are read and taken in
pub record HasHeard (count : ℕ) (promised : Promised)
    (names : List (List ℕ)) (old : Course) (held : List ℕ) (before : Source) (new : Course) (after : List ℕ)
    (left : Source) : Type 0 where
  pub bytes : List ℕ
  pub few : count ≤ 1000
  pub read : Reads count before bytes left
  pub hears : Hears promised names old held bytes new after

pub HasHeard-none : (promised : Promised) (names : List (List ℕ))
    (old : Course) (held : List ℕ) (before : Source) → HasHeard 0 promised names old held before old held before
HasHeard-none promised names old held before =
    record { bytes = []; few = omega arith; read = Reads-none before; hears = Hears-none promised names old held }

pub HasHeard-more : (count : ℕ) (promised : Promised) (names : List (List ℕ))
    (old mid new : Course) (held between after : List ℕ) (before middle left : Source) (more : Bool) → more ≡ true → count < 1000
    → HasHeard count promised names old held before mid between middle
    → HearsPiece promised names mid between middle more new after left
    → HasHeard (count + 1) promised names old held before new after left
HasHeard-more count promised names old mid new held between after before middle left false is within p q = cc
HasHeard-more count promised names old mid new held between after before middle left true is within p (n, buffer, gives, hears) = record {
  bytes = p.bytes ++ take n buffer;
  few = omega (arith, within);
  read = Reads-more count n before middle left p.bytes buffer p.read gives;
  hears = Hears-then promised names old mid new held between after p.bytes (take n buffer) p.hears hears;
}

-- what was heard stays where nothing more is taken in
Hears-same : (promised : Promised) (names : List (List ℕ))
    (old mid new : Course) (held between after bytes : List ℕ) → new ≡ mid → after ≡ between
    → Hears promised names old held bytes mid between → Hears promised names old held bytes new after
Hears-same promised names old mid new held between after bytes same kept hears =
    subst (λ (x : Course). Hears promised names old held bytes x after) (sym same)
    (subst (λ (x : List ℕ). Hears promised names old held bytes mid x) (sym kept) hears)

-- the next answer has no bytes
pub HearsAll-none : (count : ℕ) (promised : Promised) (names : List (List ℕ))
    (old mid new : Course) (held between after : List ℕ) (before middle left : Source) (more : Bool) → more ≡ false → count < 1000
    → HasHeard count promised names old held before mid between middle
    → HearsPiece promised names mid between middle more new after left
    → HearsAll promised names old held before new after left
HearsAll-none count promised names old mid new held between after before middle left true is within p q = cc
HearsAll-none count promised names old mid new held between after before middle left false is within p (buffer, inl gives, same, kept) = record {
  bytes = p.bytes;
  read = inl (ReadsUntil-end count 1000 before middle left p.bytes buffer within p.read gives);
  hears = Hears-same promised names old mid new held between after p.bytes same kept p.hears;
}
HearsAll-none count promised names old mid new held between after before middle left false is within p (buffer, inr gives, same, kept) = record {
  bytes = p.bytes;
  read = inr (inl (ReadsUntil-stall count 1000 before middle left p.bytes buffer within p.read gives));
  hears = Hears-same promised names old mid new held between after p.bytes same kept p.hears;
}

-- all is asked that may be
pub HearsAll-full : (count : ℕ) (promised : Promised) (names : List (List ℕ))
    (old new : Course) (held after : List ℕ) (before left : Source)
    → 1000 ≤ count → HasHeard count promised names old held before new after left
    → HearsAll promised names old held before new after left
HearsAll-full count promised names old new held after before left enough p =
    let all : count ≡ 1000 = omega (arith, enough, p.few) in
    record { bytes = p.bytes; read = inr (inr (subst (λ k. Reads k before p.bytes left) all p.read)); hears = p.hears }

-- the stream fails, or memory runs out
pub HearsSome-then : (count : ℕ) (promised : Promised) (names : List (List ℕ))
    (old mid new : Course) (held between after : List ℕ) (before middle left : Source) (end : DriveEnd) → count < 1000
    → HasHeard count promised names old held before mid between middle
    → HearsNoPiece end promised names mid between middle new after left
    → HearsSome end promised names old held before new after left
HearsSome-then count promised names old mid new held between after before middle left Done within p q = absurd q
HearsSome-then count promised names old mid new held between after before middle left Read within p (buffer, gives, same, kept) = (
  p.bytes,
  ReadsUntil-fault count 1000 before middle left p.bytes buffer within p.read gives,
  Hears-same promised names old mid new held between after p.bytes same kept p.hears,
)
HearsSome-then count promised names old mid new held between after before middle left Write within p q = absurd q
HearsSome-then count promised names old mid new held between after before middle left NoMemory within p (n, buffer, gives, first) = (
  p.bytes ++ take n buffer,
  inr (count + 1, omega (arith, within), Reads-more count n before middle left p.bytes buffer p.read gives),
  HearsFirst-then promised names old mid new held between p.bytes (take n buffer) p.hears first,
)

-- ---- and then the clock

pub TakesAll-of : (promised : Promised) (names : List (List ℕ)) (now : ℕ)
    (old mid new : Course) (held after : List ℕ) (before left : Source)
    → HearsAll promised names old held before mid after left → Makes promised names mid (Clock now ∷ []) new
    → TakesAll promised names now old held before new after left
TakesAll-of promised names now old mid new held after before left p q = record {
  bytes = p.bytes;
  lines = p.hears.lines;
  read = p.read;
  ends = p.hears.ends;
  makes = Makes-then promised names old mid new (line_events p.hears.lines) (Clock now ∷ []) p.hears.makes q;
}

-- memory ran out at the reading
pub TakesFirst-of : (promised : Promised) (names : List (List ℕ)) (now : ℕ)
    (old mid new : Course) (held after : List ℕ) (before left : Source)
    → HearsAll promised names old held before mid after left → new ≡ mid
    → TakesFirst promised names now old held before new left
TakesFirst-of promised names now old mid new held after before left p same = record {
  bytes = p.bytes;
  lost = [];
  lines = p.hears.lines;
  after = after;
  read = inl (subst (λ bytes. ReadsEnough before bytes left) (sym (append-nil p.bytes)) p.read);
  ends = p.hears.ends;
  makes = record {
    first = line_events p.hears.lines;
    rest = Clock now ∷ [];
    all = refl;
    makes = subst (λ (x : Course). Makes promised names old (line_events p.hears.lines) x) (sym same) p.hears.makes;
  };
}

pub TakesSome-of : (promised : Promised) (names : List (List ℕ)) (now : ℕ)
    (old new : Course) (held after : List ℕ) (before left : Source) (end : DriveEnd)
    → HearsSome end promised names old held before new after left
    → TakesSome end promised names now old held before new after left
TakesSome-of promised names now old new held after before left Done p = absurd p
TakesSome-of promised names now old new held after before left Read p = p
TakesSome-of promised names now old new held after before left Write p = absurd p
TakesSome-of promised names now old new held after before left NoMemory (bytes, read, hears) = record {
  bytes = hears.front;
  lost = hears.lost;
  lines = hears.lines;
  after = hears.after;
  read = subst (λ (b : List ℕ). ReadsSome before b left) (sym hears.all) read;
  ends = hears.ends;
  makes = MakesFirst-more promised names old new (line_events hears.lines) (Clock now ∷ []) hears.makes;
}

-- ---- and what is written

pub DrivesAll-of : (Writes : Sink → List ℕ → Sink → Type 0) (promised : Promised)
    (names : List (List ℕ)) (now : ℕ) (start : Course) (old new : Bot) (packets : List Outgoing) (outcomes : List DriveOutcome) (text held after : List ℕ)
    (before between left : Source) (empty kept full : Sink) → start ≡ course_at old
    → TakesAll promised names now start held before (record { bot = new; packets = packets; text = text; outcomes = outcomes }) after between
    → kept ≡ empty → left ≡ between → Writes kept text full
    → DrivesAll Writes promised names now (record { bot = old; held = held; source = before; sink = empty }) packets outcomes
    (record { bot = new; held = after; source = left; sink = full })
DrivesAll-of Writes promised names now start old new packets outcomes text held after before between left empty kept full is p same other writes = record {
  bytes = p.bytes;
  lines = p.lines;
  text = text;
  read = subst (λ (x : Source). ReadsEnough before p.bytes x) (sym other) p.read;
  ends = p.ends;
  makes = subst (λ (x : Course). Makes promised names x (all_events p.lines now) (record { bot = new; packets = packets; text = text; outcomes = outcomes })) is p.makes;
  writes = subst (λ (x : Sink). Writes x text full) same writes;
}

pub DrivesTo-some : (end : DriveEnd) (promised : Promised)
    (names : List (List ℕ)) (now : ℕ) (start : Course) (old new : Bot) (packets : List Outgoing) (outcomes : List DriveOutcome) (text held after : List ℕ)
    (before left : Source) (empty kept : Sink) → start ≡ course_at old
    → TakesSome end promised names now start held before (record { bot = new; packets = packets; text = text; outcomes = outcomes }) after left
    → kept ≡ empty
    → DrivesTo end promised names now (record { bot = old; held = held; source = before; sink = empty }) packets outcomes
    (record { bot = new; held = after; source = left; sink = kept })
DrivesTo-some Done promised names now start old new packets outcomes text held after before left empty kept is p same = absurd p
DrivesTo-some Read promised names now start old new packets outcomes text held after before left empty kept is (bytes, read, hears) same = record {
  bytes = bytes;
  lines = hears.lines;
  text = text;
  read = read;
  ends = hears.ends;
  makes = subst (λ (x : Course). Makes promised names x (line_events hears.lines) (record { bot = new; packets = packets; text = text; outcomes = outcomes })) is hears.makes;
  writes = same;
}
DrivesTo-some Write promised names now start old new packets outcomes text held after before left empty kept is p same = absurd p
DrivesTo-some NoMemory promised names now start old new packets outcomes text held after before left empty kept is p same = record {
  bytes = p.bytes;
  lost = p.lost;
  lines = p.lines;
  after = p.after;
  text = text;
  read = p.read;
  ends = p.ends;
  makes = record {
    first = p.makes.first;
    rest = p.makes.rest;
    all = p.makes.all;
    makes = subst (λ (x : Course). Makes promised names x p.makes.first (record { bot = new; packets = packets; text = text; outcomes = outcomes })) is p.makes.makes;
  };
  writes = same;
}
