-- Which guest takes a leaf's seat, and how long a guest may take for it.
use Rattle.std.specs.Prelude.{◌≡◌, ◌≤◌, ◌-◌, ℕ, [], drop, Option, Some, None}
use Rattle.sealing.specs.Streams.{Opens}
use Rattle.handshake.specs.declared.book.Place.{Place}
use Rattle.handshake.specs.declared.book.Place.TheVariants.{Free, Same, Taken, Barred}
use Rattle.peers.specs.declared.guest.Guest.{Guest}
use Rattle.peers.specs.declared.guest.Heeded.{Heeded}
use Rattle.peers.specs.declared.guest.Heeded.TheVariants.{Waits, Asks as shows, Goes}
use Rattle.peers.specs.declared.verdict.Verdict.{Verdict}
use Rattle.peers.specs.declared.verdict.Verdict.TheVariants.{Waits as not_yet, Refuses, Enters as enters, Joins}
use Rattle.peers.specs.declared.guest_stage.Asked.{Asked}
use Rattle.peers.specs.declared.guest_stage.GuestStage.{GuestStage}
use Rattle.peers.specs.declared.guest_stage.GuestStage.TheVariants.{Meets, Asks, Enters}
use Rattle.handshake.specs.declared.refusal.HandshakeRefusal.{HandshakeRefusal}
use Rattle.handshake.specs.declared.refusal.HandshakeRefusal.TheVariants.{Other}
use Rattle.handshake.specs.declared.hub_side.HubSide.{HubSide}
use Rattle.handshake.specs.declared.late.TheConstants.{TIME_LIMIT}
use Rattle.handshake.specs.declared.own.Own.{Own}
use Rattle.peers.specs.declared.seat.Seat.{Seat}
use Rattle.peers.specs.declared.welcome.Welcome.{Welcome}
use Rattle.handshake.specs.Books.{Leaves, place_of}
use Rattle.handshake.specs.Judging.{judged}
use Rattle.handshake.specs.Owns.{progress_for}
use Rattle.handshake.specs.Sides.{ShowsKey, hub_keys}

-- ---- time

-- a guest that began and is heard at these seconds of the monotonic clock may send more only within the time limit
abbrev pub IsInTime : ℕ → ℕ → Heeded → Type 0
IsInTime began steady (Waits came) = TIME_LIMIT ≤ steady - began → ⊥
IsInTime began steady shows = Unit {0}
IsInTime began steady (Goes gone) = Unit {0}

-- ---- what is to be done with a guest

-- what a guest that has shown its code asks
abbrev pub asked_of : GuestStage → Option Asked
asked_of Meets = None
asked_of (Asks asked) = Some asked
asked_of (Enters asked) = Some asked

-- what the book says of the folder that shows a leaf's code
abbrev pub place_for : Leaves → Asked → Place
place_for book asked = place_of book asked.ask.words.leaf asked.ask.words.made

abbrev pub verdict_at : Place → Verdict
verdict_at Same = Joins
verdict_at Free = enters
verdict_at Taken = Refuses Other
verdict_at Barred = Refuses Other

abbrev pub verdict_by : Option HandshakeRefusal → Place → Verdict
verdict_by (Some refusal) place = Refuses refusal
verdict_by None place = verdict_at place

abbrev pub verdict_for : HubSide → Leaves → Own → Asked → Verdict
verdict_for side book own asked =
    verdict_by (judged side asked.ask.words (place_for book asked) (progress_for own asked.ask.words.leaf)) (place_for book asked)

abbrev pub verdict_of : HubSide → Leaves → Own → GuestStage → Verdict
verdict_of side book own Meets = not_yet
verdict_of side book own (Asks asked) = verdict_for side book own asked
verdict_of side book own (Enters asked) = verdict_for side book own asked

-- ---- who takes a seat

-- the book has the guest's folder for the leaf that it has shown to be
abbrev pub IsOfBook : Leaves → GuestStage → Type 0
IsOfBook book Meets = ⊥
IsOfBook book (Asks asked) = place_for book asked ≡ Same
IsOfBook book (Enters asked) = place_for book asked ≡ Same

abbrev pub IsInBook : Leaves → Option Guest → Type 0
IsInBook book None = Unit {0}
IsInBook book (Some guest) = IsOfBook book guest.stage

-- The seat is that of the leaf that has shown its code on this connection, and has said no hello on it yet. What was heard
-- after its line are its first records. The keys of the records are those of this handshake.
pub record TakesSeat (guest : Guest) (welcome : Welcome) (seat : Seat) : Type 0 where
  pub asked : Asked
  pub shows_key : ∥ ShowsKey guest.side guest.connection.heard.items asked.used asked.ask ∥₁
  pub leaf : seat.leaf ≡ asked.ask.words.leaf
  pub made : seat.made ≡ asked.ask.words.made
  pub may : seat.may ≡ welcome.may
  pub layout : seat.layout ≡ None
  pub rest : seat.wire.connection.heard.items ≡ drop asked.used guest.connection.heard.items
  pub opens : Opens (hub_keys guest.side asked.ask welcome.own welcome.may).to_hub [] [] seat.wire.opener
  pub seals : seat.wire.sealer ≡ record { key = (hub_keys guest.side asked.ask welcome.own welcome.may).to_leaf; count = 0 }

abbrev pub Takes : Guest → Welcome → Option Seat → Type 0
Takes guest welcome None = guest.stage ≡ Meets
Takes guest welcome (Some seat) = TakesSeat guest welcome seat
