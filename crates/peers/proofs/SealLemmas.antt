-- Records that are sealed on a connection, one batch after the other.
use Rattle.std.proofs.Common.{◌≡◌, ℕ, suc, ◌+◌, ◌-◌, ◌*◌, ◌<◌, ◌≤◌, ◌≢◌, Bool, Result, Ok, Err, true, false, List, [], ◌∷◌, ◌++◌, length, take, drop, refl, sym, ap, subst, ◌∙◌}
use Rattle.std.proofs.Common.{append_assoc, append-nil, arith, length-append, take-append-drop}
use Rattle.std.proofs.lemmas.List.{length-take, drop_all, take_min}
use Rattle.std.specs.Prelude.{◌==◌}
use Rattle.bytetext.specs.declared.memory.NoMemory.{NoMemory}
use Rattle.std.specs.List.{AllByRecursion}
use Rattle.std.specs.Int.{w16, to_be_bytes}
use Rattle.sealing.specs.declared.kind.Kind.{Kind}
use Rattle.sealing.specs.declared.kind.Kind.TheVariants.{Frames, Beat}
use Rattle.sealing.specs.Hmac.{hmac_of}
use Rattle.sealing.specs.Records.{IsBody, body_of, content, carried, kind_byte, sealed, all_sealed, tag_of, tagged}
use Rattle.net.specs.Connections.{Grows}
use Rattle.sealing.specs.declared.opener.OpenedPiece.{OpenedPiece}
use Rattle.sealing.specs.Streams.{AreSealed, GoesOn, Opening, Opens, Sealing}
use Rattle.sealing.proofs.RecordLemmas.{all_sealed-append, carried-append, all_good-append}
use Rattle.peers.specs.declared.link_wire.LinkWire.{LinkWire}
use Rattle.peers.specs.Sealed.{CarriesOn, Seals}

-- ---- how long records are

tag_length : (key : List ℕ) (count : ℕ) (body : List ℕ) → length (tag_of key count body) ≤ 16
tag_length key count body = omega (arith, length-take 16 (hmac_of key (tagged count body)))

sealed_most : (key : List ℕ) (count : ℕ) (body : List ℕ) → length (sealed key count body) ≤ length body + 18
sealed_most key count body =
    omega (
      arith,
      length-append (to_be_bytes w16 (length body)) (body ++ tag_of key count body),
      length-append body (tag_of key count body),
      tag_length key count body,
    )

sealed_least : (key : List ℕ) (count : ℕ) (body : List ℕ) → length body ≤ length (sealed key count body)
sealed_least key count body =
    omega (
      arith,
      length-append (to_be_bytes w16 (length body)) (body ++ tag_of key count body),
      length-append body (tag_of key count body),
    )

-- records of bodies take this room at the most
all_most : (key : List ℕ) (count : ℕ) (bodies : List (List ℕ)) → AllByRecursion IsBody bodies
    → length (all_sealed key count bodies) ≤ length bodies * 16402
all_most key count [] good = omega arith
all_most key count (body ∷ bodies) good =
    omega (
      arith,
      length-append (sealed key count body) (all_sealed key (count + 1) bodies),
      sealed_most key count body,
      good.0.1,
      all_most key (count + 1) bodies good.1,
    )

content_least : (kind : Kind) (body : List ℕ) → length (content kind body) ≤ length body
content_least kind [] = omega arith
content_least kind (byte ∷ rest) = by_test (byte == kind_byte kind) refl
  where
    by_test : (test : Bool) → (byte == kind_byte kind) ≡ test → length (content kind (byte ∷ rest)) ≤ suc (length rest)
    by_test true is = rw is (omega arith)
    by_test false is = rw is (omega arith)

-- and no less than what they carry
all_least : (key : List ℕ) (count : ℕ) (bodies : List (List ℕ)) (kind : Kind)
    → length (carried kind bodies) ≤ length (all_sealed key count bodies)
all_least key count [] kind = omega arith
all_least key count (body ∷ bodies) kind =
    omega (
      arith,
      length-append (sealed key count body) (all_sealed key (count + 1) bodies),
      length-append (content kind body) (carried kind bodies),
      sealed_least key count body,
      content_least kind body,
      all_least key (count + 1) bodies kind,
    )

-- ---- one batch

-- a beat carries no frames
pub seals_beat : (old new : LinkWire) (beat : List ℕ) → length beat ≤ 16383
    → new.connection.unsent.items ≡ old.connection.unsent.items ++ sealed old.sealer.key old.sealer.count (body_of Beat beat)
    → new.sealer ≡ record { key = old.sealer.key; count = old.sealer.count + 1 } → new.outbox ≡ old.outbox → Seals old new
seals_beat old new beat short unsent next outbox =
    let one : List ℕ = sealed old.sealer.key old.sealer.count (body_of Beat beat) in record {
      bodies = body_of Beat beat ∷ [];
      records = unsent ∙ ap (λ (l : List ℕ). old.connection.unsent.items ++ l) (sym (append-nil one));
      good = ((omega arith, omega arith), tt);
      frames = sym outbox;
      next = next;
    }

pub beat_most : (key : List ℕ) (count : ℕ) (beat : List ℕ) (before after : List ℕ) → length beat ≡ 27
    → after ≡ before ++ sealed key count (body_of Beat beat) → length after ≤ length before + 46
beat_most key count beat before after len is =
    omega (
      arith,
      ap length is,
      length-append before (sealed key count (body_of Beat beat)),
      sealed_most key count (body_of Beat beat),
    )

-- what carries a front of the frames that wait
pub seals_front : (old new : LinkWire) (front : List ℕ) → AreSealed old.sealer old.connection.unsent.items front new.connection.unsent.items new.sealer
    → old.outbox ≡ front ++ new.outbox → Seals old new
seals_front old new front are outbox = record {
  bodies = are.bodies;
  records = are.parts;
  good = are.good;
  frames = outbox ∙ ap (λ (l : List ℕ). l ++ new.outbox) are.frames_are;
  next = are.next;
}

module _ (old new : Sealing) (front before after : List ℕ) (are : AreSealed old before front after new) where
  -- at most five records
  pub front_most : length front ≤ 65536 → length after ≤ length before + 82010
  front_most short =
      omega (
        arith,
        ap length are.parts,
        length-append before (all_sealed old.key old.count are.bodies),
        all_most old.key old.count are.bodies are.good,
        are.few,
      )

  pub front_least : length before + length front ≤ length after
  front_least =
      omega (
        arith,
        ap length are.parts,
        length-append before (all_sealed old.key old.count are.bodies),
        all_least old.key old.count are.bodies Frames,
        ap length are.frames_are,
      )

-- ---- one batch after the other

pub seals_then : (old mid new : LinkWire) → Seals old mid → Seals mid new → Seals old new
seals_then old mid new a b =
    let key_is : mid.sealer.key ≡ old.sealer.key = ap (λ (s : Sealing). s.key) a.next in
    let count_is : mid.sealer.count ≡ old.sealer.count + length a.bodies = ap (λ (s : Sealing). s.count) a.next in
    let one : List ℕ = all_sealed old.sealer.key old.sealer.count a.bodies in
    let two : List ℕ = all_sealed old.sealer.key (old.sealer.count + length a.bodies) b.bodies in
    let two_is : all_sealed mid.sealer.key mid.sealer.count b.bodies ≡ two =
    ap (λ (key : List ℕ). all_sealed key mid.sealer.count b.bodies) key_is
    ∙ ap (λ (count : ℕ). all_sealed old.sealer.key count b.bodies) count_is in record {
      bodies = a.bodies ++ b.bodies;
      records =
          b.records ∙ ap (λ (l : List ℕ). l ++ all_sealed mid.sealer.key mid.sealer.count b.bodies) a.records
          ∙ ap (λ (l : List ℕ). (old.connection.unsent.items ++ one) ++ l) two_is
          ∙ append_assoc old.connection.unsent.items one two
          ∙ ap (λ (l : List ℕ). old.connection.unsent.items ++ l) (sym (all_sealed-append old.sealer.key old.sealer.count a.bodies b.bodies));
      good = all_good-append a.bodies b.bodies a.good b.good;
      frames =
          a.frames ∙ ap (λ (l : List ℕ). carried Frames a.bodies ++ l) b.frames
          ∙ sym (append_assoc (carried Frames a.bodies) (carried Frames b.bodies) new.outbox)
          ∙ ap (λ (l : List ℕ). l ++ new.outbox) (sym (carried-append Frames a.bodies b.bodies));
      next =
          b.next ∙ ap (λ (key : List ℕ). record { key = key; count = mid.sealer.count + length b.bodies }) key_is
          ∙ ap (λ (count : ℕ). record { key = old.sealer.key; count = count }) {x = mid.sealer.count + length b.bodies} (omega (arith, count_is, length-append a.bodies b.bodies));
    }

-- what is sealed after a beat was put
pub same_seals : (old other new : LinkWire) → other ≡ record old { beat = other.beat } → Seals other new → Seals old new
same_seals old other new same s = record {
  bodies = s.bodies;
  records =
      s.records ∙ ap (λ (w : LinkWire). w.connection.unsent.items ++ all_sealed w.sealer.key w.sealer.count s.bodies) same;
  good = s.good;
  frames = sym (ap (λ (w : LinkWire). w.outbox) same) ∙ s.frames;
  next = s.next ∙ ap (λ (w : LinkWire). record { key = w.sealer.key; count = w.sealer.count + length s.bodies }) same;
}

-- ---- the room for what is sealed

-- what is unsent after a beat was sealed, or was not, is within the bound
pub beat_fits : (result : Result Bool NoMemory) (key : List ℕ) (count : ℕ) (beat before after : List ℕ) (most : ℕ) → length beat ≡ 27
    → length before ≤ 65536 → 262144 ≤ most → (result ≡ Ok true → after ≡ before ++ sealed key count (body_of Beat beat))
    → (result ≢ Ok true → after ≡ before) → length after ≤ most
beat_fits (Ok true) key count beat before after most len room wide is same =
    omega (arith, beat_most key count beat before after len (is refl))
beat_fits (Ok false) key count beat before after most len room wide is same = omega (arith, ap length (same (λ e. cc)))
beat_fits (Err error) key count beat before after most len room wide is same = omega (arith, ap length (same (λ e. cc)))

-- and so after frames were sealed, or were not
pub front_fits : (result : Result Bool NoMemory) (old new : Sealing) (front before after : List ℕ) (most : ℕ)
    → length front ≤ 65536 → length before ≤ 65582 → 262144 ≤ most → (result ≡ Ok true → AreSealed old before front after new)
    → (result ≢ Ok true → after ≡ before) → length after ≤ most
front_fits (Ok true) old new front before after most short room wide are same = omega (arith, front_most old new front before after (are refl) short)
front_fits (Ok false) old new front before after most short room wide are same = omega (arith, ap length (same (λ e. cc)))
front_fits (Err error) old new front before after most short room wide are same = omega (arith, ap length (same (λ e. cc)))

-- what was sealed is all that waited, or as much as there is room for
pub front_is_all : (old new : Sealing) (front before after outbox left : List ℕ) (room : ℕ) → room ≡ 65536 - length before
    → front ≡ take room outbox → left ≡ drop (length front) outbox → AreSealed old before front after new
    → length after < 65536 → left ≡ []
front_is_all old new front before after outbox left room room_is front_is left_is are few =
    left_is ∙ drop_all (length front) outbox (omega (
      arith,
      ap length front_is,
      length-take room outbox,
      front_least old new front before after are,
    ))

-- a front that is taken, and what is left
pub cut : (room : ℕ) (outbox front left : List ℕ) → front ≡ take room outbox → left ≡ drop (length front) outbox → outbox ≡ front ++ left
cut room outbox front left front_is left_is =
    let same : take (length front) outbox ≡ front =
    ap (λ n. take n outbox) (ap length front_is ∙ length-take room outbox) ∙ take_min room outbox ∙ sym front_is in
    sym (take-append-drop (length front) outbox) ∙ ap (λ (l : List ℕ). l ++ drop (length front) outbox) same
    ∙ ap (λ (l : List ℕ). front ++ l) (sym left_is)

pub front_few : (room n : ℕ) (outbox front : List ℕ) → room ≡ 65536 - n → front ≡ take room outbox → length front ≤ 65536
front_few room n outbox front room_is front_is = omega (arith, ap length front_is, length-take room outbox)

-- ---- what is opened

pub carries : (stream piece other : List ℕ) (bodies : List (List ℕ)) (old new last : Opening) (opened : OpenedPiece)
    → GoesOn stream piece bodies old new opened → piece ≡ other → last ≡ new → CarriesOn stream other bodies opened.frames.items old last
carries stream piece other bodies old new last opened goes piece_is last_is = record {
  more = goes.more;
  frames_are = goes.frames;
  opens =
      subst (λ (o : Opening). Opens old.key (stream ++ other) (bodies ++ goes.more) o) (sym last_is)
      (subst (λ (l : List ℕ). Opens old.key (stream ++ l) (bodies ++ goes.more) new) piece_is goes.opens);
}

-- all that was heard is taken
pub taken_grows : (before after left : List ℕ) → Grows before after → left ≡ [] → Grows before (after ++ left)
taken_grows before after left grows none = (grows.0, ap (λ (l : List ℕ). after ++ l) none ∙ append-nil after ∙ grows.1)
