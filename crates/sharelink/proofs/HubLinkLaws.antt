-- How a call stands to its row.
use Rattle.std.proofs.Common.{◌≡◌, ◌⊎◌, ◌+◌, ◌<◌, ◌≤◌, ◌==◌, ℕ, false, nat_lt, List, Ok, refl, sym, ap, inl, inr, ◌∙◌, arith, eq-eqb, lt-ltb}
use Rattle.std.proofs.lemmas.Bool.{ne_eqb, cases_order}
use Rattle.std.proofs.lemmas.Bool.Decides.{nat_tests}
use Rattle.protocol.specs.Notes.{Note}
use Rattle.protocol.specs.Packets.{Outgoing as Sent}
use Rattle.protocol.specs.Bots.{How, Works, Fails, Row}
use Rattle.protocol.specs.HubRules.{Hub}
use Rattle.protocol.specs.Numbers.{Below, Same, Next, Above, place_of}
use Rattle.sharelink.specs.declared.answer.Answer.{Answer}
use Rattle.sharelink.specs.Calls.{note_of, outgoings_of}
use Rattle.sharelink.specs.StateEnds.{LeavesIfCalled}
use Rattle.sharelink.specs.HubLinks.{HubEnd, IsOwn, Calls}

-- an answer
pub meets-answer : (old new : HubEnd) (row : How → Row Hub) (meaning : Note) (sends : List Sent) (answer : Answer)
    → row Works ≡ record { told = Ok meaning; sends = sends; after = new.bot } → note_of answer.note ≡ meaning → outgoings_of answer.packets ≡ sends
    → new.number ≡ old.number → new.leaves ≡ old.leaves → LeavesIfCalled old.device new.device (IsOwn old.leaves (row Fails).after)
    → Calls old row (Ok answer) new
meets-answer old new row meaning sends answer is notes sent numbered same moments = record {
  row_of = record {
    told = ap (λ (r : Row Hub). r.told) is ∙ ap (λ n. Ok n) (sym notes);
    sends = ap (λ (r : Row Hub). r.sends) is ∙ sym sent;
    after = sym (ap (λ (r : Row Hub). r.after) is);
  };
  number = numbered;
  leaves = same;
  moments = moments;
}

-- ---- where a request's number stands to that of the last reply

pub place-old : (number last : ℕ) → number ≤ last → (place_of number last ≡ Below) ⊎ (place_of number last ≡ Same)
place-old number last le = by (cases_order number last)
  where
    by : (number ≡ last) ⊎ ((number < last) ⊎ (last < number)) → (place_of number last ≡ Below) ⊎ (place_of number last ≡ Same)
    by (inl same) =
        let test : nat_lt number last ≡ false = grind (arith, nat_tests, same) in
        inr (rw (test, eq-eqb number last same) refl)
    by (inr (inl below)) = inl (rw (lt-ltb number last below) refl)
    by (inr (inr above)) = absurd (omega (arith, above, le))

pub place-next : (number last : ℕ) → number ≡ last + 1 → place_of number last ≡ Next
place-next number last next =
    let test : nat_lt number last ≡ false = grind (arith, nat_tests, next) in
    let other : (number == last) ≡ false = ne_eqb number last (λ same. absurd (omega (arith, same, next))) in
    rw (test, other, eq-eqb number (last + 1) next) refl

pub place-above : (number last : ℕ) → last + 1 < number → place_of number last ≡ Above
place-above number last far =
    let test : nat_lt number last ≡ false = grind (arith, nat_tests, far) in
    let other : (number == last) ≡ false = ne_eqb number last (λ same. absurd (omega (arith, same, far))) in
    let apart : (number == (last + 1)) ≡ false = ne_eqb number (last + 1) (λ same. absurd (omega (arith, same, far))) in
    rw (test, other, apart) refl
