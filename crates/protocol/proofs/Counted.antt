-- A record that is kept leaves what holds of a bot.
use Rattle.std.proofs.Common.{◌≡◌, ◌⊎◌, inl, inr, ℕ, zero, suc, ◌+◌, ◌≤◌, ◌==◌, Bool, true, false, List, [], ◌∷◌, ◌++◌, length, None, Some, refl, ap, sym, subst, ◌∙◌, arith}
use Rattle.std.proofs.lemmas.Bool.{cases_lt, eqb-true, eqb-false}
use Rattle.userfile.specs.Records.{Records}
use Rattle.userfile.specs.Apply.{refusal, changed}
use Rattle.userfile.specs.Together.{AreSound}
use Rattle.userfile.specs.declared.change.Change.{Change as UserChange}
use Rattle.userfile.proofs.SoundLemmas.{changed-sound}
use Rattle.botjournal.specs.declared.reply.Verdict.{Verdict}
use Rattle.botjournal.specs.declared.reply.Verdict.TheVariants.{Taken}
use Rattle.protocol.specs.Numbers.{item_at, set_at}
use Rattle.protocol.specs.Packets.{AcceptedChange}
use Rattle.protocol.specs.HubRules.{HubRecord, Accept, Settle, Rebase}
use Rattle.protocol.specs.LeafRules.{LeafRecord, Apply, Out, Done, Install, Compact, is_out, without}
use Rattle.protocol.specs.History.{PastHub, PastLeaf, records_of, with_answer, hub_grown, leaf_grown, AllExtend, HubGrows, LeafGrows}
use Rattle.protocol.specs.Soundness.{IsOwned, HubHolds, HubFits, LeafHolds, LeafFits}
use Rattle.protocol.proofs.Lists.{item_at-more, item_at-end, item_at-last, item_at-within, Extends-refl, Extends-one, Extends-length, length-one, set_at-same, AllExtend-refl, AllExtend-set_at, records_of-more, records_of-one}
use Rattle.protocol.proofs.Requests.{is_out-more, is_out-new, is_out-without, AreAsked-more, AreAsked-last, AreAsked-without}

-- ---- the hub

pub with_answer-extends : (answers : ℕ → List Verdict) (o : ℕ) (x : Verdict) → AllExtend answers (with_answer answers o x)
with_answer-extends answers zero x = AllExtend-refl answers
with_answer-extends answers (suc k) x = AllExtend-set_at answers (suc k) x

pub hub_grows : (h : PastHub) (asked : ℕ → List UserChange) (rec : HubRecord) → HubHolds asked h → HubGrows h (hub_grown h rec)
hub_grows h asked (Accept e) holds =
    record { accepted = Extends-one h.accepted e; answers = with_answer-extends h.answers e.origin _; floor = omega arith }
hub_grows h asked (Settle i fault) holds =
    record { accepted = Extends-refl h.accepted; answers = with_answer-extends h.answers i _; floor = omega arith }
hub_grows h asked Rebase holds = record { accepted = Extends-refl h.accepted; answers = AllExtend-refl h.answers; floor = holds.floor }

IsOwned-more : (answers answers' : ℕ → List Verdict) (asked asked' : ℕ → List UserChange) (n : ℕ) (e : AcceptedChange)
    → AllExtend answers answers' → AllExtend asked asked' → IsOwned answers asked n e → IsOwned answers' asked' n e
IsOwned-more answers answers' asked asked' n e more more' (inl z) = inl z
IsOwned-more answers answers' asked asked' n e more more' (inr t) =
    inr (item_at-more _ _ e.request _ (more e.origin) t.0, item_at-more _ _ e.request _ (more' e.origin) t.1)

-- the last accepted change is owned
owned_last : (answers : ℕ → List Verdict) (asked : ℕ → List UserChange) (n : ℕ) (e : AcceptedChange) (o : ℕ) → e.origin ≡ o
    → (e.origin ≡ 0) ⊎ ((e.request ≡ length (answers e.origin) + 1) × (item_at (asked e.origin) e.request ≡ Some e.change))
    → IsOwned (with_answer answers o (Taken n)) asked n e
owned_last answers asked n e zero is f = inl is
owned_last answers asked n e (suc k) is (inl z) = inl z
owned_last answers asked n e (suc k) is (inr f) =
    let there : set_at answers (suc k) (answers (suc k) ++ Taken n ∷ []) e.origin ≡ answers (suc k) ++ Taken n ∷ [] =
    ap (set_at answers (suc k) (answers (suc k) ++ Taken n ∷ [])) is ∙ set_at-same answers (suc k) _ in
    let number : e.request ≡ length (answers (suc k)) + 1 = f.0 ∙ ap (λ o. length (answers o) + 1) is in
    inr (rw (there, number) (item_at-end (answers (suc k)) (Taken n)), f.1)

pub hub_holds_grown : (h : PastHub) (asked : ℕ → List UserChange) (rec : HubRecord) → HubHolds asked h → HubFits asked h rec
    → HubHolds asked (hub_grown h rec)
hub_holds_grown h asked (Accept e) holds fits = record {
  taken = taken;
  whole = whole;
  owned = owned;
  floor = omega (arith, holds.floor, length-one h.accepted e);
}
  where
    taken : (place : ℕ) (x : AcceptedChange) → item_at (h.accepted ++ e ∷ []) (suc place) ≡ Some x
        → refusal (records_of (h.accepted ++ e ∷ []) place) x.change ≡ None
    taken place x at = elim (item_at-last h.accepted e (suc place) x at) [
      | inl old ↦ let within : place ≤ length h.accepted = omega (arith, item_at-within h.accepted (suc place) x old) in
          ap (λ (r : Records). refusal r x.change) (records_of-more h.accepted (h.accepted ++ e ∷ []) place (Extends-one h.accepted e) within)
          ∙ holds.taken place x old
      | inr new ↦ let is : place ≡ length h.accepted = omega (arith, new.0) in
          ap (λ (r : Records). refusal r x.change) (records_of-more h.accepted (h.accepted ++ e ∷ []) place (Extends-one h.accepted e) (omega (arith, is)))
          ∙ (rw (is, ← new.1) fits.0)
    ]

    whole : (v : ℕ) → v ≤ length (h.accepted ++ e ∷ []) → AreSound (records_of (h.accepted ++ e ∷ []) v)
    whole v within = elim (cases_lt (length h.accepted) v) [
      | inl above ↦ let last : v ≡ length (h.accepted ++ e ∷ []) = omega (arith, above, within, length-one h.accepted e) in
          let is : records_of (h.accepted ++ e ∷ []) v ≡ changed (records_of h.accepted (length h.accepted)) e.change =
          ap (records_of (h.accepted ++ e ∷ [])) last ∙ records_of-one h.accepted e in
          subst AreSound (sym is) (changed-sound _ e.change (holds.whole (length h.accepted) (omega arith)) fits.0)
      | inr below ↦ subst AreSound (sym (records_of-more h.accepted (h.accepted ++ e ∷ []) v (Extends-one h.accepted e) below)) (holds.whole v below)
    ]

    owned : (n : ℕ) (x : AcceptedChange) → item_at (h.accepted ++ e ∷ []) n ≡ Some x
        → IsOwned (with_answer h.answers e.origin (Taken (length h.accepted + 1))) asked n x
    owned n x at = elim (item_at-last h.accepted e n x at) [
      | inl old ↦ IsOwned-more h.answers _ asked asked n x (with_answer-extends h.answers e.origin _) (AllExtend-refl asked) (holds.owned n x old)
      | inr new ↦ rw (new.0, ← new.1) (owned_last h.answers asked (length h.accepted + 1) e e.origin refl fits.1)
    ]
hub_holds_grown h asked (Settle i fault) holds fits = record {
  taken = holds.taken;
  whole = holds.whole;
  owned =
      λ n x at. IsOwned-more h.answers _ asked asked n x (with_answer-extends h.answers i _) (AllExtend-refl asked) (holds.owned n x at);
  floor = holds.floor;
}
hub_holds_grown h asked Rebase holds fits = record { taken = holds.taken; whole = holds.whole; owned = holds.owned; floor = omega arith }

-- more asked changes leave it
pub HubHolds-more : (h : PastHub) (asked asked' : ℕ → List UserChange) → AllExtend asked asked' → HubHolds asked h
    → HubHolds asked' h
HubHolds-more h asked asked' more holds = record {
  taken = holds.taken;
  whole = holds.whole;
  owned = λ n x at. IsOwned-more h.answers h.answers asked asked' n x (AllExtend-refl h.answers) more (holds.owned n x at);
  floor = holds.floor;
}

pub HubFits-more : (h : PastHub) (asked asked' : ℕ → List UserChange) (rec : HubRecord) → AllExtend asked asked'
    → HubFits asked h rec → HubFits asked' h rec
HubFits-more h asked asked' (Accept e) more fits =
    (fits.0, elim fits.1 [ inl z ↦ inl z | inr f ↦ inr (f.0, item_at-more _ _ e.request _ (more e.origin) f.1) ])
HubFits-more h asked asked' (Settle i fault) more fits = tt
HubFits-more h asked asked' Rebase more fits = tt

-- ---- a leaf

pub leaf_grows : (h : PastHub) (i : ℕ) (l : PastLeaf) (rec : LeafRecord) → LeafFits h i l rec → LeafGrows l (leaf_grown l rec)
leaf_grows h i l (Apply c) fits = record { version = omega arith; asked = Extends-refl l.asked }
leaf_grows h i l (Out c) fits = record { version = omega arith; asked = Extends-one l.asked c }
leaf_grows h i l (Install s records) fits = record { version = fits.0; asked = Extends-refl l.asked }
leaf_grows h i l Compact fits = record { version = omega arith; asked = Extends-refl l.asked }
leaf_grows h i l (Done r) fits = record { version = omega arith; asked = Extends-refl l.asked }

pub leaf_holds_grown : (h : PastHub) (i : ℕ) (l : PastLeaf) (rec : LeafRecord) → LeafHolds h i l → LeafFits h i l rec
    → LeafHolds h i (leaf_grown l rec)
leaf_holds_grown h i l (Apply c) holds fits =
    record {
      version = omega (arith, item_at-within h.accepted (suc l.version) fits.0 fits.1);
      asked = holds.asked;
      answered = holds.answered;
    }
leaf_holds_grown h i l (Out c) holds fits = record {
  version = holds.version;
  asked =
      AreAsked-last (l.asked ++ c ∷ []) l.out (length l.asked + 1) c
      (AreAsked-more l.asked (l.asked ++ c ∷ []) l.out (Extends-one l.asked c) holds.asked) (item_at-end l.asked c);
  answered = λ r within. elim (cases_lt (length l.asked) r) [
    | inl above ↦ inl (is_out-new r l.out (length l.asked + 1) c (omega (arith, above, within, length-one l.asked c)))
    | inr below ↦ elim (holds.answered r below) [
      | inl out ↦ inl (is_out-more r l.out (length l.asked + 1) c out)
      | inr answered ↦ inr answered
    ]
  ];
}
leaf_holds_grown h i l (Done s) holds fits = record {
  version = holds.version;
  asked = AreAsked-without l.asked s l.out holds.asked;
  answered = λ r within. by r within (r == s) refl;
}
  where
    by : (r : ℕ) → r ≤ length l.asked → (b : Bool) → (r == s) ≡ b
        → (is_out r (without s l.out) ≡ true) ⊎ (r ≤ length (h.answers i))
    by r within true e = inr (omega (arith, eqb-true r s e, fits))
    by r within false e = elim (holds.answered r within) [
      | inl out ↦ inl (is_out-without r s l.out (eqb-false r s e) out)
      | inr answered ↦ inr answered
    ]
leaf_holds_grown h i l (Install s records) holds fits = record { version = fits.1; asked = holds.asked; answered = holds.answered }
leaf_holds_grown h i l Compact holds fits = holds

-- a hub that grows leaves it
pub LeafHolds-more : (h h' : PastHub) (i : ℕ) (l : PastLeaf) → HubGrows h h' → LeafHolds h i l → LeafHolds h' i l
LeafHolds-more h h' i l grows holds = record {
  version = omega (arith, holds.version, Extends-length _ _ grows.accepted);
  asked = holds.asked;
  answered = λ r within. elim (holds.answered r within) [
    | inl out ↦ inl out
    | inr answered ↦ inr (omega (arith, answered, Extends-length _ _ (grows.answers i)))
  ];
}

pub LeafFits-more : (h h' : PastHub) (i : ℕ) (l : PastLeaf) (rec : LeafRecord) → HubGrows h h' → LeafFits h i l rec
    → LeafFits h' i l rec
LeafFits-more h h' i l (Apply c) grows fits = (fits.0, item_at-more _ _ (suc l.version) _ grows.accepted fits.1, fits.2)
LeafFits-more h h' i l (Out c) grows fits = fits
LeafFits-more h h' i l (Install s records) grows fits =
    (fits.0, omega (arith, fits.1, Extends-length _ _ grows.accepted), fits.2 ∙ sym (records_of-more h.accepted h'.accepted s grows.accepted fits.1))
LeafFits-more h h' i l Compact grows fits = tt
LeafFits-more h h' i l (Done r) grows fits = omega (arith, fits, Extends-length _ _ (grows.answers i))
