-- Each stream tells something.
use Rattle.std.proofs.Common.{◌≡◌, ℕ, zero, suc, ◌-◌, ◌<◌, ◌≤◌, true, eqb, List, [], ◌∷◌, ◌++◌, length, take, drop, Option, Some, None, Ok, Err, refl, sym, ap, subst, ◌∙◌, append_assoc, arith, inl, inr, ◌⊎◌}
use Rattle.std.specs.Prelude.{IsSome}
use Rattle.std.specs.List.{flat_map}
use Rattle.std.specs.Int.{w16}
use Rattle.std.proofs.lemmas.Bool.{cases_lt, eqb-true}
use Rattle.std.proofs.lemmas.List.{length-append, length-take, take-append-drop}
use Rattle.std.proofs.lemmas.Nat.{be_bytes_2}
use Rattle.usercodec.specs.Fields.{number, Reading}
use Rattle.usercodec.proofs.Steps.{IsBytes, IsBytes-drop, IsBytes-take, chosen}
use Rattle.sharewire.specs.declared.limits.TheConstants.{MAX_LENGTH}
use Rattle.sharewire.specs.declared.fault.WireFault.{WireFault}
use Rattle.sharewire.specs.declared.fault.WireFault.TheVariants.{BadLength, BadKind, BadBody}
use Rattle.sharewire.specs.declared.kind.Kind.{Kind}
use Rattle.sharewire.specs.declared.kind.Kind.TheVariants.{Hello as hello, LaterHello as later_hello, Change as change, Part as part, Request as request, Accepted as accepted, Refused as refused, BotText as bot_text}
use Rattle.sharewire.specs.declared.packet.Packet.{Packet}
use Rattle.sharewire.specs.Kinds.{kind_byte, kind_from}
use Rattle.sharewire.specs.Frames.{inside, frame, IsGoodPacket}
use Rattle.sharewire.specs.Bodies.{body_at}
use Rattle.sharewire.specs.Streams.{said, IsLength, IsUnfinished, HasFault, Ending, Tells}
use Rattle.sharewire.specs.Steps.{IsFrame}
use Rattle.sharewire.proofs.BodyLaws.{reads_whole, reads_more, reads_none}
use Rattle.sharewire.proofs.FrameLaws.{bad_body}
use Rattle.sharewire.proofs.StreamLaws.{after_frame}

-- ---- kinds

byte_is : (byte n : ℕ) (kind x : Kind) → eqb byte n ≡ true → (let s : Option Kind = Some kind in s) ≡ Some x → kind_byte kind ≡ n → kind_byte x ≡ byte
byte_is byte n kind x same e is = let k : kind ≡ x = cc in ap kind_byte (sym k) ∙ is ∙ sym (eqb-true byte n same)

kind_byte-from : (byte : ℕ) (x : Kind) → kind_from byte ≡ Some x → kind_byte x ≡ byte
kind_byte-from byte x e =
    elim (chosen (eqb byte 1) _ _ _ e) [
      | inl p ↦ byte_is byte 1 hello x p.0 p.1 refl
      | inr p ↦
          elim (chosen (eqb byte 2) _ _ _ p.1) [
            | inl p ↦ byte_is byte 2 change x p.0 p.1 refl
            | inr p ↦
                elim (chosen (eqb byte 3) _ _ _ p.1) [
                  | inl p ↦ byte_is byte 3 part x p.0 p.1 refl
                  | inr p ↦
                      elim (chosen (eqb byte 4) _ _ _ p.1) [
                        | inl p ↦ byte_is byte 4 request x p.0 p.1 refl
                        | inr p ↦
                            elim (chosen (eqb byte 5) _ _ _ p.1) [
                              | inl p ↦ byte_is byte 5 accepted x p.0 p.1 refl
                              | inr p ↦
                                  elim (chosen (eqb byte 6) _ _ _ p.1) [
                                    | inl p ↦ byte_is byte 6 refused x p.0 p.1 refl
                                    | inr p ↦
                                        elim (chosen (eqb byte 7) _ _ _ p.1) [
                                          | inl p ↦ byte_is byte 7 bot_text x p.0 p.1 refl
                                          | inr p ↦
                                              elim (chosen (eqb byte 8) _ _ _ p.1) [
                                                | inl p ↦ byte_is byte 8 later_hello x p.0 p.1 refl
                                                | inr p ↦
                                                    absurd (none_is x p.1)
                                              ]
                                        ]
                                  ]
                            ]
                      ]
                ]
          ]
    ]
  where
    none_is : (x : Kind) → (let n : Option Kind = None in n) ≡ Some x → ⊥
    none_is x e = cc

-- ---- the front

-- what the front of a stream is
pub record IsPacketAt (bytes : List ℕ) (packet : Packet) (rest : List ℕ) : Type 0 where
  pub parts : bytes ≡ frame packet ++ rest
  pub good : IsGoodPacket packet

abbrev pub Begins : List ℕ → Type 0
Begins bytes = IsUnfinished bytes ⊎ (((fault : WireFault) × HasFault fault bytes) ⊎ ((packet : Packet) × ((rest : List ℕ) × IsPacketAt bytes packet rest)))

body_begins : (bytes : List ℕ) (kind : Kind) (body rest : List ℕ) → IsBytes body → IsFrame bytes kind body rest → Begins bytes
body_begins bytes kind body rest fits is = by (body_at kind body) refl
  where
    by : (reading : Reading Packet) → body_at kind body ≡ reading → Begins bytes
    by (Ok (packet, [])) e =
        let p = reads_whole kind body packet [] fits e refl in
        let same : bytes ≡ frame packet ++ rest = is.parts ∙ ap (λ (t : List ℕ). number w16 (length t) ++ (t ++ rest)) (sym p.1) in
        inr (inr (packet, (rest, record { parts = same; good = p.0 })))
    by (Ok (packet, x ∷ xs)) e = inr (inl (BadBody, bad_body bytes kind body rest is (reads_more kind body packet (x ∷ xs) e (λ (n : x ∷ xs ≡ []). cc))))
    by (Err fault) e = inr (inl (BadBody, bad_body bytes kind body rest is (reads_none kind body fault e)))

-- a frame whose bytes are all there
whole_begins : (a b c : ℕ) (more : List ℕ) (kind : Kind) → IsBytes (a ∷ b ∷ c ∷ more) → IsLength (said (a ∷ b ∷ c ∷ more)) → kind_from c ≡ Some kind
    → said (a ∷ b ∷ c ∷ more) ≤ suc (length more) → Begins (a ∷ b ∷ c ∷ more)
whole_begins a b c more kind fits good e whole =
    let n : ℕ = said (a ∷ b ∷ c ∷ more) in
    let k : ℕ = n - 1 in
    let body : List ℕ = take k more in
    let rest : List ℕ = drop k more in
    let count : suc (length body) ≡ n = omega (arith, length-take k more) in
    let digits : number w16 n ≡ a ∷ b ∷ [] = be_bytes_2 (a ∷ b ∷ []) n refl (IsBytes-take 2 (a ∷ b ∷ c ∷ more) fits) refl in
    let inside_is : (kind_byte kind ∷ body) ++ rest ≡ c ∷ more =
    ap (λ (x : ℕ). x ∷ (take k more ++ drop k more)) (kind_byte-from c kind e) ∙ ap (λ (t : List ℕ). c ∷ t) (take-append-drop k more) in
    let parts : a ∷ b ∷ c ∷ more ≡ number w16 (suc (length body)) ++ ((kind_byte kind ∷ body) ++ rest) =
    sym (ap (λ (m : ℕ). number w16 m ++ ((kind_byte kind ∷ body) ++ rest)) count ∙ ap (λ (d : List ℕ). d ++ ((kind_byte kind ∷ body) ++ rest)) digits
    ∙ ap (λ (t : List ℕ). a ∷ b ∷ t) inside_is) in
    let body_fits : IsBytes body = IsBytes-take k more (IsBytes-drop 3 (a ∷ b ∷ c ∷ more) fits) in
    body_begins (a ∷ b ∷ c ∷ more) kind body rest body_fits (record { parts = parts; fits = subst IsLength (sym count) good })

length_or : (n : ℕ) → IsLength n ⊎ (IsLength n → ⊥)
length_or n =
    elim (cases_lt 0 n) [
      | inl some ↦ elim (cases_lt MAX_LENGTH n) [ inl long ↦ inr (λ h. omega arith) | inr short ↦ inl (omega arith, omega arith) ]
      | inr none ↦ inr (λ h. omega arith)
    ]

-- the first two bytes say a good length
long_begins : (a b c : ℕ) (more : List ℕ) → IsBytes (a ∷ b ∷ c ∷ more) → IsLength (said (a ∷ b ∷ c ∷ more)) → Begins (a ∷ b ∷ c ∷ more)
long_begins a b c more fits good = by (kind_from c) refl
  where
    by : (found : Option Kind) → kind_from c ≡ found → Begins (a ∷ b ∷ c ∷ more)
    by None e = inr (inl (BadKind, (omega arith, (good, e))))
    by (Some kind) e = elim (cases_lt (suc (length more)) (said (a ∷ b ∷ c ∷ more))) [
      | inl short ↦ inl (record { fits = λ h. good; known = λ h. subst IsSome (sym e) refl; cut = λ h. omega arith })
      | inr whole ↦ whole_begins a b c more kind fits good e whole
    ]

begins : (bytes : List ℕ) → IsBytes bytes → Begins bytes
begins [] fits = inl (record { fits = λ h. absurd (omega arith); known = λ h. absurd (omega arith); cut = λ h. absurd (omega arith) })
begins (a ∷ []) fits = inl (record { fits = λ h. absurd (omega arith); known = λ h. absurd (omega arith); cut = λ h. absurd (omega arith) })
begins (a ∷ b ∷ []) fits =
    elim (length_or (said (a ∷ b ∷ []))) [
      | inl good ↦ inl (record { fits = λ h. good; known = λ h. absurd (omega arith); cut = λ h. omega arith })
      | inr bad ↦ inr (inl (BadLength, (omega arith, bad)))
    ]
begins (a ∷ b ∷ c ∷ more) fits =
    elim (length_or (said (a ∷ b ∷ c ∷ more))) [
      | inl good ↦ long_begins a b c more fits good
      | inr bad ↦ inr (inl (BadLength, (omega arith, bad)))
    ]

-- ---- a whole stream

-- packets and an end that the stream tells
abbrev pub Told : List ℕ → Type 0
Told stream = (packets : List Packet) × ((ending : Ending) × Tells stream packets ending)

before : (stream : List ℕ) (packet : Packet) (rest : List ℕ) → IsPacketAt stream packet rest → Told rest → Told stream
before stream packet rest is told =
    let t = told.1.1 in
    let parts : stream ≡ flat_map frame (packet ∷ told.0) ++ t.rest =
    is.parts ∙ ap (λ (r : List ℕ). frame packet ++ r) t.parts ∙ sym (append_assoc (frame packet) (flat_map frame told.0) t.rest) in
    (packet ∷ told.0, (told.1.0, record { rest = t.rest; parts = parts; good = (is.good, t.good); ends = t.ends }))

told_from : (stream : List ℕ) → IsBytes stream → Begins stream → ((rest : List ℕ) → length rest < length stream → IsBytes rest → Told rest) → Told stream
told_from stream fits (inl cut) more = ([], (Ok stream, record { rest = stream; parts = refl; good = tt; ends = (refl, cut) }))
told_from stream fits (inr (inl bad)) more = ([], (Err bad.0, record { rest = stream; parts = refl; good = tt; ends = bad.1 }))
told_from stream fits (inr (inr at)) more =
    let packet = at.0 in
    let rest = at.1.0 in
    let is : IsPacketAt stream packet rest = at.1.1 in
    let shorter : length rest < length stream = omega (arith, ap length is.parts, length-append (inside packet) rest) in
    let rest_fits : IsBytes rest =
    subst IsBytes (ap (drop (length (frame packet))) is.parts ∙ after_frame packet rest) (IsBytes-drop (length (frame packet)) stream fits) in
    before stream packet rest is (more rest shorter rest_fits)

pub told_within : (n : ℕ) (stream : List ℕ) → length stream < n → IsBytes stream → Told stream
told_within zero stream few fits = absurd (omega arith)
told_within (suc n) stream few fits =
    told_from stream fits (begins stream fits) (λ rest shorter rest_fits. told_within n rest (omega arith) rest_fits)
