-- The text of a bot: what is read is spelled so, and what is spelled so is read.
use Rattle.std.proofs.Common.{◌≡◌, ℕ, ◌^◌, ◌<◌, true, List, ◌++◌, length, Ok, sym, ap, subst, ◌∙◌, append_assoc, arith}
use Rattle.std.specs.Int.{w16}
use Rattle.usercodec.specs.Fields.{number, checked, bytes_at, number_at}
use Rattle.usercodec.proofs.Steps.{IsBytes, bind_ok, Takes, Takes-then}
use Rattle.usercodec.proofs.FieldLaws.{bytes_takes, bytes_again}
use Rattle.usercodec.proofs.PartLaws.{IsPart, checked_part}
use Rattle.usercodec.proofs.ReaderLaws.{u16_part}
use Rattle.sharewire.specs.Texts.{is_bot_text}
use Rattle.sharewire.specs.Frames.{long_text}
use Rattle.sharewire.specs.Bodies.{long_text_at, bot_text_at}
use Rattle.sharewire.proofs.LengthLaws.{bot_text_is_short}

long_text_part : IsPart long_text_at long_text (λ text. length text < 2 ^ 16)
unfolding long_text_at
long_text_part = record { takes = takes; again = again }
  where
    takes : (bytes x rest : List ℕ) → IsBytes bytes → long_text_at bytes ≡ Ok (x, rest) → Takes bytes (long_text x) rest × (length x < 2 ^ 16)
    takes bytes x rest fits e =
        let a = bind_ok (number_at w16 bytes) (λ count. bytes_at count.0 count.1) (x, rest) e in
        let t = u16_part.takes bytes a.0.0 a.0.1 fits a.1 in
        let u = bytes_takes a.0.0 a.0.1 x rest t.0.rest_fits a.2 in
        let whole = Takes-then bytes (number w16 a.0.0) a.0.1 x rest t.0 u.0 in
        (subst (λ (k : ℕ). Takes bytes (number w16 k ++ x) rest) (sym u.1) whole, omega (arith, t.1, u.1))

    again : (x rest : List ℕ) → length x < 2 ^ 16 → long_text_at (long_text x ++ rest) ≡ Ok (x, rest)
    again x rest lt =
        let grouped : long_text x ++ rest ≡ number w16 (length x) ++ (x ++ rest) = append_assoc (number w16 (length x)) x rest in
        ap long_text_at grouped ∙ rw (u16_part.again (length x) (x ++ rest) lt) (bytes_again x rest)

pub bot_text_part : IsPart bot_text_at long_text (λ text. is_bot_text text ≡ true)
unfolding bot_text_at
bot_text_part = record { takes = λ bytes x rest fits e. (let t = tested.takes bytes x rest fits e in (t.0, t.1.1)); again = again }
  where
    tested : IsPart (λ bytes. checked is_bot_text (long_text_at bytes)) long_text (λ text. (length text < 2 ^ 16) × (is_bot_text text ≡ true))
    tested = checked_part long_text_part is_bot_text

    again : (x rest : List ℕ) → is_bot_text x ≡ true → bot_text_at (long_text x ++ rest) ≡ Ok (x, rest)
    again x rest good = tested.again x rest (omega (arith, bot_text_is_short x good), good)
