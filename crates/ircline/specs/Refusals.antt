-- When a message is not printed.
use Rattle.std.specs.Prelude.{◌≡◌, ℕ, List, length}
use Rattle.ircline.specs.declared.message.Message.{Message}
use Rattle.bytetext.specs.declared.failure.Failure.{Failure}
use Rattle.bytetext.specs.declared.failure.Failure.TheVariants.{Refused, NoMemory}
use Rattle.ircline.specs.declared.fault.NotPrintable.{NotPrintable}
use Rattle.ircline.specs.Printing.{canonical, ReadsBack}

-- A message is refused only if its canonical line would not read back. No other line reads back as the message either,
-- with one exception: after fourteen parameters the last one can hold a space without a colon, and the colon may be the
-- byte by which the canonical line is too long. Out of memory comes only if nothing else is wrong. That a refusal is
-- about the canonical line is our own choice; what reads back is the RFC's.
abbrev pub Fails : Message → Failure NotPrintable → Type 0
Fails message (Refused fault) =
    (¬ ReadsBack (canonical message) message)
    × ((line : List ℕ) → ReadsBack line message → (length message.params ≡ 15) × (length line ≡ 510))
Fails message NoMemory = ReadsBack (canonical message) message
