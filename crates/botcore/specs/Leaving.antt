-- How the lines leave that wait for the server: one by one, or modes of one channel together.
use Rattle.std.specs.Prelude.{ℕ, List, Option, Some, None, if◌then◌else◌}
use Rattle.outqueue.specs.Joining.{sent_joined, after_joined}
use Rattle.outqueue.specs.Sending.{Sending, sent, after as after_sending}
use Rattle.botcore.specs.Bots.{Bot}

-- how many modes of one channel go together: as many as its server takes, if the bot sends at once; else each goes alone
abbrev pub most_of : Bot → Option ℕ
most_of bot = if bot.config.sends_at_once then Some bot.channels.support.mode_limit else None

-- the lines that go at a moment
abbrev pub leaving : Option ℕ → Sending → ℕ → List (List ℕ)
leaving None queues now = sent queues now
leaving (Some most) queues now = sent_joined most queues now

-- what waits then
abbrev pub staying : Option ℕ → Sending → ℕ → Sending
staying None queues now = after_sending queues now
staying (Some most) queues now = after_joined most queues now
