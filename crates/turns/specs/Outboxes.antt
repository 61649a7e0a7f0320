-- The content of an outbox.
use Rattle.std.specs.List.{flat_map}
use Rattle.turns.specs.declared.outbox.Outbox.{Outbox}
use Rattle.botcore.specs.Bots.{Bot}
use Rattle.turns.specs.Driving.{Course, text_of}

-- a bot, and what its outbox holds
abbrev pub course_of : Bot → Outbox → Course
course_of bot outbox = record {
  bot = bot;
  packets = outbox.packets.items;
  text = flat_map text_of outbox.lines.items;
  outcomes = outbox.outcomes.items;
}
