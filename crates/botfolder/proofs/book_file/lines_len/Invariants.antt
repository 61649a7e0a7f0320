use Rattle.std.proofs.Common.{◌≡◌, ◌≤◌, ◌-◌, ◌+◌, length, take}
use Rattle.botfolder.specs.Books.{torn_len}
use Rattle.botfolder.proofs.book_file.lines_len.Given as goal

-- all bytes from here on stand after the last line feed
abbrev pub invariant-loop-len : goal.invariant-loop-len
invariant-loop-len l = record {
  within : l.len ≤ length l.bytes;
  torn : torn_len l.bytes ≡ (length l.bytes - l.len) + torn_len (take l.len l.bytes);
}

abbrev pub decreases-loop-len : goal.decreases-loop-len
decreases-loop-len l = l.len
