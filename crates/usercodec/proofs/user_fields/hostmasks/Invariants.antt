use Rattle.std.proofs.Common.{◌≡◌, take}
use Rattle.usercodec.specs.Users.{texts_of}
use Rattle.usercodec.proofs.user_fields.hostmasks.Given as goal

abbrev pub invariant-loop-text : goal.invariant-loop-text
invariant-loop-text l = l.masks.items ≡ texts_of (take l.text-index l.texts)
