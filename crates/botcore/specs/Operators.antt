-- Whether a member of a channel is op after the modes of a MODE, given what the member was before them.
use Rattle.std.specs.Prelude.{ℕ, Bool, false, List, [], ◌∷◌, Option, None, Some, if◌then◌else◌}
use Rattle.rfccase.specs.Casemapping.{is_same_by}
use Rattle.chanstate.specs.declared.member.Mark.{Mark}
use Rattle.chanstate.specs.declared.member.Mark.TheVariants.{Op, Voice, HalfOp}
use Rattle.chanstate.specs.declared.member.Member.{Member}
use Rattle.chanstate.specs.declared.support.Support.{Support}
use Rattle.chanstate.specs.Items.{Single, rank_of}

-- after one mode, given the mark that it sets or clears, and whether it is about this member
abbrev pub op_marked : Option Mark → Bool → Bool → Bool → Bool
op_marked None mine on was = was
op_marked (Some Op) mine on was = if mine then on else was
op_marked (Some Voice) mine on was = was
op_marked (Some HalfOp) mine on was = was

-- after single modes, in their order; nicks are compared by the server's casemapping
abbrev pub op_left : Support → List ℕ → List Single → Bool → Bool
op_left s nick [] was = was
op_left s nick (one ∷ more) was = op_left s nick more (op_marked (rank_of s one.letter) (is_same_by s.casemapping nick one.argument) one.on was)

-- the same for a person, on the channel or not
abbrev pub is_op_after : Support → List ℕ → List Single → Option Member → Bool
is_op_after s nick ones None = false
is_op_after s nick ones (Some member) = op_left s nick ones member.op
