-- Each proc is found by its name, so that its body keeps the promise of that name.
use Rattle.std.proofs.Common.{◌≡◌, ◌∙◌, refl, ap, sym, Ok, Err, Option, Some}
use Rattle.procs.specs.declared.reply.ProcReply.{ProcReply}
use Rattle.procs.specs.Promises.{KeepsPromise}
use Rattle.eggprocs.specs.declared.proc_name.ProcName.{ProcName}
use Rattle.eggprocs.specs.declared.proc_name.ProcName.TheVariants.{Quiet, Stop, AddUser, Tick, Tell, Echo, Op, Deop, Voice, Devoice, AutoOp, Kick, Topic, Invite, Ban, Unban, Lift}
use Rattle.eggprocs.specs.declared.proc_name.ProcName.TheVariants.{PlusUser, MinusUser, PlusHost, MinusHost, Chattr, Whois, Info, Greet, Stick, Unstick, Bans, Seen, OpAll}
use Rattle.eggprocs.specs.declared.proc_name.ProcName.TheVariants.{ProtectOps, Bitch, Guard, EnforceBans, Later, Expire}
use Rattle.eggprocs.specs.declared.proc_name.ProcName.TheVariants.{Ctcp, KeepModes, Cycle, DynamicBans, NeedOp, GiveOp, KeepBans, KickFloods, NeedIn, LetIn}
use Rattle.eggprocs.specs.Procs.{name_of, which_named, code_if, actions_if, answers_by, ours}

pub which_named-name_of : (which : ProcName) → which_named (name_of which) ≡ Some which
unfolding which_named
which_named-name_of Quiet = refl
which_named-name_of Stop = refl
which_named-name_of AddUser = refl
which_named-name_of Tick = refl
which_named-name_of Tell = refl
which_named-name_of Echo = refl
which_named-name_of Op = refl
which_named-name_of Deop = refl
which_named-name_of Voice = refl
which_named-name_of Devoice = refl
which_named-name_of AutoOp = refl
which_named-name_of Kick = refl
which_named-name_of Topic = refl
which_named-name_of Invite = refl
which_named-name_of Ban = refl
which_named-name_of Unban = refl
which_named-name_of Lift = refl
which_named-name_of PlusUser = refl
which_named-name_of MinusUser = refl
which_named-name_of PlusHost = refl
which_named-name_of MinusHost = refl
which_named-name_of Chattr = refl
which_named-name_of Whois = refl
which_named-name_of Info = refl
which_named-name_of Greet = refl
which_named-name_of Stick = refl
which_named-name_of Unstick = refl
which_named-name_of Bans = refl
which_named-name_of Seen = refl
which_named-name_of OpAll = refl
which_named-name_of ProtectOps = refl
which_named-name_of Bitch = refl
which_named-name_of Guard = refl
which_named-name_of EnforceBans = refl
which_named-name_of Later = refl
which_named-name_of Expire = refl
which_named-name_of Ctcp = refl
which_named-name_of KeepModes = refl
which_named-name_of Cycle = refl
which_named-name_of DynamicBans = refl
which_named-name_of NeedOp = refl
which_named-name_of GiveOp = refl
which_named-name_of KeepBans = refl
which_named-name_of KickFloods = refl
which_named-name_of NeedIn = refl
which_named-name_of LetIn = refl

pub keeps : (which : ProcName) → KeepsPromise ours (name_of which) (answers_by which)
keeps which call seen (Ok reply) is = record {
  code = ap (λ (r : ProcReply). r.code) is ∙ sym (ap code_if (which_named-name_of which));
  actions = ap (λ (r : ProcReply). r.actions) is ∙ sym (ap (λ (named : Option ProcName). actions_if named call seen) (which_named-name_of which));
}
keeps which call seen (Err lack) is = tt
