use Rattle.std.proofs.Common.{refl}
use Rattle.eggprocs.specs.declared.proc_name.ProcName.TheVariants as which
use Rattle.eggprocs.proofs.LawLemmas.{asks-no-change, is_master-lacks, plus_user-asks, minus_user-asks, plus_host-asks, minus_host-asks, chattr-asks, whois-asks, stick-asks, unstick-asks, bans-asks}
use Rattle.eggprocs.proofs.laws.changes_want_a_master.Goals as goal

pub returns-clause-plus_user : goal.returns-clause-plus_user
returns-clause-plus_user c = λ call seen master owner.
    asks-no-change which.PlusUser call seen refl (plus_user-asks call seen (is_master-lacks call seen master owner))

pub returns-clause-minus_user : goal.returns-clause-minus_user
returns-clause-minus_user c = λ call seen master owner.
    asks-no-change which.MinusUser call seen refl (minus_user-asks call seen (is_master-lacks call seen master owner))

pub returns-clause-plus_host : goal.returns-clause-plus_host
returns-clause-plus_host c = λ call seen master owner.
    asks-no-change which.PlusHost call seen refl (plus_host-asks call seen (is_master-lacks call seen master owner))

pub returns-clause-minus_host : goal.returns-clause-minus_host
returns-clause-minus_host c = λ call seen master owner.
    asks-no-change which.MinusHost call seen refl (minus_host-asks call seen (is_master-lacks call seen master owner))

pub returns-clause-chattr : goal.returns-clause-chattr
returns-clause-chattr c = λ call seen master owner.
    asks-no-change which.Chattr call seen refl (chattr-asks call seen (is_master-lacks call seen master owner))

pub returns-clause-whois : goal.returns-clause-whois
returns-clause-whois c = λ call seen master owner.
    asks-no-change which.Whois call seen refl (whois-asks call seen)

pub returns-clause-stick : goal.returns-clause-stick
returns-clause-stick c = λ call seen master owner.
    asks-no-change which.Stick call seen refl (stick-asks call seen (is_master-lacks call seen master owner))

pub returns-clause-unstick : goal.returns-clause-unstick
returns-clause-unstick c = λ call seen master owner.
    asks-no-change which.Unstick call seen refl (unstick-asks call seen (is_master-lacks call seen master owner))

pub returns-clause-bans : goal.returns-clause-bans
returns-clause-bans c = λ call seen master owner.
    asks-no-change which.Bans call seen refl (bans-asks call seen)
