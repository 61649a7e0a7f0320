use Rattle.std.proofs.Common.{◌≡◌, ◌≢◌, ℕ, None, Some, Err, inl, inr, sym, ap, subst, ◌∙◌, arith}
use Rattle.botjournal.specs.declared.TheConstants.{LAYOUT}
use Rattle.botjournal.specs.Contents.{meaning}
use Rattle.botjournal.specs.Ledger.{Account, Device, device_on}
use Rattle.sharelink.specs.States.{Reads, contents_in}
use Rattle.sharelink.specs.Kept.{Kept, Renews}
use Rattle.sharelink.specs.StateOpening.{KeepsGates, LeavesFound, at_rest}
use Rattle.sharelink.proofs.FoundLaws.{rested-mean}
use Rattle.sharelink.proofs.KeptLaws.{found-meaning}
use Rattle.sharelink.proofs.AnewLaws.{gates-put, gates-still, left-still, none-read, put-at-each, put-finds}
use Rattle.sharelink.proofs.kept.Kept.open.Goals as goal

-- ---- a journal that means a state

pub up-requires-clause-means : goal.up-requires-clause-means
up-requires-clause-means g c =
    let opened = c.in-Ok.opened in
    found-meaning (g.S.EndState.meaning c.args.who) g.S.EndState.folded c.generation.result opened.1 opened.0.account
    (Some c.in-Ok-state_in.state) c.in-Ok.ensures.row.1 c.generation.ensures c.in-Ok.ensures.row.2 c.in-Ok-state_in.ensures.reads

pub put_anew-requires-clause-means : goal.put_anew-requires-clause-means
put_anew-requires-clause-means g c =
    let opened = c.in-Ok.opened in
    found-meaning (g.S.EndState.meaning c.args.who) g.S.EndState.folded c.generation.result opened.1 opened.0.account
    (Some c.in-Ok-state_in.state) c.in-Ok.ensures.row.1 c.generation.ensures c.in-Ok.ensures.row.2 c.in-Ok-state_in.ensures.reads

-- ---- the present layout

pub returns-then-layout-eq-LAYOUT-clause-row : goal.returns-then-layout-eq-LAYOUT-clause-row
returns-then-layout-eq-LAYOUT-clause-row g c =
    let opened = c.in-Ok.opened in
    let account = opened.0.account in
    let current : account.contents.layout ≡ LAYOUT =
    omega (arith, c.layout.ensures (ap (λ (a : Account). a.down) c.in-Ok.ensures.row.1), c.if-layout-eq-LAYOUT.true) in
    let kept = ap (λ (k : Kept g.row.S.Denot g.row.S-Record.Denot). k.state) c.up.ensures in (
      record {
        contents = account.contents;
        found = c.in-Ok.ensures.row.0;
        before = c.in-Ok-state_in.state;
        means = found-meaning (g.S.EndState.meaning c.args.who) g.S.EndState.folded c.generation.result opened.1 account
            (Some c.in-Ok-state_in.state) c.in-Ok.ensures.row.1 c.generation.ensures c.in-Ok.ensures.row.2 c.in-Ok-state_in.ensures.reads;
        keeps = inl (current, kept);
      },
      c.up.ensures
          ∙ ap (λ (d : Device). at_rest c.args.who c.in-Ok-state_in.state d)
          (sym (ap (λ (k : Kept g.row.S.Denot g.row.S-Record.Denot). k.device) c.up.ensures))
          ∙ ap (λ s. at_rest c.args.who s c.up.result.device) (sym kept),
    )

pub returns-then-layout-eq-LAYOUT-clause-any_moment : goal.returns-then-layout-eq-LAYOUT-clause-any_moment
returns-then-layout-eq-LAYOUT-clause-any_moment g c =
    let state = g.D.Disk.state in
    let means = g.S.EndState.meaning c.args.who in
    let becomes = Renews g.S.EndState.may g.S.EndState.folded g.S.EndState.renewal in
    subst (λ (d : Device). LeavesFound state c.args.first c.args.second means becomes d)
    (sym (ap (λ (k : Kept g.row.S.Denot g.row.S-Record.Denot). k.device) c.up.ensures))
    (left-still state c.args.first c.args.second means becomes c.in-Ok.opened.0.device c.requires.first_settled c.requires.second_settled
    c.in-Ok.ensures.still)

-- ---- an older one

pub returns-else-layout-eq-LAYOUT-clause-row : goal.returns-else-layout-eq-LAYOUT-clause-row
returns-else-layout-eq-LAYOUT-clause-row g c =
    let opened = c.in-Ok.opened in
    let account = opened.0.account in
    let before = c.in-Ok-state_in.state in
    let pending = g.S.EndState.pending c.args.who before g.S.EndState.renewal in
    let down = ap (λ (a : Account). a.down) c.in-Ok.ensures.row.1 in
    let older : account.contents.layout ≢ LAYOUT =
    λ (same : account.contents.layout ≡ LAYOUT). omega (arith, same, c.layout.ensures down, c.if-layout-eq-LAYOUT.false) in
    let means = found-meaning (g.S.EndState.meaning c.args.who) g.S.EndState.folded c.generation.result opened.1 account (Some before)
    c.in-Ok.ensures.row.1 c.generation.ensures c.in-Ok.ensures.row.2 c.in-Ok-state_in.ensures.reads in
    put-finds g.D.Disk.state c.args.first c.args.second (g.S.EndState.meaning c.args.who) c.args.who g.S.EndState.may g.S.EndState.folded
    g.S.EndState.renewal pending opened.0 before c.in-Ok.ensures.row.0 c.in-Ok.ensures.still c.in-Ok.ensures.no_fewer older means
    (λ (may : g.S.EndState.may before g.S.EndState.renewal).
    g.met.S.EndState.writes c.args.who account.contents before g.S.EndState.renewal c.requires.end c.in-Ok-state_in.ensures.state may means)
    (g.met.S.EndState.renews_layout c.args.who account.contents before) c.put_anew.result
    c.put_anew.ensures.row c.put_anew.ensures.any_moment

pub returns-else-layout-eq-LAYOUT-clause-any_moment : goal.returns-else-layout-eq-LAYOUT-clause-any_moment
returns-else-layout-eq-LAYOUT-clause-any_moment g c =
    let opened = c.in-Ok.opened in
    let account = opened.0.account in
    let before = c.in-Ok-state_in.state in
    let pending = g.S.EndState.pending c.args.who before g.S.EndState.renewal in
    let down = ap (λ (a : Account). a.down) c.in-Ok.ensures.row.1 in
    let older : account.contents.layout ≢ LAYOUT =
    λ (same : account.contents.layout ≡ LAYOUT). omega (arith, same, c.layout.ensures down, c.if-layout-eq-LAYOUT.false) in
    let means = found-meaning (g.S.EndState.meaning c.args.who) g.S.EndState.folded c.generation.result opened.1 account (Some before)
    c.in-Ok.ensures.row.1 c.generation.ensures c.in-Ok.ensures.row.2 c.in-Ok-state_in.ensures.reads in
    put-at-each g.D.Disk.state c.args.first c.args.second (g.S.EndState.meaning c.args.who) c.args.who g.S.EndState.may g.S.EndState.folded
    g.S.EndState.renewal pending opened.0 before c.in-Ok.ensures.row.0 c.in-Ok.ensures.still c.in-Ok.ensures.no_fewer older means
    (λ (may : g.S.EndState.may before g.S.EndState.renewal).
    g.met.S.EndState.writes c.args.who account.contents before g.S.EndState.renewal c.requires.end c.in-Ok-state_in.ensures.state may means)
    (g.met.S.EndState.renews_layout c.args.who account.contents before) c.put_anew.result c.put_anew.ensures.any_moment

-- ---- another's, or none

pub returns-in-Err-clause-row : goal.returns-in-Err-clause-row
returns-in-Err-clause-row g c =
    none-read g.D.Disk.state c.args.first c.args.second (g.S.EndState.meaning c.args.who)
    (Renews g.S.EndState.may g.S.EndState.folded g.S.EndState.renewal) c.in-Err.returned c.in-Err.ensures.row.0 c.in-Err.ensures.row.1
    c.in-Err.ensures.row.2

pub returns-in-Err-Refused-clause-row : goal.returns-in-Err-Refused-clause-row
returns-in-Err-Refused-clause-row g c =
    let account = c.in-Ok.opened.0.account in
    let before = meaning (g.D.Disk.state c.args.first).seen (g.D.Disk.state c.args.second).seen in
    let none = λ (layout : ℕ). subst (λ e. Reads (g.S.EndState.meaning c.args.who (contents_in layout c.generation.result c.in-Ok.opened.1)) (Err e))
    c.in-Err-Refused.field-0-is (c.in-Err-Refused.ensures.reads layout) in (
      inr (record {
        contents = account.contents;
        found = c.in-Ok.ensures.row.0;
        means = found-meaning (g.S.EndState.meaning c.args.who) g.S.EndState.folded c.generation.result c.in-Ok.opened.1 account None
            c.in-Ok.ensures.row.1 c.generation.ensures c.in-Ok.ensures.row.2 none;
      }),
      λ x y left right.
          inl (rested-mean account before x y c.in-Ok.ensures.row.1 c.in-Ok.ensures.row.0 (c.into_disks.ensures.left x y left right)),
    )

pub returns-in-Err-Refused-clause-any_moment : goal.returns-in-Err-Refused-clause-any_moment
returns-in-Err-Refused-clause-any_moment g c =
    let state = g.D.Disk.state in
    let means = g.S.EndState.meaning c.args.who in
    let becomes = Renews g.S.EndState.may g.S.EndState.folded g.S.EndState.renewal in
    subst (λ (d : Device). LeavesFound state c.args.first c.args.second means becomes d) (sym c.into_disks.ensures.device)
    (left-still state c.args.first c.args.second means becomes c.in-Ok.opened.0.device c.requires.first_settled c.requires.second_settled
    c.in-Ok.ensures.still)

pub returns-in-Err-NoMemory-clause-any_moment : goal.returns-in-Err-NoMemory-clause-any_moment
returns-in-Err-NoMemory-clause-any_moment g c =
    let state = g.D.Disk.state in
    let means = g.S.EndState.meaning c.args.who in
    let becomes = Renews g.S.EndState.may g.S.EndState.folded g.S.EndState.renewal in
    subst (λ (d : Device). LeavesFound state c.args.first c.args.second means becomes d) (sym c.into_disks-in-Err-NoMemory.ensures.device)
    (left-still state c.args.first c.args.second means becomes c.in-Ok.opened.0.device c.requires.first_settled c.requires.second_settled
    c.in-Ok.ensures.still)

-- ---- the gates

pub returns-then-layout-eq-LAYOUT-clause-gates : goal.returns-then-layout-eq-LAYOUT-clause-gates
returns-then-layout-eq-LAYOUT-clause-gates g c =
    let state = g.D.Disk.state in
    subst (λ (d : Device). KeepsGates state c.args.first c.args.second d)
    (sym (ap (λ (k : Kept g.row.S.Denot g.row.S-Record.Denot). k.device) c.up.ensures))
    (gates-still state c.args.first c.args.second c.in-Ok.opened.0.device c.requires.first_settled c.requires.second_settled c.in-Ok.ensures.still)

pub returns-else-layout-eq-LAYOUT-clause-gates : goal.returns-else-layout-eq-LAYOUT-clause-gates
returns-else-layout-eq-LAYOUT-clause-gates g c =
    let before = c.in-Ok-state_in.state in
    gates-put g.D.Disk.state c.args.first c.args.second (g.S.EndState.may before g.S.EndState.renewal)
    (g.S.EndState.pending c.args.who before g.S.EndState.renewal) (λ (k : Kept g.row.S.Denot g.row.S-Record.Denot). k.device)
    c.in-Ok.opened.0 c.in-Ok.ensures.still c.put_anew.result c.put_anew.ensures.any_moment

pub returns-in-Err-clause-gates : goal.returns-in-Err-clause-gates
returns-in-Err-clause-gates g c =
    let state = g.D.Disk.state in
    let disks = c.in-Err.returned.disks in
    let one = c.in-Err.ensures.row.1 in
    let other = c.in-Err.ensures.row.2 in
    gates-still state c.args.first c.args.second (device_on (state disks.first) (state disks.second)) c.requires.first_settled
    c.requires.second_settled (one.seen, one.events, other.seen, other.events)

pub returns-in-Err-Refused-clause-gates : goal.returns-in-Err-Refused-clause-gates
returns-in-Err-Refused-clause-gates g c =
    let state = g.D.Disk.state in
    subst (λ (d : Device). KeepsGates state c.args.first c.args.second d) (sym c.into_disks.ensures.device)
    (gates-still state c.args.first c.args.second c.in-Ok.opened.0.device c.requires.first_settled c.requires.second_settled c.in-Ok.ensures.still)

pub returns-in-Err-NoMemory-clause-gates : goal.returns-in-Err-NoMemory-clause-gates
returns-in-Err-NoMemory-clause-gates g c =
    let state = g.D.Disk.state in
    subst (λ (d : Device). KeepsGates state c.args.first c.args.second d) (sym c.into_disks-in-Err-NoMemory.ensures.device)
    (gates-still state c.args.first c.args.second c.in-Ok.opened.0.device c.requires.first_settled c.requires.second_settled c.in-Ok.ensures.still)
