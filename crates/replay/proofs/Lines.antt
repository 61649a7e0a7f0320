-- Lines of packets, one after another.
use Rattle.std.proofs.Common.{◌≡◌, ℕ, suc, ◌+◌, ◌-◌, ◌<◌, List, ◌++◌, sym, ap, ◌∙◌, arith, append_assoc}
use Rattle.botworld.specs.declared.sent.Sent.{Sent}
use Rattle.botworld.specs.Net.{packet_at}
use Rattle.replay.specs.Text.{found_line, sent_lines}

-- the next packet's line is added
pub sent_lines-more : (packets : List Sent) (number behind : ℕ) (before after all : List ℕ) → number < behind
    → after ≡ before ++ found_line number (packet_at packets number)
    → before ++ sent_lines packets number (behind - number) ≡ all → after ++ sent_lines packets (number + 1) (behind - (number + 1)) ≡ all
sent_lines-more packets number behind before after all within added e =
    let count : behind - number ≡ suc (behind - (number + 1)) = omega arith in
    ap (λ a. a ++ sent_lines packets (number + 1) (behind - (number + 1))) added
    ∙ append_assoc before _ _
    ∙ ap (λ n. before ++ sent_lines packets number n) (sym count)
    ∙ e
