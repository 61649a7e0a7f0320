-- Replies that are kept and requests that are out: how many they are, and that those of older layouts are such. For callers.
use Rattle.std.proofs.Common.{◌≡◌, ℕ, ◌+◌, ◌-◌, ◌<◌, ◌≤◌, ◌^◌, nat_le, nat_lt, true, List, [], ◌∷◌, length, refl, arith}
use Rattle.std.specs.List.{list_all}
use Rattle.std.proofs.lemmas.Bool.Decides.{nat_tests}
use Rattle.userfile.proofs.RepeatLemmas.{and_true, and_both}
use Rattle.botjournal.specs.declared.TheConstants.{WINDOW}
use Rattle.botjournal.specs.declared.reply.Reply.{Reply}
use Rattle.botjournal.specs.declared.request.Request.{Request}
use Rattle.botjournal.specs.declared.layouts.Layout.{Layout}
use Rattle.botjournal.specs.declared.layouts.Layout.TheVariants.{First, Second, Third, Fourth}
use Rattle.botjournal.specs.Bases.{rises_from, are_rising, may_follow, are_kept, are_kept_by, numbers_rise_from, is_near, are_out, IsGoodRequest, AreOut, IsGoodRequestBy, IsOneOut, AreOutBy}
use Rattle.botjournal.proofs.LayoutLaws.{change_good}
use Rattle.usercodec.proofs.RecordLengths.{all_map}

-- ---- replies

-- each is to another leaf
rising-follow : (before : Reply) (count : ℕ) (replies : List Reply) → rises_from (before.leaf + 1) replies ≡ true → may_follow before count replies ≡ true
rising-follow before count [] rises = refl
rising-follow before count (reply ∷ replies) rises =
    let both : (nat_le (before.leaf + 1) reply.leaf ≡ true) × (rises_from (reply.leaf + 1) replies ≡ true) = and_true rises in
    let above : nat_lt before.leaf reply.leaf ≡ true = grind (arith, nat_tests, both.0) in
    rw above (rising-follow reply 1 replies both.1)

pub rising-kept : (replies : List Reply) → are_rising replies ≡ true → are_kept replies ≡ true
rising-kept [] rises = refl
rising-kept (reply ∷ replies) rises = rising-follow reply 1 replies (and_true {a = nat_le 0 reply.leaf} rises).1

-- what any layout spells may be written
pub kept_good : (layout : Layout) (replies : List Reply) → are_kept_by layout replies ≡ true → are_kept replies ≡ true
kept_good First replies rises = rising-kept replies rises
kept_good Second replies rises = rising-kept replies rises
kept_good Third replies kept = kept
kept_good Fourth replies kept = kept

-- ---- requests

near_is : (last : ℕ) (request : Request) → is_near last request ≡ true → (request.number ≤ last) × (last < request.number + WINDOW)
near_is last request near =
    let both : (nat_le request.number last ≡ true) × (nat_lt last (request.number + WINDOW) ≡ true) = and_true near in
    let above : request.number ≤ last = grind (arith, nat_tests, both.0) in
    let below : last < request.number + WINDOW = grind (arith, nat_tests, both.1) in
    (above, below)

-- numbers that rise are no more than there are numbers
rising_few : (last least : ℕ) (requests : List Request) → numbers_rise_from least requests ≡ true → list_all (is_near last) requests ≡ true
    → length requests ≤ (last + 1) - least
rising_few last least [] rise near = omega arith
rising_few last least (request ∷ requests) rise near =
    let risen : (nat_le least request.number ≡ true) × (numbers_rise_from (request.number + 1) requests ≡ true) = and_true rise in
    let all_near : (is_near last request ≡ true) × (list_all (is_near last) requests ≡ true) = and_true near in
    let first : least ≤ request.number = grind (arith, nat_tests, risen.0) in
    let close = near_is last request all_near.0 in
    let others = rising_few last (request.number + 1) requests risen.1 all_near.1 in
    omega arith

pub out_few : (last : ℕ) (requests : List Request) → are_out last requests ≡ true → length requests ≤ WINDOW
out_few last [] out = omega arith
out_few last (request ∷ requests) out =
    let both : (numbers_rise_from 0 (request ∷ requests) ≡ true) × (list_all (is_near last) (request ∷ requests) ≡ true) = and_true out in
    let risen : (nat_le 0 request.number ≡ true) × (numbers_rise_from (request.number + 1) requests ≡ true) = and_true both.0 in
    let all_near : (is_near last request ≡ true) × (list_all (is_near last) requests ≡ true) = and_true both.1 in
    let close = near_is last request all_near.0 in
    let others = rising_few last (request.number + 1) requests risen.1 all_near.1 in
    omega arith

-- a request of the last number alone may be out
one-out : (last : ℕ) (request : Request) → request.number ≡ last → are_out last (request ∷ []) ≡ true
one-out last request same =
    let first : nat_le 0 request.number ≡ true = grind (arith, nat_tests) in
    let above : nat_le request.number last ≡ true = grind (arith, nat_tests, same) in
    let below : nat_lt last (request.number + WINDOW) ≡ true = grind (arith, nat_tests, same) in
    and_both (and_both first refl) (and_both (and_both above below) refl)

one_good : (layout : Layout) (last : ℕ) (requests : List Request) → last < 2 ^ 32 → IsOneOut layout last requests → AreOut last requests
one_good layout last [] small out = (tt, refl)
one_good layout last (request ∷ []) small out =
    let room : request.number < 2 ^ 32 = rw out.0 small in
    (((room, change_good layout request.change out.1), tt), one-out last request out.0)
one_good layout last (request ∷ other ∷ more) small out = absurd out

-- what any layout spells may be written
pub out_good : (layout : Layout) (last : ℕ) (requests : List Request) → last < 2 ^ 32 → AreOutBy layout last requests → AreOut last requests
out_good First last requests small out = one_good First last requests small out
out_good Second last requests small out = one_good Second last requests small out
out_good Third last requests small out =
    (all_map (IsGoodRequestBy Third) IsGoodRequest (λ request good. (good.0, change_good Third request.change good.1)) requests out.0, out.1)
out_good Fourth last requests small out = out
