-- The one way to split a stream at the bytes that end lines.
use Rattle.std.proofs.Common.{◌≡◌, ℕ, true, false, List, [], ◌∷◌, ◌++◌, length, refl, sym, ◌∙◌, ap, subst, arith, inl, inr, append_assoc}
use Rattle.std.specs.List.{list_all, list_any}
use Rattle.std.proofs.lemmas.Bool.{cases_Bool, false≢true, and_parts, and_from, or_parts, or_from, lt-ltb}
use Rattle.std.proofs.lemmas.List.{append-nil}
use Rattle.ircline.specs.Classes.{is_end, filled}
use Rattle.ircline.specs.Stream.{with_run, runs_from, rest_from, begun, IsRun, IsEnds, Splits}

ends_skipped : (ends x : List ℕ) → IsEnds ends → (runs_from [] (ends ++ x) ≡ runs_from [] x) × (rest_from [] (ends ++ x) ≡ rest_from [] x)
ends_skipped [] x all = (refl, refl)
ends_skipped (e ∷ ends) x all =
    let parts = and_parts (is_end e) (list_all is_end ends) all in
    let more = ends_skipped ends x parts.1 in
    (rw parts.0 more.0, rw parts.0 more.1)

run_taken : (acc run x : List ℕ) → IsRun run → (runs_from acc (run ++ x) ≡ runs_from (acc ++ run) x) × (rest_from acc (run ++ x) ≡ rest_from (acc ++ run) x)
run_taken acc [] x none = (ap (λ (r : List ℕ). runs_from r x) (sym (append-nil acc)), ap (λ (r : List ℕ). rest_from r x) (sym (append-nil acc)))
run_taken acc (b ∷ run) x none =
    let parts = or_parts (is_end b) (list_any is_end run) none in
    let more = run_taken (acc ++ b ∷ []) run x parts.1 in (
      rw parts.0 (more.0 ∙ ap (λ (r : List ℕ). runs_from r x) (append_assoc acc (b ∷ []) run)),
      rw parts.0 (more.1
          ∙ ap (λ (r : List ℕ). rest_from r x) (append_assoc acc (b ∷ []) run)),
    )

run_ended : (run : List ℕ) (last : ℕ) (more : List ℕ) → filled run ≡ true → is_end last ≡ true
    → (runs_from run (last ∷ more) ≡ run ∷ runs_from [] more) × (rest_from run (last ∷ more) ≡ rest_from [] more)
run_ended [] last more some is = absurd (false≢true some)
run_ended (b ∷ run) last more some is = (rw is refl, rw is refl)

pub splits_only : (stream : List ℕ) (runs : List (List ℕ)) (rest : List ℕ) → Splits stream runs rest → (runs ≡ runs_from [] stream) × (rest ≡ begun stream)
splits_only stream [] rest h =
    let skipped = ends_skipped h.0 rest h.2 in
    let taken = run_taken [] rest [] h.3 in
    let whole : rest ++ [] ≡ rest = append-nil rest in (
      sym (ap (runs_from []) h.1 ∙ skipped.0 ∙ ap (runs_from []) (sym whole) ∙ taken.0),
      sym (ap (rest_from []) h.1 ∙ skipped.1
          ∙ ap (rest_from []) (sym whole) ∙ taken.1),
    )
splits_only stream (run ∷ runs) rest h =
    let last = h.1 in
    let more = h.2 in
    let skipped = ends_skipped h.0 (run ++ last ∷ more) h.4 in
    let taken = run_taken [] run (last ∷ more) h.6 in
    let ended = run_ended run last more h.5 h.7 in
    let behind = splits_only more runs rest h.8 in (
      ap (λ (r : List (List ℕ)). run ∷ r) behind.0 ∙ sym (ap (runs_from []) h.3 ∙ skipped.0 ∙ taken.0 ∙ ended.0),
      behind.1
          ∙ sym (ap (rest_from []) h.3 ∙ skipped.1 ∙ taken.1 ∙ ended.1),
    )

end_before : (e : ℕ) (stream : List ℕ) (runs : List (List ℕ)) (rest : List ℕ) → is_end e ≡ true → Splits stream runs rest → Splits (e ∷ stream) runs rest
end_before e stream [] rest is h = (e ∷ h.0, ap (λ (t : List ℕ). e ∷ t) h.1, and_from (is_end e) (list_all is_end h.0) is h.2, h.3)
end_before e stream (run ∷ runs) rest is h =
    (e ∷ h.0, h.1, h.2, ap (λ (t : List ℕ). e ∷ t) h.3, and_from (is_end e) (list_all is_end h.0) is h.4, h.5, h.6, h.7, h.8)

run_before : (acc : List ℕ) (e : ℕ) (stream : List ℕ) (runs : List (List ℕ)) (rest : List ℕ) → IsRun acc → is_end e ≡ true → Splits stream runs rest
    → Splits (acc ++ e ∷ stream) (with_run acc runs) rest
run_before [] e stream runs rest none is h = end_before e stream runs rest is h
run_before (b ∷ acc) e stream runs rest none is h = ([], e, stream, refl, refl, lt-ltb 0 (length (b ∷ acc)) (omega arith), none, is, h)

run_push : (acc : List ℕ) (b : ℕ) → IsRun acc → is_end b ≡ false → IsRun (acc ++ b ∷ [])
run_push [] b none goes_on = or_from (is_end b) false goes_on refl
run_push (c ∷ acc) b none goes_on =
    let parts = or_parts (is_end c) (list_any is_end acc) none in
    or_from (is_end c) (list_any is_end (acc ++ b ∷ [])) parts.0 (run_push acc b parts.1 goes_on)

splits_from : (acc stream : List ℕ) → IsRun acc → Splits (acc ++ stream) (runs_from acc stream) (rest_from acc stream)
splits_from acc [] none = ([], append-nil acc, refl, none)
splits_from acc (b ∷ stream) none =
    elim (cases_Bool (is_end b)) [
      | inl ends ↦ rw ends (run_before acc b stream (runs_from [] stream) (rest_from [] stream) none ends (splits_from [] stream refl))
      | inr goes_on ↦ let more = splits_from (acc ++ b ∷ []) stream (run_push acc b none goes_on) in
          rw goes_on (subst (λ (t : List ℕ). Splits t (runs_from (acc ++ b ∷ []) stream) (rest_from (acc
          ++ b ∷ []) stream)) (append_assoc acc (b ∷ []) stream) more)
    ]

pub splits_so : (stream : List ℕ) → Splits stream (runs_from [] stream) (begun stream)
splits_so stream = splits_from [] stream refl
