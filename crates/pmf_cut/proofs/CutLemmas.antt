-- Each finding behind a cut, from what holds of the whole and of its part there.
use Rattle.std.{proofs.Common.{◌≡◌, ℕ, zero, suc, ◌+◌, ◌-◌, ◌*◌, ◌%◌, ◌≤◌, Bool, true, false, ◌&&◌, if◌then◌else◌, List, ◌++◌, slice_get, refl, sym, ◌∙◌, ap, subst, arith, inl, inr, Option, Some, None}, specs.Cmp.{both_ways}, proofs.lemmas.Option.{slice_get_past, slice_get_cases}}
use Rattle.pmf_event.{specs.declared.event.Event.{Event}, specs.declared.finding.Finding.TheVariants.{Unmatched, Nested}, specs.declared.profile.Profile.{Profile}, specs.declared.span.TheConstants.{LINE_SIZE}, specs.Span.{Extent}, specs.Store.{event_at}, specs.Interval.{interval_at, is_open}, specs.Exclusion.{is_included}, specs.FlushWarnings.{is_clean, is_pending, numbered, lines_where, doubled_finding, needless_finding, if_any, flush_findings}, specs.LineBytes.{is_undurable, is_unwritten, HasBytes}, specs.Transactions.{in_transaction, is_outside, is_scoped, lacks_backup, store_finding, add_finding, end_finding, start_finding, is_left_open, check_finding, close_finding}, proofs.LineBytesLemmas.{lines_follow_from_their_bytes}, proofs.RangeLemmas.{first_from-same}, proofs.TransactionLemmas.{left_open-exposed}}
use Rattle.pmf_verdict.specs.Rows.{findings_of}
use Rattle.pmf_cut.{specs.Alike.{IsCut, GoesOn}, specs.Behind.{SameBytes, IsBehind}, specs.Laws.{Stays, FindingsStay, IsSameEnd, EndsStay}, proofs.BehindLemmas.{inside-by, behind-cut, behind-step}, proofs.RowLemmas.{exposed-is, persist-stays, ordered-stays}}

-- ---- write-backs

-- one way between lists with the same bytes
clean-from : (es : List Event) (n : ℕ) (fs : List Event) (m line : ℕ) → line % LINE_SIZE ≡ 0 → HasBytes es n → HasBytes fs m → ((b : ℕ) → is_undurable fs m b ≡ is_undurable es n b) →
    is_clean es n line ≡ true → is_clean fs m line ≡ true
clean-from es n fs m line aligned sized sized_too same is = grind (arith, lines_follow_from_their_bytes)

pending-from : (es : List Event) (n : ℕ) (fs : List Event) (m line : ℕ) → line % LINE_SIZE ≡ 0 → HasBytes es n → HasBytes fs m →
    ((b : ℕ) → is_undurable fs m b ≡ is_undurable es n b) → ((b : ℕ) → is_unwritten fs m b ≡ is_unwritten es n b) →
    is_pending es n line ≡ true → is_pending fs m line ≡ true
pending-from es n fs m line aligned sized sized_too same same_too is =
    let parts = (lines_follow_from_their_bytes es n line aligned sized).1.0 is in
    let some = parts.0 in
    (lines_follow_from_their_bytes fs m line aligned sized_too).1.1 ((some.0, some.1, some.2, same some.0 ∙ some.3), λ b low high. same_too b ∙ parts.1 b low high)

aligned-number : (n : ℕ) → n * LINE_SIZE % LINE_SIZE ≡ 0
aligned-number n = omega arith

lines-same : (s t : ℕ → Bool) (span : Extent) → ((n : ℕ) → s (n * LINE_SIZE) ≡ t (n * LINE_SIZE)) → lines_where s span ≡ lines_where t span
unfolding lines_where numbered
lines-same s t span same = grind arith

flush-stays : (es : List Event) (n : ℕ) (fs : List Event) (m : ℕ) (span : Extent) → HasBytes es n → HasBytes fs m → SameBytes es n fs m →
    flush_findings fs m span ≡ flush_findings es n span
unfolding flush_findings
flush-stays es n fs m span sized sized_too same =
    let clean = lines-same (is_clean fs m) (is_clean es n) span (λ k. both_ways _ _
    (clean-from fs m es n (k * LINE_SIZE) (aligned-number k) sized_too sized (λ b. sym (same.undurable b)))
    (clean-from es n fs m (k * LINE_SIZE) (aligned-number k) sized sized_too same.undurable)) in
    let pending = lines-same (is_pending fs m) (is_pending es n) span (λ k. both_ways _ _
    (pending-from fs m es n (k * LINE_SIZE) (aligned-number k) sized_too sized (λ b. sym (same.undurable b)) (λ b. sym (same.unwritten b)))
    (pending-from es n fs m (k * LINE_SIZE) (aligned-number k) sized sized_too same.undurable same.unwritten)) in
    ap (λ l. if_any (doubled_finding l) ++ if_any (needless_finding (lines_where (is_clean fs m) span))) pending
    ∙ ap (λ l. if_any (doubled_finding (lines_where (is_pending es n) span)) ++ if_any (needless_finding l)) clean

-- ---- transactions

left_open-none : (es : List Event) (p b : ℕ) → is_scoped es p b ≡ false → is_left_open es p b ≡ false
unfolding is_left_open
left_open-none es p b other = ap (λ v. v && is_included es (suc p) b && is_open (interval_at es (suc p) b)) other

module _ (es : List Event) (p n : ℕ) (fs : List Event) (q m : ℕ) (behind : IsBehind es p n fs q m) (after : IsBehind es p (suc n) fs q (suc m)) where
  inside : in_transaction fs m ≡ in_transaction es n
  inside = inside-by es fs n m behind.transactions.depth

  store-stays : (s : Extent) → store_finding fs m s ≡ store_finding es n s
  unfolding store_finding lacks_backup is_included
  store-stays s = grind (arith, first_from-same, inside)

  add-stays : (s : Extent) → add_finding fs m s ≡ add_finding es n s
  unfolding add_finding is_outside
  add-stays s = grind (arith, first_from-same, inside)

  end-stays : end_finding fs m ≡ end_finding es n
  unfolding end_finding
  end-stays = ap (λ v. if v then None else Some Unmatched) inside

  start-stays : start_finding fs m ≡ start_finding es n
  unfolding start_finding
  start-stays = ap (λ v. if v then Some Nested else None) behind.transactions.scope

  check-stays : check_finding fs m ≡ check_finding es n
  unfolding check_finding
  check-stays = grind (arith, first_from-same, inside, left_open-exposed, left_open-none, exposed-is)

-- ---- all of them

one-less : (n : ℕ) → suc n - 1 ≡ n
one-less n = omega arith

stays-one : (profile : Profile) (es : List Event) (p n : ℕ) (fs : List Event) (q m : ℕ) → HasBytes es n → HasBytes fs m → IsBehind es p n fs q m → IsBehind es p (suc n) fs q (suc m) →
    (o : Option Event) → Stays profile es p (suc n) fs (suc m) o
unfolding findings_of
stays-one profile es p n fs q m sized sized_too behind after v11 = grind (arith, one-less, store-stays, flush-stays, persist-stays, ordered-stays, add-stays, end-stays, start-stays, check-stays)

-- where an event stands at a place, one stands at each place before it
event-before : (es : List Event) (k j : ℕ) (e : Event) → event_at es (suc k) ≡ Some e → j ≤ k → (f : Event) × (event_at es (suc j) ≡ Some f)
unfolding event_at
event-before es k j e is before = elim ((slice_get_cases es j).1) [
  | inl some ↦ (some.0, some.2)
  | inr past ↦ let none = slice_get_past es k (omega (arith, past.0)) in let bad : None ≡ Some e = sym none ∙ is in cc
]

pub behind-there : (es : List Event) (p n k : ℕ) (fs : List Event) (q m l : ℕ) → n ≡ k → m ≡ l → IsBehind es p n fs q m → IsBehind es p k fs q l
behind-there es p n k fs q m l same same_too behind = subst (λ i. IsBehind es p i fs q l) same (subst (λ j. IsBehind es p n fs q j) same_too behind)

behind-at : (es : List Event) (p : ℕ) (fs : List Event) (q n : ℕ) (e : Event) → IsCut es p fs q → GoesOn es p fs q (suc n) → event_at es (suc (p + n)) ≡ Some e →
    (k : ℕ) → k ≤ suc n → IsBehind es p (p + k) fs q (q + k)
behind-at es p fs q n e cut goes there zero within = behind-there es p p (p + 0) fs q q (q + 0) (omega arith) (omega arith) (behind-cut es p fs q cut)
behind-at es p fs q n e cut goes there (suc k) within =
    let event = event-before es (p + n) (p + k) e there (omega arith) in
    behind-there es p (suc (p + k)) (p + suc k) fs q (suc (q + k)) (q + suc k) (omega arith) (omega arith)
    (behind-step es fs (p + k) (q + k) event.0 event.1 (goes k (omega arith) ∙ event.1) p q (omega arith) (behind-at es p fs q n e cut goes there k (omega arith)))

stays-at : (profile : Profile) (es : List Event) (p : ℕ) (fs : List Event) (q n : ℕ) → HasBytes es (p + n) → HasBytes fs (q + n) → IsCut es p fs q → GoesOn es p fs q (suc n) →
    (o : Option Event) → event_at es (suc (p + n)) ≡ o → Stays profile es p (suc (p + n)) fs (suc (q + n)) o
unfolding findings_of
stays-at profile es p fs q n sized sized_too cut goes None there = refl
stays-at profile es p fs q n sized sized_too cut goes (Some e) there =
    stays-one profile es p (p + n) fs q (q + n) sized sized_too (behind-at es p fs q n e cut goes there n (omega arith))
    (behind-there es p (p + suc n) (suc (p + n)) fs q (q + suc n) (suc (q + n)) (omega arith) (omega arith) (behind-at es p fs q n e cut goes there (suc n) (omega arith))) (Some e)

pub findings-stay : FindingsStay
findings-stay profile es p fs q n sized sized_too cut goes = stays-at profile es p fs q n sized sized_too cut goes (event_at es (suc (p + n))) refl

-- ---- the end

end-by : (es : List Event) (p n : ℕ) (fs : List Event) (q m : ℕ) → IsBehind es p n fs q m → IsSameEnd p q (close_finding es n) (close_finding fs m)
unfolding close_finding
end-by es p n fs q m behind = grind arith

last-event : (es : List Event) (k : ℕ) (e : Event) → slice_get es k ≡ Some e → event_at es (suc k) ≡ Some e
unfolding event_at
last-event es k e is = is

pub ends_stay : EndsStay
ends_stay es p fs q zero size cut goes = end-by es p (p + 0) fs q (q + 0) (behind-there es p p (p + 0) fs q q (q + 0) (omega arith) (omega arith) (behind-cut es p fs q cut))
ends_stay es p fs q (suc n) size cut goes = elim ((slice_get_cases es (p + n)).1) [
  | inr past ↦ absurd (omega (arith, past.0))
  | inl some ↦ end-by es p (p + suc n) fs q (q + suc n) (behind-at es p fs q n some.0 cut goes (last-event es (p + n) some.0 some.2) (suc n) (omega arith))
]
