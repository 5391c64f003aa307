-- The rows that count as EMPTY are those of assertions that have nothing to check.
use Rattle.std.proofs.{Common.{◌≡◌, ℕ, zero, suc, ◌+◌, ◌-◌, Bool, true, false, cond, not, ◌&&◌, List, [], ◌∷◌, ◌++◌, Option, Some, None, length, map, refl, sym, ap, ◌∙◌, arith, count_by}, lemmas.List.Sums.{sum_by-append}, lemmas.Grind.{common_steps}}
use Rattle.pmf_event.{specs.declared.event.Event.{Event}, specs.declared.event.Event.TheVariants.{Store, Flush, Fence, Persist, Ordered, Exclude, Include, TxBegin, TxAdd, TxEnd, CheckStart, CheckEnd}, specs.declared.finding.Finding.{Finding}, specs.declared.profile.Profile.{Profile}, specs.declared.profile.Profile.TheVariants.{One}, specs.declared.row.Row.{Row}, specs.Section.{Trace}, specs.Span.{Extent}, specs.Places.{count}, specs.Store.{event_at}, specs.Persist.{persist_finding}, specs.Order.{ordered_finding}, specs.FlushWarnings.{if_any, flush_findings}, specs.Transactions.{store_finding, add_finding, end_finding, start_finding, check_finding, close_finding}, proofs.PlacesLemmas.{count-zero}}
use Rattle.pmf_shadow.{specs.declared.shadow.Shadow.{Shadow}, specs.Shadow.{ForEachList, StandsFor}, specs.Laws.{is_unseen}, proofs.StandsLemmas.{follows-within, unseen-follows}}
use Rattle.pmf_verdict.specs.{declared.outcome.Outcome.TheVariants.{Empty}, Outcome.{outcome_of, is_same}, Rows.{findings_of, row_at, rows_upto, rows_at_end, rows_of}}
use Rattle.pmf_lint.{specs.Misread.{is_met, is_unmet, lacks_bytes, misreads}, specs.Summing.{empty_of, is_empty_row}, proofs.UpkeepLemmas.{count_more}}

-- whether the finding counts as EMPTY
abbrev says_empty : Finding → Bool
says_empty f = is_same Empty (outcome_of f)

abbrev empty_findings : List Finding → ℕ
empty_findings fs = count_by (λ f. says_empty f) fs

abbrev empty_rows : List Row → ℕ
empty_rows rows = count_by (λ row. is_empty_row row) rows

abbrev empty_if_any : Option Finding → ℕ
empty_if_any None = 0
empty_if_any (Some f) = cond (says_empty f) 1 0

count_cons : {A : Type 0} (test : A → Bool) (x : A) (xs : List A) → count_by test (x ∷ xs) ≡ cond (test x) 1 0 + count_by test xs
count_cons test x xs = omega (arith, sum_by-append (λ y. cond (test y) 1 0) (x ∷ []) xs)

count_both : {A : Type 0} (test : A → Bool) (xs ys : List A) → count_by test (xs ++ ys) ≡ count_by test xs + count_by test ys
count_both test xs ys = sum_by-append (λ y. cond (test y) 1 0) xs ys

rows_empty : (p : ℕ) (fs : List Finding) → empty_rows (map (row_at p) fs) ≡ empty_findings fs
unfolding is_empty_row
rows_empty p [] = refl
rows_empty p (f ∷ fs) = count_cons (λ row. is_empty_row row) (row_at p f) (map (row_at p) fs) ∙ ap (λ n. cond (says_empty f) 1 0 + n) (rows_empty p fs) ∙ sym (count_cons (λ f. says_empty f) f fs)

any_empty : (o : Option Finding) → empty_findings (if_any o) ≡ empty_if_any o
any_empty None = refl
any_empty (Some f) = omega arith

one_found : (f : Finding) (b : Bool) → says_empty f ≡ b → empty_findings (f ∷ []) ≡ cond b 1 0
one_found f b is = any_empty (Some f) ∙ ap (λ b. cond b 1 0) is

-- ---- findings of other events

store_fills : (es : List Event) (p : ℕ) (s : Extent) → empty_if_any (store_finding es p s) ≡ 0
unfolding store_finding is_same
store_fills es p s = grind arith

add_fills : (es : List Event) (p : ℕ) (s : Extent) → empty_if_any (add_finding es p s) ≡ 0
unfolding add_finding is_same
add_fills es p s = grind arith

end_fills : (es : List Event) (p : ℕ) → empty_if_any (end_finding es p) ≡ 0
unfolding end_finding is_same
end_fills es p = grind arith

start_fills : (es : List Event) (p : ℕ) → empty_if_any (start_finding es p) ≡ 0
unfolding start_finding is_same
start_fills es p = grind arith

check_fills : (es : List Event) (p : ℕ) → says_empty (check_finding es p) ≡ false
unfolding check_finding is_same
check_fills es p = grind arith

close_fills : (es : List Event) (p : ℕ) → empty_if_any (close_finding es p) ≡ 0
unfolding close_finding is_same
close_fills es p = grind arith

flush_fills : (es : List Event) (p : ℕ) (s : Extent) → empty_findings (flush_findings es p s) ≡ 0
unfolding flush_findings is_same
flush_fills es p s = grind arith

-- ---- findings of assertions

persist_met : (es : List Event) (p : ℕ) (s : Extent) → says_empty (persist_finding es p s) ≡ not (is_met es p s)
unfolding persist_finding is_same
persist_met es p s = grind arith

order_met : (profile : Profile) (es : List Event) (p : ℕ) (s t : Extent) → says_empty (ordered_finding profile es p s t) ≡ not (is_met es p s && is_met es p t)
unfolding ordered_finding is_same
order_met profile es p s t = grind arith

-- ---- rows

found_at : (profile : Profile) (es : List Event) (p : ℕ) (o : Option Event) → empty_findings (findings_of profile es p o) ≡ cond (lacks_bytes es p o) 1 0
unfolding findings_of
found_at profile es p None = refl
found_at profile es p (Some (Store s)) = any_empty (store_finding es (p - 1) s) ∙ store_fills es (p - 1) s
found_at profile es p (Some (Flush s)) = flush_fills es (p - 1) s
found_at profile es p (Some Fence) = refl
found_at profile es p (Some (Persist s)) = one_found (persist_finding es p s) (not (is_met es p s)) (persist_met es p s)
found_at profile es p (Some (Ordered s t)) = one_found (ordered_finding profile es p s t) (not (is_met es p s && is_met es p t)) (order_met profile es p s t)
found_at profile es p (Some (Exclude s)) = refl
found_at profile es p (Some (Include s)) = refl
found_at profile es p (Some TxBegin) = refl
found_at profile es p (Some (TxAdd s)) = any_empty (add_finding es (p - 1) s) ∙ add_fills es (p - 1) s
found_at profile es p (Some TxEnd) = any_empty (end_finding es (p - 1)) ∙ end_fills es (p - 1)
found_at profile es p (Some CheckStart) = any_empty (start_finding es (p - 1)) ∙ start_fills es (p - 1)
found_at profile es p (Some CheckEnd) = one_found (check_finding es (p - 1)) false (check_fills es (p - 1))

upto_empty : (profile : Profile) (es : List Event) (p : ℕ) → empty_rows (rows_upto profile es p) ≡ count (is_unmet es) p
unfolding rows_upto is_unmet
upto_empty profile es zero = sym (count-zero (is_unmet es))
upto_empty profile es (suc p) =
    let found = findings_of profile es (suc p) (event_at es (suc p)) in
    count_both (λ row. is_empty_row row) (rows_upto profile es p) (map (row_at (suc p)) found)
    ∙ ap (λ n. empty_rows (rows_upto profile es p) + n) (rows_empty (suc p) found ∙ found_at profile es (suc p) (event_at es (suc p)))
    ∙ count_more (is_unmet es) p (empty_rows (rows_upto profile es p)) (lacks_bytes es (suc p) (event_at es (suc p))) (upto_empty profile es p) refl

-- as many as assertions that have nothing to check
pub unmet_counted : (t : Trace) → count (is_unmet t.events) (length t.events) ≡ empty_of t
unfolding empty_of rows_of rows_at_end
unmet_counted t =
    let n = length t.events in
    let last = rows_empty (suc n) (if_any (close_finding t.events n)) ∙ any_empty (close_finding t.events n) ∙ close_fills t.events n in
    let both = count_both (λ row. is_empty_row row) (rows_upto One t.events n) (map (row_at (suc n)) (if_any (close_finding t.events n))) in
    sym (both ∙ ap (λ m. empty_rows (rows_upto One t.events n) + m) last ∙ (let e : empty_rows (rows_upto One t.events n) + 0 ≡ empty_rows (rows_upto One t.events n) = omega arith in e) ∙ upto_empty One t.events n)

-- ---- what a shadow answers of it

other_met : (es : List Event) (p : ℕ) (e : Event) → is_unseen e ≡ false → lacks_bytes es p (Some e) ≡ false
unfolding is_unseen
other_met es p e seen = grind (arith, common_steps)

-- an assertion changes nothing, so that it may be asked before it is followed
pub unmet_here : (shadow : Shadow) (es : List Event) (p : ℕ) (e : Event) (unmet seen : Bool) → is_unseen e ≡ seen → event_at es (suc p) ≡ Some e → StandsFor shadow (λ k. k) es p →
    ForEachList shadow (λ told es p. unmet ≡ lacks_bytes es p (Some e)) → is_unmet es (suc p) ≡ unmet
unfolding is_unmet
unmet_here shadow es p e unmet true seen here stands says =
    ap (lacks_bytes es (suc p)) here ∙ sym (says (λ k. k) es (suc p) (follows-within (suc p) shadow shadow e (unseen-follows shadow e seen (suc p)) (λ k. k) es p here refl stands))
unmet_here shadow es p e unmet false seen here stands says =
    ap (lacks_bytes es (suc p)) here ∙ other_met es (suc p) e seen ∙ sym (other_met es p e seen) ∙ sym (says (λ k. k) es p stands)

-- an assertion that has something to check is not misread
pub none_misread : (es : List Event) (p : ℕ) (e : Event) (unmet : Bool) → unmet ≡ lacks_bytes es p (Some e) → unmet ≡ false → false ≡ misreads es p (Some e)
none_misread es p e unmet is met = grind (arith, common_steps)
