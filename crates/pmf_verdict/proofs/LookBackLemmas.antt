-- What is found of an event looks only at the events up to it.
use Rattle.std.proofs.{Common.{◌≡◌, ℕ, zero, suc, ◌+◌, ◌-◌, ◌≤◌, Bool, not, ◌&&◌, ◌||◌, ◌==◌, nat_lt, if◌then◌else◌, List, [], ◌∷◌, ◌++◌, map, length, refl, sym, ◌∙◌, ap, ap₂, arith, Option, Some, None, is_none}, Math.Path.{fun_ext}}
use Rattle.pmf_event.{specs.declared.event.Event.{Event}, specs.declared.event.Event.TheVariants.{Store, Flush, Persist, Ordered, TxAdd, TxEnd, CheckStart, CheckEnd}, specs.declared.finding.Finding.{Finding}, specs.declared.finding.Finding.TheVariants.{PersistEmpty, OrderedFail, OrderedEmpty, Outside, Unmatched, Nested, TxStillOpen, Unopened}, specs.declared.interval.Interval.{Interval}, specs.declared.profile.Profile.{Profile}, specs.declared.profile.Profile.TheVariants.{One, Two}, specs.declared.span.TheConstants.{ADDRESS_LIMIT}, specs.Span.{Extent}, specs.Line.{line_of_byte}, specs.Places.{least, some_between}, specs.Ranges.{first_from, first_byte}, specs.Store.{event_at, at, stores, stores_line, flushes, is_fence, last, last_store, epoch_of}, specs.Interval.{closes, closing_fence, epoch_after, interval_at, is_open}, specs.Exclusion.{is_included}, specs.Persist.{is_checked, is_exposed, pass_unless, persist_finding}, specs.Order.{precedes, share_line, is_stored_before, is_ordered, is_unordered, is_certified, least_pair, finding_of_pairs, ordered_finding}, specs.FlushWarnings.{is_clean, is_pending, lines_where, doubled_finding, needless_finding, if_any, flush_findings}, specs.Transactions.{in_transaction, depth_at, is_outside, end_finding, duplog_with, add_finding, lacks_backup, nobackup_with, store_finding, start_finding, is_left_open, scope_passes_unless, check_finding}, proofs.PlacesLemmas.{least-bound}}
use Rattle.pmf_shadow.{specs.Laws.{SameEvents}, proofs.SameLemmas.{greatest-same, least-same, same-before, at-same, last-same, last_epoch-same, epoch_of-same, first_write_back-same, excluded-same, slice_get-front}}
use Rattle.pmf_txcheck.proofs.SameTransactionLemmas.{depth-alike, inside-alike, in_scope-alike, backed-alike, scoped-alike}
use Rattle.pmf_verdict.specs.{Rows.{findings_of, row_at, rows_upto}, LookBack.{RowsLookBack, LaterEventsChangeNoRow}}

-- the interval from a last store, its epoch, and when it closes
interval_of : ℕ → ℕ → Option ℕ → Option Interval
interval_of l opens closes = if l == 0 then None else Some (record { last = l; opens = opens; closes = closes })

module _ (es fs : List Event) (p : ℕ) (same : SameEvents es fs p) where
  between-same : (line k f : ℕ) → f ≤ p → some_between (at (flushes line) es) k f ≡ some_between (at (flushes line) fs) k f
  unfolding some_between
  between-same line k f within = ap (λ g. nat_lt k g) (greatest-same (at (flushes line) es) (at (flushes line) fs) (f - 1) (λ j some below. at-same es fs p same (flushes line) j (omega arith)))

  closing-same : (stored : Event → Bool) (line : ℕ) → closing_fence stored line es p ≡ closing_fence stored line fs p
  unfolding closing_fence closes
  closing-same stored line =
      let k = last stored fs p in
      ap (λ l. least (closes es line l) p) (last-same es fs p same stored)
      ∙ least-same (closes es line k) (closes fs line k) p (λ f some within. ap₂ (λ u v. u && v) (at-same es fs p same is_fence f within) (between-same line k f within))

  closing-bound : (stored : Event → Bool) (line : ℕ) → closing_fence stored line fs p ≤ p
  unfolding closing_fence
  closing-bound stored line = least-bound (closes fs line (last stored fs p)) p

  closed-same : (b : ℕ) → epoch_after es (closing_fence (stores b) (line_of_byte b) es p) ≡ epoch_after fs (closing_fence (stores b) (line_of_byte b) fs p)
  closed-same b =
      let f = closing_fence (stores b) (line_of_byte b) fs p in
      ap (epoch_after es) (closing-same (stores b) (line_of_byte b))
      ∙ ap (λ e. if f == 0 then None else Some (e + 1)) (epoch_of-same es fs p same f (closing-bound (stores b) (line_of_byte b)))

  interval-same : (b : ℕ) → interval_at es p b ≡ interval_at fs p b
  unfolding interval_of
  interval-same b =
      let l = last_store es p b in
      let o = epoch_of es l in
      ap (interval_of l o) (closed-same b)
      ∙ ap (λ e. interval_of l e (epoch_after fs (closing_fence (stores b) (line_of_byte b) fs p))) (last_epoch-same es fs p same (stores b))
      ∙ ap (λ k. interval_of k (epoch_of fs (last_store fs p b)) (epoch_after fs (closing_fence (stores b) (line_of_byte b) fs p))) (last-same es fs p same (stores b))

  checked-same : is_checked es p ≡ is_checked fs p
  unfolding is_checked
  checked-same = fun_ext (λ b. ap₂ (λ l out. nat_lt 0 l && not out) (last-same es fs p same (stores b)) (excluded-same es fs p same b))

  checked_at-same : (b : ℕ) → is_checked es p b ≡ is_checked fs p b
  checked_at-same b = ap (λ (test : ℕ → Bool). test b) checked-same

  exposed-same : is_exposed es p ≡ is_exposed fs p
  unfolding is_exposed
  exposed-same = fun_ext (λ b. ap₂ (λ c i. c && is_open i) (checked_at-same b) (interval-same b))

  persist-same : (s : Extent) → persist_finding es p s ≡ persist_finding fs p s
  unfolding persist_finding
  persist-same s = ap₂ (λ checked exposed. if is_none (first_byte checked s) then PersistEmpty else pass_unless (first_byte exposed s)) checked-same exposed-same

  before-same : (x y : ℕ) → is_stored_before es p x y ≡ is_stored_before fs p x y
  unfolding is_stored_before
  before-same x y = ap₂ nat_lt (last-same es fs p same (stores x)) (last-same es fs p same (stores y))

  ordered_at-same : (profile : Profile) (x y : ℕ) → is_ordered profile es p x y ≡ is_ordered profile fs p x y
  unfolding is_ordered
  ordered_at-same One x y = ap₂ precedes (interval-same x) (interval-same y)
  ordered_at-same Two x y = ap₂ (λ u v. u || (share_line x y && v)) (ap₂ precedes (interval-same x) (interval-same y)) (before-same x y)

  unordered_at-same : (profile : Profile) (x y : ℕ) → is_unordered profile es p x y ≡ is_unordered profile fs p x y
  unfolding is_unordered
  unordered_at-same profile x y =
      ap₂ (λ c o. c && not o) (ap₂ (λ one other. one && other) (checked_at-same x) (checked_at-same y)) (ordered_at-same profile x y)

  unordered-same : (profile : Profile) → is_unordered profile es p ≡ is_unordered profile fs p
  unordered-same profile = fun_ext (λ x. fun_ext (λ y. unordered_at-same profile x y))

  certified-same : (profile : Profile) → is_certified profile es p ≡ is_certified profile fs p
  unfolding is_certified
  certified-same profile = fun_ext (λ x. fun_ext (λ y. ap₂ (λ u v. u && (not (share_line x y) || v)) (unordered_at-same profile x y) (before-same y x)))

  pairs-same : (certified unordered : Option (ℕ × ℕ)) → finding_of_pairs es p certified unordered ≡ finding_of_pairs fs p certified unordered
  pairs-same (Some (x, y)) unordered = ap (λ l. OrderedFail x y l) (last-same es fs p same (stores y))
  pairs-same None (Some (x, y)) = refl
  pairs-same None None = refl

  ordered-same : (profile : Profile) (a b : Extent) → ordered_finding profile es p a b ≡ ordered_finding profile fs p a b
  unfolding ordered_finding
  ordered-same profile a b =
      let by = λ (checked : ℕ → Bool) (found : Finding). if is_none (first_byte checked a) then OrderedEmpty else if is_none (first_byte checked b) then OrderedEmpty else found in
      ap₂ by checked-same
      (ap₂ (λ c u. finding_of_pairs es p (least_pair c a b) (least_pair u a b)) (certified-same profile) (unordered-same profile)
      ∙ pairs-same (least_pair (is_certified profile fs p) a b) (least_pair (is_unordered profile fs p) a b))

  clean_at-same : (line : ℕ) → is_clean es p line ≡ is_clean fs p line
  unfolding is_clean
  clean_at-same line = ap₂ (λ l f. l == 0 || nat_lt 0 f) (last-same es fs p same (stores_line line)) (closing-same (stores_line line) line)

  pending_at-same : (line : ℕ) → is_pending es p line ≡ is_pending fs p line
  unfolding is_pending
  pending_at-same line = ap₂ (λ c w. not c && nat_lt 0 w) (clean_at-same line) (first_write_back-same es fs p same (stores_line line) line)

  flush-same : (s : Extent) → flush_findings es p s ≡ flush_findings fs p s
  unfolding flush_findings
  flush-same s = ap₂ (λ pending clean. if_any (doubled_finding (lines_where pending s)) ++ if_any (needless_finding (lines_where clean s))) (fun_ext pending_at-same) (fun_ext clean_at-same)

  included-same : (b : ℕ) → is_included es p b ≡ is_included fs p b
  unfolding is_included
  included-same b = ap not (excluded-same es fs p same b)

  end-same : end_finding es p ≡ end_finding fs p
  unfolding end_finding
  end-same = ap (λ v. if v then None else Some Unmatched) (inside-alike es fs p same)

  start-same : start_finding es p ≡ start_finding fs p
  unfolding start_finding
  start-same = ap (λ v. if v then Some Nested else None) (in_scope-alike es fs p same)

  add-same : (s : Extent) → add_finding es p s ≡ add_finding fs p s
  unfolding add_finding is_outside
  add-same s =
      let by = λ (inside : Bool) (found : Option Finding). if not inside then Some Outside else found in
      ap₂ by (inside-alike es fs p same)
      (ap₂ (λ scoped (backed : ℕ → Bool). if scoped then duplog_with (first_byte backed s) else None) (in_scope-alike es fs p same) (fun_ext (backed-alike es fs p same)))

-- what looks at the event behind p, too
module _ (es fs : List Event) (p : ℕ) (same : SameEvents es fs (suc p)) where
  front : SameEvents es fs p
  front = same-before es fs (suc p) p (omega arith) same

  store-same : (s : Extent) → store_finding es p s ≡ store_finding fs p s
  unfolding store_finding lacks_backup
  store-same s =
      ap₂ (λ v (lacks : ℕ → Bool). if v then nobackup_with (first_byte lacks s) else None)
      (ap₂ (λ inside scoped. inside && scoped) (inside-alike es fs p front) (in_scope-alike es fs p front))
      (fun_ext (λ b. ap₂ (λ included backed. included && not backed) (included-same es fs (suc p) same b) (backed-alike es fs p front b)))

  left_open-same : (b : ℕ) → is_left_open es p b ≡ is_left_open fs p b
  unfolding is_left_open
  left_open-same b =
      ap₂ (λ u i. u && is_open i) (ap₂ (λ scoped included. scoped && included) (scoped-alike es fs p front b) (included-same es fs (suc p) same b)) (interval-same es fs (suc p) same b)

  check-same : check_finding es p ≡ check_finding fs p
  unfolding check_finding
  check-same =
      let by = λ (scoped : Bool) (found : Finding). if not scoped then Unopened else found in
      let inner = λ (inside : Bool) (found : Finding). if inside then found else scope_passes_unless (first_from (is_left_open fs p) 0 ADDRESS_LIMIT) in
      ap₂ by (in_scope-alike es fs p front)
      (ap (λ (left : ℕ → Bool). if in_transaction es p then TxStillOpen (depth_at es p) else scope_passes_unless (first_from left 0 ADDRESS_LIMIT)) (fun_ext left_open-same)
      ∙ ap₂ inner (inside-alike es fs p front) (ap TxStillOpen (depth-alike es fs p front)))

-- of what is said of the place before
shifted : {A : Type 0} (f g : ℕ → A) (p : ℕ) → f p ≡ g p → f (suc p - 1) ≡ g (suc p - 1)
shifted f g p is = let before : suc p - 1 ≡ p = omega arith in ap f before ∙ is ∙ sym (ap g before)

module _ (profile : Profile) (es fs : List Event) where
  findings-same : (p : ℕ) → SameEvents es fs (suc p) → (o : Option Event) → findings_of profile es (suc p) o ≡ findings_of profile fs (suc p) o
  unfolding findings_of
  findings-same p same (Some (Store s)) = shifted (λ q. if_any (store_finding es q s)) (λ q. if_any (store_finding fs q s)) p (ap if_any (store-same es fs p same s))
  findings-same p same (Some (Flush s)) = shifted (λ q. flush_findings es q s) (λ q. flush_findings fs q s) p (flush-same es fs p (front es fs p same) s)
  findings-same p same (Some (Persist s)) = ap (λ f. f ∷ []) (persist-same es fs (suc p) same s)
  findings-same p same (Some (Ordered a b)) = ap (λ f. f ∷ []) (ordered-same es fs (suc p) same profile a b)
  findings-same p same (Some (TxAdd s)) = shifted (λ q. if_any (add_finding es q s)) (λ q. if_any (add_finding fs q s)) p (ap if_any (add-same es fs p (front es fs p same) s))
  findings-same p same (Some TxEnd) = shifted (λ q. if_any (end_finding es q)) (λ q. if_any (end_finding fs q)) p (ap if_any (end-same es fs p (front es fs p same)))
  findings-same p same (Some CheckStart) = shifted (λ q. if_any (start_finding es q)) (λ q. if_any (start_finding fs q)) p (ap if_any (start-same es fs p (front es fs p same)))
  findings-same p same (Some CheckEnd) = shifted (λ q. check_finding es q ∷ []) (λ q. check_finding fs q ∷ []) p (ap (λ f. f ∷ []) (check-same es fs p same))
  findings-same p same _ = refl

  rows-same : (p : ℕ) → SameEvents es fs p → rows_upto profile es p ≡ rows_upto profile fs p
  unfolding rows_upto
  rows-same zero same = refl
  rows-same (suc p) same =
      ap₂ (λ rows found. rows ++ map (row_at (suc p)) found) (rows-same p (same-before es fs (suc p) p (omega arith) same))
      (ap (findings_of profile es (suc p)) (same (suc p) (omega arith)) ∙ findings-same p same (event_at fs (suc p)))

pub rows_look_back : RowsLookBack
rows_look_back profile es fs p same = rows-same profile es fs p same

longer-same : (es more : List Event) → SameEvents (es ++ more) es (length es)
unfolding event_at
longer-same es more zero within = refl
longer-same es more (suc k) within = slice_get-front es more k (omega arith)

pub later_events_change_no_row : LaterEventsChangeNoRow
later_events_change_no_row profile es more = rows-same profile (es ++ more) es (length es) (longer-same es more)
