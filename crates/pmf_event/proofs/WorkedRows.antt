-- The worked examples, computed by the definitions alone.
use Rattle.std.proofs.Common.{◌≡◌, ℕ, true, false, List, [], ◌∷◌, refl, ap, zero, suc, Bool, ◌<◌, ◌≤◌, arith, Some, None, Ok, Err}
use Rattle.pmf_event.{specs.Span.{Extent, extent_of, covers_byte}, specs.Line.{line_of_byte, meets_span, meets_line}, specs.declared.span.TheConstants.{ADDRESS_LIMIT}, specs.declared.span.SpanFault.TheVariants.{ZeroSize, TooLarge, PastEnd}, specs.declared.event.Event.{Event}, specs.declared.event.Event.TheVariants.{Store, Flush, Fence, Persist, Exclude, Include, TxBegin, TxAdd, TxEnd, CheckStart, CheckEnd}, specs.declared.finding.Finding.TheVariants.{PersistPass, PersistFail, PersistEmpty, OrderedPass, OrderedFail, OrderedSameLine, OrderedEmpty, FlushDoubled, FlushNeedless, NoBackup, DupLog, CheckPass, CheckFail, TxStillOpen, Unmatched, Outside, Nested, Unopened, Unclosed}, specs.declared.profile.Profile.TheVariants.{One, Two}, specs.Places.{greatest, least, count, some_between, highest}, specs.Store.{event_at, at, stores, stores_line, flushes, is_fence, last, last_store, epoch_of}, specs.Interval.{writes_back, first_write_back, closes, closing_fence, interval_at}, specs.Exclusion.{excludes, marks, is_excluded, is_included}, specs.Transactions.{begins, ends, rise, depth_at, in_transaction, is_outside, adds, is_backed, opens_scope, closes_scope, opens_after, scope_at, in_scope, stores_inside, is_scoped, end_finding, add_finding, lacks_backup, store_finding, start_finding, is_left_open, scope_passes_unless, check_finding, close_finding}, specs.Ranges.{first_from, count_from}, specs.Persist.{is_checked, is_exposed, persist_finding}, specs.Order.{is_stored_before, is_ordered, is_unordered, is_certified, has_partner, least_pair, ordered_finding}, specs.FlushWarnings.{is_clean, is_pending, numbered, lines_where, flush_findings}, specs.LineBytes.{is_undurable, is_unwritten}, proofs.RangeLemmas.{first_from-none, first_from-some}}

abbrev span : ℕ → ℕ → Extent
span first size = record { first = first; size = size }

abbrev line : Event
line = Flush (span 0x1000 0x40)

-- ---- spans and lines

spans_and_lines :
    (extent_of 0x7fffffffffffffff 1 ≡ Ok (span 0x7fffffffffffffff 1))  -- a span of one byte at the end
    × (extent_of 0x7fffffffffffffff 2 ≡ Err PastEnd)  -- a span past the end
    × (extent_of 0 0x100000000 ≡ Ok (span 0 0x100000000))  -- the largest span
    × (extent_of 0 0x100000001 ≡ Err TooLarge)  -- a span too large
    × (extent_of 0x7fffffffffffffff 0x100000001 ≡ Err TooLarge)  -- too large comes before past the end
    × (extent_of 0x8000000000000001 0 ≡ Err ZeroSize)  -- a span of nothing
    × (covers_byte (span 0x1000 8) 0x1000 ≡ true)  -- its first byte
    × (covers_byte (span 0x1000 8) 0x1007 ≡ true)  -- its last byte
    × (covers_byte (span 0x1000 8) 0xfff ≡ false)  -- the byte before it
    × (covers_byte (span 0x1000 8) 0x1008 ≡ false)  -- the byte behind it
    × (line_of_byte 0x1000 ≡ 0x1000)  -- the line of its first byte
    × (line_of_byte 0x103f ≡ 0x1000)  -- the line of its last byte
    × (line_of_byte 0x1040 ≡ 0x1040)  -- the line of the byte behind it
    × (meets_line (span 0xff8 9) 0x1000 ≡ true)  -- a span meets the line of its last byte
    × (meets_line (span 0xff8 8) 0x1000 ≡ false)  -- a span does not meet the line behind its end
spans_and_lines = (refl, refl, refl, refl, refl, refl, refl, refl, refl, refl, refl, refl, refl, refl, refl)

spans_and_lines_2 :
    (meets_line (span 0x103f 8) 0x1000 ≡ true)  -- a span meets the line of its first byte
    × (meets_line (span 0x1040 8) 0x1000 ≡ false)  -- a span does not meet the line before it
    × (meets_line (span 0x103f 0x42) 0x1040 ≡ true)  -- a span meets the line in its middle
    × (meets_line (span 0x1000 8) 0x1004 ≡ false)  -- no line begins there
    × (meets_span (span 0x1000 9) (span 0x1008 8) ≡ true)  -- two spans with a byte in common
    × (meets_span (span 0x1000 8) (span 0x1008 8) ≡ false)  -- two spans side by side
    × (meets_span (span 0x1008 8) (span 0x1000 9) ≡ true)  -- two spans with a byte in common either way
    × (meets_span (span 0x1008 8) (span 0x1000 8) ≡ false)  -- two spans side by side either way
spans_and_lines_2 = (refl, refl, refl, refl, refl, refl, refl, refl)

-- ---- stores and epochs

abbrev stored_over : List Event
stored_over = Store (span 0x1000 8) ∷ Store (span 0x1004 8) ∷ line ∷ Store (span 0x2000 8) ∷ Store (span 0x1000 8) ∷ []

abbrev written_back_between : List Event
written_back_between = Store (span 0x1000 8) ∷ line ∷ Store (span 0x1008 8) ∷ Fence ∷ Persist (span 0x1000 8) ∷ Persist (span 0x1008 8) ∷ []

stores_and_epochs :
    (last_store stored_over 4 0x1004 ≡ 2)  -- the last of two stores
    × (last_store stored_over 4 0x1003 ≡ 1)  -- the one that covers it
    × (last_store stored_over 1 0x1004 ≡ 1)  -- no later store counts
    × (last_store stored_over 5 0x1000 ≡ 5)  -- a store at the place counts
    × (last_store stored_over 5 0x100b ≡ 2)  -- the last byte of a store
    × (last_store stored_over 5 0x100c ≡ 0)  -- the byte behind a store
    × (last_store stored_over 0 0x1000 ≡ 0)  -- nothing is stored at the start
    × (epoch_of written_back_between 4 ≡ 0)  -- no fence counts at itself
    × (epoch_of written_back_between 5 ≡ 1)  -- a fence counts behind it
    × (epoch_of (Fence ∷ Fence ∷ []) 1 ≡ 0)  -- the epoch of the start
    × (epoch_of (Fence ∷ line ∷ Fence ∷ Fence ∷ []) 4 ≡ 2)  -- each fence counts
unfolding last stores at event_at greatest epoch_of is_fence count
stores_and_epochs = (refl, refl, refl, refl, refl, refl, refl, refl, refl, refl, refl)

-- ---- intervals

intervals :
    (interval_at written_back_between 5 0x1000 ≡ Some (record { last = 1; opens = 0; closes = Some 1 }))  -- closed by the fence
    -- closed at the fence itself
    × (interval_at written_back_between 4 0x1000 ≡ Some (record { last = 1; opens = 0; closes = Some 1 }))
    × (interval_at written_back_between 3 0x1000 ≡ Some (record { last = 1; opens = 0; closes = None }))  -- open before the fence
    -- a write-back before the store closes nothing
    × (interval_at written_back_between 6 0x1008 ≡ Some (record { last = 3; opens = 0; closes = None }))
    × (interval_at written_back_between 6 0x1010 ≡ None)  -- no interval of an unwritten byte
    -- a fence before the write-back closes nothing
    × (interval_at (Store (span 0x1000 8) ∷ Fence ∷ line ∷ []) 3 0x1000 ≡ Some (record { last = 1; opens = 0; closes = None }))
    -- the fence after it closes
    × (interval_at (Store (span 0x1000 8) ∷ Fence ∷ line ∷ Fence ∷ []) 4 0x1000
    ≡ Some (record { last = 1; opens = 0; closes = Some 2 }))
    -- opened in a later epoch
    × (interval_at (Fence ∷ Store (span 0x1000 8) ∷ line ∷ Fence ∷ []) 4 0x1000
    ≡ Some (record { last = 2; opens = 1; closes = Some 2 }))
    -- the first fence closes
    × (interval_at (Store (span 0x1000 8) ∷ line ∷ Fence ∷ Fence ∷ []) 4 0x1000
    ≡ Some (record { last = 1; opens = 0; closes = Some 1 }))
    -- the first write-back closes
    × (interval_at (Store (span 0x1000 8) ∷ line ∷ Fence ∷ line ∷ Fence ∷ []) 5 0x1000
    ≡ Some (record { last = 1; opens = 0; closes = Some 1 }))
    -- a write-back before and one after
    × (interval_at (line ∷ Store (span 0x1000 8) ∷ line ∷ Fence ∷ []) 4 0x1000
    ≡ Some (record { last = 2; opens = 0; closes = Some 1 }))
    -- opened again by a store
    × (interval_at (Store (span 0x1000 8) ∷ line ∷ Fence ∷ Store (span 0x1000 8) ∷ []) 4 0x1000
    ≡ Some (record { last = 4; opens = 1; closes = None }))
    -- a store between write-back and fence
    × (interval_at (Store (span 0x1000 8) ∷ line ∷ Store (span 0x1000 8) ∷ Fence ∷ []) 4 0x1000
    ≡ Some (record { last = 3; opens = 0; closes = None }))
    -- one byte written back is its line
    × (interval_at (Store (span 0x1000 8) ∷ Flush (span 0x103f 1) ∷ Fence ∷ []) 3 0x1000
    ≡ Some (record { last = 1; opens = 0; closes = Some 1 }))
    -- a write-back across two lines
    × (interval_at (Store (span 0x1000 8) ∷ Flush (span 0xff8 9) ∷ Fence ∷ []) 3 0x1000
    ≡ Some (record { last = 1; opens = 0; closes = Some 1 }))
unfolding closing_fence closes epoch_of last is_fence flushes stores at event_at greatest least count some_between
intervals = (refl, refl, refl, refl, refl, refl, refl, refl, refl, refl, refl, refl, refl, refl, refl)

intervals_2 :
    -- a write-back of the line before
    (interval_at (Store (span 0x1000 8) ∷ Flush (span 0xfc0 0x40) ∷ Fence ∷ []) 3 0x1000
    ≡ Some (record { last = 1; opens = 0; closes = None }))
    -- a write-back of the line behind
    × (interval_at (Store (span 0x1000 8) ∷ Flush (span 0x1040 8) ∷ Fence ∷ []) 3 0x1000
    ≡ Some (record { last = 1; opens = 0; closes = None }))
    -- a later fence does not count
    × (interval_at (Store (span 0x1000 8) ∷ line ∷ Fence ∷ []) 2 0x1000 ≡ Some (record { last = 1; opens = 0; closes = None }))
unfolding closing_fence closes epoch_of last is_fence flushes stores at event_at greatest least count some_between
intervals_2 = (refl, refl, refl)

-- ---- exclusion

abbrev taken_out_and_in : List Event
taken_out_and_in = Exclude (span 0x1000 8) ∷ Include (span 0x1004 2) ∷ Exclude (span 0x2000 8) ∷ Include (span 0x3000 8) ∷ []

abbrev written_and_excluded : List Event
written_and_excluded = Store (span 0x1000 16) ∷ Exclude (span 0x1008 16) ∷ []

exclusion :
    (is_excluded taken_out_and_in 4 0x1000 ≡ true)  -- excluded
    × (is_excluded taken_out_and_in 4 0x1004 ≡ false)  -- included again
    × (is_excluded taken_out_and_in 4 0x1006 ≡ true)  -- excluded behind what was included
    × (is_excluded taken_out_and_in 1 0x1004 ≡ true)  -- not yet included again
    × (is_excluded taken_out_and_in 4 0x1008 ≡ false)  -- the byte behind an exclusion
    × (is_excluded taken_out_and_in 2 0x2000 ≡ false)  -- not yet excluded
    × (is_excluded taken_out_and_in 4 0x3000 ≡ false)  -- never excluded
    -- excluded anew
    × (is_excluded (Exclude (span 0x1000 8) ∷ Include (span 0x1000 8) ∷ Exclude (span 0x1000 8) ∷ []) 3 0x1000 ≡ true)
    × (is_excluded (Exclude (span 0x1000 8) ∷ Exclude (span 0x2000 8) ∷ []) 2 0x1000 ≡ true)  -- excluded by the earlier of two
    × (is_included taken_out_and_in 4 0x1004 ≡ true)  -- what is not excluded is included
    × (is_included taken_out_and_in 4 0x1000 ≡ false)  -- what is excluded is not included
    × (is_checked written_and_excluded 2 0x1007 ≡ true)  -- written and included
    × (is_checked written_and_excluded 2 0x1008 ≡ false)  -- written but excluded
    × (is_checked written_and_excluded 2 0x1010 ≡ false)  -- excluded and unwritten
    × (is_checked written_and_excluded 2 0x1018 ≡ false)  -- included but unwritten
unfolding is_excluded excludes marks last at event_at greatest is_included is_checked stores
exclusion = (refl, refl, refl, refl, refl, refl, refl, refl, refl, refl, refl, refl, refl, refl, refl)

-- ---- persist assertions

abbrev marked : List Event
marked = Store (span 0x1000 8) ∷ Exclude (span 0x1000 4) ∷ Persist (span 0x1000 8) ∷ Exclude (span 0x1000 8) ∷ Persist (span 0x1000 8) ∷ Include (span 0x1005 1) ∷ Persist (span 0x1000 8) ∷ []

persist_assertions :
    (persist_finding (Store (span 0x1000 8) ∷ line ∷ Fence ∷ []) 3 (span 0x1000 8) ≡ PersistPass)  -- stored written back fenced
    × (persist_finding (Store (span 0x1000 8) ∷ line ∷ []) 2 (span 0x1000 8) ≡ PersistFail 0x1000)  -- no fence
    -- a fence before the write-back
    × (persist_finding (Store (span 0x1000 8) ∷ Fence ∷ line ∷ []) 3 (span 0x1000 8) ≡ PersistFail 0x1000)
    -- a store after the write-back
    × (persist_finding (Store (span 0x1000 8) ∷ line ∷ Store (span 0x1008 8) ∷ Fence ∷ []) 4 (span 0x1000 8) ≡ PersistPass)
    -- a store after the write-back fails
    × (persist_finding (Store (span 0x1000 8) ∷ line ∷ Store (span 0x1008 8) ∷ Fence ∷ Persist (span 0x1000 8) ∷ []) 5 (span 0x1008 8)
    ≡ PersistFail 0x1008)
    -- a store across two lines one written back
    × (persist_finding (Store (span 0x103c 8) ∷ line ∷ Fence ∷ []) 3 (span 0x103c 8) ≡ PersistFail 0x1040)
    × (persist_finding [] 0 (span 0x1000 8) ≡ PersistEmpty)  -- nothing written
    × (persist_finding marked 3 (span 0x1000 8) ≡ PersistFail 0x1004)  -- excluded and included again
    × (persist_finding marked 5 (span 0x1000 8) ≡ PersistEmpty)  -- all excluded
    × (persist_finding marked 7 (span 0x1000 8) ≡ PersistFail 0x1005)  -- one included again
    -- the least open byte in the middle
    × (persist_finding (Store (span 0x1000 16) ∷ line ∷ Fence ∷ Store (span 0x1004 2) ∷ Store (span 0x1009 1) ∷ []) 5 (span 0x1000 16)
    ≡ PersistFail 0x1004)
    -- an excluded byte may be open
    × (persist_finding (Store (span 0x1000 16) ∷ line ∷ Fence ∷ Store (span 0x1008 8) ∷ Exclude (span 0x1008 8) ∷ []) 5 (span 0x1000 16)
    ≡ PersistPass)
    -- an unwritten byte does not fail
    × (persist_finding (Store (span 0x1004 4) ∷ line ∷ Fence ∷ []) 3 (span 0x1000 16) ≡ PersistPass)
    × (persist_finding (Store (span 0x1008 8) ∷ []) 1 (span 0x1000 8) ≡ PersistEmpty)  -- written behind the span
    × (persist_finding (Store (span 0xff8 8) ∷ []) 1 (span 0x1000 8) ≡ PersistEmpty)  -- written before the span
unfolding persist_finding is_exposed is_checked first_from is_excluded excludes marks closing_fence closes epoch_of last is_fence flushes stores at event_at greatest least count some_between
persist_assertions = (refl, refl, refl, refl, refl, refl, refl, refl, refl, refl, refl, refl, refl, refl, refl)

persist_assertions_2 :
    (persist_finding (Store (span 0x1007 1) ∷ []) 1 (span 0x1000 8) ≡ PersistFail 0x1007)  -- the last byte of the span
    -- a fence behind the place
    × (persist_finding (Store (span 0x1000 8) ∷ line ∷ Persist (span 0x1000 8) ∷ Fence ∷ []) 3 (span 0x1000 8)
    ≡ PersistFail 0x1000)
    -- a store behind the place
    × (persist_finding (Store (span 0x1000 8) ∷ line ∷ Fence ∷ Store (span 0x1000 8) ∷ []) 3 (span 0x1000 8) ≡ PersistPass)
    -- stored again after the fence
    × (persist_finding (Store (span 0x1000 8) ∷ line ∷ Fence ∷ Store (span 0x1000 8) ∷ []) 4 (span 0x1000 8) ≡ PersistFail 0x1000)
unfolding persist_finding is_exposed is_checked first_from is_excluded excludes marks closing_fence closes epoch_of last is_fence flushes stores at event_at greatest least count some_between
persist_assertions_2 = (refl, refl, refl, refl)

-- ---- order assertions

order_assertions :
    -- ordered by a fence
    (ordered_finding One (Store (span 0x1000 8) ∷ line ∷ Fence ∷ Store (span 0x2000 8) ∷ []) 4 (span 0x1000 8) (span 0x2000 8)
    ≡ OrderedPass)
    -- written back at one fence
    × (ordered_finding One (Store (span 0x1000 8) ∷ Store (span 0x2000 8) ∷ line ∷ Flush (span 0x2000 0x40) ∷ Fence ∷ []) 5 (span 0x1000 8) (span 0x2000 8)
    ≡ OrderedFail 0x1000 0x2000 2)
    -- two stores of one line
    × (ordered_finding One (Store (span 0x1000 8) ∷ Store (span 0x1008 8) ∷ []) 2 (span 0x1000 8) (span 0x1008 8)
    ≡ OrderedSameLine 0x1000 0x1008)
    -- two stores of one line in order
    × (ordered_finding Two (Store (span 0x1000 8) ∷ Store (span 0x1008 8) ∷ []) 2 (span 0x1000 8) (span 0x1008 8) ≡ OrderedPass)
    -- one store both bytes
    × (ordered_finding One (Store (span 0x1000 16) ∷ []) 1 (span 0x1000 8) (span 0x1008 8) ≡ OrderedSameLine 0x1000 0x1008)
    -- one store both bytes either way
    × (ordered_finding Two (Store (span 0x1000 16) ∷ []) 1 (span 0x1000 8) (span 0x1008 8) ≡ OrderedSameLine 0x1000 0x1008)
    -- a store across two lines
    × (ordered_finding One (Store (span 0x103c 8) ∷ []) 1 (span 0x103c 4) (span 0x1040 4) ≡ OrderedFail 0x103c 0x1040 1)
    -- stored in the other order
    × (ordered_finding Two (Store (span 0x1008 8) ∷ Store (span 0x1000 8) ∷ []) 2 (span 0x1000 8) (span 0x1008 8)
    ≡ OrderedFail 0x1000 0x1008 1)
    -- a span with itself
    × (ordered_finding One (Store (span 0x1000 8) ∷ []) 1 (span 0x1000 8) (span 0x1000 8) ≡ OrderedSameLine 0x1000 0x1000)
    × (ordered_finding One (Store (span 0x1000 8) ∷ []) 1 (span 0x1000 8) (span 0x2000 8) ≡ OrderedEmpty)  -- nothing on one side
    -- stored before on another line
    × (ordered_finding Two (Store (span 0x1000 8) ∷ Store (span 0x2000 8) ∷ []) 2 (span 0x1000 8) (span 0x2000 8)
    ≡ OrderedFail 0x1000 0x2000 2)
    -- ordered by a fence either way
    × (ordered_finding Two (Store (span 0x1000 8) ∷ line ∷ Fence ∷ Store (span 0x2000 8) ∷ []) 4 (span 0x1000 8) (span 0x2000 8)
    ≡ OrderedPass)
    -- ordered by a fence on one line
    × (ordered_finding One (Store (span 0x1000 8) ∷ line ∷ Fence ∷ Store (span 0x1008 8) ∷ []) 4 (span 0x1000 8) (span 0x1008 8)
    ≡ OrderedPass)
    -- stored in the other order under one
    × (ordered_finding One (Store (span 0x1008 8) ∷ Store (span 0x1000 8) ∷ []) 2 (span 0x1000 8) (span 0x1008 8)
    ≡ OrderedFail 0x1000 0x1008 1)
    -- the crash is at the last store of the second
    × (ordered_finding One (Store (span 0x2000 8) ∷ Fence ∷ Store (span 0x2000 8) ∷ Store (span 0x1000 8) ∷ []) 4 (span 0x1000 8) (span 0x2000 8)
    ≡ OrderedFail 0x1000 0x2000 3)
unfolding ordered_finding least_pair has_partner is_certified is_unordered is_ordered is_stored_before is_checked first_from is_excluded excludes marks closing_fence closes epoch_of last is_fence flushes stores at event_at greatest least count some_between
order_assertions = (refl, refl, refl, refl, refl, refl, refl, refl, refl, refl, refl, refl, refl, refl, refl)

abbrev stored_anew_after_the_other : List Event
stored_anew_after_the_other = Store (span 0x1000 8) ∷ line ∷ Fence ∷ Store (span 0x2000 8) ∷ Flush (span 0x2000 0x40) ∷ Fence ∷ Store (span 0x1000 8) ∷ line ∷ Fence ∷ []

abbrev crossed : List Event
crossed = Store (span 0x1000 1) ∷ Store (span 0x2001 1) ∷ line ∷ Fence ∷ Store (span 0x2000 1) ∷ Store (span 0x1001 1) ∷ []

order_assertions_2 :
    -- closed later than the other opens
    (ordered_finding One (Store (span 0x1000 8) ∷ Fence ∷ Store (span 0x2000 8) ∷ line ∷ Fence ∷ []) 5 (span 0x1000 8) (span 0x2000 8)
    ≡ OrderedFail 0x1000 0x2000 3)
    -- closed earlier than the other opens
    × (ordered_finding One (Store (span 0x1000 8) ∷ line ∷ Fence ∷ Fence ∷ Store (span 0x2000 8) ∷ []) 5 (span 0x1000 8) (span 0x2000 8)
    ≡ OrderedPass)
    -- stored anew
    × (ordered_finding One stored_anew_after_the_other 9 (span 0x1000 8) (span 0x2000 8) ≡ OrderedFail 0x1000 0x2000 4)
    -- stored before and after
    × (ordered_finding Two (Store (span 0x1000 8) ∷ Store (span 0x1008 8) ∷ Store (span 0x1000 8) ∷ []) 3 (span 0x1000 8) (span 0x1008 8)
    ≡ OrderedFail 0x1000 0x1008 2)
    -- the least first byte comes first
    × (ordered_finding One crossed 6 (span 0x1000 2) (span 0x2000 2) ≡ OrderedFail 0x1000 0x2001 2)
    × (ordered_finding One crossed 6 (span 0x1001 1) (span 0x2000 2) ≡ OrderedFail 0x1001 0x2000 5)  -- then the least second byte
    -- a certified pair comes before a lesser one
    × (ordered_finding One (Store (span 0x103c 8) ∷ Store (span 0x1038 4) ∷ []) 2 (span 0x103c 8) (span 0x1038 4)
    ≡ OrderedFail 0x1040 0x1038 2)
    -- the least unordered pair
    × (ordered_finding One (Store (span 0x1001 1) ∷ Store (span 0x1003 1) ∷ Store (span 0x100b 1) ∷ Store (span 0x1009 1) ∷ []) 4 (span 0x1000 8) (span 0x1008 8)
    ≡ OrderedSameLine 0x1001 0x1009)
    -- nothing on the other side
    × (ordered_finding One (Store (span 0x1000 8) ∷ []) 1 (span 0x2000 8) (span 0x1000 8) ≡ OrderedEmpty)
    -- the first span excluded
    × (ordered_finding One (Store (span 0x1000 8) ∷ Store (span 0x2000 8) ∷ Exclude (span 0x1000 8) ∷ []) 3 (span 0x1000 8) (span 0x2000 8)
    ≡ OrderedEmpty)
    -- the second span excluded
    × (ordered_finding One (Store (span 0x1000 8) ∷ Store (span 0x2000 8) ∷ Exclude (span 0x2000 8) ∷ []) 3 (span 0x1000 8) (span 0x2000 8)
    ≡ OrderedEmpty)
    -- an excluded byte is in no pair
    × (ordered_finding One (Store (span 0x1000 8) ∷ Store (span 0x2000 8) ∷ Exclude (span 0x1000 4) ∷ Exclude (span 0x2000 2) ∷ []) 4 (span 0x1000 8) (span 0x2000 8)
    ≡ OrderedFail 0x1004 0x2002 2)
unfolding ordered_finding least_pair has_partner is_certified is_unordered is_ordered is_stored_before is_checked first_from is_excluded excludes marks closing_fence closes epoch_of last is_fence flushes stores at event_at greatest least count some_between
order_assertions_2 = (refl, refl, refl, refl, refl, refl, refl, refl, refl, refl, refl, refl)

-- ---- flush warnings

flush_warnings :
    (flush_findings ([]) 0 (span 0x1000 0x40) ≡ FlushNeedless 0x1000 1 ∷ [])  -- needless from the start
    × (flush_findings (Store (span 0x1000 8) ∷ line ∷ []) 2 (span 0x1000 0x40) ≡ FlushDoubled 0x1000 1 ∷ [])  -- doubled
    -- needless after the fence
    × (flush_findings (Store (span 0x1000 8) ∷ line ∷ Fence ∷ []) 3 (span 0x1000 0x40) ≡ FlushNeedless 0x1000 1 ∷ [])
    -- doubled and needless
    × (flush_findings (Store (span 0x1000 8) ∷ line ∷ []) 2 (span 0x1000 0xc0)
    ≡ FlushDoubled 0x1000 1 ∷ FlushNeedless 0x1040 2 ∷ [])
    × (flush_findings (Store (span 0x1000 8) ∷ []) 1 (span 0x1000 0x40) ≡ [])  -- not yet written back
    × (flush_findings [] 0 (span 0x103f 2) ≡ FlushNeedless 0x1000 2 ∷ [])  -- two bytes of two lines
    × (flush_findings [] 0 (span 0x1001 0x40) ≡ FlushNeedless 0x1000 2 ∷ [])  -- a line from its second byte on
    × (flush_findings [] 0 (span 0x1001 0x3f) ≡ FlushNeedless 0x1000 1 ∷ [])  -- a line without its first byte
    -- two lines doubled
    × (flush_findings (Store (span 0x103c 8) ∷ Flush (span 0x103c 8) ∷ []) 2 (span 0x1000 0x80) ≡ FlushDoubled 0x1000 2 ∷ [])
    -- a line in the middle is not counted
    × (flush_findings (Store (span 0x1040 8) ∷ []) 1 (span 0x1000 0xc0) ≡ FlushNeedless 0x1000 2 ∷ [])
    -- the least line is not the first
    × (flush_findings (Store (span 0x1000 8) ∷ Store (span 0x1048 8) ∷ Flush (span 0x1040 8) ∷ []) 3 (span 0x1000 0xc0)
    ≡ FlushDoubled 0x1040 1 ∷ FlushNeedless 0x1080 1 ∷ [])
    -- needless lines may come first by number
    × (flush_findings (Store (span 0x1040 8) ∷ Flush (span 0x1040 8) ∷ []) 2 (span 0x1000 0x80)
    ≡ FlushDoubled 0x1040 1 ∷ FlushNeedless 0x1000 1 ∷ [])
    × (flush_findings (Store (span 0x103c 8) ∷ []) 1 (span 0x1000 0x80) ≡ [])  -- a store meets both of its lines
    -- another byte of the line was stored
    × (flush_findings (Store (span 0x1000 8) ∷ line ∷ Store (span 0x1008 8) ∷ []) 3 (span 0x1000 0x40) ≡ [])
    -- stored after the fence
    × (flush_findings (Store (span 0x1000 8) ∷ line ∷ Fence ∷ Store (span 0x1008 8) ∷ []) 4 (span 0x1000 0x40) ≡ [])
unfolding flush_findings lines_where numbered is_pending is_clean first_from count_from closing_fence first_write_back closes writes_back epoch_of last is_fence flushes stores_line at event_at greatest least count some_between
flush_warnings = (refl, refl, refl, refl, refl, refl, refl, refl, refl, refl, refl, refl, refl, refl, refl)

flush_warnings_2 :
    -- a write-back before the store does not double
    (flush_findings (line ∷ Store (span 0x1000 8) ∷ []) 2 (span 0x1000 0x40) ≡ [])
    -- a write-back before the store does not clean
    × (flush_findings (line ∷ Store (span 0x1000 8) ∷ Fence ∷ []) 3 (span 0x1000 0x40) ≡ [])
    -- a fence before the write-back does not clean
    × (flush_findings (Store (span 0x1000 8) ∷ Fence ∷ line ∷ []) 3 (span 0x1000 0x40) ≡ FlushDoubled 0x1000 1 ∷ [])
    -- a write-back of another line
    × (flush_findings (Store (span 0x1000 8) ∷ Flush (span 0x1040 8) ∷ Fence ∷ []) 3 (span 0x1000 0x40) ≡ [])
    -- clean once it was doubled
    × (flush_findings (Store (span 0x1000 8) ∷ line ∷ line ∷ Fence ∷ []) 4 (span 0x1000 0x40) ≡ FlushNeedless 0x1000 1 ∷ [])
    -- clean stays clean
    × (flush_findings (Store (span 0x1000 8) ∷ line ∷ Fence ∷ line ∷ []) 4 (span 0x1000 0x40) ≡ FlushNeedless 0x1000 1 ∷ [])
    × (flush_findings (Store (span 0x1000 8) ∷ line ∷ line ∷ Fence ∷ []) 1 (span 0x1000 0x40) ≡ [])  -- judged before its effect
    -- exclusion has no influence
    × (flush_findings (Store (span 0x1000 8) ∷ line ∷ Exclude (span 0x1000 0x40) ∷ []) 3 (span 0x1000 0x40)
    ≡ FlushDoubled 0x1000 1 ∷ [])
    × (is_undurable written_back_between 6 0x1008 ≡ true)  -- an undurable byte
    × (is_undurable written_back_between 6 0x1000 ≡ false)  -- a durable byte
    × (is_undurable written_back_between 3 0x1000 ≡ true)  -- undurable before the fence
    × (is_undurable written_back_between 6 0x1010 ≡ false)  -- what was not stored is not undurable
    × (is_unwritten written_back_between 6 0x1008 ≡ true)  -- an unwritten byte
    × (is_unwritten written_back_between 3 0x1000 ≡ false)  -- a byte written back before the fence
    × (is_unwritten written_back_between 6 0x1010 ≡ false)  -- what was not stored is not unwritten
unfolding flush_findings lines_where numbered is_pending is_clean first_from count_from closing_fence first_write_back closes writes_back epoch_of last is_fence flushes stores_line at event_at greatest least count some_between is_undurable is_unwritten stores
flush_warnings_2 = (refl, refl, refl, refl, refl, refl, refl, refl, refl, refl, refl, refl, refl, refl, refl)

-- ---- transactions

abbrev half_backed : List Event
half_backed = CheckStart ∷ TxBegin ∷ TxAdd (span 0x1000 8) ∷ Store (span 0x1000 16) ∷ TxEnd ∷ CheckEnd ∷ []

abbrev never_ended : List Event
never_ended = CheckStart ∷ TxBegin ∷ TxAdd (span 0x1000 8) ∷ Store (span 0x1000 16) ∷ CheckEnd ∷ []

abbrev out_of_place : List Event
out_of_place = TxEnd ∷ TxAdd (span 0 1) ∷ CheckEnd ∷ CheckStart ∷ CheckStart ∷ []

abbrev added_twice_over : List Event
added_twice_over = CheckStart ∷ TxBegin ∷ TxAdd (span 0x1000 16) ∷ TxAdd (span 0x1008 8) ∷ []

abbrev one_after_another : List Event
one_after_another = CheckStart ∷ TxBegin ∷ TxBegin ∷ TxAdd (span 0x1000 8) ∷ TxEnd ∷ Store (span 0x1000 8) ∷ TxEnd ∷ TxBegin ∷ Store (span 0x1000 8) ∷ []

transactions :
    (store_finding half_backed 3 (span 0x1000 16) ≡ Some (NoBackup 0x1008))  -- a range without backup
    × (is_left_open half_backed 5 0x1000 ≡ true)  -- its store is left open
    × (is_left_open half_backed 5 0xfff ≡ false)  -- no byte before it is
    × (check_finding never_ended 4 ≡ TxStillOpen 1)  -- a scope that ends in a transaction
    × (end_finding out_of_place 0 ≡ Some Unmatched)  -- an end of nothing
    × (add_finding out_of_place 1 (span 0 1) ≡ Some Outside)  -- a backup outside
    × (check_finding out_of_place 2 ≡ Unopened)  -- a scope that was not opened
    × (start_finding out_of_place 4 ≡ Some Nested)  -- a scope in a scope
    × (close_finding out_of_place 5 ≡ Some (Unclosed 4))  -- a scope that is not closed
    × (add_finding added_twice_over 3 (span 0x1008 8) ≡ Some (DupLog 0x1008))  -- added twice
    × (store_finding one_after_another 5 (span 0x1000 8) ≡ None)  -- backed up in a nested transaction
    × (store_finding one_after_another 8 (span 0x1000 8) ≡ Some (NoBackup 0x1000))  -- backed up in an earlier transaction
    × (depth_at (TxBegin ∷ []) 0 ≡ 0)  -- no transaction at the start
    × (depth_at (TxBegin ∷ []) 1 ≡ 1)  -- one transaction
    × (depth_at (TxBegin ∷ TxBegin ∷ TxEnd ∷ []) 2 ≡ 2)  -- a nested transaction
unfolding store_finding lacks_backup begins ends rise depth_at in_transaction is_outside adds is_backed opens_scope closes_scope opens_after scope_at in_scope stores_inside is_scoped is_included is_excluded excludes marks first_from last stores at event_at greatest least count highest is_left_open closing_fence closes epoch_of is_fence flushes some_between check_finding end_finding add_finding start_finding close_finding
transactions = (refl, refl, refl, refl, refl, refl, refl, refl, refl, refl, refl, refl, refl, refl, refl)

abbrev begun_and_ended : List Event
begun_and_ended = CheckStart ∷ TxBegin ∷ TxAdd (span 0x1000 8) ∷ Store (span 0x1000 16) ∷ TxEnd ∷ CheckEnd ∷ []

transactions_2 :
    (depth_at (TxBegin ∷ TxBegin ∷ TxEnd ∷ []) 3 ≡ 1)  -- after a nested transaction
    × (depth_at (TxBegin ∷ TxBegin ∷ TxEnd ∷ TxEnd ∷ []) 4 ≡ 0)  -- after the last end
    × (depth_at (TxEnd ∷ TxBegin ∷ []) 2 ≡ 1)  -- an end without a begin leaves no debt
    × (depth_at (TxEnd ∷ TxEnd ∷ TxBegin ∷ TxBegin ∷ TxEnd ∷ []) 5 ≡ 1)  -- two ends without begins leave no debt
    × (depth_at (TxBegin ∷ TxEnd ∷ TxEnd ∷ []) 3 ≡ 0)  -- an end too many
    × (depth_at (TxBegin ∷ TxEnd ∷ TxEnd ∷ TxBegin ∷ []) 4 ≡ 1)  -- a begin after an end too many
    -- other events do not count
    × (depth_at (CheckStart ∷ TxBegin ∷ TxAdd (span 0x1000 8) ∷ Store (span 0x1000 8) ∷ CheckEnd ∷ []) 5 ≡ 1)
    × (rise begun_and_ended 4 1 ≡ 1)  -- it rises by a begin
    × (rise begun_and_ended 5 4 ≡ 0)  -- it does not rise by an end
    × (is_backed (TxBegin ∷ TxAdd (span 0x1000 8) ∷ []) 2 0x1007 ≡ true)  -- backed up
    × (is_backed (TxBegin ∷ TxAdd (span 0x1000 8) ∷ []) 2 0x1008 ≡ false)  -- the byte behind the backup
    × (is_backed (TxBegin ∷ TxAdd (span 0x1000 8) ∷ []) 1 0x1000 ≡ false)  -- not yet backed up
    × (is_backed (TxBegin ∷ TxAdd (span 0x1000 8) ∷ TxEnd ∷ []) 3 0x1000 ≡ false)  -- no backup outlives its transaction
    × (is_backed (TxBegin ∷ TxAdd (span 0x1000 8) ∷ TxEnd ∷ TxBegin ∷ []) 4 0x1000 ≡ false)  -- no backup of an earlier transaction
    -- a backup outlives a nested transaction
    × (is_backed (TxBegin ∷ TxBegin ∷ TxAdd (span 0x1000 8) ∷ TxEnd ∷ []) 4 0x1000 ≡ true)
unfolding begins ends rise depth_at at event_at count highest in_transaction is_outside adds is_backed last greatest
transactions_2 = (refl, refl, refl, refl, refl, refl, refl, refl, refl, refl, refl, refl, refl, refl, refl)

transactions_3 :
    (is_backed (TxBegin ∷ TxAdd (span 0x1000 8) ∷ TxBegin ∷ []) 3 0x1000 ≡ true)  -- a backup holds in a nested transaction
    × (is_backed (TxBegin ∷ TxAdd (span 0x1000 8) ∷ TxBegin ∷ TxEnd ∷ []) 4 0x1000 ≡ true)  -- a nested begin empties no backup
    × (is_backed (TxAdd (span 0x1000 8) ∷ TxBegin ∷ []) 2 0x1000 ≡ false)  -- a backup outside of transactions
    × (is_backed (TxEnd ∷ TxBegin ∷ TxAdd (span 0x1000 8) ∷ []) 3 0x1000 ≡ true)  -- backed up after an end without a begin
    -- backed up before and again
    × (is_backed (TxBegin ∷ TxAdd (span 0x1000 8) ∷ TxEnd ∷ TxBegin ∷ TxAdd (span 0x1000 8) ∷ []) 5 0x1000 ≡ true)
    × (is_backed (TxBegin ∷ TxAdd (span 0x1000 8) ∷ TxAdd (span 0x1004 8) ∷ []) 3 0x1000 ≡ true)  -- backed up twice
    -- another backup is the last
    × (is_backed (TxBegin ∷ TxAdd (span 0x1000 8) ∷ TxEnd ∷ TxBegin ∷ TxAdd (span 0x2000 8) ∷ []) 5 0x1000 ≡ false)
    × (scope_at (CheckStart ∷ []) 0 ≡ 0)  -- no scope at the start
    × (scope_at (TxBegin ∷ CheckStart ∷ []) 2 ≡ 2)  -- a scope opens
    × (scope_at (CheckStart ∷ Fence ∷ CheckStart ∷ []) 3 ≡ 1)  -- a second start opens nothing
    × (scope_at (CheckStart ∷ CheckStart ∷ CheckEnd ∷ []) 3 ≡ 0)  -- a scope closes
    × (scope_at (CheckStart ∷ CheckEnd ∷ Fence ∷ CheckStart ∷ []) 4 ≡ 4)  -- a scope opens again
    × (scope_at (CheckEnd ∷ CheckStart ∷ []) 2 ≡ 2)  -- an end without a scope
    × (is_scoped (CheckStart ∷ TxBegin ∷ Store (span 0x1000 8) ∷ []) 3 0x1007 ≡ true)  -- a store in a transaction joins the scope
    × (is_scoped (CheckStart ∷ TxBegin ∷ Store (span 0x1000 8) ∷ []) 3 0x1008 ≡ false)  -- the byte behind it does not
unfolding begins ends rise depth_at in_transaction is_outside adds is_backed last at event_at greatest count highest opens_scope closes_scope opens_after scope_at least in_scope stores_inside is_scoped stores
transactions_3 = (refl, refl, refl, refl, refl, refl, refl, refl, refl, refl, refl, refl, refl, refl, refl)

transactions_4 :
    (is_scoped (CheckStart ∷ Store (span 0x1000 8) ∷ []) 2 0x1000 ≡ false)  -- a store outside of transactions does not
    × (is_scoped (CheckStart ∷ Store (span 0x1000 8) ∷ TxBegin ∷ []) 3 0x1000 ≡ false)  -- a store before the transaction does not
    -- a store after the transaction does not
    × (is_scoped (CheckStart ∷ TxBegin ∷ TxEnd ∷ Store (span 0x1000 8) ∷ []) 4 0x1000 ≡ false)
    × (is_scoped (TxBegin ∷ Store (span 0x1000 8) ∷ CheckStart ∷ []) 3 0x1000 ≡ false)  -- a store before the scope does not
    × (is_scoped (TxBegin ∷ CheckStart ∷ Store (span 0x1000 8) ∷ []) 3 0x1000 ≡ true)  -- a transaction may begin before the scope
    × (is_scoped (CheckStart ∷ TxBegin ∷ Store (span 0x1000 8) ∷ TxEnd ∷ []) 4 0x1000 ≡ true)  -- it stays after the transaction
    -- a later store outside takes nothing back
    × (is_scoped (CheckStart ∷ TxBegin ∷ Store (span 0x1000 8) ∷ TxEnd ∷ Store (span 0x1000 8) ∷ []) 5 0x1000 ≡ true)
    -- a second start forgets nothing
    × (is_scoped (CheckStart ∷ TxBegin ∷ Store (span 0x1000 8) ∷ CheckStart ∷ []) 4 0x1000 ≡ true)
    × (is_scoped (CheckStart ∷ TxBegin ∷ Store (span 0x1000 8) ∷ CheckEnd ∷ []) 4 0x1000 ≡ false)  -- nothing stays after the scope
    -- nothing of an earlier scope
    × (is_scoped (CheckStart ∷ TxBegin ∷ Store (span 0x1000 8) ∷ CheckEnd ∷ CheckStart ∷ []) 5 0x1000 ≡ false)
    × (is_scoped (CheckStart ∷ TxBegin ∷ Store (span 0x1000 8) ∷ []) 2 0x1000 ≡ false)  -- no later store joins yet
    × (store_finding (TxBegin ∷ []) 1 (span 0x1000 8) ≡ None)  -- no backup is asked without a scope
    × (store_finding (CheckStart ∷ []) 1 (span 0x1000 8) ≡ None)  -- no backup is asked outside of transactions
    × (store_finding (CheckStart ∷ TxBegin ∷ TxEnd ∷ []) 3 (span 0x1000 8) ≡ None)  -- no backup is asked after the transaction
    × (store_finding (CheckStart ∷ TxBegin ∷ CheckEnd ∷ []) 3 (span 0x1000 8) ≡ None)  -- no backup is asked after the scope
unfolding begins ends rise depth_at in_transaction opens_scope closes_scope opens_after scope_at in_scope stores_inside is_scoped last stores at event_at greatest least count highest store_finding lacks_backup is_outside adds is_backed is_included is_excluded excludes marks first_from
transactions_4 = (refl, refl, refl, refl, refl, refl, refl, refl, refl, refl, refl, refl, refl, refl, refl)

transactions_5 :
    -- the least byte without backup
    (store_finding (CheckStart ∷ TxBegin ∷ TxAdd (span 0x1000 2) ∷ TxAdd (span 0x1004 2) ∷ []) 4 (span 0x1000 8)
    ≡ Some (NoBackup 0x1002))
    -- all backed up
    × (store_finding (CheckStart ∷ TxBegin ∷ TxAdd (span 0x1000 4) ∷ TxAdd (span 0x1004 4) ∷ []) 4 (span 0x1000 8) ≡ None)
    -- an excluded byte lacks no backup
    × (store_finding (CheckStart ∷ TxBegin ∷ Exclude (span 0x1000 8) ∷ []) 3 (span 0x1000 8) ≡ None)
    -- the least included byte without backup
    × (store_finding (CheckStart ∷ TxBegin ∷ Exclude (span 0x1000 3) ∷ TxAdd (span 0x1004 4) ∷ []) 4 (span 0x1000 8)
    ≡ Some (NoBackup 0x1003))
    -- an included byte needs a backup again
    × (store_finding (CheckStart ∷ TxBegin ∷ Exclude (span 0x1000 8) ∷ Include (span 0x1006 1) ∷ []) 4 (span 0x1000 8)
    ≡ Some (NoBackup 0x1006))
    × (store_finding (TxBegin ∷ TxAdd (span 0x1000 8) ∷ CheckStart ∷ []) 3 (span 0x1000 8) ≡ None)  -- backed up before the scope
    × (add_finding (CheckStart ∷ TxBegin ∷ []) 2 (span 0x1000 8) ≡ None)  -- added once
    × (add_finding (TxBegin ∷ TxAdd (span 0x1000 8) ∷ []) 2 (span 0x1000 8) ≡ None)  -- added twice without a scope
    -- added twice after the scope
    × (add_finding (CheckStart ∷ TxBegin ∷ TxAdd (span 0x1000 8) ∷ CheckEnd ∷ []) 4 (span 0x1000 8) ≡ None)
    -- added before the scope and again
    × (add_finding (TxBegin ∷ TxAdd (span 0x1000 8) ∷ CheckStart ∷ []) 3 (span 0x1000 8) ≡ Some (DupLog 0x1000))
    -- the least byte added twice
    × (add_finding (CheckStart ∷ TxBegin ∷ TxAdd (span 0x1004 2) ∷ TxAdd (span 0x1002 1) ∷ []) 4 (span 0x1000 8)
    ≡ Some (DupLog 0x1002))
    × (add_finding (CheckStart ∷ TxBegin ∷ TxAdd (span 0x1000 8) ∷ []) 3 (span 0x1008 8) ≡ None)  -- added side by side
    -- added in two transactions
    × (add_finding (CheckStart ∷ TxBegin ∷ TxAdd (span 0x1000 8) ∷ TxEnd ∷ TxBegin ∷ []) 5 (span 0x1000 8) ≡ None)
    -- an excluded byte added twice
    × (add_finding (CheckStart ∷ TxBegin ∷ TxAdd (span 0x1000 8) ∷ Exclude (span 0x1000 8) ∷ []) 4 (span 0x1000 8)
    ≡ Some (DupLog 0x1000))
    × (add_finding (CheckStart ∷ []) 1 (span 0x1000 8) ≡ Some Outside)  -- a backup outside in a scope
unfolding store_finding lacks_backup begins ends rise depth_at in_transaction is_outside adds is_backed opens_scope closes_scope opens_after scope_at in_scope stores_inside is_scoped is_included is_excluded excludes marks first_from last stores at event_at greatest least count highest add_finding
transactions_5 = (refl, refl, refl, refl, refl, refl, refl, refl, refl, refl, refl, refl, refl, refl, refl)

abbrev written_in_a_scope : List Event
written_in_a_scope = CheckStart ∷ TxBegin ∷ Store (span 0x1000 8) ∷ line ∷ Fence ∷ Store (span 0x1004 8) ∷ Exclude (span 0x1006 1) ∷ TxEnd ∷ Store (span 0x1010 8) ∷ CheckEnd ∷ []

transactions_6 :
    (add_finding (CheckStart ∷ TxBegin ∷ TxEnd ∷ []) 3 (span 0x1000 8) ≡ Some Outside)  -- a backup after the transaction
    × (end_finding (TxBegin ∷ []) 1 ≡ None)  -- an end of a transaction
    × (end_finding (TxBegin ∷ TxBegin ∷ TxEnd ∷ []) 3 ≡ None)  -- an end after a nested one
    × (end_finding (TxBegin ∷ TxEnd ∷ []) 2 ≡ Some Unmatched)  -- an end after the end
    × (end_finding (TxEnd ∷ TxBegin ∷ []) 2 ≡ None)  -- an end after two begun anew
    × (start_finding (TxBegin ∷ []) 1 ≡ None)  -- a scope that opens
    × (start_finding (CheckStart ∷ CheckEnd ∷ []) 2 ≡ None)  -- a scope after a scope
    × (start_finding (CheckStart ∷ TxBegin ∷ []) 2 ≡ Some Nested)  -- a scope in a scope and a transaction
    × (is_left_open written_in_a_scope 9 0x1004 ≡ true)  -- left open
    × (is_left_open written_in_a_scope 9 0x1003 ≡ false)  -- a closed byte is not left open
    × (is_left_open written_in_a_scope 9 0x1006 ≡ false)  -- an excluded byte is not left open
    × (is_left_open written_in_a_scope 9 0x1007 ≡ true)  -- left open behind it
    × (is_left_open written_in_a_scope 9 0x100c ≡ false)  -- an unwritten byte is not left open
    × (is_left_open written_in_a_scope 9 0x1010 ≡ false)  -- a byte of no transaction is not left open
    × (check_finding (TxBegin ∷ []) 1 ≡ Unopened)  -- not opened in a transaction
unfolding add_finding begins ends rise depth_at in_transaction is_outside adds is_backed opens_scope closes_scope opens_after scope_at in_scope stores_inside is_scoped is_included is_excluded excludes marks first_from last stores at event_at greatest least count highest end_finding start_finding is_left_open closing_fence closes epoch_of is_fence flushes some_between check_finding
transactions_6 = (refl, refl, refl, refl, refl, refl, refl, refl, refl, refl, refl, refl, refl, refl, refl)

transactions_7 :
    (check_finding (CheckStart ∷ CheckEnd ∷ []) 2 ≡ Unopened)  -- not opened again
    × (check_finding (CheckStart ∷ TxBegin ∷ TxBegin ∷ TxBegin ∷ TxEnd ∷ []) 5 ≡ TxStillOpen 2)  -- the depth of what still runs
    -- what still runs comes before what is open
    × (check_finding (CheckStart ∷ TxBegin ∷ Store (span 0 8) ∷ []) 3 ≡ TxStillOpen 1)
unfolding check_finding is_left_open closing_fence closes epoch_of is_fence flushes some_between begins ends rise depth_at in_transaction is_outside adds is_backed opens_scope closes_scope opens_after scope_at in_scope stores_inside is_scoped is_included is_excluded excludes marks last stores at event_at greatest least count highest
transactions_7 = (refl, refl, refl)

-- what is false of the first byte is false of each before the second
below-one : (test : ℕ → Bool) → test 0 ≡ false → (j : ℕ) → 0 ≤ j → j < 1 → test j ≡ false
below-one test none zero low high = none
below-one test none (suc n) low high = absurd (omega arith)

the_least_byte_left_open : check_finding (CheckStart ∷ TxBegin ∷ Store (span 1 2) ∷ TxEnd ∷ []) 4 ≡ CheckFail 1
unfolding check_finding is_left_open closing_fence closes epoch_of is_fence flushes some_between begins ends rise depth_at in_transaction is_outside adds is_backed opens_scope closes_scope opens_after scope_at in_scope stores_inside is_scoped is_included is_excluded excludes marks last stores at event_at greatest least count highest
the_least_byte_left_open = ap scope_passes_unless (first_from-some (is_left_open (CheckStart ∷ TxBegin ∷ Store (span 1 2) ∷ TxEnd ∷ []) 4) 0 ADDRESS_LIMIT 1 (record { from = omega arith; within = omega arith; passes = refl; before = below-one (is_left_open (CheckStart ∷ TxBegin ∷ Store (span 1 2) ∷ TxEnd ∷ []) 4) refl }))

the_least_included_byte_left_open : check_finding (CheckStart ∷ TxBegin ∷ Store (span 0 4) ∷ Exclude (span 0 1) ∷ TxEnd ∷ []) 5 ≡ CheckFail 1
unfolding check_finding is_left_open closing_fence closes epoch_of is_fence flushes some_between begins ends rise depth_at in_transaction is_outside adds is_backed opens_scope closes_scope opens_after scope_at in_scope stores_inside is_scoped is_included is_excluded excludes marks last stores at event_at greatest least count highest
the_least_included_byte_left_open = ap scope_passes_unless (first_from-some (is_left_open (CheckStart ∷ TxBegin ∷ Store (span 0 4) ∷ Exclude (span 0 1) ∷ TxEnd ∷ []) 5) 0 ADDRESS_LIMIT 1 (record { from = omega arith; within = omega arith; passes = refl; before = below-one (is_left_open (CheckStart ∷ TxBegin ∷ Store (span 0 4) ∷ Exclude (span 0 1) ∷ TxEnd ∷ []) 5) refl }))

the_least_byte_stored_again : check_finding (CheckStart ∷ TxBegin ∷ Store (span 0 8) ∷ Flush (span 0 8) ∷ Fence ∷ Store (span 1 2) ∷ TxEnd ∷ []) 7 ≡ CheckFail 1
unfolding check_finding is_left_open closing_fence closes epoch_of is_fence flushes some_between begins ends rise depth_at in_transaction is_outside adds is_backed opens_scope closes_scope opens_after scope_at in_scope stores_inside is_scoped is_included is_excluded excludes marks last stores at event_at greatest least count highest
the_least_byte_stored_again = ap scope_passes_unless (first_from-some (is_left_open (CheckStart ∷ TxBegin ∷ Store (span 0 8) ∷ Flush (span 0 8) ∷ Fence ∷ Store (span 1 2) ∷ TxEnd ∷ []) 7) 0 ADDRESS_LIMIT 1 (record { from = omega arith; within = omega arith; passes = refl; before = below-one (is_left_open (CheckStart ∷ TxBegin ∷ Store (span 0 8) ∷ Flush (span 0 8) ∷ Fence ∷ Store (span 1 2) ∷ TxEnd ∷ []) 7) refl }))

a_store_outside_is_not_checked : check_finding (CheckStart ∷ Store (span 0 2) ∷ TxBegin ∷ Store (span 1 2) ∷ TxEnd ∷ []) 5 ≡ CheckFail 1
unfolding check_finding is_left_open closing_fence closes epoch_of is_fence flushes some_between begins ends rise depth_at in_transaction is_outside adds is_backed opens_scope closes_scope opens_after scope_at in_scope stores_inside is_scoped is_included is_excluded excludes marks last stores at event_at greatest least count highest
a_store_outside_is_not_checked = ap scope_passes_unless (first_from-some (is_left_open (CheckStart ∷ Store (span 0 2) ∷ TxBegin ∷ Store (span 1 2) ∷ TxEnd ∷ []) 5) 0 ADDRESS_LIMIT 1 (record { from = omega arith; within = omega arith; passes = refl; before = below-one (is_left_open (CheckStart ∷ Store (span 0 2) ∷ TxBegin ∷ Store (span 1 2) ∷ TxEnd ∷ []) 5) refl }))

a_scope_without_stores_passes : check_finding (CheckStart ∷ TxBegin ∷ TxEnd ∷ []) 3 ≡ CheckPass
unfolding check_finding is_left_open closing_fence closes epoch_of is_fence flushes some_between begins ends rise depth_at in_transaction is_outside adds is_backed opens_scope closes_scope opens_after scope_at in_scope stores_inside is_scoped is_included is_excluded excludes marks last stores at event_at greatest least count highest
a_scope_without_stores_passes = ap scope_passes_unless (first_from-none (is_left_open (CheckStart ∷ TxBegin ∷ TxEnd ∷ []) 3) 0 ADDRESS_LIMIT (λ b low high. refl))

a_scope_after_the_transaction_passes : check_finding (TxBegin ∷ TxEnd ∷ CheckStart ∷ []) 3 ≡ CheckPass
unfolding check_finding is_left_open closing_fence closes epoch_of is_fence flushes some_between begins ends rise depth_at in_transaction is_outside adds is_backed opens_scope closes_scope opens_after scope_at in_scope stores_inside is_scoped is_included is_excluded excludes marks last stores at event_at greatest least count highest
a_scope_after_the_transaction_passes = ap scope_passes_unless (first_from-none (is_left_open (TxBegin ∷ TxEnd ∷ CheckStart ∷ []) 3) 0 ADDRESS_LIMIT (λ b low high. refl))

transactions_8 :
    (close_finding (CheckStart ∷ CheckEnd ∷ []) 2 ≡ None)  -- closed at the end
    × (close_finding (TxBegin ∷ []) 1 ≡ None)  -- never opened
    × (close_finding (CheckStart ∷ CheckStart ∷ []) 2 ≡ Some (Unclosed 1))  -- the first of two starts is not closed
    × (close_finding (CheckStart ∷ CheckEnd ∷ CheckStart ∷ []) 3 ≡ Some (Unclosed 3))  -- the second scope is not closed
unfolding close_finding begins ends rise depth_at in_transaction is_outside adds is_backed opens_scope closes_scope opens_after scope_at in_scope stores_inside is_scoped is_included is_excluded excludes marks first_from last stores at event_at greatest least count highest
transactions_8 = (refl, refl, refl, refl)
