-- The worked examples of crash images, computed by the definitions alone.
use Rattle.std.proofs.Common.{◌≡◌, ℕ, List, [], ◌∷◌, ◌<◌, ◌≤◌, refl, arith, Some, None}
use Rattle.pmf_event.specs.{declared.event.Event.{Event}, declared.event.Event.TheVariants.{Store, Flush, Fence, Persist, Ordered, TxBegin, TxEnd, CheckStart, CheckEnd}, Span.{Extent}, Places.{greatest, least, count, some_between, highest}, Store.{event_at, at, last, stores, stores_line, flushes, is_fence}, Exclusion.{excludes, marks, is_excluded, is_included}, Persist.{is_checked}, Transactions.{begins, ends, rise, depth_at, in_transaction, opens_scope, closes_scope, opens_after, scope_at, in_scope, stores_inside, is_scoped}}
use Rattle.pmf_image.{specs.Image.{Image, IsAllowed, count_of, is_fenced, floor_of, value_of, is_in, cut_of, reach_of, reaches, shows}, specs.declared.certificate.Certificate.{Certificate}, specs.Certificate.{cut_in, shows_in}, specs.Contradiction.{Contradicts}, specs.Holds.{Holds}, proofs.FailureLemmas.{certificates-allowed}}

abbrev span : ℕ → ℕ → Extent
span first size = record { first = first; size = size }

abbrev line : Event
line = Flush (span 0x1000 0x40)

abbrev image : List (ℕ × ℕ) → List ℕ → Image
image cuts torn = record { cuts = cuts; torn = torn }

abbrev stored_behind : List Event
stored_behind = Store (span 0x1000 8) ∷ line ∷ Store (span 0x1008 8) ∷ Fence ∷ Store (span 0x103c 8) ∷ []

abbrev stored_twice : List Event
stored_twice = Store (span 0x1000 8) ∷ Store (span 0x1000 8) ∷ []

-- ---- counts and floors

counts_and_floors :
    (count_of stored_behind 5 0x1000 ≡ 3)  -- the stores of a line
    × (count_of stored_behind 5 0x1040 ≡ 1)  -- a store meets both of its lines
    × (count_of stored_behind 3 0x1000 ≡ 2)  -- no later store is counted
    × (count_of stored_behind 0 0x1000 ≡ 0)  -- no store is counted at the start
    × (floor_of stored_behind 5 0x1000 ≡ 1)  -- durable before the fenced write-back
    × (floor_of stored_behind 4 0x1000 ≡ 1)  -- a fence at the crash counts
    × (floor_of stored_behind 3 0x1000 ≡ 0)  -- nothing is durable without a fence
    × (floor_of stored_behind 5 0x1040 ≡ 0)  -- nothing is durable of another line
    × (floor_of (Store (span 0x1000 8) ∷ Fence ∷ line ∷ []) 3 0x1000 ≡ 0)  -- a fence before the write-back makes nothing durable
    -- the last write-back is not fenced
    × (floor_of (Store (span 0x1000 8) ∷ line ∷ Fence ∷ Store (span 0x1000 8) ∷ line ∷ []) 5 0x1000 ≡ 1)
    -- the last fenced write-back counts
    × (floor_of (Store (span 0x1000 8) ∷ line ∷ Fence ∷ Store (span 0x1000 8) ∷ line ∷ Fence ∷ []) 6 0x1000 ≡ 2)
unfolding count_of stores_line at event_at count floor_of is_fenced flushes is_fence greatest some_between
counts_and_floors = (refl, refl, refl, refl, refl, refl, refl, refl, refl, refl, refl)

-- ---- what an image shows

what_an_image_shows :
    (cut_of stored_behind 5 (image ((0x1000, 2) ∷ []) []) 0x1000 ≡ 2)  -- the cut of an image
    × (cut_of stored_behind 5 (image ((0x1000, 2) ∷ (0x1000, 3) ∷ []) []) 0x1000 ≡ 2)  -- the first cut of a line
    × (cut_of stored_behind 5 (image ((0x1040, 1) ∷ []) []) 0x1000 ≡ 1)  -- a line without a cut has its floor
    × (shows stored_behind 5 (image [] []) 0x1000 ≡ 1)  -- shown below the cut
    × (shows stored_behind 5 (image [] []) 0x1008 ≡ 0)  -- not shown above the cut
    × (shows stored_behind 5 (image ((0x1000, 2) ∷ []) []) 0x1008 ≡ 3)  -- shown at the cut
    × (shows stored_behind 5 (image ((0x1000, 3) ∷ []) []) 0x103f ≡ 5)  -- one store shown on one line
    × (shows stored_behind 5 (image ((0x1000, 3) ∷ []) []) 0x1040 ≡ 0)  -- and not on the other
    × (shows stored_behind 4 (image ((0x1000, 3) ∷ []) []) 0x103f ≡ 0)  -- no later store is shown
    × (shows stored_twice 2 (image ((0x1000, 2) ∷ []) []) 0x1000 ≡ 2)  -- the last of two stores is shown
    × (shows stored_twice 2 (image ((0x1000, 1) ∷ []) []) 0x1000 ≡ 1)  -- the first of two stores is shown
    × (shows stored_twice 2 (image ((0x1000, 1) ∷ []) (0x1001 ∷ [])) 0x1001 ≡ 2)  -- a torn byte shows one store more
    × (shows stored_twice 2 (image ((0x1000, 1) ∷ []) (0x1001 ∷ [])) 0x1000 ≡ 1)  -- the byte before a torn one
    × (shows stored_twice 2 (image [] (0x1001 ∷ [])) 0x1001 ≡ 1)  -- one store more and no other
unfolding cut_of value_of floor_of is_fenced count_of stores_line flushes is_fence at event_at greatest count some_between shows reaches reach_of is_in stores
what_an_image_shows = (refl, refl, refl, refl, refl, refl, refl, refl, refl, refl, refl, refl, refl, refl)

-- ---- certificates

certificates :
    (cut_in stored_behind (record { crash = 5; full_line = Some 0x1000 }) 0x1000 ≡ 3)  -- the cut of the full line
    × (cut_in stored_behind (record { crash = 5; full_line = Some 0x1040 }) 0x1000 ≡ 1)  -- the cut of every other line
    × (cut_in stored_behind (record { crash = 5; full_line = None }) 0x1000 ≡ 1)  -- the cut without a full line
    × (shows_in stored_behind (record { crash = 3; full_line = Some 0x1000 }) 0x1008 ≡ 3)  -- shown of the full line
    × (shows_in stored_behind (record { crash = 3; full_line = None }) 0x1000 ≡ 0)  -- lost without a full line
unfolding cut_of value_of floor_of is_fenced count_of stores_line flushes is_fence at event_at greatest count some_between shows reaches reach_of is_in stores
certificates = (refl, refl, refl, refl, refl)

-- ---- what is allowed

abbrev stored_once : List Event
stored_once = Store (span 0x1000 8) ∷ []

abbrev made_durable : List Event
made_durable = Store (span 0x1000 8) ∷ line ∷ Fence ∷ Persist (span 0x1000 8) ∷ []

no_image_holds_more_stores_than_were_made : IsAllowed stored_once 1 (image ((0x1000, 2) ∷ []) []) → ⊥
unfolding cut_of value_of floor_of is_fenced count_of stores_line flushes is_fence at event_at greatest count some_between
no_image_holds_more_stores_than_were_made allowed = let more : 2 ≤ 1 = allowed.high 0x1000 in omega (arith, more)

no_image_holds_a_store_of_another_line : IsAllowed stored_once 1 (image ((0x1040, 1) ∷ []) []) → ⊥
unfolding cut_of value_of floor_of is_fenced count_of stores_line flushes is_fence at event_at greatest count some_between
no_image_holds_a_store_of_another_line allowed = let more : 1 ≤ 0 = allowed.high 0x1040 in omega (arith, more)

no_image_lacks_a_durable_store : IsAllowed made_durable 3 (image ((0x1000, 0) ∷ []) []) → ⊥
unfolding cut_of value_of floor_of is_fenced count_of stores_line flushes is_fence at event_at greatest count some_between
no_image_lacks_a_durable_store allowed = let lost : 1 ≤ 0 = allowed.low 0x1000 in omega (arith, lost)

nothing_is_torn_without_a_store_after_the_cut : IsAllowed stored_once 1 (image ((0x1000, 1) ∷ []) (0x1000 ∷ [])) → ⊥
unfolding cut_of value_of is_in floor_of is_fenced count_of stores_line flushes is_fence at event_at greatest count some_between
nothing_is_torn_without_a_store_after_the_cut allowed = let torn : 1 < 1 = allowed.torn 0x1000 refl in omega (arith, torn)

nothing_is_torn_of_an_unwritten_line : IsAllowed stored_once 1 (image [] (0x1040 ∷ [])) → ⊥
unfolding cut_of value_of is_in floor_of is_fenced count_of stores_line flushes is_fence at event_at greatest count some_between
nothing_is_torn_of_an_unwritten_line allowed = let torn : 0 < 0 = allowed.torn 0x1040 refl in omega (arith, torn)

-- ---- what is contradicted, and does not hold

abbrev at_crash : ℕ → Certificate
at_crash n = record { crash = n; full_line = None }

abbrev second_line_at : ℕ → Certificate
second_line_at n = record { crash = n; full_line = Some 0x2000 }

abbrev not_fenced : List Event
not_fenced = Store (span 0x1000 8) ∷ line ∷ Persist (span 0x1000 8) ∷ []

abbrev fenced_together : List Event
fenced_together = Store (span 0x1000 8) ∷ Store (span 0x2000 8) ∷ line ∷ Flush (span 0x2000 0x40) ∷ Fence ∷ Ordered (span 0x1000 8) (span 0x2000 8) ∷ []

abbrev not_fenced_order : List Event
not_fenced_order = Store (span 0x1000 8) ∷ Store (span 0x2000 8) ∷ Ordered (span 0x1000 8) (span 0x2000 8) ∷ Fence ∷ []

abbrev left_open : List Event
left_open = CheckStart ∷ TxBegin ∷ Store (span 0x1000 8) ∷ TxEnd ∷ CheckEnd ∷ []

a_lost_store_contradicts_a_persist : Contradicts not_fenced 3 (at_crash 3)
unfolding shows reaches reach_of cut_of value_of is_in floor_of is_fenced count_of stores_line flushes is_fence is_checked is_included is_excluded excludes marks last stores at event_at greatest count some_between
a_lost_store_contradicts_a_persist = let later : 3 ≤ 3 = omega arith in let lost : 0 < 1 = omega arith in (later, 0x1000, refl, refl, lost)

no_earlier_crash_contradicts_a_persist : Contradicts not_fenced 3 (at_crash 2) → ⊥
unfolding event_at
no_earlier_crash_contradicts_a_persist both = let later : 3 ≤ 2 = both.0 in omega (arith, later)

what_asserts_nothing_is_not_contradicted : Contradicts not_fenced 2 (at_crash 3) → ⊥
unfolding event_at
what_asserts_nothing_is_not_contradicted both = both

the_second_store_alone_contradicts_an_order : Contradicts fenced_together 6 (second_line_at 2)
unfolding shows reaches reach_of cut_of value_of is_in floor_of is_fenced count_of stores_line flushes is_fence is_checked is_included is_excluded excludes marks last stores at event_at greatest count some_between
the_second_store_alone_contradicts_an_order =
    let earlier : 2 ≤ 6 = omega arith in
    let lost : 0 ≡ 1 → ⊥ = λ same. omega (arith, same) in
    (earlier, 0x1000, 0x2000, refl, refl, refl, refl, refl, lost)

no_later_crash_contradicts_an_order : Contradicts not_fenced_order 3 (second_line_at 4) → ⊥
unfolding event_at
no_later_crash_contradicts_an_order both = let earlier : 4 ≤ 3 = both.0 in omega (arith, earlier)

a_lost_store_contradicts_a_scope : Contradicts left_open 5 (at_crash 5)
unfolding shows reaches reach_of cut_of value_of is_in floor_of is_fenced count_of stores_line flushes is_fence is_checked is_included is_excluded excludes marks last stores at event_at greatest count some_between begins ends rise depth_at in_transaction opens_scope closes_scope opens_after scope_at in_scope stores_inside is_scoped least highest
a_lost_store_contradicts_a_scope =
    let later : 5 ≤ 5 = omega arith in
    let below : 0x1000 < 9223372036854775808 = omega arith in
    let lost : 0 < 3 = omega arith in
    (refl, refl, later, 0x1000, below, refl, refl, lost)

a_store_that_is_not_fenced_may_be_lost : Holds not_fenced 3 → ⊥
unfolding shows reaches reach_of cut_of value_of is_in floor_of is_fenced count_of stores_line flushes is_fence is_checked is_included is_excluded excludes marks last stores at event_at greatest count some_between
a_store_that_is_not_fenced_may_be_lost holds =
    let more : 1 ≤ 0 = holds 3 (omega arith) (omega arith) (image [] []) (certificates-allowed not_fenced (at_crash 3)) 0x1000 refl refl in
    omega (arith, more)

the_second_store_may_be_there_alone : Holds fenced_together 6 → ⊥
unfolding shows reaches reach_of cut_of value_of is_in floor_of is_fenced count_of stores_line flushes is_fence is_checked is_included is_excluded excludes marks last stores at event_at greatest count some_between
the_second_store_may_be_there_alone holds =
    let same : 0 ≡ 1 = holds 2 (omega arith) (image ((0x2000, 1) ∷ []) []) (certificates-allowed fenced_together (second_line_at 2)) 0x1000 0x2000 refl refl refl refl refl in
    omega (arith, same)

a_byte_of_a_scope_may_be_lost : Holds left_open 5 → ⊥
unfolding shows reaches reach_of cut_of value_of is_in floor_of is_fenced count_of stores_line flushes is_fence is_checked is_included is_excluded excludes marks last stores at event_at greatest count some_between begins ends rise depth_at in_transaction opens_scope closes_scope opens_after scope_at in_scope stores_inside is_scoped least highest
a_byte_of_a_scope_may_be_lost holds =
    let more : 3 ≤ 0 = holds 5 (omega arith) (omega arith) (image [] []) (certificates-allowed left_open (at_crash 5)) 0x1000 (omega arith) refl refl in
    omega (arith, more)

what_asserts_nothing_holds : Holds not_fenced 2
unfolding event_at
what_asserts_nothing_holds = tt
