-- The worked examples, computed by the definitions alone.
use Rattle.std.proofs.Common.{◌≡◌, ℕ, List, [], ◌∷◌, refl, Option, Some, None}
use Rattle.pmf_event.specs.{declared.event.Event.{Event}, declared.event.Event.TheVariants.{Store, Flush, Fence, Persist, Ordered, TxBegin, TxAdd, TxEnd, CheckStart, CheckEnd}, declared.finding.Finding.{Finding}, declared.finding.Finding.TheVariants.{PersistPass, PersistFail, PersistEmpty, OrderedFail, OrderedSameLine, FlushDoubled, FlushNeedless, NoBackup, DupLog, CheckFail, TxStillOpen, Unmatched, Outside, Nested, Unopened, Unclosed}, Span.{Extent}, Places.{greatest, least, count, highest}, Store.{at, event_at, flushes, is_fence, last, stores}, Interval.{writes_back}, Transactions.{adds, begins, closes_scope, depth_at, ends, in_scope, in_transaction, is_outside, opens_after, opens_scope, rise, scope_at}}
use Rattle.pmf_cause.specs.{declared.cause.Cause.{Cause}, declared.cause.Cause.TheVariants.{NotDurable, WrittenBackBefore, BackedUpBefore, NotBackedUp, TransactionRuns, NoTransaction, ScopeOpen, NoScope}, declared.lack.Lack.{Lack}, declared.lack.Lack.TheVariants.{StoredBehind, OneStore, NotWrittenBack, WrittenBackLate, NotFenced, FencedLate}, Cause.{begun_at, cause_at, cause_of, closes_last, ends_last, fence_after, fences_after, lack_of, need_at, write_back_after}}

abbrev span : ℕ → ℕ → Extent
span first size = record { first = first; size = size }

abbrev store : Event
store = Store (span 0x1000 8)

abbrev line : Event
line = Flush (span 0x1000 0x40)

abbrev persist : Event
persist = Persist (span 0x1000 8)

-- the cause of this finding at the place
abbrev cause : List Event → ℕ → Finding → Option Cause
cause es p finding = cause_of es (record { place = p; finding = finding })

-- of the byte 0x1000, by its last store and the place by which it had to be durable
abbrev lacks : ℕ → ℕ → Lack → Option Cause
lacks last due lack = Some (NotDurable (record { byte = 0x1000; last = last; due = due }) lack)

lacking :
    (cause (store ∷ persist ∷ []) 2 (PersistFail 0x1000) ≡ lacks 1 2 NotWrittenBack)  -- no write-back
    × (cause (store ∷ Flush (span 0x1040 0x40) ∷ Fence ∷ persist ∷ []) 4 (PersistFail 0x1000) ≡ lacks 1 4 NotWrittenBack)  -- one of another line
    × (cause (line ∷ store ∷ Fence ∷ persist ∷ []) 4 (PersistFail 0x1000) ≡ lacks 2 4 NotWrittenBack)  -- one in front of the store
    × (cause (store ∷ persist ∷ line ∷ line ∷ Fence ∷ []) 2 (PersistFail 0x1000) ≡ lacks 1 2 (WrittenBackLate 3))  -- the first comes too late
    × (cause (store ∷ persist ∷ store ∷ line ∷ []) 2 (PersistFail 0x1000) ≡ lacks 1 2 (WrittenBackLate 4))  -- also where it was stored to again
    × (cause (store ∷ Fence ∷ line ∷ persist ∷ []) 4 (PersistFail 0x1000) ≡ lacks 1 4 (NotFenced 3))  -- no fence behind the write-back
    × (cause (store ∷ line ∷ line ∷ persist ∷ []) 4 (PersistFail 0x1000) ≡ lacks 1 4 (NotFenced 2))  -- the first write-back counts
    × (cause (store ∷ line ∷ persist ∷ Fence ∷ Fence ∷ []) 3 (PersistFail 0x1000) ≡ lacks 1 3 (FencedLate 2 4))  -- the first fence comes too late
    × (cause (CheckStart ∷ TxBegin ∷ store ∷ TxEnd ∷ CheckEnd ∷ []) 5 (CheckFail 0x1000) ≡ lacks 3 5 NotWrittenBack)  -- by the end of a scope
    × (cause (store ∷ line ∷ Fence ∷ persist ∷ []) 4 PersistPass ≡ None)  -- nothing of a PASS
    × (cause (persist ∷ []) 1 PersistEmpty ≡ None)  -- nor of an EMPTY
unfolding cause_at need_at lack_of write_back_after fence_after fences_after writes_back last is_fence flushes stores at event_at greatest least
lacking = (refl, refl, refl, refl, refl, refl, refl, refl, refl, refl, refl)

abbrev ordered : Event
ordered = Ordered (span 0x1000 8) (span 0x2000 8)

lacking_in_order :
    -- it was stored to behind the other
    (cause (Store (span 0x2000 8) ∷ store ∷ ordered ∷ []) 3 (OrderedFail 0x1000 0x2000 1) ≡ lacks 2 1 StoredBehind)
    -- one store covers both
    × (cause (Store (span 0x1000 16) ∷ Ordered (span 0x1000 8) (span 0x1008 8) ∷ []) 2 (OrderedSameLine 0x1000 0x1008) ≡ lacks 1 1 OneStore)
    -- its fence comes behind the other store
    × (cause (store ∷ line ∷ Store (span 0x2000 8) ∷ Fence ∷ ordered ∷ []) 5 (OrderedFail 0x1000 0x2000 3) ≡ lacks 1 3 (FencedLate 2 4))
    -- neither is written back
    × (cause (store ∷ Store (span 0x2000 8) ∷ ordered ∷ []) 3 (OrderedFail 0x1000 0x2000 2) ≡ lacks 1 2 NotWrittenBack)
unfolding cause_at need_at lack_of write_back_after fence_after fences_after writes_back last is_fence flushes stores at event_at greatest least
lacking_in_order = (refl, refl, refl, refl)

abbrev add : Event
add = TxAdd (span 0x1000 8)

out_of_place :
    (cause (store ∷ line ∷ line ∷ []) 3 (FlushDoubled 0x1000 1) ≡ Some (WrittenBackBefore 2))  -- the write-back in front
    × (cause (line ∷ []) 1 (FlushNeedless 0x1000 1) ≡ Some (WrittenBackBefore 0))  -- none
    × (cause (CheckStart ∷ TxBegin ∷ add ∷ add ∷ []) 4 (DupLog 0x1000) ≡ Some (BackedUpBefore 3))
    × (cause (CheckStart ∷ TxBegin ∷ store ∷ []) 3 (NoBackup 0x1000) ≡ Some (NotBackedUp 2))
    × (cause (TxBegin ∷ TxEnd ∷ CheckStart ∷ TxBegin ∷ TxBegin ∷ CheckEnd ∷ []) 6 (TxStillOpen 2) ≡ Some (TransactionRuns 4))  -- the outermost one
    × (cause (TxBegin ∷ TxEnd ∷ TxEnd ∷ []) 3 Unmatched ≡ Some (NoTransaction 2))
    × (cause (add ∷ []) 1 Outside ≡ Some (NoTransaction 0))
    × (cause (TxEnd ∷ add ∷ []) 2 Outside ≡ Some (NoTransaction 0))  -- none ever ran
    × (cause (TxBegin ∷ TxBegin ∷ TxEnd ∷ TxEnd ∷ TxEnd ∷ add ∷ []) 6 Outside ≡ Some (NoTransaction 4))  -- the end of the outermost one
    × (cause (CheckStart ∷ CheckStart ∷ []) 2 Nested ≡ Some (ScopeOpen 1))
    × (cause (Fence ∷ CheckStart ∷ []) 3 (Unclosed 2) ≡ Some (ScopeOpen 2))  -- at the section's end
    × (cause (CheckStart ∷ CheckEnd ∷ CheckEnd ∷ []) 3 Unopened ≡ Some (NoScope 2))
    × (cause (CheckEnd ∷ CheckEnd ∷ []) 2 Unopened ≡ Some (NoScope 0))  -- none was ever open
    × (cause (CheckStart ∷ CheckEnd ∷ CheckEnd ∷ CheckEnd ∷ []) 4 Unopened ≡ Some (NoScope 2))
unfolding cause_at ends_last closes_last in_scope begun_at scope_at opens_after opens_scope closes_scope is_outside in_transaction depth_at rise begins ends adds last flushes at event_at greatest least count highest
out_of_place = (refl, refl, refl, refl, refl, refl, refl, refl, refl, refl, refl, refl, refl, refl)
