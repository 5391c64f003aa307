-- The shadow stands for one more event: what the definitions say of a byte after it, and that the changed
-- runs say the same.
use Rattle.std.proofs.{Common.{◌≡◌, ℕ, suc, ◌+◌, ◌-◌, ◌*◌, ◌/◌, ◌<◌, ◌≤◌, Bool, true, false, ◌==◌, if◌then◌else◌, List, [], ◌∷◌, ◌++◌, length, take, refl, sym, ◌∙◌, ap, subst, arith, Option, Some, None, is_none, ne_eqb, add-one}, lemmas.Bool.{cases_eq}, lemmas.Bool.Decides.{Decides-eqb}, lemmas.List.{length_push}}
use Rattle.pmf_event.{specs.declared.event.Event.{Event}, specs.declared.event.Event.TheVariants.{Store, Flush, Fence}, specs.Span.{Extent}, specs.Line.{line_of_byte, meets_line}, specs.Places.{count}, specs.Store.{event_at, at, stores, flushes, is_fence, last_store, epoch_of}, specs.WriteBack.{write_back_epoch}, specs.Exclusion.{excludes, marks, is_excluded}, specs.LineBytes.{HasBytes}, proofs.PlacesLemmas.{count-le, count-zero}, proofs.EventLemmas.{at-is, last-none, last-other, last-here, epoch_of-next, fences-step}, proofs.WriteBackLemmas.{last-bound, write_back-kept, write_back-stored, write_back-flushed}}
use Rattle.pmf_shadow.{specs.declared.byte.ByteState.{ByteState}, specs.declared.byte.Stored.{Stored}, specs.declared.shadow.Shadow.{Shadow}, specs.States.{stored_of, after_store, after_write_back, after_mark}, specs.EqualStates.{state_of}, specs.Shadow.{stored_at, StandsFor, FollowsAt}, specs.Laws.{SameEvents, SamePlaces, is_unseen, UnseenEventsChangeNothing, OnlyPastEventsCount, StepsFollowWithin, StepsStandForSome}, proofs.SameLemmas.{told_also, told-there, same-places_before, count_at-same, last-same, last_epoch-same, write_back_epoch-same, excluded-same, sized-same, same-longer, at_the_end, length-taken, same-taken, same-retaken}}
use Rattle.pmf_shadow.specs.{declared.front.ByteMap.{ByteMap}, Bytes.{state_at, is_between, ChangesBetween}}

-- ---- one byte

pub store_of : (ℕ → ℕ) → List Event → ℕ → Option ℕ → Option Stored
store_of told es l w = if l == 0 then None else Some (record { last = told l; opens = epoch_of es l; written_back = w })

pub store_of-none : (told : ℕ → ℕ) (es : List Event) (l : ℕ) (w : Option ℕ) → l ≡ 0 → store_of told es l w ≡ None
unfolding store_of
store_of-none told es l w zero_is = ap (λ v. if v then None else Some (record { last = told l; opens = epoch_of es l; written_back = w })) ((Decides-eqb l 0).1 zero_is)

pub store_of-some : (told : ℕ → ℕ) (es : List Event) (l : ℕ) (w : Option ℕ) → 0 < l → store_of told es l w ≡ Some (record { last = told l; opens = epoch_of es l; written_back = w })
unfolding store_of
store_of-some told es l w some = ap (λ v. if v then None else Some (record { last = told l; opens = epoch_of es l; written_back = w })) (ne_eqb l 0 (λ zero_is. omega arith))

pub stored_at-is : (told : ℕ → ℕ) (es : List Event) (p b : ℕ) → stored_at told es p b ≡ store_of told es (last_store es p b) (write_back_epoch (stores b) (line_of_byte b) es p)
unfolding store_of
stored_at-is told es p b = refl

-- the state says of byte b what the definitions say at p
pub record IsByteAt (told : ℕ → ℕ) (es : List Event) (p b : ℕ) (s : ByteState) : Type 0 where
  pub stored : stored_of s ≡ stored_at told es p b
  pub excluded : s.excluded ≡ is_excluded es p b

-- the last store after a write-back in this epoch: the first one counts
written_back_in : ℕ → Option Stored → Option Stored
written_back_in epoch None = None
written_back_in epoch (Some k) = Some (record k { written_back = if is_none k.written_back then Some epoch else k.written_back })

stored-after_write_back : (epoch last opens w : ℕ) (is_stored is_written_back out : Bool) →
    stored_of (after_write_back epoch (state_of last opens w is_stored is_written_back out)) ≡ written_back_in epoch (stored_of (state_of last opens w is_stored is_written_back out))
unfolding written_back_in
stored-after_write_back epoch last opens w is_stored is_written_back out = grind arith

excluded-after_write_back : (epoch last opens w : ℕ) (is_stored is_written_back out : Bool) → (after_write_back epoch (state_of last opens w is_stored is_written_back out)).excluded ≡ out
excluded-after_write_back epoch last opens w is_stored is_written_back out = grind arith

module _ (told : ℕ → ℕ) (es : List Event) (p b : ℕ) (e : Event) (here : event_at es (suc p) ≡ Some e) where
  excluded-kept : marks b e ≡ false → is_excluded es (suc p) b ≡ is_excluded es p b
  unfolding is_excluded
  excluded-kept other = ap (at (excludes b) es) (last-other (marks b) es p e here other)

  excluded-marked : marks b e ≡ true → is_excluded es (suc p) b ≡ excludes b e
  unfolding is_excluded
  excluded-marked is = ap (at (excludes b) es) (last-here (marks b) es p e here is) ∙ at-is (excludes b) es (suc p) (Some e) here

  stored-flushed : stores b e ≡ false → flushes (line_of_byte b) e ≡ true → stored_at told es (suc p) b ≡ written_back_in (count (at is_fence es) p) (stored_at told es p b)
  unfolding written_back_in
  stored-flushed other flush = grind (arith, stored_at-is, store_of, last-other, write_back-flushed, cases_eq, store_of-none, written_back_in, store_of-some)

  byte-kept : stores b e ≡ false → flushes (line_of_byte b) e ≡ false → marks b e ≡ false → (s : ByteState) → IsByteAt told es p b s → IsByteAt told es (suc p) b s
  byte-kept other no_flush no_mark s is = grind (arith, stored_at-is, suc, ap, store_of, last-other, write_back-kept, sym, excluded-kept)

  byte-stored : (place epoch : ℕ) → told (suc p) ≡ place → epoch ≡ count (at is_fence es) p → stores b e ≡ true → marks b e ≡ false →
      (s : ByteState) → IsByteAt told es p b s → IsByteAt told es (suc p) b (after_store place epoch s)
  byte-stored place epoch here_too now stored no_mark s is = grind (arith, stored_at-is, suc, ap, store_of, last-here, write_back-stored, store_of-some, None, arith, Some, epoch_of-next, excluded-kept)

  byte-flushed : (epoch : ℕ) → epoch ≡ count (at is_fence es) p → stores b e ≡ false → flushes (line_of_byte b) e ≡ true → marks b e ≡ false →
      (s : ByteState) → IsByteAt told es p b s → IsByteAt told es (suc p) b (after_write_back epoch s)
  byte-flushed epoch now other flush no_mark s is = record {
    stored = stored-after_write_back epoch s.last s.opens s.written_back s.is_stored s.is_written_back s.excluded
        ∙ ap (written_back_in epoch) is.stored
        ∙ ap (λ o. written_back_in o (stored_at told es p b)) now
        ∙ sym (stored-flushed other flush);
    excluded = excluded-after_write_back epoch s.last s.opens s.written_back s.is_stored s.is_written_back s.excluded ∙ is.excluded ∙ sym (excluded-kept no_mark);
  }

  byte-marked : (out : Bool) → stores b e ≡ false → flushes (line_of_byte b) e ≡ false → marks b e ≡ true → excludes b e ≡ out →
      (s : ByteState) → IsByteAt told es p b s → IsByteAt told es (suc p) b (after_mark out s)
  byte-marked out other no_flush mark marked s is = grind (arith, stored_at-is, suc, ap, store_of, last-other, write_back-kept, sym, excluded-marked)

-- ---- the runs

-- what holds of the states before a change holds of them after it in its new form, where the change and what it leaves keep it
changed-stands : (first end : ℕ) (change : ByteState → ByteState) (old new : ByteMap) (was now : ℕ → ByteState → Type 0) → ChangesBetween first end change old new →
    ((k : ℕ) → was k (state_at old k)) → ((k : ℕ) → is_between first end k ≡ true → (s : ByteState) → was k s → now k (change s)) →
    ((k : ℕ) → is_between first end k ≡ false → (s : ByteState) → was k s → now k s) → (k : ℕ) → now k (state_at new k)
changed-stands first end change old new was now changes before inside outside k = grind arith

pub stands-bytes : (shadow : Shadow) (told : ℕ → ℕ) (es : List Event) (p : ℕ) → StandsFor shadow told es p → (b : ℕ) → IsByteAt told es p b (state_at shadow.bytes b)
stands-bytes shadow told es p stands b = record { stored = stands.stored b; excluded = stands.excluded b }

-- the bytes of the lines that a span meets
lines-between : (s : Extent) → 0 < s.size → (b : ℕ) → is_between (s.first / 64 * 64) (((s.first + s.size - 1) / 64 + 1) * 64) b ≡ meets_line s (line_of_byte b)
unfolding is_between
lines-between s some b = grind arith

fences-kept : (shadow : Shadow) (es : List Event) (p : ℕ) (e : Event) (fences : ℕ) → event_at es (suc p) ≡ Some e → is_fence e ≡ false →
    fences ≡ count (at is_fence es) p → fences ≡ count (at is_fence es) (suc p)
fences-kept shadow es p e fences here other before = before ∙ sym (fences-step es p e here ∙ ap (λ v. if v then suc (count (at is_fence es) p) else count (at is_fence es) p) other)

-- ---- each store has a size

-- the event is no store of no bytes
abbrev pub IsSized : Event → Type 0
IsSized e = (s : Extent) → e ≡ Store s → 0 < s.size

sized-more : (es : List Event) (p : ℕ) (e : Event) → event_at es (suc p) ≡ Some e → IsSized e → HasBytes es p → HasBytes es (suc p)
sized-more es p e here sized before k s within is = grind arith

-- ---- one more event

-- after an event that changes no byte
stands-kept : (old new : Shadow) (told : ℕ → ℕ) (es : List Event) (p : ℕ) (e : Event) → event_at es (suc p) ≡ Some e → ((b : ℕ) → stores b e ≡ false) → IsSized e →
    ((l : ℕ) → flushes l e ≡ false) → ((b : ℕ) → marks b e ≡ false) → new.bytes ≡ old.bytes → new.fences ≡ count (at is_fence es) (suc p) →
    StandsFor old told es p → StandsFor new told es (suc p)
stands-kept old new told es p e here no_store no_size no_flush no_mark bytes fences stands =
    let now = λ (b : ℕ). byte-kept told es p b e here (no_store b) (no_flush (line_of_byte b)) (no_mark b) (state_at new.bytes b)
    (subst (λ m. IsByteAt told es p b (state_at m b)) (sym bytes) (stands-bytes old told es p stands b)) in record {
      fences = fences;
      stored = λ b. (now b).stored;
      excluded = λ b. (now b).excluded;
      sized = sized-more es p e here no_size stands.sized;
    }

pub stands-fence : (old new : Shadow) (told : ℕ → ℕ) (es : List Event) (p : ℕ) → new.bytes ≡ old.bytes → new.fences ≡ old.fences + 1 →
    event_at es (suc p) ≡ Some Fence → StandsFor old told es p → StandsFor new told es (suc p)
unfolding stores flushes marks is_fence
stands-fence old new told es p bytes fences here stands =
    stands-kept old new told es p Fence here (λ b. refl) (λ t is. let bad : Fence ≡ Store t = is in cc) (λ l. refl) (λ b. refl) bytes
    (let step = fences-step es p Fence here in let before = stands.fences in omega arith) stands

-- events that change nothing
pub stands-other : (shadow : Shadow) (told : ℕ → ℕ) (es : List Event) (p : ℕ) (e : Event) → event_at es (suc p) ≡ Some e → is_fence e ≡ false →
    ((b : ℕ) → stores b e ≡ false) → IsSized e → ((l : ℕ) → flushes l e ≡ false) → ((b : ℕ) → marks b e ≡ false) →
    StandsFor shadow told es p → StandsFor shadow told es (suc p)
stands-other shadow told es p e here no_fence no_store no_size no_flush no_mark stands =
    stands-kept shadow shadow told es p e here no_store no_size no_flush no_mark refl (fences-kept shadow es p e shadow.fences here no_fence stands.fences) stands

stands-unseen : (shadow : Shadow) (told : ℕ → ℕ) (es : List Event) (p : ℕ) (e : Event) → event_at es (suc p) ≡ Some e → is_unseen e ≡ true → StandsFor shadow told es p → StandsFor shadow told es (suc p)
unfolding is_unseen stores flushes marks is_fence
stands-unseen shadow told es p e here unseen stands =
    stands-other shadow told es p e here (grind arith) (λ b. grind arith) (λ t is. grind arith) (λ l. grind arith) (λ b. grind arith) stands

pub stands-fences : (shadow : Shadow) (told : ℕ → ℕ) (es : List Event) (p : ℕ) → StandsFor shadow told es p → shadow.fences ≤ p
stands-fences shadow told es p stands = let bound = count-le (at is_fence es) p in let same = stands.fences in omega arith

pub stands-empty : (shadow : Shadow) (told : ℕ → ℕ) (es : List Event) → shadow.fences ≡ 0 → ((b : ℕ) → state_at shadow.bytes b ≡ state_of 0 0 0 false false false) → StandsFor shadow told es 0
unfolding is_excluded at event_at
stands-empty shadow told es fences bytes = grind (arith, count-zero, stored_at-is, store_of-none, last-none)

-- ---- what stands for some events says nothing of others

pub stands-past : OnlyPastEventsCount
stands-past shadow told tells es fs p same told_same stands = grind (arith, count_at-same, last-bound, last_epoch-same, write_back_epoch-same, last-same, excluded-same, sized-same)

-- ---- steps at the end of each list, and at their places within each list, of whatever looks only at the past

-- what stands for one list stands for every other whose past is the same
abbrev pub LooksBack : {T : Type 0} → (T → (ℕ → ℕ) → List Event → ℕ → Type 0) → Type 0
LooksBack {T} Stands = (it : T) (told tells : ℕ → ℕ) (es fs : List Event) (p : ℕ) → SameEvents es fs p → SamePlaces told tells p → Stands it told es p → Stands it tells fs p

module _ {T : Type 0} (Stands : T → (ℕ → ℕ) → List Event → ℕ → Type 0) (past : LooksBack Stands) (place : ℕ) (old new : T) (e : Event) where
  pub at-end : ((told : ℕ → ℕ) (es : List Event) (p : ℕ) → event_at es (suc p) ≡ Some e → told (suc p) ≡ place → Stands old told es p → Stands new told es (suc p)) →
      (told : ℕ → ℕ) (es : List Event) → told (suc (length es)) ≡ place → Stands old told es (length es) → Stands new told (es ++ e ∷ []) (suc (length es))
  at-end step told es at_place stands = grind (arith, at_the_end, same-longer)

  pub at-within : ((told : ℕ → ℕ) (es : List Event) → told (suc (length es)) ≡ place → Stands old told es (length es) → Stands new told (es ++ e ∷ []) (suc (length es))) →
      (told : ℕ → ℕ) (es : List Event) (p : ℕ) → event_at es (suc p) ≡ Some e → told (suc p) ≡ place → Stands old told es p → Stands new told es (suc p)
  at-within follows told es p here at_place stands =
      let size = length-taken es p e here in
      let before : Stands old told (take p es) (length (take p es)) =
      subst (Stands old told (take p es)) (sym size) (past old told told es (take p es) p (same-taken es p) (λ k within. refl) stands) in
      let after : Stands new told (take p es ++ e ∷ []) (suc p) =
      subst (λ n. Stands new told (take p es ++ e ∷ []) (suc n)) size (follows told (take p es) (ap (λ n. told (suc n)) size ∙ at_place) before) in
      past new told told (take p es ++ e ∷ []) es (suc p) (same-retaken es p e here) (λ k within. refl) after

pub follows-from : (place : ℕ) (old new : Shadow) (e : Event) →
    ((told : ℕ → ℕ) (es : List Event) (p : ℕ) → event_at es (suc p) ≡ Some e → told (suc p) ≡ place → StandsFor old told es p → StandsFor new told es (suc p)) →
    FollowsAt place old new e
follows-from = at-end StandsFor stands-past

pub follows-within : StepsFollowWithin
follows-within = at-within StandsFor stands-past

pub unseen-follows : UnseenEventsChangeNothing
unseen-follows shadow e unseen place = follows-from place shadow shadow e (λ told es p here at_place stands. stands-unseen shadow told es p e here unseen stands)

-- ---- changes of a range of bytes, by the ends that were computed

follows-changed : (place : ℕ) (old new : Shadow) (e : Event) (f l first end : ℕ) (change : ByteState → ByteState) → f ≡ first → l ≡ end →
    is_fence e ≡ false → IsSized e → new.fences ≡ old.fences → ChangesBetween f l change old.bytes new.bytes →
    ((told : ℕ → ℕ) (es : List Event) (p b : ℕ) → event_at es (suc p) ≡ Some e → told (suc p) ≡ place → old.fences ≡ count (at is_fence es) p → is_between first end b ≡ true →
    (s : ByteState) → IsByteAt told es p b s → IsByteAt told es (suc p) b (change s)) →
    ((told : ℕ → ℕ) (es : List Event) (p b : ℕ) → event_at es (suc p) ≡ Some e → is_between first end b ≡ false → (s : ByteState) → IsByteAt told es p b s → IsByteAt told es (suc p) b s) →
    FollowsAt place old new e
follows-changed place old new e f l first end change at_f at_l no_fence sized fences bytes inside outside = follows-from place old new e (λ told es p here at_place stands.
    let range : ChangesBetween first end change old.bytes new.bytes = subst (λ k. ChangesBetween k end change old.bytes new.bytes) at_f (subst (λ k. ChangesBetween f k change old.bytes new.bytes) at_l bytes) in
    let now = changed-stands first end change old.bytes new.bytes (IsByteAt told es p) (IsByteAt told es (suc p)) range (stands-bytes old told es p stands)
    (λ b. inside told es p b here at_place stands.fences) (λ b. outside told es p b here) in record {
      fences = fences ∙ fences-kept old es p e old.fences here no_fence stands.fences;
      stored = λ b. (now b).stored;
      excluded = λ b. (now b).excluded;
      sized = sized-more es p e here sized stands.sized;
    })

pub follows-store : (place : ℕ) (old new : Shadow) (s : Extent) (f l : ℕ) → f ≡ s.first → l ≡ s.first + s.size → 0 < s.size → new.fences ≡ old.fences →
    ChangesBetween f l (after_store place old.fences) old.bytes new.bytes → FollowsAt place old new (Store s)
unfolding stores flushes marks is_fence is_between
follows-store place old new s f l at_f at_l some fences bytes =
    follows-changed place old new (Store s) f l s.first (s.first + s.size) (after_store place old.fences) at_f at_l refl (λ t is. let same : s ≡ t = cc in subst (λ (x : Extent). 0 < x.size) same some) fences bytes
    (λ told es p b here at_place now within. byte-stored told es p b (Store s) here place old.fences at_place now within refl)
    (λ told es p b here without. byte-kept told es p b (Store s) here without refl refl)

pub follows-flush : (place : ℕ) (old new : Shadow) (s : Extent) (f l : ℕ) → f ≡ s.first / 64 * 64 → l ≡ ((s.first + s.size - 1) / 64 + 1) * 64 → 0 < s.size → new.fences ≡ old.fences →
    ChangesBetween f l (after_write_back old.fences) old.bytes new.bytes → FollowsAt place old new (Flush s)
unfolding stores flushes marks is_fence
follows-flush place old new s f l at_f at_l some fences bytes =
    follows-changed place old new (Flush s) f l _ _ (after_write_back old.fences) at_f at_l refl (λ t is. let bad : Flush s ≡ Store t = is in cc) fences bytes
    (λ told es p b here at_place now within. byte-flushed told es p b (Flush s) here old.fences now refl (sym (lines-between s some b) ∙ within) refl)
    (λ told es p b here without. byte-kept told es p b (Flush s) here refl (sym (lines-between s some b) ∙ without) refl)

-- an exclusion or an inclusion
pub follows-mark : (out : Bool) (place : ℕ) (old new : Shadow) (s : Extent) (e : Event) (f l : ℕ) → f ≡ s.first → l ≡ s.first + s.size → new.fences ≡ old.fences → ChangesBetween f l (after_mark out) old.bytes new.bytes →
    is_fence e ≡ false → IsSized e → ((b : ℕ) → stores b e ≡ false) → ((n : ℕ) → flushes n e ≡ false) → ((b : ℕ) → marks b e ≡ is_between s.first (s.first + s.size) b) →
    ((b : ℕ) → is_between s.first (s.first + s.size) b ≡ true → excludes b e ≡ out) → FollowsAt place old new e
follows-mark out place old new s e f l at_f at_l fences bytes no_fence sized no_store no_flush mark marked =
    follows-changed place old new e f l s.first (s.first + s.size) (after_mark out) at_f at_l no_fence sized fences bytes
    (λ told es p b here at_place now within. byte-marked told es p b e here out (no_store b) (no_flush (line_of_byte b)) (mark b ∙ within) (marked b within))
    (λ told es p b here without. byte-kept told es p b e here (no_store b) (no_flush (line_of_byte b)) (mark b ∙ without))

pub steps_stand : StepsStandForSome
steps_stand place old new e follows (told, es, stands) =
    let tells = told_also (suc (length es)) place told in
    let now = follows tells es (told-there (suc (length es)) place told) (stands-past old told tells es es (length es) (λ k within. refl) (same-places_before (length es) place told) stands) in
    (tells, es ++ e ∷ [], subst (StandsFor new tells (es ++ e ∷ [])) (sym (length_push es e ∙ add-one (length es))) now)
