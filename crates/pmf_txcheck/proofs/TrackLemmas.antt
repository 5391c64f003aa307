-- The state tracks one more event, and its findings are those of the definitions: a lemma for each call.
use Rattle.std.proofs.{Common.{◌≡◌, ℕ, suc, ◌+◌, ◌-◌, ◌<◌, Bool, true, false, not, ◌&&◌, ◌==◌, if◌then◌else◌, List, [], ◌∷◌, ◌++◌, length, refl, sym, ◌∙◌, ap, subst, arith, add-one, Option, Some, None, is_some, option_map, eq-eqb, ne_eqb}, Math.Bool.{and-false}, lemmas.List.{length_push}, lemmas.Bool.{both_ways}}
use Rattle.pmf_event.{specs.declared.event.Event.{Event}, specs.declared.event.Event.TheVariants.{Store, TxBegin, TxAdd, TxEnd, CheckStart, CheckEnd}, specs.declared.finding.Finding.TheVariants.{TxStillOpen, Unmatched, Outside, Nested, Unopened, Unclosed}, specs.declared.span.TheConstants.{ADDRESS_LIMIT}, specs.Span.{Extent}, specs.Ranges.{first_from, first_byte}, specs.Store.{event_at, stores}, specs.Transactions.{begins, ends, depth_at, in_transaction, is_outside, adds, is_backed, opens_scope, closes_scope, scope_at, in_scope, is_scoped, lacks_backup, is_left_open, duplog_with, nobackup_with, scope_passes_unless, end_finding, add_finding, store_finding, start_finding, check_finding, close_finding}, proofs.RangeLemmas.{first_from-same, some-from}, proofs.TransactionLemmas.{depth-start, depth-begun, depth-ended, depth-kept, inside-from, outside-from, inside-depth, inside-kept, backed-begun, backed-added, backed-kept, scope-start, scope-some, scoped-from, unscoped-from, in_scope-same, scope-stays, scope-opened, scope-kept, scope-closed, scoped-opened, scoped-kept, scoped-stored}}
use Rattle.pmf_runs.specs.{declared.members.Members.{Members}, declared.runs.RunMap.{RunMap}, contracts.members.BoolState.TheImpl.{ghosts}, Runs.{state_at, passing, is_between, ChangesBetween}}
use Rattle.pmf_shadow.{specs.Told.{finding_as_told}, proofs.SameLemmas.{told_also, told-there, same-places_before}, proofs.StandsLemmas.{at-end, at-within}}
use Rattle.pmf_txcheck.{specs.declared.state.TxState.{TxState}, specs.Findings.{lacks_backup_by, store_finding_by, is_left_open_by, check_finding_by}, specs.Laws.{is_untracked, UntrackedEventsChangeNothing, OnlyPastEventsCount, StepsFollowWithin, StepsTrackSome, OneListIsACase}, specs.Tracking.{scope_as_told, Tracks, FollowsAt}, proofs.SameTransactionLemmas.{depth-alike, inside-alike, scope-alike, scope-within, in_scope-alike, backed-alike, scoped-alike}}

-- ---- what is kept says whether a transaction runs, and whether there is a scope

as_told-none : (told : ℕ → ℕ) (n : ℕ) → n ≡ 0 → scope_as_told told n ≡ None
as_told-none told n none = ap (λ v. if v then None else Some (told n)) (eq-eqb n 0 none)

as_told-some : (told : ℕ → ℕ) (n : ℕ) → 0 < n → scope_as_told told n ≡ Some (told n)
as_told-some told n some = ap (λ v. if v then None else Some (told n)) (ne_eqb n 0 (λ none. omega arith))

module _ (state : TxState) (told : ℕ → ℕ) (es : List Event) (p : ℕ) (tracks : Tracks state told es p) where
  pub outside-by : state.depth ≡ 0 → in_transaction es p ≡ false
  outside-by none = outside-from es p (sym tracks.depth ∙ none)

  pub inside-by : 0 < state.depth → in_transaction es p ≡ true
  inside-by some = let same = tracks.depth in inside-from es p (omega arith)

  pub unscoped-by : state.scope ≡ None → scope_at es p ≡ 0
  unscoped-by none = grind arith

  pub scope-by : (start : ℕ) → state.scope ≡ Some start → (0 < scope_at es p) × (told (scope_at es p) ≡ start)
  scope-by start some = grind arith

  pub in_scope-by : (start : ℕ) → state.scope ≡ Some start → in_scope es p ≡ true
  in_scope-by start some = scoped-from es p (scope-by start some).0

  pub no_scope-by : state.scope ≡ None → in_scope es p ≡ false
  no_scope-by none = unscoped-from es p (unscoped-by none)

  pub in_scope-by_some : is_some state.scope ≡ true → in_scope es p ≡ true
  in_scope-by_some some = let own = some-from state.scope some in in_scope-by own.0 own.1

-- ---- what an event leaves as it is

module _ (state : TxState) (told : ℕ → ℕ) (es : List Event) (p : ℕ) (e : Event) (here : event_at es (suc p) ≡ Some e) (tracks : Tracks state told es p) where
  depth-same : begins e ≡ false → ends e ≡ false → state.depth ≡ depth_at es (suc p)
  depth-same no_begin no_end = tracks.depth ∙ sym (depth-kept es p e here no_begin no_end)

  backup-same : (in_transaction es (suc p) ≡ true → in_transaction es p ≡ true) → ((b : ℕ) → adds b e ≡ false) → in_transaction es (suc p) ≡ true →
      (b : ℕ) → state_at state.backup b ≡ is_backed es (suc p) b
  backup-same before none inside b = tracks.backup (before inside) b ∙ sym (backed-kept es p e here b inside (none b))

  inside-before : begins e ≡ false → ends e ≡ false → in_transaction es (suc p) ≡ true → in_transaction es p ≡ true
  inside-before no_begin no_end inside = sym (inside-kept es p e here no_begin no_end) ∙ inside

  scope-same : scope_at es (suc p) ≡ scope_at es p → state.scope ≡ scope_as_told told (scope_at es (suc p))
  scope-same same = tracks.scope ∙ ap (λ k. scope_as_told told k) (sym same)

  stored-same : scope_at es (suc p) ≡ scope_at es p → ((b : ℕ) → (stores b e && in_transaction es (suc p)) ≡ false) → in_scope es (suc p) ≡ true →
      (b : ℕ) → state_at state.stored b ≡ is_scoped es (suc p) b
  stored-same same none some b = tracks.stored (sym (in_scope-same es p (suc p) same) ∙ some) b ∙ sym (scoped-kept es p e here b same (none b))

-- ---- no events

pub tracks-empty : (state : TxState) (told : ℕ → ℕ) (es : List Event) → state.depth ≡ 0 → state.scope ≡ None → Tracks state told es 0
tracks-empty state told es no_depth no_scope = record {
  depth = no_depth ∙ sym (depth-start es);
  backup = λ inside b. absurd (both_ways (in_transaction es 0) (outside-from es 0 (depth-start es)) inside);
  scope = no_scope ∙ sym (as_told-none told (scope_at es 0) (scope-start es));
  stored = λ some b. absurd (both_ways (in_scope es 0) (unscoped-from es 0 (scope-start es)) some);
}

-- ---- a TXBEGIN

-- the state, but for its depth, is ready for a transaction to begin
pub record Begun (mid : TxState) (told : ℕ → ℕ) (es : List Event) (p : ℕ) : Type 0 where
  pub depth : mid.depth ≡ depth_at es p
  pub backup : (b : ℕ) → state_at mid.backup b ≡ is_backed es (suc p) b
  pub scope : mid.scope ≡ scope_as_told told (scope_at es (suc p))
  pub stored : in_scope es (suc p) ≡ true → (b : ℕ) → state_at mid.stored b ≡ is_scoped es (suc p) b

module _ (state : TxState) (told : ℕ → ℕ) (es : List Event) (p : ℕ) (here : event_at es (suc p) ≡ Some TxBegin) (tracks : Tracks state told es p) where
  inside-begun : in_transaction es (suc p) ≡ true
  unfolding begins ends
  inside-begun = let deeper = depth-begun es p TxBegin here refl refl in inside-from es (suc p) (omega arith)

  pub begun-outermost : (backup : RunMap Bool Members ghosts) → ((b : ℕ) → state_at backup b ≡ false) → state.depth ≡ 0 → Begun (record state { backup = backup }) told es p
  unfolding adds closes_scope opens_scope stores
  begun-outermost backup empty none =
      let same = scope-kept es p TxBegin here refl refl in record {
        depth = tracks.depth;
        backup = λ b. empty b ∙ sym (backed-begun es p TxBegin here b (outside-by state told es p tracks none) inside-begun refl);
        scope = scope-same state told es p TxBegin here tracks same;
        stored = stored-same state told es p TxBegin here tracks same (λ b. refl);
      }

  pub begun-nested : 0 < state.depth → Begun state told es p
  unfolding adds closes_scope opens_scope stores
  begun-nested some =
      let same = scope-kept es p TxBegin here refl refl in record {
        depth = tracks.depth;
        backup = backup-same state told es p TxBegin here tracks (λ inside. inside-by state told es p tracks some) (λ b. refl) inside-begun;
        scope = scope-same state told es p TxBegin here tracks same;
        stored = stored-same state told es p TxBegin here tracks same (λ b. refl);
      }

pub tracks-begun : (mid : TxState) (told : ℕ → ℕ) (es : List Event) (p : ℕ) → event_at es (suc p) ≡ Some TxBegin → Begun mid told es p → Tracks (record mid { depth = mid.depth + 1 }) told es (suc p)
unfolding begins ends
tracks-begun mid told es p here begun = record {
  depth = let deeper = depth-begun es p TxBegin here refl refl in let before = begun.depth in omega arith;
  backup = λ inside. begun.backup;
  scope = begun.scope;
  stored = begun.stored;
}

-- ---- a TXEND

module _ (state : TxState) (told : ℕ → ℕ) (es : List Event) (p : ℕ) (tracks : Tracks state told es p) where
  pub tracks-ended : (depth : ℕ) → depth ≡ state.depth - 1 → event_at es (suc p) ≡ Some TxEnd → Tracks (record state { depth = depth }) told es (suc p)
  unfolding begins ends adds closes_scope opens_scope stores
  tracks-ended depth one_less here =
      let lower = depth-ended es p TxEnd here refl refl in
      let before = tracks.depth in
      let same = scope-kept es p TxEnd here refl refl in record {
        depth = omega arith;
        backup = backup-same state told es p TxEnd here tracks (λ inside. let some = inside-depth es (suc p) inside in inside-from es p (omega arith)) (λ b. refl);
        scope = scope-same state told es p TxEnd here tracks same;
        stored = stored-same state told es p TxEnd here tracks same (λ b. refl);
      }

  pub end-unmatched : state.depth ≡ 0 → Some Unmatched ≡ end_finding es p
  unfolding end_finding
  end-unmatched none = sym (ap (λ v. if v then None else Some Unmatched) (outside-by state told es p tracks none))

  pub end-nothing : 0 < state.depth → None ≡ end_finding es p
  unfolding end_finding
  end-nothing some = sym (ap (λ v. if v then None else Some Unmatched) (inside-by state told es p tracks some))

-- ---- a TXADD

module _ (state : TxState) (told : ℕ → ℕ) (es : List Event) (p : ℕ) (tracks : Tracks state told es p) (s : Extent) where
  pub tracks-outside : state.depth ≡ 0 → event_at es (suc p) ≡ Some (TxAdd s) → Tracks state told es (suc p)
  unfolding begins ends closes_scope opens_scope stores
  tracks-outside none here =
      let same = scope-kept es p (TxAdd s) here refl refl in record {
        depth = depth-same state told es p (TxAdd s) here tracks refl refl;
        backup = λ inside b. absurd (both_ways (in_transaction es p) (outside-by state told es p tracks none) (inside-before state told es p (TxAdd s) here tracks refl refl inside));
        scope = scope-same state told es p (TxAdd s) here tracks same;
        stored = stored-same state told es p (TxAdd s) here tracks same (λ b. refl);
      }

  pub tracks-added : (backup : RunMap Bool Members ghosts) (first end : ℕ) → first ≡ s.first → end ≡ s.first + s.size → 0 < state.depth →
      ChangesBetween first end (λ member. true) state.backup backup → event_at es (suc p) ≡ Some (TxAdd s) → Tracks (record state { backup = backup }) told es (suc p)
  unfolding begins ends adds closes_scope opens_scope stores is_between
  tracks-added backup first end at_first at_end some changes here =
      let before = inside-by state told es p tracks some in
      let same = scope-kept es p (TxAdd s) here refl refl in record {
        depth = depth-same state told es p (TxAdd s) here tracks refl refl;
        backup = λ inside b.
            changes.states b
            ∙ ap (λ k. if is_between k end b then true else state_at state.backup b) at_first
            ∙ ap (λ k. if is_between s.first k b then true else state_at state.backup b) at_end
            ∙ elim (is_between s.first (s.first + s.size) b) as (λ v. is_between s.first (s.first + s.size) b ≡ v → (if v then true else state_at state.backup b) ≡ is_backed es (suc p) b) [
              | true ↦ λ is. sym (backed-added es p (TxAdd s) here b before inside is)
              | false ↦ λ is. tracks.backup before b ∙ sym (backed-kept es p (TxAdd s) here b inside is)
            ] refl;
        scope = scope-same state told es p (TxAdd s) here tracks same;
        stored = stored-same state told es p (TxAdd s) here tracks same (λ b. refl);
      }

  pub add-outside : state.depth ≡ 0 → Some Outside ≡ add_finding es p s
  unfolding add_finding is_outside
  add-outside none = sym (ap (λ v. if not v then Some Outside else if in_scope es p then duplog_with (first_byte (is_backed es p) s) else None) (outside-by state told es p tracks none))

  add-inside : 0 < state.depth → add_finding es p s ≡ (if in_scope es p then duplog_with (first_byte (is_backed es p) s) else None)
  unfolding add_finding is_outside
  add-inside some = ap (λ v. if not v then Some Outside else if in_scope es p then duplog_with (first_byte (is_backed es p) s) else None) (inside-by state told es p tracks some)

  pub add-unscoped : 0 < state.depth → state.scope ≡ None → None ≡ add_finding es p s
  add-unscoped some none = sym (add-inside some ∙ ap (λ v. if v then duplog_with (first_byte (is_backed es p) s) else None) (no_scope-by state told es p tracks none))

  pub add-found : (first end : ℕ) (found : Option ℕ) → first ≡ s.first → end ≡ s.first + s.size → 0 < state.depth → in_scope es p ≡ true →
      found ≡ first_from (passing (λ member. member) state.backup) first (end - first) → duplog_with found ≡ add_finding es p s
  unfolding passing
  add-found first end found at_first at_end some scoped is =
      let size : end - first ≡ s.size = omega arith in
      ap (λ o. duplog_with o) (is ∙ ap (λ n. first_from (passing (λ member. member) state.backup) first n) size ∙ ap (λ k. first_from (passing (λ member. member) state.backup) k s.size) at_first
      ∙ first_from-same _ _ s.first s.size (λ b low high. tracks.backup (inside-by state told es p tracks some) b))
      ∙ sym (add-inside some ∙ ap (λ v. if v then duplog_with (first_byte (is_backed es p) s) else None) scoped)

-- ---- a store

module _ (state : TxState) (told : ℕ → ℕ) (es : List Event) (p : ℕ) (tracks : Tracks state told es p) (s : Extent) where
  pub tracks-stored : (stored : RunMap Bool Members ghosts) (first end : ℕ) → first ≡ s.first → end ≡ s.first + s.size → 0 < state.depth →
      ChangesBetween first end (λ member. true) state.stored stored → event_at es (suc p) ≡ Some (Store s) → Tracks (record state { stored = stored }) told es (suc p)
  unfolding begins ends adds closes_scope opens_scope stores is_between
  tracks-stored stored first end at_first at_end some changes here =
      let inside = inside-kept es p (Store s) here refl refl ∙ inside-by state told es p tracks some in
      let same = scope-kept es p (Store s) here refl refl in record {
        depth = depth-same state told es p (Store s) here tracks refl refl;
        backup = backup-same state told es p (Store s) here tracks (inside-before state told es p (Store s) here tracks refl refl) (λ b. refl);
        scope = scope-same state told es p (Store s) here tracks same;
        stored = λ scoped b.
            let before = sym (in_scope-same es p (suc p) same) ∙ scoped in
            changes.states b
            ∙ ap (λ k. if is_between k end b then true else state_at state.stored b) at_first
            ∙ ap (λ k. if is_between s.first k b then true else state_at state.stored b) at_end
            ∙ elim (is_between s.first (s.first + s.size) b) as (λ v. is_between s.first (s.first + s.size) b ≡ v → (if v then true else state_at state.stored b) ≡ is_scoped es (suc p) b) [
              | true ↦ λ is. sym (scoped-stored es p (Store s) here b same before (ap (λ v. v && in_transaction es (suc p)) is ∙ inside))
              | false ↦ λ is. tracks.stored before b ∙ sym (scoped-kept es p (Store s) here b same (ap (λ v. v && in_transaction es (suc p)) is))
            ] refl;
      }

  -- a store outside of transactions, or without a scope, is not followed
  pub tracks-store_outside : state.depth ≡ 0 → event_at es (suc p) ≡ Some (Store s) → Tracks state told es (suc p)
  unfolding begins ends adds closes_scope opens_scope
  tracks-store_outside none here =
      let outside = inside-kept es p (Store s) here refl refl ∙ outside-by state told es p tracks none in
      let same = scope-kept es p (Store s) here refl refl in record {
        depth = depth-same state told es p (Store s) here tracks refl refl;
        backup = backup-same state told es p (Store s) here tracks (inside-before state told es p (Store s) here tracks refl refl) (λ b. refl);
        scope = scope-same state told es p (Store s) here tracks same;
        stored = stored-same state told es p (Store s) here tracks same (λ b. ap (λ v. stores b (Store s) && v) outside ∙ and-false (stores b (Store s)));
      }

  pub tracks-store_unscoped : state.scope ≡ None → event_at es (suc p) ≡ Some (Store s) → Tracks state told es (suc p)
  unfolding begins ends adds closes_scope opens_scope
  tracks-store_unscoped none here =
      let same = scope-kept es p (Store s) here refl refl in record {
        depth = depth-same state told es p (Store s) here tracks refl refl;
        backup = backup-same state told es p (Store s) here tracks (inside-before state told es p (Store s) here tracks refl refl) (λ b. refl);
        scope = scope-same state told es p (Store s) here tracks same;
        stored = λ scoped b. absurd (both_ways (in_scope es p) (no_scope-by state told es p tracks none) (sym (in_scope-same es p (suc p) same) ∙ scoped));
      }

module _ (state : TxState) (told : ℕ → ℕ) (es fs : List Event) (p q : ℕ) (tracks : Tracks state told es p) (s : Extent) where
  pub store-outside : state.depth ≡ 0 → None ≡ store_finding_by es p fs q s
  unfolding store_finding_by
  store-outside none = sym (ap (λ v. if v && in_scope es p then nobackup_with (first_byte (lacks_backup_by es p fs q) s) else None) (outside-by state told es p tracks none))

  pub store-unscoped : state.scope ≡ None → None ≡ store_finding_by es p fs q s
  unfolding store_finding_by
  store-unscoped none =
      sym (elim (in_transaction es p) as (λ v. (if v && in_scope es p then nobackup_with (first_byte (lacks_backup_by es p fs q) s) else None) ≡ None) [
        | true ↦ ap (λ v. if v then nobackup_with (first_byte (lacks_backup_by es p fs q) s) else None) (no_scope-by state told es p tracks none)
        | false ↦ refl
      ])

  pub store-found : (first end : ℕ) (found : Option ℕ) → first ≡ s.first → end ≡ s.first + s.size → 0 < state.depth → in_scope es p ≡ true →
      found ≡ first_from (lacks_backup_by es p fs q) first (end - first) → nobackup_with found ≡ store_finding_by es p fs q s
  unfolding store_finding_by
  store-found first end found at_first at_end some scoped is =
      let size : end - first ≡ s.size = omega arith in
      ap (λ o. nobackup_with o) (is ∙ ap (λ n. first_from (lacks_backup_by es p fs q) first n) size ∙ ap (λ k. first_from (lacks_backup_by es p fs q) k s.size) at_first)
      ∙ sym (ap (λ v. if v && in_scope es p then nobackup_with (first_byte (lacks_backup_by es p fs q) s) else None) (inside-by state told es p tracks some)
      ∙ ap (λ v. if v then nobackup_with (first_byte (lacks_backup_by es p fs q) s) else None) scoped)

-- ---- a CHECKSTART

module _ (state : TxState) (told : ℕ → ℕ) (es : List Event) (p : ℕ) (tracks : Tracks state told es p) where
  pub tracks-nested : in_scope es p ≡ true → event_at es (suc p) ≡ Some CheckStart → Tracks state told es (suc p)
  unfolding begins ends adds closes_scope stores
  tracks-nested scoped here =
      let same = scope-stays es p CheckStart here refl (scope-some es p scoped) in record {
        depth = depth-same state told es p CheckStart here tracks refl refl;
        backup = backup-same state told es p CheckStart here tracks (inside-before state told es p CheckStart here tracks refl refl) (λ b. refl);
        scope = scope-same state told es p CheckStart here tracks same;
        stored = stored-same state told es p CheckStart here tracks same (λ b. refl);
      }

  pub tracks-opened : (stored : RunMap Bool Members ghosts) (place : ℕ) → ((b : ℕ) → state_at stored b ≡ false) → state.scope ≡ None → event_at es (suc p) ≡ Some CheckStart → told (suc p) ≡ place →
      Tracks (record state { scope = Some place; stored = stored }) told es (suc p)
  unfolding begins ends adds closes_scope opens_scope
  tracks-opened stored place empty none here at_place =
      let now = scope-opened es p CheckStart here refl refl (unscoped-by state told es p tracks none) in record {
        depth = depth-same state told es p CheckStart here tracks refl refl;
        backup = backup-same state told es p CheckStart here tracks (inside-before state told es p CheckStart here tracks refl refl) (λ b. refl);
        scope = ap (λ k. Some k) (sym at_place ∙ ap told (sym now)) ∙ sym (as_told-some told (scope_at es (suc p)) (omega arith));
        stored = λ scoped b. empty b ∙ sym (scoped-opened es (suc p) b now);
      }

  pub start-nested : in_scope es p ≡ true → Some Nested ≡ start_finding es p
  unfolding start_finding
  start-nested scoped = sym (ap (λ v. if v then Some Nested else None) scoped)

  pub start-nothing : state.scope ≡ None → None ≡ start_finding es p
  unfolding start_finding
  start-nothing none = sym (ap (λ v. if v then Some Nested else None) (no_scope-by state told es p tracks none))

-- ---- a CHECKEND, and the section's end

module _ (state : TxState) (told : ℕ → ℕ) (es : List Event) (p : ℕ) (tracks : Tracks state told es p) where
  pub tracks-closed : (scope : Option ℕ) → scope ≡ None → event_at es (suc p) ≡ Some CheckEnd → Tracks (record state { scope = scope }) told es (suc p)
  unfolding begins ends adds closes_scope
  tracks-closed scope none here =
      let closed = scope-closed es p CheckEnd here refl in record {
        depth = depth-same state told es p CheckEnd here tracks refl refl;
        backup = backup-same state told es p CheckEnd here tracks (inside-before state told es p CheckEnd here tracks refl refl) (λ b. refl);
        scope = none ∙ sym (as_told-none told (scope_at es (suc p)) closed);
        stored = λ some b. absurd (both_ways (in_scope es (suc p)) (unscoped-from es (suc p) closed) some);
      }

module _ (state : TxState) (told : ℕ → ℕ) (es fs : List Event) (p q : ℕ) (tracks : Tracks state told es p) where
  pub check-unopened : state.scope ≡ None → Unopened ≡ check_finding_by es p fs q
  unfolding check_finding_by
  check-unopened none =
      sym (ap (λ v. if not v then Unopened else if in_transaction es p then TxStillOpen (depth_at es p) else scope_passes_unless (first_from (is_left_open_by es p fs q) 0 ADDRESS_LIMIT))
      (no_scope-by state told es p tracks none))

  check-scoped : in_scope es p ≡ true →
      check_finding_by es p fs q ≡ (if in_transaction es p then TxStillOpen (depth_at es p) else scope_passes_unless (first_from (is_left_open_by es p fs q) 0 ADDRESS_LIMIT))
  unfolding check_finding_by
  check-scoped scoped = grind arith

  pub check-inside : in_scope es p ≡ true → 0 < state.depth → TxStillOpen state.depth ≡ check_finding_by es p fs q
  check-inside scoped some =
      ap (λ d. TxStillOpen d) tracks.depth
      ∙ sym (check-scoped scoped
      ∙ ap (λ v. if v then TxStillOpen (depth_at es p) else scope_passes_unless (first_from (is_left_open_by es p fs q) 0 ADDRESS_LIMIT)) (inside-by state told es p tracks some))

  pub check-found : (found : Option ℕ) → in_scope es p ≡ true → state.depth ≡ 0 → found ≡ first_from (is_left_open_by es p fs q) 0 ADDRESS_LIMIT →
      scope_passes_unless found ≡ check_finding_by es p fs q
  check-found found scoped none is =
      ap (λ o. scope_passes_unless o) is
      ∙ sym (check-scoped scoped
      ∙ ap (λ v. if v then TxStillOpen (depth_at es p) else scope_passes_unless (first_from (is_left_open_by es p fs q) 0 ADDRESS_LIMIT)) (outside-by state told es p tracks none))

module _ (state : TxState) (told : ℕ → ℕ) (es : List Event) (p : ℕ) (tracks : Tracks state told es p) where
  pub close-nothing : state.scope ≡ None → None ≡ option_map (finding_as_told told) (close_finding es p)
  unfolding close_finding
  close-nothing none = sym (ap (λ v. option_map (finding_as_told told) (if v then Some (Unclosed (scope_at es p)) else None)) (no_scope-by state told es p tracks none))

  pub close-unclosed : (start : ℕ) → state.scope ≡ Some start → Some (Unclosed start) ≡ option_map (finding_as_told told) (close_finding es p)
  unfolding close_finding
  close-unclosed start scope =
      ap (λ k. Some (Unclosed k)) (sym (scope-by state told es p tracks start scope).1)
      ∙ sym (ap (λ v. option_map (finding_as_told told) (if v then Some (Unclosed (scope_at es p)) else None)) (in_scope-by state told es p tracks start scope))

-- ---- events that are not told

tracks-other : (state : TxState) (told : ℕ → ℕ) (es : List Event) (p : ℕ) (e : Event) → event_at es (suc p) ≡ Some e → begins e ≡ false → ends e ≡ false → closes_scope e ≡ false → opens_scope e ≡ false →
    ((b : ℕ) → adds b e ≡ false) → ((b : ℕ) → stores b e ≡ false) → Tracks state told es p → Tracks state told es (suc p)
tracks-other state told es p e here no_begin no_end no_close no_open no_add no_store tracks =
    let same = scope-kept es p e here no_close no_open in record {
      depth = depth-same state told es p e here tracks no_begin no_end;
      backup = backup-same state told es p e here tracks (inside-before state told es p e here tracks no_begin no_end) no_add;
      scope = scope-same state told es p e here tracks same;
      stored = stored-same state told es p e here tracks same (λ b. ap (λ v. v && in_transaction es (suc p)) (no_store b));
    }

pub tracks-untracked : (state : TxState) (told : ℕ → ℕ) (es : List Event) (p : ℕ) (e : Event) → event_at es (suc p) ≡ Some e → is_untracked e ≡ true → Tracks state told es p → Tracks state told es (suc p)
unfolding is_untracked begins ends adds closes_scope opens_scope stores
tracks-untracked state told es p e here untracked tracks =
    tracks-other state told es p e here (grind arith) (grind arith) (grind arith) (grind arith) (λ b. grind arith) (λ b. grind arith) tracks

-- ---- the events up to a place, and steps at the end of a list

pub tracks-past : OnlyPastEventsCount
tracks-past state told tells es fs p same told_same tracks = record {
  depth = tracks.depth ∙ depth-alike es fs p same;
  backup = λ inside b. tracks.backup (inside-alike es fs p same ∙ inside) b ∙ backed-alike es fs p same b;
  scope = tracks.scope
      ∙ ap (λ t. if scope_at es p == 0 then None else Some t) (told_same (scope_at es p) (scope-within es fs p same))
      ∙ ap (scope_as_told tells) (scope-alike es fs p same);
  stored = λ some b. tracks.stored (in_scope-alike es fs p same ∙ some) b ∙ scoped-alike es fs p same b;
}

-- an event at its place within each list, so at the end of each list
pub follows-from : (place : ℕ) (old new : TxState) (e : Event) →
    ((told : ℕ → ℕ) (es : List Event) (p : ℕ) → event_at es (suc p) ≡ Some e → told (suc p) ≡ place → Tracks old told es p → Tracks new told es (suc p)) →
    FollowsAt place old new e
follows-from = at-end Tracks tracks-past

-- and the other way round
pub follows-within : StepsFollowWithin
follows-within = at-within Tracks tracks-past

pub untracked-follows : UntrackedEventsChangeNothing
untracked-follows state e untracked place = follows-from place state state e (λ told es p here at_place tracks. tracks-untracked state told es p e here untracked tracks)

-- ---- one list for both

pub one-list : OneListIsACase
unfolding lacks_backup store_finding is_left_open check_finding lacks_backup_by store_finding_by is_left_open_by check_finding_by
one-list = record { store = λ es p s. refl; check = λ es p. refl }

pub steps_track : StepsTrackSome
steps_track place old new e follows (told, es, tracks) =
    let tells = told_also (suc (length es)) place told in
    let now = follows tells es (told-there (suc (length es)) place told) (tracks-past old told tells es es (length es) (λ k within. refl) (same-places_before (length es) place told) tracks) in
    (tells, es ++ e ∷ [], subst (Tracks new tells (es ++ e ∷ [])) (sym (length_push es e ∙ add-one (length es))) now)
