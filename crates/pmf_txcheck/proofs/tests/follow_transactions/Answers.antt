use Rattle.std.proofs.Common.{◌≡◌, true, sym, subst, arith}
use Rattle.pmf_event.{specs.declared.event.Event.{Event}, specs.declared.event.Event.TheVariants.{Store, TxBegin, TxAdd, TxEnd, CheckStart, CheckEnd}, specs.Span.{Extent}, proofs.TransactionLemmas.{depth-bound}}
use Rattle.pmf_txcheck.{specs.Laws.{is_untracked}, specs.Tracking.{FollowsAt}, proofs.TrackLemmas.{untracked-follows}}
use Rattle.pmf_txcheck.proofs.tests.follow_transactions.Goals as goal

untracked-unless : (e : Event) → ((s : Extent) → e ≡ Store s → ⊥) → (e ≡ TxBegin → ⊥) → ((s : Extent) → e ≡ TxAdd s → ⊥) → (e ≡ TxEnd → ⊥) → (e ≡ CheckStart → ⊥) → (e ≡ CheckEnd → ⊥) →
    is_untracked e ≡ true
unfolding is_untracked
untracked-unless e no_store no_begin no_add no_end no_start no_close = grind arith

pub begin-requires : goal.begin-requires
begin-requires c =
    let tracks = c.requires.3 in
    let same = tracks.depth in
    let bound = depth-bound c.requires.1 c.requires.2 in
    let below = c.requires.4 in omega arith

pub returns-in_ok-finding-in-Store : goal.returns-in_ok-finding-in-Store
returns-in_ok-finding-in-Store c = subst (FollowsAt c.args.place c.args.state.now c.store.new.self) (sym c.in-Store.is) (c.in_ok-finding-in-Store.ensures.follows c.args.place)

pub returns-in-TxBegin : goal.returns-in-TxBegin
returns-in-TxBegin c = subst (FollowsAt c.args.place c.args.state.now c.begin.new.self) (sym c.in-TxBegin.is) (c.begin.ensures c.args.place)

pub returns-in_ok-finding-in-TxAdd : goal.returns-in_ok-finding-in-TxAdd
returns-in_ok-finding-in-TxAdd c = subst (FollowsAt c.args.place c.args.state.now c.add.new.self) (sym c.in-TxAdd.is) (c.in_ok-finding-in-TxAdd.ensures.follows c.args.place)

pub returns-in-TxEnd : goal.returns-in-TxEnd
returns-in-TxEnd c = subst (FollowsAt c.args.place c.args.state.now c.end-finding.new.self) (sym c.in-TxEnd.is) (c.end-finding.ensures.follows c.args.place)

pub returns-in-CheckStart : goal.returns-in-CheckStart
returns-in-CheckStart c = subst (FollowsAt c.args.place c.args.state.now c.check_start-finding.new.self) (sym c.in-CheckStart.is) c.check_start-finding.ensures.follows

pub returns-in-CheckEnd : goal.returns-in-CheckEnd
returns-in-CheckEnd c = subst (FollowsAt c.args.place c.args.state.now c.check_end.new.self) (sym c.in-CheckEnd.is) (c.check_end.ensures.follows c.args.place)

pub returns-in_default : goal.returns-in_default
returns-in_default c =
    let other = c.in_default in
    untracked-follows c.args.state.now c.args.event
    (untracked-unless c.args.event other.not-Store other.not-TxBegin other.not-TxAdd other.not-TxEnd other.not-CheckStart other.not-CheckEnd) c.args.place
