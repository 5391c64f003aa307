use Rattle.std.proofs.Common.{◌-◌, refl, arith}
use Rattle.pmf_txcheck.proofs.TrackLemmas.{tracks-ended, end-unmatched, end-nothing, follows-from}
use Rattle.pmf_txcheck.proofs.state.TxState.end.Goals as goal

pub returns-then-self-eq0-clause-follows : goal.returns-then-self-eq0-clause-follows
returns-then-self-eq0-clause-follows c = λ place. follows-from place c.args.self.now _ _ (λ told es p here at_place tracks.
    tracks-ended c.args.self.now told es p tracks c.args.self.now.depth (let none = c.if-self-eq0.true in omega arith) here)

pub returns-then-self-eq0-clause-finds : goal.returns-then-self-eq0-clause-finds
returns-then-self-eq0-clause-finds c = λ told es p tracks. end-unmatched c.args.self.now told es p tracks c.if-self-eq0.true

pub returns-clause-follows : goal.returns-clause-follows
returns-clause-follows c = λ place. follows-from place c.args.self.now _ _ (λ told es p here at_place tracks.
    tracks-ended c.args.self.now told es p tracks (c.args.self.now.depth - 1) refl here)

pub returns-clause-finds : goal.returns-clause-finds
returns-clause-finds c = λ told es p tracks. end-nothing c.args.self.now told es p tracks (omega arith)
