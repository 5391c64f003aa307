use Rattle.std.proofs.Common.{◌≡◌, ◌-◌, Some, None, drop, take, refl, sym, subst}
use Rattle.pmf_ledger.specs.BlockReading.{HasTaken}
use Rattle.pmf_merge.proofs.lemmas.FeedingLemmas.{taken_to}
use Rattle.pmf_merge.proofs.feed.Feed.take_ahead.Goals as goal

pub returns-in_err-lone-clause-next : goal.returns-in_err-lone-clause-next
returns-in_err-lone-clause-next c = λ start left text r fed. rw c.from_residual.ensures (record {
  taken = fed.taken;
  rises = fed.rises;
  within = fed.within;
  read = fed.read;
  ahead = (c.take.ensures (take c.args.self.now.end c.args.self.now.piece.items) fed.ahead).0;
})

pub returns-then-not-take-clause-next : goal.returns-then-not-take-clause-next
returns-then-not-take-clause-next c = λ start left text r fed. record {
  taken = subst (HasTaken text r) (sym (c.take-2.ensures.kept c.if-not-take.true)) fed.taken;
  rises = fed.rises;
  within = fed.within;
  read = fed.read;
  ahead = (c.take.ensures (take c.args.self.now.end c.args.self.now.piece.items) fed.ahead).0;
}

pub returns : goal.returns
returns c = record {
  next = λ start left text r fed.
      let piece = take c.args.self.now.end c.args.self.now.piece.items in
      let found = c.in_ok-lone.ensures piece fed.ahead in
      let bytes = take (c.in_ok-lone.to - c.args.self.now.at) (drop c.args.self.now.at piece) in
      let next = c.take-2.ensures.taken text bytes r c.args.self.now.ahead.profile fed.taken found.1.2 c.if-not-take.false in
      let parts = taken_to start left c.args.self.now text r fed c.in_ok-lone.to found.1.0 found.1.1 in
      (bytes, next.0, record { taken = next.1; rises = parts.0; within = fed.within; read = parts.1; ahead = found.0 }, next.2, (λ none. let wrong : Some c.in_ok-lone.lone.verdict ≡ None = none in cc));
  total = refl;
}
