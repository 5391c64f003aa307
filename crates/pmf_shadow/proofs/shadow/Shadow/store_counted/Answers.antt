use Rattle.std.proofs.Common.{refl}
use Rattle.pmf_shadow.proofs.{StandsLemmas.{follows-store}, TotalsLemmas.{kept_counted, same_change}}
use Rattle.pmf_shadow.proofs.shadow.Shadow.store_counted.Goals as goal

pub returns-clause-follows : goal.returns-clause-follows
returns-clause-follows c =
    follows-store c.args.place c.args.self.now _ c.args.span c.first.result c.end.result c.first.ensures.value c.end.ensures.value c.first.ensures.valid.not_empty refl c.in_ok-change.ensures.ok

pub invariant_of-self : goal.invariant_of-self
invariant_of-self c = record { counted = kept_counted c.args.self.now.bytes c.change.new.self c.args.self.now.fences c.args.self.now.totals c.in_err-change.ensures.unchanged c.args.self.now.counted }

pub invariant_of-self-2 : goal.invariant_of-self-2
invariant_of-self-2 c = record {
  counted = c.totals_after_store-totals.ensures c.args.place c.change.new.self (same_change c.args.self.now.bytes c.change.new.self c.first.result c.end.result _ _ _ c.first.ensures.value c.end.ensures.value c.in_ok-change.ensures.ok);
}
