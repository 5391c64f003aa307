use Rattle.std.proofs.Common.{refl, true}
use Rattle.pmf_event.specs.{declared.event.Event.TheVariants.{Exclude}, Store.{stores, flushes, is_fence}, Exclusion.{marks, excludes}}
use Rattle.pmf_shadow.specs.Bytes.{is_between}
use Rattle.pmf_shadow.proofs.{StandsLemmas.{follows-mark}, TotalsLemmas.{marked_or_kept}}
use Rattle.pmf_shadow.proofs.shadow.Shadow.exclude.Goals as goal

pub returns-clause-follows : goal.returns-clause-follows
unfolding stores flushes is_fence marks excludes is_between
returns-clause-follows c = λ place.
    follows-mark true place c.args.self.now _ c.args.span (Exclude c.args.span) c.first.result c.end.result c.first.ensures.value c.end.ensures.value refl c.in_ok-change.ensures.ok
    refl (λ t is. cc) (λ b. refl) (λ n. refl) (λ b. refl) (λ b within. within)

pub invariant_of-self : goal.invariant_of-self
invariant_of-self c = record {
  counted = marked_or_kept c.change.result c.args.self.now.bytes c.change.new.self c.first.result c.end.result true c.args.self.now.fences c.args.self.now.totals c.change.ensures.ok c.change.ensures.unchanged c.args.self.now.counted;
}
