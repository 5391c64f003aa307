use Rattle.std.proofs.Common.{◌∙◌, ap, ℕ}
use Rattle.pmf_shadow.{specs.States.{stored_of}, specs.Bytes.{state_at}, proofs.TotalsLemmas.{kept_counted}}
use Rattle.pmf_shadow.proofs.shadow.Shadow.settle_for.Goals as goal

pub returns : goal.returns
returns c = λ told es p stands.
    let same = λ (b : ℕ). ap (λ m. state_at m b) c.count_for.ensures.bytes ∙ c.make_ready_for.ensures.states b in
    record { fences = c.count_for.ensures.fences ∙ stands.fences; stored = λ b. ap stored_of (same b) ∙ stands.stored b; excluded = λ b. ap (λ s. s.excluded) (same b) ∙ stands.excluded b; sized = stands.sized }

pub invariant_of-self-2 : goal.invariant_of-self-2
invariant_of-self-2 c = record { counted = kept_counted c.args.self.now.bytes c.make_ready_for.new.self c.args.self.now.fences c.args.self.now.totals c.make_ready_for.ensures c.args.self.now.counted }
