use Rattle.std.proofs.Common.{subst, Option, IfSome}
use Rattle.pmf_cut.{specs.declared.part.Part.{Part}, specs.Parts.{BeginsAt}, proofs.DeferredLemmas.{begins_behind}}
use Rattle.pmf_cut.proofs.section.Cutting.next_part.Goals as goal

pub returns-in-Some-clause-begins : goal.returns-in-Some-clause-begins
returns-in-Some-clause-begins c = record {
  behind = begins_behind c.catch_up.new.self c.in-Some.part _ c.in_ok-catch_up.ensures.none
      (subst (λ (old : Part). BeginsAt old c.in-Some.part c.in_ok-head.field-0.head.items) c.part-3.ensures
      (subst (λ (o : Option Part). IfSome o (λ part. BeginsAt c.part-3.result.now part c.in_ok-head.field-0.head.items)) c.in-Some.is c.in_ok-head.ensures));
  none_waits = c.in_ok-catch_up.ensures.none;
}
