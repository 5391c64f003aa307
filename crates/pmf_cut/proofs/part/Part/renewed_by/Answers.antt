use Rattle.std.proofs.Common.{List, length, subst, Option, Some, IfSome}
use Rattle.pmf_event.specs.declared.event.Event.{Event}
use Rattle.pmf_cut.{specs.declared.part.Part.{Part}, specs.Parts.{BeginsWith, Stands}, proofs.PartLemmas.{renews-by}, proofs.WholeLemmas.{part-cut}}
use Rattle.pmf_cut.proofs.part.Part.renewed_by.Goals as goal

abbrev StandsBehind : Part → List Event → Type 0
StandsBehind part head = (gs : List Event) → BeginsWith gs head → Stands part gs (length head)

pub returns : goal.returns
returns c =
    let here = c.is_outside.ensures c.if-not-is_outside.false in
    let outside = c.is_outside-2.ensures c.if-not-is_outside-2.false in
    let found : IfSome (Some c.in-Some.part) (λ part. StandsBehind part c.args.head.now) =
    subst (λ (o : Option Part). IfSome o (λ part. StandsBehind part c.args.head.now)) c.in-Some.is c.in_ok-part.ensures in
    part-cut c.args.self.now c.in-Some.part c.args.head.now
    (renews-by c.args.self.now c.in-Some.part c.args.head.now found outside.0 outside.1 (c.in_ok-are_alike.ensures c.if-not-branch.false)) here.0 here.1
