use Rattle.std.proofs.Common.{rules, ◌≡◌, ap, subst}
use Rattle.pmf_ledger.{specs.Gathered.{IsLeastClash}, specs.declared.joining.JoinFault.TheVariants.{Conflict}, proofs.lemmas.JoiningLemmas.{least_clash_once}}
use Rattle.pmf_ledger.proofs.ledger.Ledger.join.Goals as goal

pub returns-in-Some-clause-conflict : goal.returns-in-Some-clause-conflict
returns-in-Some-clause-conflict c = λ name.
    let a = c.args.self in let b = c.args.other in
    let even : a.profile ≡ b.profile = search rules in (
      λ is. let same : c.in-Some.name ≡ name = cc in (even, subst (IsLeastClash a b) same c.in-Some.ensures),
      λ clash. ap Conflict (least_clash_once a b c.in-Some.name name c.in-Some.ensures clash.1),
    )
