use Rattle.std.proofs.Common.{subst}
use Rattle.pmf_ledger.{specs.Together.{AreWithout, SomeHolds, SomeHoldsOther}, proofs.lemmas.PileLemmas.{other-before, standing-before, standing-last}}
use Rattle.pmf_ledger.proofs.pile.Pile.standing_of.Goals as goal

pub returns-in-Held : goal.returns-in-Held
returns-in-Held c = standing-before c.args.self.now.full.items c.args.self.now.last c.args.section.now (subst (λ ls. SomeHolds ls c.args.section.now) c.deref.ensures.value c.in-Held.ensures)

pub returns-in-Otherwise : goal.returns-in-Otherwise
returns-in-Otherwise c = other-before c.args.self.now.full.items c.args.self.now.last c.args.section.now (subst (λ ls. SomeHoldsOther ls c.args.section.now) c.deref.ensures.value c.in-Otherwise.ensures)

pub returns-in-Absent : goal.returns-in-Absent
returns-in-Absent c = standing-last c.args.self.now.full.items c.args.self.now.last c.args.section.now c.standing_of.result (subst (λ ls. AreWithout ls c.args.section.now.name) c.deref.ensures.value c.in-Absent.ensures) c.standing_of.ensures
