use Rattle.std.proofs.Common.{refl, ◌∙◌, subst}
use Rattle.pmf_event.specs.Section.{Trace}
use Rattle.pmf_ledger.{specs.Piles.{ledgers_of}, specs.Together.{AreWithout, SomeHolds, SomeHoldsOther}, proofs.lemmas.PileLemmas.{held-in, held-no_other, memory-alone, once-more, other-in, without-no_other}}
use Rattle.pmf_ledger.proofs.pile.Pile.take.Goals as goal

pub put-requires-clause-absent : goal.put-requires-clause-absent
put-requires-clause-absent c = subst (λ (s : Trace). AreWithout (ledgers_of c.args.self.now) s.name) (c.deref.ensures ∙ c.section.ensures) c.in-Absent.ensures

pub returns-in-Held-clause-taken : goal.returns-in-Held-clause-taken
returns-in-Held-clause-taken c = λ profile set are.
    let s = c.args.verdict.section in
    let held = subst (SomeHolds (ledgers_of c.args.self.now)) (c.deref.ensures ∙ c.section.ensures) c.in-Held.ensures in
    once-more profile set (ledgers_of c.args.self.now) are s (held-in profile set (ledgers_of c.args.self.now) are s held)

pub returns-in-Held-clause-conflict : goal.returns-in-Held-clause-conflict
returns-in-Held-clause-conflict c = λ profile set are.
    let held = subst (SomeHolds (ledgers_of c.args.self.now)) (c.deref.ensures ∙ c.section.ensures) c.in-Held.ensures in
    (λ bad. cc, λ other. absurd (held-no_other profile set (ledgers_of c.args.self.now) are c.args.verdict.section held other))

pub returns-in-Otherwise-clause-conflict : goal.returns-in-Otherwise-clause-conflict
returns-in-Otherwise-clause-conflict c = λ profile set are.
    let held = subst (SomeHoldsOther (ledgers_of c.args.self.now)) (c.deref.ensures ∙ c.section.ensures) c.in-Otherwise.ensures in
    (λ is. other-in profile set (ledgers_of c.args.self.now) are c.args.verdict.section held, λ other. refl)

pub returns-in-Absent-clause-conflict : goal.returns-in-Absent-clause-conflict
returns-in-Absent-clause-conflict c = λ profile set are.
    let absent = subst (λ (s : Trace). AreWithout (ledgers_of c.args.self.now) s.name) (c.deref.ensures ∙ c.section.ensures) c.in-Absent.ensures in
    (λ bad. absurd (memory-alone c.put.result _ (λ same. cc) c.put.ensures.refused bad), λ other. absurd (without-no_other profile set (ledgers_of c.args.self.now) are c.args.verdict.section absent other))

pub returns-in-Absent-clause-refused : goal.returns-in-Absent-clause-refused
returns-in-Absent-clause-refused c = λ bad. memory-alone c.put.result _ (λ same. cc) c.put.ensures.refused bad
