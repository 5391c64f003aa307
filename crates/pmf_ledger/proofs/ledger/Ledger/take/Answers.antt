use Rattle.std.proofs.Common.{◌≡◌, ◌∙◌, subst, All}
use Rattle.pmf_event.specs.Section.{Trace}
use Rattle.pmf_verdict.specs.Checked.{Checked}
use Rattle.pmf_ledger.{specs.Gathered.{Holds, HoldsOther}, specs.LedgerValue.{LedgerValue}, specs.Names.{Rises}, specs.Places.{LacksName}, proofs.lemmas.AddingLemmas.{Gains-held, Gathers-gains}, proofs.lemmas.StandingLemmas.{held-not_other, absent-not_other, memory-no_conflict, OnOk-added}}
use Rattle.pmf_ledger.proofs.ledger.Ledger.take.Goals as goal

pub add-requires-clause-absent : goal.add-requires-clause-absent
add-requires-clause-absent c = subst (λ (s : Trace). LacksName c.args.self.now.sections s.name) (c.deref.ensures ∙ c.section.ensures) c.in-Absent.ensures.1

pub returns-in-Held-clause-conflict : goal.returns-in-Held-clause-conflict
returns-in-Held-clause-conflict c =
    let rises : Rises c.args.self.now.sections = subst (λ (l : LedgerValue). Rises l.sections) c.self.view_is c.self.invariant.0 in
    let held = subst (Holds c.args.self.now) (c.deref.ensures ∙ c.section.ensures) c.in-Held.ensures in
    (λ bad. absurd bad, λ both. absurd (held-not_other c.args.self.now c.args.verdict.section rises held both.1))

pub returns-in-Otherwise-clause-repeat : goal.returns-in-Otherwise-clause-repeat
returns-in-Otherwise-clause-repeat c =
    let rises : Rises c.args.self.now.sections = subst (λ (l : LedgerValue). Rises l.sections) c.self.view_is c.self.invariant.0 in
    let other = subst (HoldsOther c.args.self.now) (c.deref.ensures ∙ c.section.ensures) c.in-Otherwise.ensures in
    (λ bad. cc, λ both. absurd (held-not_other c.args.self.now c.args.verdict.section rises both.1 other))

pub returns-in-Absent-clause-conflict : goal.returns-in-Absent-clause-conflict
returns-in-Absent-clause-conflict c =
    let absent = subst (λ (s : Trace). LacksName c.args.self.now.sections s.name) (c.deref.ensures ∙ c.section.ensures) c.in-Absent.ensures.1 in
    (λ bad. absurd (memory-no_conflict c.add.result c.args.verdict _ c.add.ensures.refused bad), λ both. absurd (absent-not_other c.args.self.now c.args.verdict.section absent both.1))

pub returns-in-Held-clause-gathers : goal.returns-in-Held-clause-gathers
returns-in-Held-clause-gathers c =
    let ledger = c.args.self.now in let rises : Rises ledger.sections = subst (λ (l : LedgerValue). Rises l.sections) c.self.view_is c.self.invariant.0 in
    let checked = subst (λ (l : LedgerValue). All (λ (v : Checked). v.profile ≡ l.profile) l.sections) c.self.view_is c.self.invariant.1 in
    let held = subst (Holds ledger) (c.deref.ensures ∙ c.section.ensures) c.in-Held.ensures in
    Gathers-gains ledger ledger c.args.verdict.section (Gains-held ledger c.args.verdict.section held) rises checked

pub returns-in-Absent-clause-gathers : goal.returns-in-Absent-clause-gathers
returns-in-Absent-clause-gathers c =
    OnOk-added c.add.result _ _ c.add.ensures.added (λ gains. Gathers-gains c.args.self.now c.add.new.self c.args.verdict.section gains c.add.ensures.rises c.add.ensures.checked)
