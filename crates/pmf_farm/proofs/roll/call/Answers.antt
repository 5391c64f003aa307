use Rattle.std.{proofs.Common.{map, subst, rules, Option, IsPermutation, MatchOption}, proofs.lemmas.List.Sorted.{answers_always}}
use Rattle.pmf_event.specs.declared.name.Name.{Name}
use Rattle.pmf_ledger.specs.Repeats.{HaveOwnNames, IsLeastTwice}
use Rattle.pmf_farm.proofs.lemmas.RollLemmas.{by-profile, name_in, rises-sorted}
use Rattle.pmf_farm.proofs.roll.call.Goals as goal

pub returns-clause-rises : goal.returns-clause-rises
returns-clause-rises c =
    let sections = map (λ s. s.value) c.args.sections.now in
    let roll = c.sort_unstable_by_key.new.self.items in
    rises-sorted c.args.profile sections roll (subst (λ xs. IsPermutation xs roll) c.in_ok-roll.ensures.same c.sort_unstable_by_key.ensures.permutation)
    (subst (λ (f : Option Name). MatchOption f (HaveOwnNames sections) (IsLeastTwice sections)) c.in_default.is c.in_ok-name.ensures)
    (c.sort_unstable_by_key.ensures.sorted name_in (answers_always _ _ _ (λ f a r g h. search rules)))

pub returns-clause-profile : goal.returns-clause-profile
returns-clause-profile c =
    let roll = c.sort_unstable_by_key.new.self.items in
    by-profile c.args.profile (map (λ s. s.value) c.args.sections.now) roll (subst (λ xs. IsPermutation xs roll) c.in_ok-roll.ensures.same c.sort_unstable_by_key.ensures.permutation)
