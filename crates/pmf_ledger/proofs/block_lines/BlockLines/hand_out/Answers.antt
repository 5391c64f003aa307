use Rattle.std.proofs.{Common.{◌≡◌, ◌++◌, List, length, Some, refl, sym, ap, subst, arith, Contains}, lemmas.List.{length_push}, lemmas.List.Elements.{Contains-push}}
use Rattle.pmf_event.specs.{declared.name.Name.{Name}, Section.{Trace}}
use Rattle.pmf_ledger.{specs.BlockReading.{IsLastName, NamesRise}, specs.Names.{IsBefore}, proofs.lemmas.BlockReadingLemmas.{next_without, rises_more}}
use Rattle.pmf_ledger.proofs.block_lines.BlockLines.hand_out.Goals as goal

pub returns : goal.returns
returns c = λ r e line before.
    let given = c.in-Some.ensures e before.stands.0 before.one in
    let s = c.in-Some.verdict.section in
    let whole = ap (λ ss. r.blocks ++ ss) given.1.0 in
    let after : (name : Name) → c.args.self.now.last ≡ Some name → IsBefore name s.name = λ name is. subst (IsBefore name) c.name-name.ensures (c.comes_next.ensures.next c.if-not-comes_next.false name is) in (
      record {
        stands = (given.0, next_without e c.args.self.now.next before.stands.1);
        line_is = before.line_is;
        count = let long = length_push r.blocks s in let all = ap (λ (ss : List Trace). length ss) whole in let so = before.count in omega (arith, long, all, so);
        few = before.few;
        rises = subst NamesRise (sym whole) (rises_more r.blocks s before.rises c.args.self.now.last before.last after);
        last = (r.blocks, s, whole, sym c.name-name.ensures);
      },
      (whole, given.1.1),
    )

pub returns-then-not-comes_next : goal.returns-then-not-comes_next
returns-then-not-comes_next c = λ r e line before.
    let given = c.in-Some.ensures e before.stands.0 before.one in
    let not = c.if-not-comes_next.ensures.not refl in
    let is = subst (IsLastName r.blocks) not.1 before.last in (
      is.1,
      c.in-Some.verdict.section,
      subst (λ ss. Contains ss is.1) (sym is.2) (Contains-push is.0 is.1),
      ap (λ ss. r.blocks ++ ss) given.1.0,
      sym c.name-name.ensures,
      λ less. not.2 (subst (λ n. IsBefore n c.name-name.result) is.3 (subst (IsBefore is.1.name) (sym c.name-name.ensures) less)),
    )
