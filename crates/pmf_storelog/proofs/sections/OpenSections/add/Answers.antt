use Rattle.std.proofs.{Common.{◌≡◌, length, arith}, lemmas.Grind.{common_steps}}
use Rattle.pmf_storelog.{specs.Sections.{Opens}, proofs.SectionLemmas.{first_begun, first_ok}, proofs.sections.OpenSections.add.Goals.{then-is_empty+in_ok-open, else-is_empty}}
use Rattle.pmf_storelog.proofs.sections.OpenSections.add.Goals as goal

pub returns-clause-ok : goal.returns-clause-ok
returns-clause-ok c = grind (arith, common_steps, first_ok, first_begun)

pub returns-clause-err : goal.returns-clause-err
returns-clause-err c = λ run numbers events current has. elim c.if-is_empty.branch [
  | then-is_empty+in_ok-open w ↦
      let empty : length c.args.self.now.sections.items ≡ 0 = grind (arith, common_steps) in let opens : Opens 0 c.args.self.now c.if-is_empty.self = rw w.self-is w.in_ok-open.ensures.ok in
      rw (has.before empty)
      (c.push.ensures.err run _ _ _ (first_begun run numbers events current c.args.self.now has c.if-is_empty.self empty opens))
  | else-is_empty w ↦ c.push.ensures.err run numbers events current (rw w.self-is has)
]
