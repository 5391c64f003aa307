use Rattle.std.proofs.{Common.{◌≡◌, ◌<◌, ℕ, List, length, sym, ap, ◌∙◌, arith, subst}, lemmas.Grind.{common_steps}}
use Rattle.pmf_storelog.proofs.TallyLemmas.{taken_blank, records_in-filled}
use Rattle.pmf_storelog.proofs.tally.Tally.take_part.Goals as goal

pub returns-then-is_empty-clause-ok : goal.returns-then-is_empty-clause-ok
returns-then-is_empty-clause-ok c = λ run records taken.
    let none : length c.trim-text.result.now ≡ 0 = grind (arith, common_steps) in taken_blank run records c.args.part.now c.args.self.now (ap length (sym c.trim-text.ensures) ∙ none) taken

pub returns-clause-ok : goal.returns-clause-ok
returns-clause-ok c = grind (arith, common_steps, records_in-filled)

pub returns-clause-err : goal.returns-clause-err
returns-clause-err c = λ run records taken.
    let some : 0 < length c.trim-text.result.now = grind (arith, common_steps) in
    let is = records_in-filled c.args.part.now (subst (λ (text : List ℕ). 0 < length text) c.trim-text.ensures some) in
    rw (is, ← c.trim-text.ensures) (c.take_record.ensures.err run records taken)
