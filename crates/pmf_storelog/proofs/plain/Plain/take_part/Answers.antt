use Rattle.std.proofs.{Common.{◌≡◌, ◌<◌, ℕ, List, length, sym, ap, ◌∙◌, arith, subst, append-nil}, lemmas.Grind.{common_steps}}
use Rattle.pmf_storelog.proofs.TallyLemmas.{records_in-blank, records_in-filled}
use Rattle.pmf_storelog.proofs.plain.Plain.take_part.Goals as goal

pub returns-then-is_empty-clause-plain : goal.returns-then-is_empty-clause-plain
returns-then-is_empty-clause-plain c = λ records is taken.
    let none : length c.trim-text.result.now ≡ 0 = grind (arith, common_steps) in
    rw (records_in-blank c.args.part.now (ap length (sym c.trim-text.ensures) ∙ none), append-nil records) is

pub returns-clause-plain : goal.returns-clause-plain
returns-clause-plain c = λ records is taken.
    let some : 0 < length c.trim-text.result.now = grind (arith, common_steps) in
    let one = records_in-filled c.args.part.now (subst (λ (text : List ℕ). 0 < length text) c.trim-text.ensures some) in
    rw (one, ← c.trim-text.ensures) (c.take_record.ensures.plain records is taken)
