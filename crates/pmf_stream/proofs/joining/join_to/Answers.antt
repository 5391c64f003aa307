use Rattle.std.proofs.Common.{map, sym, ap, rules, ◌∙◌}
use Rattle.pmf_ledger.specs.declared.totals.Totals.{Totals}
use Rattle.pmf_ledger.proofs.lemmas.AllKeptLemmas.{no_fail_is_kept, no_empty_is_filled}
use Rattle.pmf_stream.{specs.Joining.{IsJoinedText, IsRefusalOfTexts}, proofs.lemmas.AnsweringLemmas.{Answers-written}, proofs.lemmas.TextJoiningLemmas.{IsRefusalOfTexts-in_turn}}
use Rattle.pmf_stream.proofs.joining.join_to.Goals as goal

pub returns-clause-answer : goal.returns-clause-answer
returns-clause-answer g c =
    let texts = map (λ text. text.items) c.args.texts.now in
    let totals = rw c.in-Some.is at c.in_ok-text.ensures.totals in
    Answers-written (IsJoinedText c.args.form texts) (IsRefusalOfTexts c.args.form texts) _ _ (record { fails = c.in-Some.totals.fail }) c.in-Some.text.items c.write_answer.result
    (record {
      ledger = c.in-Ok.ledger;
      joins = c.in-Ok.ensures;
      written = rw c.in-Some.is at c.in_ok-text.ensures.written;
      fails = ap (λ (t : Totals). t.fail) totals;
      kept = λ none. no_fail_is_kept _ _ c.in-Ok.ledger c.in-Ok.ensures.gathered (sym (ap (λ (t : Totals). t.fail) totals) ∙ none);
      filled = no_empty_is_filled _ _ c.in-Ok.ledger c.in-Ok.ensures.gathered;
    })
    (rw c.deref.ensures.value at c.write_answer.ensures.written)

pub returns-in-Err-clause-answer : goal.returns-in-Err-clause-answer
returns-in-Err-clause-answer g c =
    IsRefusalOfTexts-in_turn c.args.form (map (λ text. text.items) c.args.texts.now) c.in-Err.fault (search rules) c.in-Err.ensures
