use Rattle.std.proofs.{Common.{◌≡◌, ◌+◌, ◌++◌, ◌∷◌, [], string_bytes, take, sym, ◌∙◌, ap, subst, rules, arith}, lemmas.List.{take_all, take_more}}
use Rattle.pmf_ledger.{specs.declared.form.Form.TheVariants.{Summary}, specs.LedgerValue.{LedgerValue}, specs.Names.{Rises}, specs.Report.{totals_of}, specs.Telling.{HasTold, part_of, parts_after, text_behind}, proofs.lemmas.SummaryLemmas.{told_whole}, proofs.lemmas.TellingLemmas.{parts_push}}
use Rattle.pmf_ledger.proofs.ledger.Ledger.summary.Goals as goal

pub loop-verdict-preserved : goal.loop-verdict-preserved
loop-verdict-preserved c =
    let xs = c.deref-verdict-items.result.now in let index = c.loop-verdict.verdict-index in let v = c.verdict-item.result in
    let so_far = take index xs in let was = c.loop-verdict.invariant in
    let more : take (index + 1) xs ≡ so_far ++ v ∷ [] = take_more xs index v c.loop-verdict-test.true ∙ ap (λ w. so_far ++ w ∷ []) (sym c.verdict-item.is) in
    record {
      text = c.in_ok-tell.ensures.text Summary so_far was.told ∙ ap (λ text. text ++ part_of Summary so_far v) was.text ∙ sym (parts_push Summary [] so_far v) ∙ ap (parts_after Summary []) (sym more);
      told = subst (λ ys. HasTold Summary ys c.tell.new.self) (sym more) (c.in_ok-tell.ensures.told Summary so_far was.told);
    }

pub returns-clause-text : goal.returns-clause-text
returns-clause-text c =
    let xs = c.deref-verdict-items.result.now in let index = c.loop-verdict.verdict-index in let was = c.loop-verdict.invariant in
    let over = c.loop-verdict-test.false in
    let whole : take index xs ≡ xs = take_all index xs (omega (arith, over)) in
    let same : xs ≡ c.args.self.now.sections = search rules in
    let rises : Rises c.args.self.now.sections = subst Rises (ap (λ (l : LedgerValue). l.sections) c.self.view_is) c.self.invariant.0 in
    let bytes : c.into_bytes.result.items ≡ string_bytes c.end.new.text = search rules in
    let all = whole ∙ same in
    bytes ∙ c.in_ok-end.ensures Summary (take index xs) was.told ∙ ap (λ text. text ++ text_behind Summary (take index xs)) was.text
    ∙ ap (λ ys. parts_after Summary [] ys ++ text_behind Summary ys) all ∙ told_whole Summary c.args.self.now rises

pub returns-clause-totals : goal.returns-clause-totals
returns-clause-totals c =
    let xs = c.deref-verdict-items.result.now in let index = c.loop-verdict.verdict-index in let was = c.loop-verdict.invariant in
    let over = c.loop-verdict-test.false in
    let whole : take index xs ≡ xs = take_all index xs (omega (arith, over)) in
    let same : xs ≡ c.args.self.now.sections = search rules in
    c.totals.ensures Summary (take index xs) was.told ∙ ap totals_of (whole ∙ same)
