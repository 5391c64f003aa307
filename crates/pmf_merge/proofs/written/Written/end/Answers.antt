use Rattle.std.{proofs.Common.{◌++◌, [], append-nil, refl, sym, ◌∙◌, ap, subst, append_assoc}, specs.Io.KnownBytes.{Appends}}
use Rattle.pmf_ledger.specs.Telling.{text_behind}
use Rattle.pmf_merge.{specs.Written.{IsTextOfSome}, proofs.lemmas.FrontLemmas.{front-stopped, front_of_some}}
use Rattle.pmf_merge.proofs.written.Written.end.Goals as goal

pub returns-in-Ok-put-clause-written : goal.returns-in-Ok-put-clause-written
returns-in-Ok-put-clause-written g c = λ form profile held out written.
    let rest = c.in-Ok.ensures form out written.told in
    let page = c.in-Ok-put.ensures.put held written.front written.page in (
      c.totals-totals.ensures form out written.told,
      subst (Appends held (g.W.Sink.held c.put.new.writer))
          (ap (λ xs. written.front ++ xs) (c.as_bytes.ensures.value ∙ rest) ∙ sym (append_assoc written.front _ (text_behind form out)) ∙ ap (λ xs. xs ++ text_behind form out) written.whole) page.written,
    )

pub returns-in-Err-clause-front : goal.returns-in-Err-clause-front
returns-in-Err-clause-front g c = λ form profile held out written.
    front_of_some form profile held _ out c.args.self written

pub returns-clause-front : goal.returns-clause-front
returns-clause-front g c = λ form profile held out written.
    let all = ap (λ xs. written.front ++ xs) (c.as_bytes.ensures.value ∙ c.in-Ok.ensures form out written.told) ∙ sym (append_assoc written.front _ (text_behind form out)) ∙ ap (λ xs. xs ++ text_behind form out) written.whole in
    front-stopped (IsTextOfSome form) _ (profile, out, refl) held _ (written.front ++ c.as_bytes.result.now) [] c.in-Err-put.stop (sym all ∙ sym (append-nil (written.front ++ c.as_bytes.result.now)))
    (c.in-Err-put.ensures.put held written.front written.page)
