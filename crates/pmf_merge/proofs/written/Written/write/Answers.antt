use Rattle.std.proofs.Common.{◌++◌, refl, sym, ap, ◌∙◌}
use Rattle.pmf_ledger.specs.Telling.{text_behind}
use Rattle.pmf_merge.{specs.Written.{IsTextOfSome}, proofs.lemmas.FrontLemmas.{front-stopped}}
use Rattle.pmf_merge.proofs.written.Written.write.Goals as goal

pub returns-in-Err-clause-front : goal.returns-in-Err-clause-front
returns-in-Err-clause-front g c = λ form profile held out written.
    let made = sym written.whole ∙ ap (λ xs. written.front ++ xs) (sym c.as_bytes.ensures.value) in
    front-stopped (IsTextOfSome form) _ (profile, out, refl) held _ (written.front ++ c.as_bytes.result.now) (text_behind form out) c.in-Err.stop (ap (λ xs. xs ++ text_behind form out) made)
    (c.in-Err.ensures.put held written.front written.page)
