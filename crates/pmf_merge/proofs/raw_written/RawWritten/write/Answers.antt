use Rattle.std.proofs.Common.{◌++◌, length, refl, sym, ap, ◌∙◌}
use Rattle.pmf_ledger.specs.{LedgerText.{text_of_end}, RawText.{text_on_trust}}
use Rattle.pmf_merge.{specs.RawWritten.{IsTextOfBlocks}, proofs.lemmas.FrontLemmas.{front-stopped}}
use Rattle.pmf_merge.proofs.raw_written.RawWritten.write.Goals as goal

pub returns-in-Err-clause-front : goal.returns-in-Err-clause-front
returns-in-Err-clause-front g c = λ profile held out written.
    let made = sym written.whole ∙ ap (λ xs. written.front ++ xs) (sym c.deref.ensures.value) in
    front-stopped IsTextOfBlocks (text_on_trust profile out) (profile, out, refl) held _ (written.front ++ c.deref.result.now) (text_of_end (length out)) c.in-Err.stop (ap (λ xs. xs ++ text_of_end (length out)) made)
    (c.in-Err.ensures.put held written.front written.page)
