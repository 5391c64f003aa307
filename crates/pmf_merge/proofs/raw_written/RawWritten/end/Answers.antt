use Rattle.std.proofs.{Common.{◌≡◌, ◌++◌, [], refl, sym, ◌∙◌, arith, append-nil, append_assoc}, lemmas.Grind.{common_steps}}
use Rattle.pmf_ledger.specs.{RawText.{text_on_trust}}
use Rattle.pmf_merge.{specs.RawWritten.{IsTextOfBlocks}, proofs.lemmas.FrontLemmas.{front-stopped, front_of_blocks}}
use Rattle.pmf_merge.proofs.raw_written.RawWritten.end.Goals as goal

pub returns-in-Err-clause-front : goal.returns-in-Err-clause-front
returns-in-Err-clause-front g c = λ profile held out written.
    front_of_blocks profile held _ out c.args.self written

pub returns-in-Err-extend_from_slice-clause-front : goal.returns-in-Err-extend_from_slice-clause-front
returns-in-Err-extend_from_slice-clause-front g c = λ profile held out written.
    front_of_blocks profile held _ out c.args.self written

pub returns-clause-front : goal.returns-clause-front
returns-clause-front g c = λ profile held out written.
    let all : text_on_trust profile out ≡ written.front ++ c.deref.result.now = grind (arith, common_steps, append_assoc) in
    front-stopped IsTextOfBlocks (text_on_trust profile out) (profile, out, refl) held _ (written.front ++ c.deref.result.now) [] c.in-Err-put.stop (all ∙ sym (append-nil (written.front ++ c.deref.result.now)))
    (c.in-Err-put.ensures.put held written.front written.page)
