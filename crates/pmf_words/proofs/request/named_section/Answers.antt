use Rattle.std.proofs.Common.{arith}
use Rattle.pmf_words.proofs.SectionWordLemmas.{named-alone, named-both}
use Rattle.pmf_words.proofs.request.named_section.Goals as goal

pub returns-in-Some : goal.returns-in-Some
returns-in-Some c =
    let parts = c.in-Some.ensures.byte (omega arith) (λ w o found. found) in
    named-both c.args.word.now _ _ c.args.run c.parse.result c.parse-in-Some.result _ _ c.both_of.result parts.0 parts.1 parts.2 c.parse.ensures.value.0 c.parse-in-Some.ensures.value.0
    c.ok.ensures.value c.ok-in-Some.ensures.value c.both_of.ensures

pub returns-in-None : goal.returns-in-None
returns-in-None c =
    named-alone c.args.word.now c.args.run c.parse-in-None.result _ c.both_of-in-None.result (c.in-None.ensures.byte (omega arith) (λ w o found. found)) c.parse-in-None.ensures.value.0
    c.ok-in-None.ensures.value c.both_of-in-None.ensures
