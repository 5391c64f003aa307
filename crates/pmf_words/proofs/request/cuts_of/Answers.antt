use Rattle.std.proofs.Common.{◌∙◌, arith, codes}
use Rattle.clap.{specs.Words.{found_of}, proofs.WalkLemmas.{first_value-rows}}
use Rattle.pmf_words.proofs.RequestLemmas.{number-named}
use Rattle.pmf_words.proofs.request.cuts_of.Goals as goal

pub returns : goal.returns
returns c =
    let f = found_of c.args.cut.now in record {
      events = number-named 32 f (codes "events") c.get_one.result c.unwrap_or.result 1000000 (λ k below. omega (arith, below)) c.get_one.ensures.value c.unwrap_or.ensures;
      step = number-named 64 f (codes "step") c.get_one-2.result c.unwrap_or-2.result 1000000000 (λ k below. omega (arith, below)) c.get_one-2.ensures.value c.unwrap_or-2.ensures;
      files = c.get_str.ensures ∙ first_value-rows f (codes "files");
      bytes = number-named 64 f (codes "bytes") c.get_one-3.result c.unwrap_or-3.result 268435456 (λ k below. omega (arith, below)) c.get_one-3.ensures.value c.unwrap_or-3.ensures;
    }
