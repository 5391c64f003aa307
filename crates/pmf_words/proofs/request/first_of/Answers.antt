use Rattle.std.proofs.Common.{◌∙◌, ap, arith, codes, unwrap_or}
use Rattle.clap.{specs.Words.{found_of}, proofs.WalkLemmas.{one_text-rows}}
use Rattle.pmf_words.proofs.RequestLemmas.{number-named}
use Rattle.pmf_words.proofs.request.first_of.Goals as goal

pub returns : goal.returns
returns c =
    let f = found_of c.args.why.now in record {
      given = number-named 32 f (codes "first") c.get_one.result c.unwrap_or.result c.most_of.result (λ k below. omega (arith, below)) c.get_one.ensures.value c.unwrap_or.ensures;
      left_out = λ is. c.unwrap_or.ensures ∙ ap (λ o. unwrap_or o c.most_of.result) (c.get_one.ensures.none (one_text-rows f (codes "first") ∙ is)) ∙ c.most_of.ensures;
    }
