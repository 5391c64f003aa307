use Rattle.std.proofs.Common.{◌∙◌, arith, codes}
use Rattle.clap.{specs.Words.{found_of}, proofs.WalkLemmas.{first_value-rows}}
use Rattle.pmf_words.proofs.RequestLemmas.{number-named}
use Rattle.pmf_words.proofs.request.question_of.Goals as goal

pub returns : goal.returns
returns c =
    let f = found_of c.args.explain.now in record {
      section = c.in_ok-run.ensures;
      profile_is = record {
        one = λ is. c.profile_of.ensures.one (c.get_str.ensures ∙ first_value-rows f (codes "profile") ∙ is);
        two = λ is. c.profile_of.ensures.two (c.get_str.ensures ∙ first_value-rows f (codes "profile") ∙ is);
      };
      event = number-named 32 f (codes "event") c.get_one.result c.unwrap_or.result 0 (λ k below. omega (arith, below)) c.get_one.ensures.value c.unwrap_or.ensures;
    }
