use Rattle.std.proofs.Common.{◌∙◌, arith, codes}
use Rattle.clap.{specs.Words.{found_of}, proofs.WalkLemmas.{first_value-rows}}
use Rattle.pmf_words.proofs.RequestLemmas.{maybe-number-named, number-named}
use Rattle.pmf_words.proofs.request.whole_of.Goals as goal

pub returns : goal.returns
returns c =
    let f = found_of c.args.explain.now in record {
      run = number-named 64 f (codes "run") c.get_one.result c.unwrap_or.result 0 (λ k below. omega (arith, below)) c.get_one.ensures.value c.unwrap_or.ensures;
      profile_is = record {
        one = λ is. c.profile_of.ensures.one (c.get_str.ensures ∙ first_value-rows f (codes "profile") ∙ is);
        two = λ is. c.profile_of.ensures.two (c.get_str.ensures ∙ first_value-rows f (codes "profile") ∙ is);
      };
      first = maybe-number-named 32 f (codes "first") c.get_one-2.result (λ k below. omega (arith, below)) c.get_one-2.ensures.none c.get_one-2.ensures.value;
    }
