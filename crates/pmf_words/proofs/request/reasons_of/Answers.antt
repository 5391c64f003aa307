use Rattle.std.proofs.Common.{◌∙◌, arith, codes}
use Rattle.clap.{specs.Words.{found_of}, proofs.WalkLemmas.{first_value-rows}}
use Rattle.pmf_words.proofs.RequestLemmas.{flag-named, maybe-number-named}
use Rattle.pmf_words.proofs.request.reasons_of.Goals as goal

pub returns : goal.returns
returns c =
    let f = found_of c.args.why.now in record {
      section = c.in_ok-run.ensures;
      profile_is = record {
        one = λ is. c.profile_of.ensures.one (c.get_str.ensures ∙ first_value-rows f (codes "profile") ∙ is);
        two = λ is. c.profile_of.ensures.two (c.get_str.ensures ∙ first_value-rows f (codes "profile") ∙ is);
      };
      event = maybe-number-named 32 f (codes "event") c.get_one.result (λ k below. omega (arith, below)) c.get_one.ensures.none c.get_one.ensures.value;
      first = c.first_of.ensures;
      all = flag-named f (codes "all-rows") c.get_flag-all.result c.get_flag-all.ensures.value c.get_flag-all.ensures.other;
    }
