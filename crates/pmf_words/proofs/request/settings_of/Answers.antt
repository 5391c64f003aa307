use Rattle.std.proofs.Common.{◌∙◌, arith, codes}
use Rattle.clap.{specs.Words.{found_of}, proofs.WalkLemmas.{first_value-rows}}
use Rattle.pmf_words.proofs.RequestLemmas.{number-named, flag-named}
use Rattle.pmf_words.proofs.request.settings_of.Goals as goal

pub returns : goal.returns
returns c =
    let f = found_of c.args.check.now in record {
      workers = number-named 32 f (codes "workers") c.get_one.result c.unwrap_or.result 1 (λ k below. omega (arith, below)) c.get_one.ensures.value c.unwrap_or.ensures;
      run = number-named 64 f (codes "run") c.get_one-2.result c.unwrap_or-2.result 0 (λ k below. omega (arith, below)) c.get_one-2.ensures.value c.unwrap_or-2.ensures;
      profile_is = record {
        one = λ is. c.profile_of.ensures.one (c.get_str.ensures ∙ first_value-rows f (codes "profile") ∙ is);
        two = λ is. c.profile_of.ensures.two (c.get_str.ensures ∙ first_value-rows f (codes "profile") ∙ is);
      };
      ledger = flag-named f (codes "ledger") c.get_flag.result c.get_flag.ensures.value c.get_flag.ensures.other;
      strict = flag-named f (codes "strict") c.get_flag-2.result c.get_flag-2.ensures.value c.get_flag-2.ensures.other;
    }
