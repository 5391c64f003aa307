use Rattle.std.proofs.Common.{◌∙◌, codes}
use Rattle.clap.{specs.Words.{found_of}, proofs.WalkLemmas.{first_value-rows}}
use Rattle.pmf_words.proofs.request.patches_of.Goals as goal

pub returns : goal.returns
returns c =
    let f = found_of c.args.why.now in record {
      section = c.in_ok-run.ensures;
      profile_is = record {
        one = λ is. c.profile_of.ensures.one (c.get_str.ensures ∙ first_value-rows f (codes "profile") ∙ is);
        two = λ is. c.profile_of.ensures.two (c.get_str.ensures ∙ first_value-rows f (codes "profile") ∙ is);
      };
    }
