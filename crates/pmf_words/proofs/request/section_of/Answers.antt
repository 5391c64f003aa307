use Rattle.std.proofs.Common.{◌∙◌, ap, subst, arith, codes}
use Rattle.clap.{specs.Words.{found_of}, proofs.WalkLemmas.{first_value-rows}}
use Rattle.pmf_words.{specs.Words.{NamesSection}, proofs.RequestLemmas.{number-named, text-named}}
use Rattle.pmf_words.proofs.request.section_of.Goals as goal

pub returns-in-Some : goal.returns-in-Some
returns-in-Some c =
    let f = found_of c.args.matches.now in (
      c.unwrap_or-run.result,
      number-named 64 f (codes "run") c.get_one.result c.unwrap_or-run.result 0 (λ k below. omega (arith, below)) c.get_one.ensures.value c.unwrap_or-run.ensures,
      λ word is.
          subst (λ w. NamesSection w c.unwrap_or-run.result c.in-Some.named.0 c.in-Some.named.1)
          (ap (λ s. s.now) c.unwrap_or-word.ensures ∙ text-named c.get_str.result _ word (c.get_str.ensures ∙ first_value-rows f (codes "section") ∙ is)) c.in-Some.ensures,
    )
