use Rattle.std.proofs.Common.{◌∙◌, ap, arith, codes}
use Rattle.clap.{specs.Words.{found_of}, proofs.WalkLemmas.{first_value-rows}}
use Rattle.pmf_words.proofs.RequestLemmas.{number-named, text-named}
use Rattle.pmf_words.proofs.request.simulation_of.Goals as goal

pub returns : goal.returns
returns c =
    let f = found_of c.args.sim.now in record {
      log = λ log is. ap (λ s. s.now) c.unwrap_or.ensures ∙ text-named c.get_str.result _ log (c.get_str.ensures ∙ first_value-rows f (codes "log") ∙ is);
      workers = number-named 32 f (codes "workers") c.get_one.result c.unwrap_or-2.result 0 (λ k below. omega (arith, below)) c.get_one.ensures.value c.unwrap_or-2.ensures;
      ledgers = number-named 32 f (codes "ledgers") c.get_one-2.result c.unwrap_or-3.result 0 (λ k below. omega (arith, below)) c.get_one-2.ensures.value c.unwrap_or-3.ensures;
    }
