use Rattle.std.proofs.Common.{arith, codes}
use Rattle.clap.specs.Words.{found_of}
use Rattle.pmf_words.proofs.RequestLemmas.{number-named}
use Rattle.pmf_words.proofs.request.sought_of.Goals as goal

pub returns : goal.returns
returns c =
    let f = found_of c.args.locate.now in record {
      section = c.in_ok-run.ensures;
      event = number-named 32 f (codes "event") c.get_one.result c.unwrap_or.result 0 (λ k below. omega (arith, below)) c.get_one.ensures.value c.unwrap_or.ensures;
    }
