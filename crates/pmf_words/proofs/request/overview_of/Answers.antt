use Rattle.std.proofs.Common.{codes}
use Rattle.clap.specs.Words.{found_of}
use Rattle.pmf_words.proofs.RequestLemmas.{flag-named}
use Rattle.pmf_words.proofs.request.overview_of.Goals as goal

pub returns : goal.returns
returns c = record { unasserted = flag-named (found_of c.args.lint.now) (codes "unasserted") c.get_flag.result c.get_flag.ensures.value c.get_flag.ensures.other }
