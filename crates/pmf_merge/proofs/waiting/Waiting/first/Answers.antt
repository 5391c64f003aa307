use Rattle.std.proofs.{Common.{sym}, lemmas.Bool.{true≢false}}
use Rattle.pmf_merge.proofs.lemmas.WaitingLemmas.{first_is_least, no_first}
use Rattle.pmf_merge.proofs.waiting.Waiting.first.Goals as goal

pub returns-in-Some : goal.returns-in-Some
returns-in-Some c = λ heads is. first_is_least heads c.args.self.now c.in-Some.place.now is c.in-Some.ensures.member c.in-Some.ensures.least

pub returns-in-None : goal.returns-in-None
returns-in-None c = λ heads is. no_first heads c.args.self.now is (λ some. true≢false (sym (c.in-None.ensures.variant.1 some)))
