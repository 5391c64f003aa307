use Rattle.std.proofs.Common.{map}
use Rattle.pmf_stream.proofs.lemmas.TextJoiningLemmas.{IsJoinOf-both, IsJoinOfTwo-joined}
use Rattle.pmf_stream.proofs.joining.join_half.Goals as goal

pub returns-in-Ok-clause-joined : goal.returns-in-Ok-clause-joined
returns-in-Ok-clause-joined c = λ others some is.
    let joined = IsJoinOfTwo-joined c.args.before c.in-Some.half c.in-Ok.joined (λ apart. c.in-Ok.ensures.mismatch.1 apart) c.in-Ok.ensures.unites c.in-Ok.ensures.gathers in
    IsJoinOf-both others (map (λ text. text.items) c.args.texts.now) c.args.before c.in-Some.half c.in-Ok.joined some is c.in-Some.ensures joined
