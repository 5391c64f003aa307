use Rattle.pmf_event.proofs.LineBytesLemmas.{lines_follow_from_their_bytes}
use Rattle.pmf_event.proofs.laws.lines_follow_from_their_bytes.Goals as goal

pub returns : goal.returns
returns c = lines_follow_from_their_bytes
