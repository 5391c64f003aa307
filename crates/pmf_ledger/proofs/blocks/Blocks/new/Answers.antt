use Rattle.std.proofs.Common.{refl}
use Rattle.pmf_ledger.specs.Loading.{unread}
use Rattle.pmf_ledger.proofs.blocks.Blocks.new.Goals as goal

pub returns : goal.returns
returns c = c.by.ensures unread refl refl
