use Rattle.std.proofs.Common.{refl}
use Rattle.pmf_images.proofs.SumsLemmas.{read}
use Rattle.pmf_images.proofs.sums.+sum.Goals as goal

pub returns : goal.returns
returns t c =
    let cut = c.split_at.ensures in
    read c.args.sums.now _ _ c.args.width c.args.index _ c.sum.result c.saturating_add.result cut.front cut.back c.if-index-width.false refl c.sum.ensures c.saturating_add.ensures
