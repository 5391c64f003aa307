use Rattle.std.proofs.Common.{◌≡◌, ◌++◌, refl}
use Rattle.pmf_device.proofs.PageLemmas.{put_less, stops_here}
use Rattle.pmf_device.proofs.page.Page.put.Goals as goal

pub returns-in_default-clause-put : goal.returns-in_default-clause-put
returns-in_default-clause-put g c = λ held front is. stops_here (λ text. text ≡ front ++ c.args.part.now) held _ front c.args.part.now c.args.self.now is refl

pub returns-in-Err-clause-put : goal.returns-in-Err-clause-put
returns-in-Err-clause-put g c = λ held front is. put_less held _ _ front c.args.part.now c.args.self.now c.in-Err.cut.written is c.in-Err.ensures.short c.in-Err.ensures.prefix
