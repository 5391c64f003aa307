use Rattle.std.proofs.Common.{sym}
use Rattle.pmf_event.{specs.Store.{is_fence}, proofs.EventLemmas.{last-none}}
use Rattle.pmf_images.proofs.walks.Fences.new.Goals as goal

pub returns : goal.returns
returns c = λ es. sym (last-none is_fence es)
