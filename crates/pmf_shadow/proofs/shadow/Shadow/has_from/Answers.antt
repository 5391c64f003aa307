use Rattle.std.proofs.Common.{◌∙◌, sym, arith}
use Rattle.pmf_event.proofs.RangeLemmas.{none-from, none-passes}
use Rattle.pmf_shadow.specs.States.{stored_of, holds_of, written_back_from}
use Rattle.pmf_shadow.specs.Bytes.{passing}
use Rattle.pmf_shadow.proofs.shadow.Shadow.has_from.Goals as goal

pub returns : goal.returns
returns c = λ no b below.
    none-passes (passing (λ s. holds_of (written_back_from c.args.epoch) (stored_of s)) c.args.self.now.bytes) 0 _ (sym c.first_where.ensures ∙ none-from c.first_where.result (sym c.is_some.ensures ∙ no)) b (omega arith) (omega arith)
