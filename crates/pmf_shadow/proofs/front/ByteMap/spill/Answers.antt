use Rattle.std.proofs.Common.{refl, sym}
use Rattle.pmf_shadow.proofs.FrontLemmas.{keeps_both, put_too, taken_out}
use Rattle.pmf_shadow.proofs.front.ByteMap.spill.Goals as goal

pub returns-in_err-put_into-clause-same : goal.returns-in_err-put_into-clause-same
returns-in_err-put_into-clause-same c = put_too c.args.self.now _ c.args.line _ (sym c.in-Some.ensures.value) refl c.in_err-put_into.ensures.others

pub returns-clause-same : goal.returns-clause-same
returns-clause-same c =
    let between = c.put_into.new in
    keeps_both c.args.self.now (record { front = c.args.self.now.front; behind = c.put_into.new.runs; taking = c.args.self.now.taking; order = c.args.self.now.order; is_ordered = c.args.self.now.is_ordered; alloc = c.args.self.now.alloc; low = c.args.self.now.low; listed = c.args.self.now.listed }) _ (put_too c.args.self.now _ c.args.line _ (sym c.in-Some.ensures.value) refl c.in_ok-put_into.ensures.others)
    (taken_out _ _ c.args.line _ (sym c.in-Some.ensures.value) c.in_ok-put_into.ensures.put c.remove.ensures.updates.0 refl)
