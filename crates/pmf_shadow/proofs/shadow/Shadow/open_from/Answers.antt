use Rattle.std.proofs.Common.{◌-◌, sym, arith}
use Rattle.pmf_event.proofs.RangeLemmas.{first-passes, none-passes}
use Rattle.pmf_shadow.specs.Bytes.{passing}
use Rattle.pmf_shadow.{specs.States.{is_outstanding}, proofs.StandingLemmas.{quiet-run, stands-open}}
use Rattle.pmf_shadow.proofs.shadow.Shadow.open_from.Goals as goal

pub returns-in-None-clause-opened : goal.returns-in-None-clause-opened
returns-in-None-clause-opened c = quiet-run c.args.self.now c.args.first c.args.end (λ b low high. none-passes (passing (is_outstanding c.args.self.now.fences) c.args.self.now.bytes) c.args.first (c.args.end - c.args.first) (sym c.in-None.ensures) b low (omega arith))

pub returns-in-Some-clause-within : goal.returns-in-Some-clause-within
returns-in-Some-clause-within c = let high = (first-passes (passing (is_outstanding c.args.self.now.fences) c.args.self.now.bytes) c.args.first (c.args.end - c.args.first) c.in-Some.byte (sym c.in-Some.ensures)).within in let some = c.requires in omega arith

pub returns-in-Some-clause-opened : goal.returns-in-Some-clause-opened
returns-in-Some-clause-opened c = quiet-run c.args.self.now c.args.first c.in-Some.byte (first-passes (passing (is_outstanding c.args.self.now.fences) c.args.self.now.bytes) c.args.first (c.args.end - c.args.first) c.in-Some.byte (sym c.in-Some.ensures)).before

pub returns-in-Some-2-clause-opened : goal.returns-in-Some-2-clause-opened
returns-in-Some-2-clause-opened c = stands-open c.args.self.now c.args.first _ _ c.standing_from.ensures.stands
