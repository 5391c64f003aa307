use Rattle.std.proofs.Common.{◌≡◌, Some, All, zero, subst, ◌∙◌, ap, nat_eq, arith}
use Rattle.std.specs.{HashMap.{get}, Map.{lookup}}
use Rattle.pmf_runs.specs.Runs as behind
use Rattle.pmf_shadow.proofs.FrontLemmas.{put_more, others_as_before, all_later}
use Rattle.pmf_shadow.proofs.line.Line.put_all.Goals as goal

pub loop-number-preserved : goal.loop-number-preserved
loop-number-preserved c =
    let number = c.in-Some.number.now in
    let line = c.in-Some.line.now in
    let rest = c.next.new.self in
    let find = get nat_eq c.args.lines.now in
    let old = behind.state_at c.loop-number.runs in
    let new = behind.state_at c.put_into.new.runs in
    let steps = c.in-Some.ensures.steps in
    let left = subst (All (λ e. get nat_eq c.args.lines.now e.0 ≡ Some e.1)) steps c.loop-number.invariant.left in
    let has = left zero (number, line) (omega arith) in
    record {
      left = all_later (λ e. get nat_eq c.args.lines.now e.0 ≡ Some e.1) (number, line) rest left;
      put = put_more find old new number line rest has c.in_ok-put_into.ensures.put c.in_ok-put_into.ensures.others (λ q l is none. c.loop-number.invariant.put q l is (ap (lookup (nat_eq q)) steps ∙ none));
      others = λ b none. others_as_before find old new number line has c.in_ok-put_into.ensures.others b none ∙ c.loop-number.invariant.others b none;
    }
