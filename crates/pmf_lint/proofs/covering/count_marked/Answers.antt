use Rattle.std.proofs.Common.{◌≡◌, ◌+◌, suc, sym, ap, arith, ◌∙◌}
use Rattle.pmf_event.{specs.Places.{count}, proofs.PlacesLemmas.{count-zero}}
use Rattle.pmf_lint.proofs.UpkeepLemmas.{count_more, one_few}
use Rattle.pmf_lint.proofs.covering.count_marked.Goals as goal

pub loop-marked-init : goal.loop-marked-init
loop-marked-init c = record { few = omega arith; counted = λ test n are. sym (count-zero test) }

pub loop-marked-preserved : goal.loop-marked-preserved
loop-marked-preserved c =
    let next : suc c.loop-marked.marked-index ≡ c.loop-marked.marked-index + 1 = omega arith in
    let one = one_few _ c.one_if-count.result c.one_if-count.ensures in record {
      few = omega (arith, one, c.loop-marked.invariant.few);
      counted = λ test n are.
          ap (λ m. c.loop-marked.count + m) c.one_if-count.ensures
          ∙ count_more test c.loop-marked.marked-index c.loop-marked.count _ (c.loop-marked.invariant.counted test n are)
          (sym (are.each c.loop-marked.marked-index _ (omega (arith, sym are.long, c.loop-marked-test.true))))
          ∙ ap (count test) next;
    }
