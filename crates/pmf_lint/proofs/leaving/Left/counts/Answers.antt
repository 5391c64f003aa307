use Rattle.std.proofs.Common.{◌≡◌, suc, ◌+◌, sym, ap, arith, ◌∙◌}
use Rattle.pmf_event.{specs.Places.{count}, proofs.PlacesLemmas.{count-zero}}
use Rattle.pmf_lint.{specs.Leaving.{leaves_unfenced, leaves_unwritten}, proofs.UpkeepLemmas.{count_more, one_few}}
use Rattle.pmf_lint.proofs.leaving.Left.counts.Goals as goal

pub loop-index-init : goal.loop-index-init
loop-index-init c = record {
  few = omega arith;
  fewer = omega arith;
  written = λ es are. sym (count-zero (leaves_unwritten es));
  fenced = λ es are. sym (count-zero (leaves_unfenced es));
}

pub loop-index-preserved : goal.loop-index-preserved
loop-index-preserved c =
    let k = c.loop-index.index in
    let next : suc c.loop-index.index ≡ c.loop-index.index + 1 = omega arith in
    let one = one_few c.is_unwritten.result c.one_if-unwritten.result c.one_if-unwritten.ensures in
    let other = one_few c.is_unfenced.result c.one_if-unfenced.result c.one_if-unfenced.ensures in record {
      few = omega (arith, one, c.loop-index.invariant.few);
      fewer = omega (arith, other, c.loop-index.invariant.fewer);
      written = λ es are.
          ap (λ n. c.loop-index.unwritten + n) c.one_if-unwritten.ensures
          ∙ count_more (leaves_unwritten es) c.loop-index.index c.loop-index.unwritten c.is_unwritten.result (c.loop-index.invariant.written es are)
          (sym (c.is_unwritten.ensures es are (omega (arith, are.all.long, c.loop-index-test.true))))
          ∙ ap (count (leaves_unwritten es)) next;
      fenced = λ es are.
          ap (λ n. c.loop-index.unfenced + n) c.one_if-unfenced.ensures
          ∙ count_more (leaves_unfenced es) c.loop-index.index c.loop-index.unfenced c.is_unfenced.result (c.loop-index.invariant.fenced es are)
          (sym (c.is_unfenced.ensures es are (omega (arith, are.all.long, c.loop-index-test.true))))
          ∙ ap (count (leaves_unfenced es)) next;
    }
