use Rattle.std.proofs.Common.{◌≡◌, ◌++◌, refl, sym, subst, append-nil, take, arith}
use Rattle.pmf_device.{specs.Pages.{IsPage, StopsIn}, proofs.PageLemmas.{stops_on, stops_so}}
use Rattle.pmf_why.{specs.Telling.{told_text}, proofs.GrowLemmas.{told_on, told_one}}
use Rattle.pmf_why.proofs.why.write_told.Goals as goal

pub loop-one-init : goal.loop-one-init
unfolding told_text
loop-one-init g c = record {
  put = λ held front is. subst (λ text. IsPage held (g.W.Sink.held c.args.writer.now) text c.args.page.now) (sym (append-nil front)) is;
  counted = refl;
}

pub returns-in_err-put-clause-put : goal.returns-in_err-put-clause-put
returns-in_err-put-clause-put g c = λ held front is.
    let told = c.args.told.now in
    let i = c.loop-one.one-index in
    let holds = g.W.Sink.held c.put.new.writer in
    let part = c.as_bytes.result.now in
    stops_so (λ done. IsPage held holds (front ++ told_text told) c.put.new.self) (StopsIn (λ text. text ≡ front ++ told_text told) held holds) c.from_residual.result c.in_err-put.field-0.0 c.from_residual.ensures
    (stops_on (λ text. text ≡ (front ++ told_text (take i told)) ++ part) (λ text. text ≡ front ++ told_text told) held holds c.in_err-put.field-0.0
    (λ text tells. told_on told i c.one-item.result c.loop-one-test.true c.one-item.is front part text c.as_bytes.ensures.value tells)
    (c.in_err-put.ensures.put held _ (c.loop-one.invariant.put held front is)))

pub loop-one-preserved : goal.loop-one-preserved
loop-one-preserved g c = record {
  put = λ held front is.
      subst (λ text. IsPage held (g.W.Sink.held c.put.new.writer) text c.put.new.self)
      (told_one c.args.told.now c.loop-one.one-index c.one-item.result c.loop-one-test.true c.one-item.is front c.as_bytes.result.now c.as_bytes.ensures.value)
      (c.in_ok-put.ensures.put held _ (c.loop-one.invariant.put held front is));
  counted = omega (arith, c.in_ok-put.ensures.counted, c.loop-one.invariant.counted);
}
