use Rattle.std.proofs.{Common.{◌∷◌, [], ◌++◌, List, take, sym, ap, ◌∙◌, subst, arith}, lemmas.List.{take_more}}
use Rattle.pmf_cut.specs.{declared.output.Text.{Text}, Outputs.{bytes_for}}
use Rattle.pmf_stream.specs.Files.{AppendsEach}
use Rattle.pmf_stream.proofs.{lemmas.FilesLemmas.{each-more}}
use Rattle.pmf_stream.proofs.cutting.write_out.Goals as goal

pub loop-text-preserved : goal.loop-text-preserved
loop-text-preserved g c =
    let texts = c.deref-text-items.result.now in
    let so_far = take c.loop-text.text-index texts in
    let next = ap (λ (t : Text). so_far ++ t ∷ []) c.text-item.is ∙ sym (take_more texts c.loop-text.text-index c.text-item.result (omega (arith, c.loop-text-test.true))) in
    record {
      written = subst (λ (ts : List Text). AppendsEach (g.W.Outlet.held_in c.args.writer.now) (g.W.Outlet.held_in c.write_to.new.self) (bytes_for ts)) next
          (each-more _ (g.W.Outlet.held_in c.loop-text.writer) _ so_far c.text-item.result c.loop-text.invariant.written (rw c.deref.ensures.value at c.in-Ok-write_to.ensures.whole));
      writes = omega (arith, c.in-Ok-write_to.ensures.counted, c.loop-text.invariant.writes);
    }
