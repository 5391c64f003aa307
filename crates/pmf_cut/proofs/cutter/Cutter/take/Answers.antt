use Rattle.std.proofs.Common.{◌++◌, take, ap, ◌∙◌, append-nil, arith, drop, take_all, length-drop}
use Rattle.pmf_cut.{specs.Cutting.{HasRead}, proofs.CuttingLemmas.{reads-piece}, proofs.cutter.Cutter.take.Goals.{then-end-gt0+in_ok-copy_ended, else-end-gt0}}
use Rattle.pmf_cut.proofs.cutter.Cutter.take.Goals as goal

pub returns : goal.returns
returns c = λ step log handed read.
    let so_far : HasRead step (log ++ take c.ended-end.result c.args.piece.now) handed c.if-end-gt0.self = elim c.if-end-gt0.branch [
      | then-end-gt0+in_ok-copy_ended w ↦ rw w.self-is (w.in_ok-copy_ended.ensures step log handed read)
      | else-end-gt0 w ↦ grind (arith, append-nil)
    ] in
    reads-piece step log c.args.piece.now handed c.ended-end.result c.if-end-gt0.self (record c.if-end-gt0.self { waiting = c.extend_from_slice.new.self }) so_far c.ended-end.ensures.unended (c.in_ok-extend_from_slice.ensures.items ∙ ap (λ rest. c.if-end-gt0.self.waiting.items ++ rest) (take_all _ (drop c.ended-end.result c.args.piece.now) (omega (arith, length-drop c.ended-end.result c.args.piece.now)))) (λ records cuts. record { step_is = cuts.step_is; has = cuts.has })
