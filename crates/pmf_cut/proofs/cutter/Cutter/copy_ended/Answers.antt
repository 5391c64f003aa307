use Rattle.std.proofs.Common.{◌≡◌, ◌++◌, ◌-◌, length, take, take_all, length-drop, arith, sym, ap, ◌∙◌, drop}
use Rattle.pmf_cut.proofs.CuttingLemmas.{reads-on}
use Rattle.pmf_cut.proofs.cutter.Cutter.copy_ended.Goals as goal

pub returns : goal.returns
returns c = λ step log handed read.
    let text : c.deref.result.now ≡ c.args.self.now.waiting.items ++ c.args.bytes.now = c.deref.ensures.value ∙ ap (λ v. v.items) c.replace-text.ensures.value ∙ c.in_ok-extend_from_slice.ensures.items in
    let waits =
    c.in_ok-extend_from_slice-2.ensures.items
    ∙ ap (λ front. front ++ take (length c.deref-2.result.now - c.in_ok-end.end) (drop c.in_ok-end.end c.deref-2.result.now)) c.new-rest.ensures.items
    ∙ take_all _ (drop c.in_ok-end.end c.deref-2.result.now) (omega (arith, length-drop c.in_ok-end.end c.deref-2.result.now))
    ∙ ap (drop c.in_ok-end.end) (c.deref-2.ensures.value ∙ sym c.deref.ensures.value) in
    reads-on step log c.args.bytes.now c.deref.result.now handed c.args.self.now c.copy.new.self _ c.in_ok-end.end text waits c.in_ok-end.ensures.unended
    (λ step done handed ended cuts. c.in_ok-end.ensures.cuts step done handed ended (record { step_is = cuts.step_is; has = cuts.has }))
    (λ records cuts. record { step_is = cuts.step_is; has = cuts.has }) read
