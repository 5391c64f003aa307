use Rattle.std.proofs.Common.{◌≡◌, ◌≤◌, ℕ, length, sym, subst, ap, ◌∙◌}
use Rattle.pmf_event.specs.Line.{line_of_byte}
use Rattle.pmf_images.{specs.{Counts.{IsCut}, Sums.{COUNT_LIMIT, over}}, proofs.CountLemmas.{told}}
use Rattle.pmf_images.proofs.counts.CountsWalk.tell.Goals as goal

pub returns : goal.returns
returns c = λ es p counted.
    let old = c.args.self.now in
    let lines = old.lines.items in
    let sums = old.sums.items in
    let line = line_of_byte c.args.byte in
    let index = c.index_of.result in
    let width : c.len.result ≡ length lines = c.len.ensures ∙ sym c.deref-2.ensures.len ∙ ap length c.deref-2.ensures.value in
    let cut = subst (λ l. IsCut lines l index) c.line_of.ensures (subst (λ ls. IsCut ls c.line_of.result index) c.deref-2.ensures.value c.index_of.ensures) in
    told lines sums line index c.sum.result es p c.requires.sound.lines cut c.requires.knows counted.few counted.each
    (subst (λ n. (k : ℕ) → n ≤ k → over k sums n index ≤ COUNT_LIMIT → c.sum.result ≡ over k sums n index) width
    (subst (λ s. (k : ℕ) → c.len.result ≤ k → over k s c.len.result index ≤ COUNT_LIMIT → c.sum.result ≡ over k s c.len.result index) c.deref.ensures.value c.sum.ensures))
