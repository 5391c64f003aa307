use Rattle.std.proofs.{Common.{◌≡◌, ◌<◌, ◌≤◌, ℕ, length, sym, subst, ap, ◌∙◌, arith}, lemmas.List.{with_items_is}}
use Rattle.pmf_images.{specs.{Counts.{IsCut}, Sums.{COUNT_LIMIT, over, lies_in, raised_if}}, proofs.CountLemmas.{counted_store, counted_other}}
use Rattle.pmf_images.proofs.counts.CountsWalk.follow.Goals as goal

pub returns-in-Store-clause-keeps : goal.returns-in-Store-clause-keeps
returns-in-Store-clause-keeps c = λ es p here at_place before.
    let old = c.args.self.now in
    let lines = old.lines.items in
    let sums = old.sums.items in
    let fits = c.ranges.place.fits in
    let few : p < COUNT_LIMIT = omega arith in
    let from = c.index_of-from.result in
    let until = c.index_of-until.result in
    let width : c.len.result ≡ length lines = c.len.ensures ∙ sym c.deref.ensures.len ∙ ap length c.deref.ensures.value in
    let raised = subst (λ n. (k x : ℕ) → n ≤ k → over k sums n x < COUNT_LIMIT → over k c.raise.new.sums n x ≡ raised_if (lies_in from until x) (over k sums n x)) width
    (subst (λ s. (k x : ℕ) → c.len.result ≤ k → over k s c.len.result x < COUNT_LIMIT → over k c.raise.new.sums c.len.result x ≡ raised_if (lies_in from until x) (over k s c.len.result x))
    c.deref_mut.ensures.value c.raise.ensures.raised) in
    let kept = with_items_is old.sums c.raise.new.sums (c.raise.ensures.long ∙ c.deref_mut.ensures.len) in
    record {
      few = omega arith;
      each = λ k x deep within.
          ap (λ s. over k s (length lines) x) kept
          ∙ counted_store lines sums c.raise.new.sums c.requires.lines es p c.args.event.now here few before.each c.in-Store.span c.lines_of-first.result.0 c.lines_of-first.result.1 from until c.in-Store.is c.lines_of-first.ensures
          (subst (λ ls. IsCut ls c.lines_of-first.result.0 from) c.deref.ensures.value c.index_of-from.ensures) (subst (λ ls. IsCut ls c.lines_of-first.result.1 until) c.deref-in-Store.ensures.value c.index_of-until.ensures) raised k x deep within;
    }

pub returns-in_default : goal.returns-in_default
returns-in_default c = record {
  sound = c.requires;
  knows = λ byte known. known;
  keeps = λ es p here at_place before.
      let fits = c.ranges.place.fits in
      let few : p < COUNT_LIMIT = omega arith in
      record {
        few = omega arith;
        each = counted_other c.args.self.now.lines.items c.args.self.now.sums.items c.args.self.now.sums.items c.requires.lines es p c.args.event.now here few before.each c.in_default.not-Store;
      };
}
