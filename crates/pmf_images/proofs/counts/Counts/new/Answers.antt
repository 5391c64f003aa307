use Rattle.std.proofs.Common.{◌≡◌, replicate, ap, ◌∙◌, length, arith}
use Rattle.pmf_images.specs.Sums.{over}
use Rattle.pmf_images.proofs.CountLemmas.{counted_none}
use Rattle.pmf_images.proofs.counts.Counts.new.Goals as goal

pub returns-clause-none : goal.returns-clause-none
returns-clause-none c = λ es.
    let lines = c.in_ok-lines.lines.items in
    let zeros : c.in_ok-sums.sums.items ≡ replicate c.in-Some.room 0 = c.in_ok-sums.ensures.items_if_clones_equal (λ y same. same) in
    record {
      few = omega arith;
      each = λ k x deep within. ap (λ sums. over k sums (length lines) x) zeros ∙ counted_none lines c.in-Some.room es k x;
    }
