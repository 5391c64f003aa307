use Rattle.std.proofs.{Common.{◌∙◌, arith}, lemmas.Grind.{common_steps}}
use Rattle.pmf_images.{specs.Sums.{lies_in}, proofs.SumsLemmas.{raised}}
use Rattle.pmf_images.proofs.sums.+raise.Goals as goal

pub returns-then-first-end-clause-raised : goal.returns-then-first-end-clause-raised
unfolding lies_in
returns-then-first-end-clause-raised t c = λ k x deep low. grind (arith, common_steps)

pub returns-clause-raised : goal.returns-clause-raised
returns-clause-raised t c =
    let cut = c.split_at_mut-level.ensures in
    raised c.args.first c.args.end c.args.width c.args.sums.now _ _ c.raise_if.new.level c.raise_if-2.new.level c.raise.new.sums cut.front cut.back
    c.if-first-end.false c.requires.within (c.raise_if-2.ensures.long ∙ c.raise_if.ensures.long ∙ cut.front_len) c.raise_if.ensures.raised c.raise_if-2.ensures.raised c.raise.ensures.raised
