use Rattle.std.proofs.Common.{rules, ◌≡◌, replicate, subst, sym}
use Rattle.pmf_board.{specs.Rule.{Rules}, proofs.lemmas.StepLemmas.{opens}}
use Rattle.pmf_board.proofs.board.Board.new.Goals as goal

pub of_words-requires : goal.of_words-requires
of_words-requires c =
    let words : c.as_slice.result.now ≡ replicate c.args.sections 0 = search rules in
    subst (λ ws. Rules c.args.sections ws _) (sym words) (opens c.args.sections)
