use Rattle.std.proofs.{Common.{◌∷◌, [], ◌++◌, sym, ◌∙◌, ap, bytes_eq, arith}, lemmas.Bool.Decides.{Decides-eqb}, lemmas.Slice.Eq.{strip_suffix_is}, lemmas.Grind.{common_steps}}
use Rattle.pmf_ledger.proofs.lemmas.ReadingLemmas.{ended-same, ended-other}
use Rattle.pmf_ledger.proofs.blocks.is_line.Goals as goal

pub returns-in-Some : goal.returns-in-Some
returns-in-Some c =
    let whole = strip_suffix_is Decides-eqb c.args.spelled.now c.as_slice.result.now (Rattle.std.specs.Prelude.Some c.in-Some.line) c.in-Some.ensures.cases in
    c.eq.ensures ∙ ended-same c.args.text.now c.in-Some.line.now ∙ ap (bytes_eq (c.args.text.now ++ 10 ∷ [])) (sym (whole ∙ ap (λ xs. c.in-Some.line.now ++ xs) c.as_slice.ensures))

pub returns-in-None : goal.returns-in-None
returns-in-None c = grind (arith, common_steps, strip_suffix_is, Decides-eqb, ended-other)
