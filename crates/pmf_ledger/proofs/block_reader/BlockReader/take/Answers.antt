use Rattle.std.proofs.{Common.{◌≡◌, ◌+◌, [], rules, subst}, lemmas.List.{nil_from_length}}
use Rattle.pmf_ledger.{specs.Loading.{with_rows}, specs.LoneBlock.{IsLone}, proofs.lemmas.LoneBlockLemmas.{gives_lone, stands_within}}
use Rattle.pmf_ledger.proofs.block_reader.BlockReader.take.Goals as goal

pub returns-then-is_empty-clause-taken : goal.returns-then-is_empty-clause-taken
returns-then-is_empty-clause-taken c = λ text bytes r profile taken is true.
    let none : c.args.self.now.front.items ≡ [] = nil_from_length _ (search rules) in
    let stand = c.take.ensures.taken r taken.line profile bytes taken.lines is true in
    let own = subst (λ p. IsLone p bytes c.args.lone.now) stand.2 is in (
      with_rows r c.args.lone.now.verdict.section [],
      record { line = taken.line + c.args.lone.now.lines; lines = stand.0; within = stands_within r taken.line bytes c.args.lone.now own stand.1 text c.args.self.now.front.items taken.within none },
      gives_lone r bytes c.args.lone.now own,
    )
