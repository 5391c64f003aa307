use Rattle.std.proofs.{Common.{◌≡◌, None, Some, sym, ◌∙◌, subst}, lemmas.Bool.{true≢false}}
use Rattle.pmf_ledger.{specs.BlockReading.{without_blocks}, specs.Following.{IsNext}, proofs.lemmas.BlockReadingLemmas.{after-behind, after-end, block_next}, proofs.block_lines.BlockLines.end_told.Goals.{in-Block, in_default}}
use Rattle.pmf_ledger.proofs.block_lines.BlockLines.end_told.Goals as goal

pub returns-then-not-matches : goal.returns-then-not-matches
returns-then-not-matches c = λ r line are. after-behind r line c.args.text.now (λ here _. elim c.match-matches.branch [
  | in-Block w ↦ absurd (true≢false (sym w.matches-is ∙ c.if-not-matches.true))
  | in_default w ↦ absurd (w.in_default.not-Block (block_next (without_blocks r) c.args.self.now.next are.stands.1 here))
])

pub returns-in_err-told : goal.returns-in_err-told
returns-in_err-told c = λ r line are. rw c.from_residual.ensures (after-behind r line c.args.text.now (λ _ _. sym c.read_end.ensures ∙ c.in_err-told.was))

pub returns-in-Some : goal.returns-in-Some
returns-in-Some c = λ r line are. after-behind r line c.args.text.now (λ _ none. let wrong : None ≡ Some c.in-Some.field-0 = sym none ∙ sym c.read_head.ensures ∙ c.in-Some.is in cc)

pub returns-in-None : goal.returns-in-None
returns-in-None c = λ r line are. elim c.match-matches.branch [
  | in-Block w ↦
      let here = subst (IsNext (without_blocks r)) w.in-Block.is are.stands.1 in
      after-end r line c.in_ok-told.told c.args.text.now here (sym c.read_head.ensures ∙ c.in-None.is) (sym c.read_end.ensures ∙ c.in_ok-told.was)
  | in_default w ↦ absurd (true≢false (sym c.if-not-matches.false ∙ w.matches-is))
]
