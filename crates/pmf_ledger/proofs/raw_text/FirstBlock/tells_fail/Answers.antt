use Rattle.std.proofs.{Common.{◌≡◌, ◌-◌, ◌+◌, inl, inr, drop, take, sym, ◌∙◌, ap, arith}, lemmas.List.{drop-take}}
use Rattle.std.specs.List.{list_any}
use Rattle.pmf_ledger.{specs.Loading.{lines_of}, specs.RawText.{tells_fail, tells_fail_in}}
use Rattle.pmf_ledger.proofs.raw_text.FirstBlock.tells_fail.Goals as goal

pub returns-in-Some : goal.returns-in-Some
unfolding tells_fail
returns-in-Some c = λ first.
    let bytes = c.args.bytes.now in let rows = c.args.self.now.rows in let taken = c.args.self.now.taken in
    let sum : taken ≡ rows + (taken - rows) = omega (arith, first.2.0) in
    let behind : drop rows (take taken bytes) ≡ take (taken - rows) (drop rows bytes) = ap (λ n. drop rows (take n bytes)) sum ∙ drop-take rows (taken - rows) bytes in
    c.any_tells_fail.ensures ∙ ap (λ xs. list_any tells_fail_in (lines_of xs)) (c.in-Some.ensures.lookup.0.2 ∙ sym behind) ∙ sym (ap (list_any tells_fail_in) first.2.1)

pub returns-in-None : goal.returns-in-None
returns-in-None c = λ first. elim c.in-None.ensures.lookup.0 [
  | inl less ↦ absurd (omega (arith, less, first.2.0))
  | inr less ↦ absurd (omega (arith, less, first.0))
]
