use Rattle.std.proofs.Common.{◌≡◌, ℕ, ◌+◌, ◌-◌, [], slice_index_or, ap, sym, ◌∙◌, arith}
use Rattle.pmf_storelog.specs.Records.{fields_of}
use Rattle.pmf_query.proofs.fields.field.Goals as goal

pub returns-in_default : goal.returns-in_default
returns-in_default c =
    let left : ℕ = c.args.index - c.loop.counter - 1 in
    let there : c.loop.counter + (left + 1) ≡ c.args.index = omega (arith, c.loop-test.true) in
    sym (ap (λ (n : ℕ). slice_index_or (fields_of c.args.text.now) n []) (sym there) ∙ c.loop.invariant (left + 1) ∙ c.in_default.ensures left)

pub loop-preserved : goal.loop-preserved
loop-preserved c = λ k.
    let there : c.loop.counter + 1 + k ≡ c.loop.counter + (k + 1) = omega arith in
    ap (λ (n : ℕ). slice_index_or (fields_of c.args.text.now) n []) there ∙ c.loop.invariant (k + 1) ∙ c.in-Some.ensures k
