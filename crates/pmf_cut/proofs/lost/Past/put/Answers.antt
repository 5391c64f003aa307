use Rattle.std.proofs.{Common.{arith, inl, inr}, lemmas.Bool.{cases_lt}}
use Rattle.pmf_event.specs.declared.span.TheConstants.{ADDRESS_LIMIT}
use Rattle.pmf_cut.{specs.declared.lost.Past.{Past}, proofs.LostLemmas.{put-kept, put-new}}
use Rattle.pmf_cut.proofs.lost.Past.put.Goals as goal

pub loop-start-preserved : goal.loop-start-preserved
loop-start-preserved c =
    let old = c.loop-start.self in
    let lies = c.in-Some.ensures.lie in
    let within = lies.within in
    let changes = c.in_ok-change.ensures.ok in
    let new : Past = record { bytes = c.change.new.self; last = old.last } in
    let is = c.loop-start.invariant in (
      within,
      λ b member. put-kept old new _ _ changes b (is.1 b member),
      λ fs m stands b below some. elim (cases_lt b c.in-Some.start) [
        | inl early ↦ elim (cases_lt b c.loop-start.first) [
          | inl before ↦ put-kept old new _ _ changes b (is.2 fs m stands b before some)
          | inr late ↦ let none = (c.in-Some.ensures.stored (λ k. k) fs m stands.shadow).before b late early in absurd (omega arith)
        ]
        | inr here ↦ put-new old new _ _ changes b here below
      ],
      is.3,
    )

pub returns : goal.returns
returns c =
    let is = c.loop-start.invariant in record {
      bytes = λ fs m stands b which. elim which [
        | inl before ↦ is.1 b before
        | inr known ↦ elim (cases_lt b c.loop-start.first) [
          | inl early ↦ is.2 fs m stands b early known
          | inr late ↦ elim (cases_lt b ADDRESS_LIMIT) [
            | inl below ↦ let none = c.in_default.ensures.stored (λ k. k) fs m stands.shadow b late below in absurd (omega arith)
            | inr high ↦ let none = (stands.low b high).0 in absurd (omega arith)
          ]
        ]
      ];
      kept = is.1;
      last = is.3;
    }
