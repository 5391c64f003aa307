use Rattle.std.proofs.Common.{refl, sym, ◌∙◌, ap, Some, None}
use Rattle.pmf_event.{proofs.LeastPairLemmas.{fewer-none, certified-unordered}, specs.declared.finding.Finding.TheVariants.{OrderedFail}, specs.Order.{is_unordered, is_certified, least_pair}}
use Rattle.pmf_shadow.specs.Told.{finding_as_told}
use Rattle.pmf_asserts.proofs.FindingLemmas.{ordered-empty, ordered-empty-second, ordered-found, certified-written}
use Rattle.pmf_asserts.proofs.ordering.check_ordered.Goals as goal

pub returns-then-not-written_included : goal.returns-then-not-written_included
returns-then-not-written_included c = λ told es p stands order.
    ap (finding_as_told told) (ordered-empty es p c.args.profile c.args.a c.args.b (sym (c.written_included.ensures told es p stands) ∙ c.if-not-written_included.true))

pub returns-then-not-written_included-2 : goal.returns-then-not-written_included-2
returns-then-not-written_included-2 c = λ told es p stands order.
    ap (finding_as_told told) (ordered-empty-second es p c.args.profile c.args.a c.args.b (sym (c.written_included.ensures told es p stands) ∙ c.if-not-written_included.false)
    (sym (c.written_included-2.ensures told es p stands) ∙ c.if-not-written_included-2.true))

pub returns-in-None : goal.returns-in-None
returns-in-None c = λ told es p stands order.
    let unordered = sym c.in-None.is ∙ c.least_pair.ensures told es p stands order in
    let certified = fewer-none (is_certified c.args.profile es p) (is_unordered c.args.profile es p) c.args.a c.args.b (certified-unordered c.args.profile es p) (sym unordered) in
    ap (finding_as_told told) (ordered-found es p c.args.profile c.args.a c.args.b None None
    (sym (c.written_included.ensures told es p stands) ∙ c.if-not-written_included.false)
    (sym (c.written_included-2.ensures told es p stands) ∙ c.if-not-written_included-2.false)
    (sym certified) unordered)

pub returns-in-None-least_pair : goal.returns-in-None-least_pair
returns-in-None-least_pair c = λ told es p stands order.
    ap (finding_as_told told) (ordered-found es p c.args.profile c.args.a c.args.b None (Some (c.in-Some.byte, c.in-Some.after))
    (sym (c.written_included.ensures told es p stands) ∙ c.if-not-written_included.false)
    (sym (c.written_included-2.ensures told es p stands) ∙ c.if-not-written_included-2.false)
    (sym c.in-None-least_pair.is ∙ c.least_pair-in-Some.ensures told es p stands order) (sym c.in-Some.is ∙ c.least_pair.ensures told es p stands order))

pub returns-in-Some-least_pair : goal.returns-in-Some-least_pair
returns-in-Some-least_pair c = λ told es p stands order.
    let certified = sym c.in-Some-least_pair.is ∙ c.least_pair-in-Some.ensures told es p stands order in
    let written = certified-written c.args.profile es p c.args.a c.args.b c.in-Some-least_pair.byte c.in-Some-least_pair.after (sym certified) in
    ap (OrderedFail c.in-Some-least_pair.byte c.in-Some-least_pair.after) (c.last_store.ensures.written told es p stands written)
    ∙ ap (finding_as_told told) (ordered-found es p c.args.profile c.args.a c.args.b (Some (c.in-Some-least_pair.byte, c.in-Some-least_pair.after)) (least_pair (is_unordered c.args.profile es p) c.args.a c.args.b)
    (sym (c.written_included.ensures told es p stands) ∙ c.if-not-written_included.false)
    (sym (c.written_included-2.ensures told es p stands) ∙ c.if-not-written_included-2.false)
    certified refl)
