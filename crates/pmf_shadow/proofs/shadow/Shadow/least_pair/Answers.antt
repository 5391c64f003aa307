use Rattle.std.proofs.Common.{true, false, sym, ◌∙◌, ap}
use Rattle.pmf_event.{proofs.LeastPairLemmas.{least_pair-same}, specs.declared.profile.Profile.TheVariants.{Two}, specs.Order.{is_unordered, is_certified, least_pair}}
use Rattle.pmf_shadow.{specs.Pairs.{by_epochs, by_lines, kept, pairs_of}, proofs.UnorderedLemmas.{epochs-is, unordered-two-is, certified-is}}
use Rattle.pmf_shadow.proofs.shadow.Shadow.least_pair.Goals as goal

pub returns-in-true-default : goal.returns-in-true-default
returns-in-true-default c = λ told es p stands order.
    c.least_by_lines.ensures told es p stands order
    ∙ sym (ap (λ s. least_pair (pairs_of s c.args.profile es p) c.args.a c.args.b) c.in-true-default.is-0
    ∙ least_pair-same (is_certified c.args.profile es p) (by_lines false (kept c.args.self.now.bytes)) c.args.a c.args.b (certified-is c.args.self.now told es p stands order c.args.profile))

pub returns-in-false-One : goal.returns-in-false-One
returns-in-false-One c = λ told es p stands order.
    c.least_by_epochs.ensures
    ∙ sym (ap (λ s. least_pair (pairs_of s c.args.profile es p) c.args.a c.args.b) c.in-false-One.is-0
    ∙ ap (λ q. least_pair (is_unordered q es p) c.args.a c.args.b) c.in-false-One.is-1
    ∙ least_pair-same _ (by_epochs (kept c.args.self.now.bytes)) c.args.a c.args.b (epochs-is c.args.self.now told es p stands))

pub returns-in-false-Two : goal.returns-in-false-Two
returns-in-false-Two c = λ told es p stands order.
    c.least_by_lines-in-false-Two.ensures told es p stands order
    ∙ sym (ap (λ s. least_pair (pairs_of s c.args.profile es p) c.args.a c.args.b) c.in-false-Two.is-0
    ∙ ap (λ q. least_pair (is_unordered q es p) c.args.a c.args.b) c.in-false-Two.is-1
    ∙ least_pair-same (is_unordered Two es p) (by_lines true (kept c.args.self.now.bytes)) c.args.a c.args.b (unordered-two-is c.args.self.now told es p stands order))
