use Rattle.std.proofs.Common.{sym, ap, ◌∙◌, refl, arith, List}
use Rattle.pmf_lint.{specs.declared.naming.Named.{Named}, specs.Naming.{is_among, names_in}, proofs.NamingLemmas.{lists_again, lists_new, lists_other}}
use Rattle.pmf_lint.proofs.listing.Listing.take.Goals as goal

pub returns-then-is_among : goal.returns-then-is_among
returns-then-is_among c = λ names lists.
    lists_again c.args.self.now _ names lists c.args.name.now
    (ap (λ (cs : List Named). is_among (names_in cs) c.args.name.now) (sym c.deref.ensures.value) ∙ sym c.is_among.ensures ∙ c.if-is_among.true) c.count_name.ensures refl

pub returns-then-len-lt-LISTED : goal.returns-then-len-lt-LISTED
returns-then-len-lt-LISTED c = λ names lists.
    lists_new c.args.self.now _ names lists c.args.name.now
    (record { name = c.args.name; records = 1 })
    (ap (λ (cs : List Named). is_among (names_in cs) c.args.name.now) (sym c.deref.ensures.value) ∙ sym c.is_among.ensures ∙ c.if-is_among.false) (omega arith) c.in_ok-push.ensures.items refl refl refl

pub returns : goal.returns
returns c = λ names lists.
    lists_other c.args.self.now _ names lists c.args.name.now
    (ap (λ (cs : List Named). is_among (names_in cs) c.args.name.now) (sym c.deref.ensures.value) ∙ sym c.is_among.ensures ∙ c.if-is_among.false) (omega arith) refl refl
