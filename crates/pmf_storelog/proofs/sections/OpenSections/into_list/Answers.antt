use Rattle.std.proofs.{Common.{length, map, ap, arith}, lemmas.List.{length-map}}
use Rattle.pmf_storelog.proofs.SectionLemmas.{listed_ok}
use Rattle.pmf_storelog.proofs.sections.OpenSections.into_list.Goals as goal

pub in_order-requires : goal.in_order-requires
in_order-requires c = λ number place is.
    omega (arith, c.args.self.inside number place is, ap length c.in_ok-shared.ensures, length-map c.in_ok-shared.shared.items (λ a. a.value), ap length c.deref.ensures.value)

pub returns : goal.returns
returns c = λ run numbers events current has.
    listed_ok (λ list. map (λ a. a.value) list.items) c.in_order.result run numbers events current c.args.self has _ c.in_ok-shared.ensures
    (rw (← c.deref.ensures.value) c.in_order.ensures.listed)
