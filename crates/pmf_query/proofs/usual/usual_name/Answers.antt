use Rattle.std.proofs.{Common.{rules, arith, refl, sym, ◌∙◌, codes}, lemmas.Slice.Eq.{bytes_eq-Decides}}
use Rattle.pmf_storelog.specs.Records.{saying_of, span_of_fields, stored_span, transaction_of}
use Rattle.pmf_query.proofs.UsualLemmas.{known_event, usual_alone, usual_more}
use Rattle.pmf_query.proofs.usual.usual_name.Goals as goal

pub returns-then-starts_with : goal.returns-then-starts_with
unfolding saying_of transaction_of
returns-then-starts_with c =
    usual_more (codes "STORE") 0 refl (omega arith) (λ fields. known_event _ (stored_span fields)) refl refl refl refl c.args.text.now (search rules) (sym c.starts_with.ensures.value ∙ c.if-starts_with.true)

pub returns-then-starts_with-2 : goal.returns-then-starts_with-2
unfolding saying_of transaction_of
returns-then-starts_with-2 c =
    usual_more (codes "FLUSH") 1 refl (omega arith) (λ fields. known_event _ (span_of_fields fields)) refl refl refl refl c.args.text.now (search rules) (sym c.starts_with-2.ensures.value ∙ c.if-starts_with-2.true)

pub returns-then-starts_with-3 : goal.returns-then-starts_with-3
unfolding saying_of transaction_of
returns-then-starts_with-3 c =
    usual_more (codes "PMT.TXADD") 8 refl (omega arith) (λ fields. known_event _ (span_of_fields fields)) refl refl refl refl c.args.text.now (search rules) (sym c.starts_with-3.ensures.value ∙ c.if-starts_with-3.true)

pub returns-then-eq : goal.returns-then-eq
unfolding saying_of
returns-then-eq c = usual_alone (codes "FENCE") 2 refl (omega arith) (λ fields. refl) refl refl refl refl c.args.text.now (search rules)
    ((bytes_eq-Decides c.args.text.now c.as_slice.result.now).0 (sym c.if-eq.ensures) ∙ c.as_slice.ensures)
