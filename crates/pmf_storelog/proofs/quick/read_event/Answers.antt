use Rattle.std.proofs.Common.{rules, arith, sym, ap, ◌∙◌, codes}
use Rattle.pmf_event.specs.declared.event.Event.TheVariants.{Store, Flush, Persist, TxAdd}
use Rattle.pmf_storelog.{specs.declared.record.Saying.TheVariants.{Happens}, specs.Records.{event_over, order_of_fields, saying_of, span_of_fields, stored_span, transaction_of}, proofs.QuickLemmas.{begins_with, event_found, fence_found}}
use Rattle.pmf_storelog.proofs.quick.read_event.Goals as goal

pub returns-then-starts_with : goal.returns-then-starts_with
unfolding saying_of transaction_of
returns-then-starts_with c =
    event_found (codes "STORE") c.args.text.now stored_span c.in_ok-span.span c.in_ok-span.len (Store c.in_ok-span.span) (omega arith) (search rules) (search rules)
    (sym c.starts_with.ensures.value ∙ c.if-starts_with.true) c.in_ok-span.ensures (λ fields spells. ap (event_over Store) spells)

pub returns-then-starts_with-2 : goal.returns-then-starts_with-2
unfolding saying_of transaction_of
returns-then-starts_with-2 c =
    event_found (codes "FLUSH") c.args.text.now span_of_fields c.in_ok-span-2.span c.in_ok-span-2.len (Flush c.in_ok-span-2.span) (omega arith) (search rules) (search rules)
    (sym c.starts_with-2.ensures.value ∙ c.if-starts_with-2.true) c.in_ok-span-2.ensures (λ fields spells. ap (event_over Flush) spells)

pub returns-then-starts_with-3 : goal.returns-then-starts_with-3
returns-then-starts_with-3 c = fence_found c.args.text.now _ (begins_with c.args.text.now (codes "FENCE") (sym c.starts_with-3.ensures.value ∙ c.if-starts_with-3.true))

pub returns-then-starts_with-4 : goal.returns-then-starts_with-4
unfolding saying_of transaction_of
returns-then-starts_with-4 c =
    event_found (codes "PMT.PERSIST") c.args.text.now span_of_fields c.in_ok-span-3.span c.in_ok-span-3.len (Persist c.in_ok-span-3.span) (omega arith) (search rules) (search rules)
    (sym c.starts_with-4.ensures.value ∙ c.if-starts_with-4.true) c.in_ok-span-3.ensures (λ fields spells. ap (event_over Persist) spells)

pub returns-then-starts_with-5 : goal.returns-then-starts_with-5
unfolding saying_of transaction_of
returns-then-starts_with-5 c =
    event_found (codes "PMT.ORDERED") c.args.text.now order_of_fields (Happens c.in_ok-event.event) c.in_ok-event.len c.in_ok-event.event (omega arith) (search rules) (search rules)
    (sym c.starts_with-5.ensures.value ∙ c.if-starts_with-5.true) c.in_ok-event.ensures (λ fields spells. spells)

pub returns-then-starts_with-6 : goal.returns-then-starts_with-6
unfolding saying_of transaction_of
returns-then-starts_with-6 c =
    event_found (codes "PMT.TXADD") c.args.text.now span_of_fields c.in_ok-span-4.span c.in_ok-span-4.len (TxAdd c.in_ok-span-4.span) (omega arith) (search rules) (search rules)
    (sym c.starts_with-6.ensures.value ∙ c.if-starts_with-6.true) c.in_ok-span-4.ensures (λ fields spells. ap (event_over TxAdd) spells)
