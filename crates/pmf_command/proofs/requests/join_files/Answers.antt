use Rattle.std.proofs.Common.{inl, inr, arith, subst}
use Rattle.pmf_command.specs.Answered.{JoinsNamed, form_of}
use Rattle.pmf_command.proofs.requests.join_files.Goals as goal

pub returns-in-Err : goal.returns-in-Err
returns-in-Err g c = inl c.in-Err.ensures.unread

pub returns-then-len-gt-LEDGER_LIMIT : goal.returns-then-len-gt-LEDGER_LIMIT
returns-then-len-gt-LEDGER_LIMIT g c =
    inr (c.in-Ok.list.items, c.in-Ok.ensures.read, inl ((λ can. let fits = can.fits in let long = c.if-len-gt-LEDGER_LIMIT.true in omega (arith, fits, long)), c.refused.ensures))

pub returns-in-Ok-Some : goal.returns-in-Ok-Some
returns-in-Ok-Some g c =
    let made = rw (c.in-Ok-Some.field-0-is, c.deref.ensures.value, c.deref-2.ensures.value) at c.in-Ok-Some.ensures in
    let joined = rw (c.deref-in-Ok-Some.ensures.value, c.form_of-form.ensures) at c.join_named.ensures in
    let named = subst (λ names. JoinsNamed c.args.files.now.joining (form_of c.args.files.now.wanted) names (g.F.Shelf.bytes c.args.shelf.now) (g.W.Sink.held c.args.sink.now) (g.W.Sink.held c.join_named.new.sink) c.join_named.result) made.1 joined in
    inr (c.in-Ok.list.items, c.in-Ok.ensures.read, inr (record { fits = omega (arith, c.if-len-gt-LEDGER_LIMIT.false); texts = made.0 }, named))

pub returns-in-Ok-None : goal.returns-in-Ok-None
returns-in-Ok-None g c =
    let made = rw (c.in-Ok-None.field-0-is, c.deref-2.ensures.value) at c.in-Ok-None.ensures in
    inr (c.in-Ok.list.items, c.in-Ok.ensures.read, inl ((λ can. made can.texts), c.refused-in-Ok-None.ensures))

pub returns : goal.returns
returns g c = inl (inl c.exhausted.ensures)
