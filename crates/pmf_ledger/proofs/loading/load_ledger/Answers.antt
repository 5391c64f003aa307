use Rattle.std.proofs.Common.{take, drop, ◌+◌, sym, ◌∙◌, subst, rules, arith, IfErr}
use Rattle.memchr.specs.Find.{IsFirstByte, is_byte}
use Rattle.pmf_ledger.{specs.Following.{Reaches}, specs.Loading.{IsWantOfMemory, LineTakesMemory, after_line}, proofs.lemmas.LinesLemmas.{IsAt, IsAt-start, IsAt-next, refused-long, refused-at, wants-at, loads-at, refused-end, wants-some}}
use Rattle.pmf_ledger.proofs.loading.load_ledger.Goals as goal

pub returns-then-text-gt-LEDGER_LIMIT-clause-loads : goal.returns-then-text-gt-LEDGER_LIMIT-clause-loads
returns-then-text-gt-LEDGER_LIMIT-clause-loads c = search (rules, refused-long)

pub loop-end-init : goal.loop-end-init
loop-end-init c = search (rules, IsAt-start)

pub loop-end-preserved : goal.loop-end-preserved
loop-end-preserved c =
    let r = c.loop-end.invariant.0 in let stands = c.loop-end.invariant.1 in let found = subst (IsFirstByte (is_byte 10) c.loop-end.rest.now) c.in-Some.is c.memchr.ensures in
    let step = IsAt-next c.args.text.now c.loop-end.rest.now c.loop-end.line c.in-Some.end r c.loop-end.invariant.2 found.0.high found in
    let goes = subst (λ result. Reaches (after_line r c.loop-end.line (take c.in-Some.end c.loop-end.rest.now)) result c.follow.new.self) c.in-Ok.is (c.follow.ensures.reaches r stands) in
    (after_line r c.loop-end.line (take c.in-Some.end c.loop-end.rest.now), goes, subst (λ rest. IsAt c.args.text.now rest (c.loop-end.line + 1) (after_line r c.loop-end.line (take c.in-Some.end c.loop-end.rest.now))) (sym c.split_at.ensures.back) step)

pub returns-in-Err-clause-loads : goal.returns-in-Err-clause-loads
returns-in-Err-clause-loads c = λ of_text.
    let r = c.loop-end.invariant.0 in let stands = c.loop-end.invariant.1 in let found = subst (IsFirstByte (is_byte 10) c.loop-end.rest.now) c.in-Some.is c.memchr.ensures in
    let step = IsAt-next c.args.text.now c.loop-end.rest.now c.loop-end.line c.in-Some.end r c.loop-end.invariant.2 found.0.high found in
    let goes = subst (λ result. Reaches (after_line r c.loop-end.line (take c.in-Some.end c.loop-end.rest.now)) result c.follow.new.self) c.in-Err.is (c.follow.ensures.reaches r stands) in
    refused-at c.args.text.now (drop (c.in-Some.end + 1) c.loop-end.rest.now) (c.loop-end.line + 1) (after_line r c.loop-end.line (take c.in-Some.end c.loop-end.rest.now)) step c.in-Err.fault (goes of_text)

pub returns-in-Err-clause-memory : goal.returns-in-Err-clause-memory
returns-in-Err-clause-memory c =
    let text = c.args.text.now in let rest = c.loop-end.rest.now in let line = c.loop-end.line in let end = c.in-Some.end in
    let r = c.loop-end.invariant.0 in let stands = c.loop-end.invariant.1 in let here = c.loop-end.invariant.2 in
    let few = here.few in let out = c.if-text-gt-LEDGER_LIMIT.false in
    let takes =
    subst (λ result. IfErr result (λ found. IsWantOfMemory found → LineTakesMemory r.stage (take end rest))) c.in-Err.is (c.follow.ensures.memory r stands (omega (arith, few))) in
    λ wants. wants-at text rest line end r _ here stands.0 (subst (IsFirstByte (is_byte 10) rest) c.in-Some.is c.memchr.ensures) (omega (arith, out)) (takes wants)

pub returns-clause-loads : goal.returns-clause-loads
returns-clause-loads c =
    let none = subst (IsFirstByte (is_byte 10) c.loop-end.rest.now) c.in_default.is c.memchr.ensures in let r = c.loop-end.invariant.0 in let stands = c.loop-end.invariant.1 in
    loads-at c.args.text.now c.loop-end.rest.now c.loop-end.line r c.loop-end.invariant.2 none
    c.loop-end.blocks c.loop-end.next stands (sym c.is_over.ensures ∙ c.if-not-is_over.false) c.in-Ok-into_ledger.ledger (c.in-Ok-into_ledger.ensures.ledger r.profile r.blocks stands.0.pile)

pub returns-then-not-is_over-clause-loads : goal.returns-then-not-is_over-clause-loads
returns-then-not-is_over-clause-loads c = λ of_text.
    let none = subst (IsFirstByte (is_byte 10) c.loop-end.rest.now) c.in_default.is c.memchr.ensures in
    refused-end c.args.text.now c.loop-end.rest.now c.loop-end.line c.loop-end.invariant.0 c.loop-end.invariant.2 none
    c.loop-end.blocks c.loop-end.next c.loop-end.invariant.1 (sym c.is_over.ensures ∙ c.if-not-is_over.true)

pub returns-in_default-into_ledger-clause-memory : goal.returns-in_default-into_ledger-clause-memory
returns-in_default-into_ledger-clause-memory c = λ wants.
    let none = subst (IsFirstByte (is_byte 10) c.loop-end.rest.now) c.in_default.is c.memchr.ensures in let r = c.loop-end.invariant.0 in let stands = c.loop-end.invariant.1 in
    let out = c.if-text-gt-LEDGER_LIMIT.false in
    wants-some c.args.text.now c.loop-end.rest.now c.loop-end.line r c.loop-end.invariant.2 none (omega (arith, out)) (c.in_default-into_ledger.ensures.some r.profile r.blocks stands.0.pile)
