use Rattle.std.proofs.Common.{Some, None, subst, arith}
use Rattle.memchr.specs.Find.{IsFirstByte, is_byte}
use Rattle.pmf_ledger.proofs.lemmas.RawTextLemmas.{in_rest, lines_next, lines_over, no_lines}
use Rattle.pmf_ledger.proofs.raw_text.first_lines.Goals as goal

pub loop-init : goal.loop-init
loop-init c = no_lines c.args.bytes.now

pub returns-in_err-taken : goal.returns-in_err-taken
returns-in_err-taken c =
    let bytes = c.args.bytes.now in let first = c.loop.invariant in
    let none = in_rest bytes c.loop.taken None first.within (subst (IsFirstByte (is_byte 10) _) c.in_err-taken.was c.memchr.ensures) in
    let all = lines_over bytes c.loop.counter c.loop.taken first none in let less = c.loop-test.true in
    rw c.from_residual.ensures (omega (arith, all, less))

pub loop-preserved : goal.loop-preserved
loop-preserved c =
    let bytes = c.args.bytes.now in let first = c.loop.invariant in let k = c.in_ok-taken.field-0 in
    lines_next bytes c.loop.counter c.loop.taken k first (in_rest bytes c.loop.taken (Some k) first.within (subst (IsFirstByte (is_byte 10) _) c.in_ok-taken.was c.memchr.ensures))
