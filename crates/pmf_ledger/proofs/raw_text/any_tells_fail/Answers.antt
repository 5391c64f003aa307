use Rattle.std.proofs.Common.{◌≡◌, ◌-◌, ◌+◌, ◌||◌, true, false, Some, None, drop, take, sym, ◌∙◌, ap, subst, arith}
use Rattle.std.specs.List.{list_any}
use Rattle.memchr.specs.Find.{IsFirstByte, is_byte}
use Rattle.pmf_ledger.{specs.Loading.{lines_of}, specs.RawText.{tells_fail_in}, proofs.lemmas.LinesLemmas.{lines_none}, proofs.lemmas.RawTextLemmas.{fails_more, in_rest, line_within}}
use Rattle.pmf_ledger.proofs.raw_text.any_tells_fail.Goals as goal

pub returns-then-tells_fail_in : goal.returns-then-tells_fail_in
returns-then-tells_fail_in c =
    let rows = c.args.rows.now in let at = c.loop-length.at in let k = c.in-Some.length in
    let found = in_rest rows at (Some k) c.loop-length.invariant.0 (subst (IsFirstByte (is_byte 10) _) c.in-Some.is c.memchr.ensures) in
    let count : k ≡ at + k - at = omega arith in
    let here : tells_fail_in (take k (drop at rows)) ≡ true = ap (λ n. tells_fail_in (take n (drop at rows))) count ∙ sym c.tells_fail_in.ensures ∙ c.if-tells_fail_in.true in
    sym (c.loop-length.invariant.1 ∙ fails_more rows at k found ∙ ap (λ b. b || list_any tells_fail_in (lines_of (drop (at + (k + 1)) rows))) here)

pub loop-length-preserved : goal.loop-length-preserved
loop-length-preserved c =
    let rows = c.args.rows.now in let at = c.loop-length.at in let k = c.in-Some.length in let within = c.loop-length.invariant.0 in
    let found = in_rest rows at (Some k) within (subst (IsFirstByte (is_byte 10) _) c.in-Some.is c.memchr.ensures) in
    let count : k ≡ at + k - at = omega arith in let more = line_within rows at k within found in
    let here : tells_fail_in (take k (drop at rows)) ≡ false = ap (λ n. tells_fail_in (take n (drop at rows))) count ∙ sym c.tells_fail_in.ensures ∙ c.if-tells_fail_in.false in
    (omega (arith, more), c.loop-length.invariant.1 ∙ fails_more rows at k found ∙ ap (λ b. b || list_any tells_fail_in (lines_of (drop (at + (k + 1)) rows))) here)

pub returns : goal.returns
returns c =
    let rows = c.args.rows.now in let at = c.loop-length.at in
    let none = in_rest rows at None c.loop-length.invariant.0 (subst (IsFirstByte (is_byte 10) _) c.in_default.is c.memchr.ensures) in
    sym (c.loop-length.invariant.1 ∙ ap (list_any tells_fail_in) (lines_none (drop at rows) none))
