use Rattle.std.proofs.Common.{◌≡◌, ◌∙◌, ◌+◌, ◌-◌, ◌<◌, ◌≤◌, List, ℕ, sym, ap, subst, take, drop, length, arith}
use Rattle.memchr.specs.Find.{IsFirstByte, is_byte}
use Rattle.pmf_ledger.{specs.Loading.{lines_of}, specs.RawText.{IsFirstLines}, proofs.lemmas.RawTextLemmas.{block_whole, block_within, head_within, not_eventless, not_headless, not_rowless, not_unended, rows_here}, proofs.lemmas.TextFrontLemmas.{rest_is}}
use Rattle.pmf_ledger.proofs.raw_text.first_block.Goals as goal

-- the rest of the rest of some bytes
rest_of_rest : (bytes : List ℕ) (n m : ℕ) → n ≤ length bytes → m ≤ length (drop n bytes) →
    take (length (take (length bytes - n) (drop n bytes)) - m) (drop m (take (length bytes - n) (drop n bytes))) ≡ drop m (drop n bytes)
rest_of_rest bytes n m first second = ap (λ (xs : List ℕ). take (length xs - m) (drop m xs)) (rest_is bytes n first) ∙ rest_is (drop n bytes) m second

pub returns-in_err-end : goal.returns-in_err-end
returns-in_err-end c =
    rw c.from_residual.ensures (λ block rest whole is. not_unended block rest c.args.bytes.now whole is (subst (IsFirstByte (is_byte 10) c.args.bytes.now) c.in_err-end.was c.memchr.ensures))

pub returns-in_err-head : goal.returns-in_err-head
returns-in_err-head c =
    let found = subst (IsFirstByte (is_byte 10) c.args.bytes.now) c.in_ok-end.was c.memchr.ensures in
    rw c.from_residual-in_err-head.ensures (λ block rest whole is. not_headless block rest c.args.bytes.now whole is c.in_ok-end.end found (sym c.read_head.ensures ∙ c.in_err-head.was))

pub returns-in_err-events : goal.returns-in_err-events
returns-in_err-events c =
    let bytes = c.args.bytes.now in let k = c.in_ok-end.end in
    let found = subst (IsFirstByte (is_byte 10) bytes) c.in_ok-end.was c.memchr.ensures in
    let few = subst (λ xs. length (lines_of xs) < c.in_ok-head.head.events) (rest_is bytes (k + 1) (head_within bytes k found)) (c.in_err-events.ensures) in
    rw c.from_residual-in_err-events.ensures (λ block rest whole is. not_eventless block rest bytes whole is k found c.in_ok-head.head (sym c.read_head.ensures ∙ c.in_ok-head.was) few)

pub returns-in_err-rows : goal.returns-in_err-rows
returns-in_err-rows c =
    let bytes = c.args.bytes.now in let k = c.in_ok-end.end in let head = c.in_ok-head.head in let events = c.in_ok-events.events in
    let found = subst (IsFirstByte (is_byte 10) bytes) c.in_ok-end.was c.memchr.ensures in
    let first = subst (λ xs. IsFirstLines xs head.events events) (rest_is bytes (k + 1) (head_within bytes k found)) c.in_ok-events.ensures in
    let few = subst (λ xs. length (lines_of xs) < head.rows) (rest_of_rest bytes (k + 1) events (head_within bytes k found) first.within) (c.in_err-rows.ensures) in
    rw c.from_residual-in_err-rows.ensures (λ block rest whole is. not_rowless block rest bytes whole is k found head (sym c.read_head.ensures ∙ c.in_ok-head.was) events first few)

pub returns : goal.returns
returns c =
    let bytes = c.args.bytes.now in let k = c.in_ok-end.end in let head = c.in_ok-head.head in let events = c.in_ok-events.events in
    let found = subst (IsFirstByte (is_byte 10) bytes) c.in_ok-end.was c.memchr.ensures in
    let first = subst (λ xs. IsFirstLines xs head.events events) (rest_is bytes (k + 1) (head_within bytes k found)) c.in_ok-events.ensures in
    let second = subst (λ xs. IsFirstLines xs head.rows c.in_ok-rows.rows) (rest_of_rest bytes (k + 1) events (head_within bytes k found) first.within) c.in_ok-rows.ensures in
    let rows = c.in_ok-rows.rows in
    let is_head = sym c.read_head.ensures ∙ c.in_ok-head.was in
    (block_within bytes k events rows head found is_head first second, block_whole bytes k events rows head found is_head first second, (omega arith, rows_here bytes k events rows head found is_head first second))
