use Rattle.std.proofs.Common.{◌≡◌, [], take, string_bytes}
use Rattle.pmf_ledger.specs.{declared.form.Form.TheVariants.{Summary}, Telling.{HasTold, parts_after}}
use Rattle.pmf_ledger.proofs.ledger.Ledger.summary.Given as goal

abbrev pub invariant-loop-verdict : goal.invariant-loop-verdict
invariant-loop-verdict l = record {
  text : string_bytes l.text ≡ parts_after Summary [] (take l.verdict-index l.verdict-items);
  told : HasTold Summary (take l.verdict-index l.verdict-items) l.teller;
}
