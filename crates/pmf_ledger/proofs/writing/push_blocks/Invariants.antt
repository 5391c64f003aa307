use Rattle.std.proofs.Common.{◌≡◌, ◌++◌, take, All, flat_map, string_bytes}
use Rattle.pmf_ledger.specs.LedgerText.{IsSpelled, text_of_block}
use Rattle.pmf_ledger.proofs.writing.push_blocks.Given as goal

abbrev pub invariant-loop-verdict : goal.invariant-loop-verdict
invariant-loop-verdict l = record {
  text : string_bytes l.text ≡ string_bytes l.initial.text ++ flat_map text_of_block (take l.verdict-index l.verdicts);
  spelled : All IsSpelled (take l.verdict-index l.verdicts);
}
