use Rattle.std.proofs.Common.{◌≡◌, ◌<◌, ◌^◌, drop}
use Rattle.pmf_storelog.proofs.NumberLemmas.{numeral_from}
use Rattle.pmf_storelog.proofs.number.read_numeral.Given as goal

abbrev pub invariant-loop-byte : goal.invariant-loop-byte
invariant-loop-byte l = (l.value < 2 ^ 64) × (numeral_from l.radix l.value (drop l.byte-index l.text) ≡ numeral_from l.radix 0 l.text)
