use Rattle.std.proofs.Common.{◌≡◌, ◌++◌, take, flat_map, string_bytes}
use Rattle.pmf_query.specs.Ascii.{shown_byte}
use Rattle.pmf_query.proofs.ascii.push_bytes.Given as goal

abbrev pub invariant-loop-byte : goal.invariant-loop-byte
invariant-loop-byte l = string_bytes l.text ≡ string_bytes l.initial.text ++ flat_map (λ b. shown_byte b) (take l.byte-index l.bytes)
