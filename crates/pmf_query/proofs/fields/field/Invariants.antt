use Rattle.std.proofs.Common.{◌≡◌, ℕ, ◌+◌, [], slice_index_or}
use Rattle.pmf_storelog.specs.Records.{fields_of}
use Rattle.pmf_query.proofs.fields.field.Given as goal

abbrev pub invariant-loop : goal.invariant-loop
invariant-loop l = (k : ℕ) → slice_index_or (fields_of l.text) (l.counter + k) [] ≡ slice_index_or (fields_of l.rest) k []
