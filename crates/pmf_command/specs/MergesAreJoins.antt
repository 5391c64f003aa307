-- What a merge writes is what a join writes. Defined here.
use Rattle.std.specs.Prelude.{◌≡◌, ℕ, List}
use Rattle.pmf_ledger.specs.declared.{form.Form.{Form}, totals.Totals.{Totals}}
use Rattle.pmf_stream.specs.{declared.joining.Joined.{Joined}, Joining.{IsJoinedText}}
use Rattle.pmf_merge.specs.Merging.{IsMergedText}

-- of texts that are joined, a merge writes the same
unfoldable pub MergesAreJoins : Type 0
MergesAreJoins =
    (form : Form) (texts : List (List ℕ)) (totals : Totals) (joined : Joined) (merged text : List ℕ) → IsMergedText form texts totals merged →
    IsJoinedText form texts joined text → merged ≡ text
