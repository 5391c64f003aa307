use Rattle.std.proofs.Common.{◌≡◌, ◌++◌, take, flat_map, string_bytes}
use Rattle.pmf_verdict.specs.Text.{rows_at}
use Rattle.pmf_query.specs.Explanation.{text_of_bytes, text_of_image}
use Rattle.pmf_query.proofs.explain.image_text.Given as goal

abbrev pub invariant-loop-row : goal.invariant-loop-row
invariant-loop-row l =
    string_bytes l.text ≡ text_of_image l.certificate ++ flat_map (text_of_bytes l.events l.certificate l.place) (rows_at (take l.row-index l.rows) l.place)
