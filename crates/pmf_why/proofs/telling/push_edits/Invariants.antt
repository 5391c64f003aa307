use Rattle.std.proofs.Common.{◌≡◌, ◌++◌, codes, take, flat_map, string_bytes}
use Rattle.pmf_cause.specs.declared.edit.Edit.{Edit}
use Rattle.pmf_why.specs.WhyText.{text_of_edit}
use Rattle.pmf_why.proofs.telling.push_edits.Given as goal

abbrev pub invariant-loop-edit : goal.invariant-loop-edit
invariant-loop-edit l = string_bytes l.text ≡ string_bytes l.initial.text ++ flat_map (λ (e : Edit). text_of_edit l.stands e ++ codes "           ") (take l.edit-index l.edits)
