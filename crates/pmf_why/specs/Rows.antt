-- What the structs of this crate stand for. Defined here.
use Rattle.pmf_why.specs.{declared.row.Taken.{Taken}, declared.row.BadRow.{BadRow}, Reasons.{Bad, Part}}

-- the section that is told of
abbrev pub part_of : Taken → Part
part_of taken = record { checked = taken.verdict.now; stands = taken.stands.now; plan = taken.plan.now.edits.items }

-- the row
abbrev pub bad_of : BadRow → Bad
bad_of bad = record { part = part_of bad.taken; row = bad.row; cause = bad.cause }
