-- What is kept of a row's kind. Defined here.
use Rattle.std.specs.Prelude.{◌≡◌, Bool, ◌&&◌, ◌==◌, bytes_eq}
use Rattle.pmf_why.specs.{declared.kind.Kind.{Kind}, Reasons.{Bad, cause_number, distance_told, finding_number, frame_of}}

-- the kind is that of the row
pub record IsKindOf (bad : Bad) (kind : Kind) : Type 0 where
  pub finding : kind.finding ≡ finding_number bad.row.finding
  pub cause : kind.cause ≡ cause_number bad.cause
  pub distance : kind.distance ≡ distance_told bad
  pub frame : kind.frame.now ≡ frame_of bad

-- whether two kinds are one
abbrev pub is_one_kind : Kind → Kind → Bool
is_one_kind a b = (a.finding == b.finding) && (a.cause == b.cause) && (a.distance == b.distance) && bytes_eq a.frame.now b.frame.now
