-- The blocks that stand whole in a piece, read before their turn. Defined here.
use Rattle.std.specs.Prelude.{◌≡◌, ◌-◌, ◌≤◌, ℕ, List, drop, length, take, All, Some}
use Rattle.pmf_event.specs.declared.profile.Profile.{Profile}
use Rattle.pmf_ledger.specs.{declared.lone_block.LoneBlock.{LoneBlock}, LoneBlock.{IsLone}}
use Rattle.pmf_merge.specs.declared.ahead.{Ahead.{Ahead}, Span.{Span}}

-- these bytes of the piece are the block that was read of them, if one was
pub record IsSpan (profile : Profile) (piece : List ℕ) (span : Span) : Type 0 where
  pub rises : span.from ≤ span.to
  pub within : span.to ≤ length piece
  pub is_block : (lone : LoneBlock) → span.block ≡ Some lone → IsLone profile (take (span.to - span.from) (drop span.from piece)) lone

-- each is such bytes of the piece
pub record IsAhead (piece : List ℕ) (ahead : Ahead) : Type 0 where
  pub each : All (IsSpan ahead.profile piece) ahead.spans.items
