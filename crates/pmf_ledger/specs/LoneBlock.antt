-- A block of a ledger text that is read apart from the text. Defined here.
use Rattle.std.specs.Prelude.{◌≡◌, ℕ, List, [], length}
use Rattle.pmf_event.specs.declared.profile.Profile.{Profile}
use Rattle.pmf_ledger.specs.{declared.lone_block.LoneBlock.{LoneBlock}, Loading.{Reading, AtBlock, after_lines, left_of, lines_of, with_rows}}

-- the bytes are the text lines of this block: wherever a block comes next in a text by the profile, they read as it
pub record IsLone (profile : Profile) (bytes : List ℕ) (lone : LoneBlock) : Type 0 where
  pub ended : left_of bytes ≡ []
  pub lines : lone.lines ≡ length (lines_of bytes)
  pub by : lone.verdict.profile ≡ profile
  pub reads : (r : Reading) (n : ℕ) → r.profile ≡ profile → r.stage ≡ AtBlock → after_lines r n (lines_of bytes) ≡ with_rows r lone.verdict.section []
