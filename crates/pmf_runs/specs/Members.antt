-- What a summary of members and other numbers covers.
use Rattle.std.specs.Prelude.{Bool, ◌||◌, if◌then◌else◌}
use Rattle.pmf_runs.specs.declared.members.Members.{Members}

-- whether the summary tells of members, or of others
abbrev pub has_either : Members → Bool → Bool
has_either m member = if member then m.some_in else m.some_out

-- the summary of what two others tell of
abbrev pub both : Members → Members → Members
both one other = record { some_in = one.some_in || other.some_in; some_out = one.some_out || other.some_out }
