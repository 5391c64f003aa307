use Rattle.std.proofs.Common.{◌≡◌, ◌-◌, ◌^◌, All, List, length, map}
use Rattle.pmf_device.specs.Failures.{CanCountOneMore}
use Rattle.pmf_event.specs.declared.profile.Profile.TheVariants.{One}
use Rattle.pmf_verdict.specs.Checked.{Checked}
use Rattle.pmf_merge.specs.{Heads.{IsLast, IsMerging, names_of}, Waiting.{IsWaiting}, Written.{IsWritten}}
use Rattle.pmf_merge.proofs.merging.merge_to.Given as goal

abbrev pub invariant-loop-index : goal.invariant-loop-index
invariant-loop-index g l =
    let starts = map g.R.Source.left l.fn.sources.items in
    record {
      state : (out : List Checked) × IsMerging (length starts) starts (map g.R.Source.left l.sources.items) l.heads.feeds.items l.heads.heads.items l.heads.profile out
          × IsWritten l.fn.form l.heads.profile (g.W.Sink.held l.fn.writer) (g.W.Sink.held l.writer) out l.written × IsLast out l.last;
      waits : IsWaiting (names_of l.heads.heads.items) l.heads.waiting;
      of_none : length starts ≡ 0 → l.heads.profile ≡ One;
      counted : All (λ s. CanCountOneMore (g.R.Device.failed_calls s)) l.sources.items;
      len : length l.sources.items ≡ length l.fn.sources.items;
      writes : g.W.Device.failed_calls l.writer ≡ g.W.Device.failed_calls l.fn.writer;
    }

abbrev pub decreases-loop-index : goal.decreases-loop-index
decreases-loop-index g l = 2 ^ 64 - l.steps
