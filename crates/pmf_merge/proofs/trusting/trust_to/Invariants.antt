use Rattle.std.proofs.Common.{◌≡◌, ◌↔◌, ◌-◌, ◌^◌, true, All, List, length, map}
use Rattle.pmf_device.specs.Failures.{CanCountOneMore}
use Rattle.pmf_event.specs.declared.profile.Profile.TheVariants.{One}
use Rattle.pmf_ledger.specs.RawText.{RawBlock}
use Rattle.pmf_merge.specs.{RawWritten.{IsRawWritten}, Trusting.{AnyTellsFail, IsTrusting, raw_names_of}, Waiting.{IsWaiting}}
use Rattle.pmf_merge.proofs.trusting.trust_to.Given as goal

abbrev pub invariant-loop-index : goal.invariant-loop-index
invariant-loop-index g l =
    let starts = map g.R.Source.left l.fn.sources.items in
    record {
      state : (out : List RawBlock) × IsTrusting (length starts) starts (map g.R.Source.left l.sources.items) l.heads.feeds.items l.heads.profile out
          × IsRawWritten l.heads.profile (g.W.Sink.held l.fn.writer) (g.W.Sink.held l.writer) out l.written × ((l.fails ≡ true) ↔ AnyTellsFail out);
      waits : IsWaiting (raw_names_of l.heads.feeds.items) l.heads.waiting;
      of_none : length starts ≡ 0 → l.heads.profile ≡ One;
      counted : All (λ s. CanCountOneMore (g.R.Device.failed_calls s)) l.sources.items;
      len : length l.sources.items ≡ length l.fn.sources.items;
      writes : g.W.Device.failed_calls l.writer ≡ g.W.Device.failed_calls l.fn.writer;
      room : length l.piece ≡ 16384;
    }

abbrev pub decreases-loop-index : goal.decreases-loop-index
decreases-loop-index g l = 2 ^ 64 - l.steps
