use Rattle.std.proofs.Common.{◌≡◌, ◌≤◌, ℕ, [], All, length, map, None, get_or}
use Rattle.pmf_device.specs.Failures.{CanCountOneMore}
use Rattle.pmf_event.specs.declared.profile.Profile.TheVariants.{One}
use Rattle.pmf_merge.specs.{Trusting.{IsTrusting, raw_names_of}, Waiting.{IsWaiting}}
use Rattle.pmf_merge.proofs.raw_heads.RawHeads.begin.Given as goal

abbrev pub invariant-loop-index : goal.invariant-loop-index
invariant-loop-index g l =
    let starts = map g.R.Source.left l.initial.sources.items in
    record {
      trusting : IsTrusting l.index starts (map g.R.Source.left l.sources.items) l.heads.feeds.items l.heads.profile [];
      waiting : IsWaiting (raw_names_of l.heads.feeds.items) l.heads.waiting;
      of_none : l.index ≡ 0 → l.heads.profile ≡ One;
      counted : All (λ s. CanCountOneMore (g.R.Device.failed_calls s)) l.sources.items;
      len : length l.sources.items ≡ length l.initial.sources.items;
      rest : (j : ℕ) → l.index ≤ j → get_or (map g.R.Source.left l.sources.items) j None ≡ get_or starts j None;
      room : length l.piece ≡ length l.initial.piece;
    }
