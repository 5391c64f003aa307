use Rattle.std.proofs.{Common.{rules, ◌≡◌, ◌==◌, ◌&&◌, Decides}, lemmas.Slice.Eq.{slice_eq-Decides}}
use Rattle.pmf_event.specs.{Span.{Extent}}
use Rattle.pmf_event.proofs.events.are_pairs.Goals as goal

pair_Decides : (a b : Extent × Extent) → Decides (((a.0.first == b.0.first) && (a.0.size == b.0.size)) && ((a.1.first == b.1.first) && (a.1.size == b.1.size))) (a ≡ b)
pair_Decides a b = (λ same. search rules, λ same. search rules)

pub returns : goal.returns
returns c = λ same. (slice_eq-Decides pair_Decides c.args.pairs.now c.args.other.now _ c.eq.ensures).0 (search rules)
