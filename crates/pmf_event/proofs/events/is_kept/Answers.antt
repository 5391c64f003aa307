use Rattle.std.proofs.{Common.{rules, ◌≡◌, Decides}, lemmas.Slice.Eq.{slice_eq-Decides}}
use Rattle.pmf_event.specs.{declared.packed.Packed.{Packed}, contracts.packed.PackedPartialEq.TheImpl.{eq-value}}
use Rattle.pmf_event.proofs.events.is_kept.Goals as goal

packed_Decides : (a b : Packed) → Decides (eq-value.it a b) (a ≡ b)
packed_Decides a b = (λ same. search rules, λ same. search rules)

pub returns : goal.returns
returns c = λ same. (slice_eq-Decides packed_Decides c.args.packed.now c.args.other.now _ c.eq.ensures).0 (search rules)
