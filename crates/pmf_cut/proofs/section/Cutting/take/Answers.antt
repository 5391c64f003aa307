use Rattle.std.proofs.Common.{refl, sym, ap, subst}
use Rattle.pmf_event.specs.declared.{event.Event.{Event}, event.Event.TheVariants.{Ordered}}
use Rattle.pmf_cut.{specs.{declared.section.Cutting.{Cutting}, Cutting.{HasPart, SamePast, TellsLost}, Deferred.{StaysUpTo}}, proofs.OrderLemmas.{stays-same, taken, tells-none}}
use Rattle.pmf_cut.proofs.section.Cutting.take.Goals.{in-Ordered+in_ok-tell_lost, in_default}
use Rattle.pmf_cut.proofs.section.Cutting.take.Goals as goal

pub returns : goal.returns
returns c =
    let old = c.args.self.now in
    elim c.match-event.branch [
      | in-Ordered+in_ok-tell_lost w ↦
          let to = sym w.self-is in
          taken old c.match-event.self _ c.args.event.now (subst (λ (s : Cutting). HasPart s old.number old.name old.file s.part) to w.in_ok-tell_lost.ensures.same)
          (subst (λ (s : Cutting). StaysUpTo old.part s.part) to w.in_ok-tell_lost.ensures.stays.0) (subst (SamePast old) to w.in_ok-tell_lost.ensures.stays.1)
          (subst (λ (e : Event). TellsLost old c.match-event.self e) (sym w.in-Ordered.is) (subst (λ (s : Cutting). TellsLost old s (Ordered w.in-Ordered.before w.in-Ordered.after)) to w.in_ok-tell_lost.ensures.lost))
          c.in_ok-take.ensures refl refl refl refl refl refl
      | in_default w ↦
          taken old c.match-event.self _ c.args.event.now (record { number_is = ap (λ (s : Cutting). s.number) w.self-is; name_is = ap (λ (s : Cutting). s.name) w.self-is; file_is = ap (λ (s : Cutting). s.file) w.self-is; part_is = refl })
          (stays-same old c.match-event.self w.self-is) (record { past = ap (λ (s : Cutting). s.past) w.self-is; head = ap (λ (s : Cutting). s.head) w.self-is })
          (tells-none old c.match-event.self c.args.event.now w.self-is w.in_default.not-Ordered) c.in_ok-take.ensures refl refl refl refl refl refl
    ]
