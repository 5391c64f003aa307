use Rattle.std.{proofs.Common.{◌≡◌, ℕ, List, [], Some, Contains, append-nil, sym, subst, ◌∙◌}, specs.Io.KnownBytes.{Appends}}
use Rattle.pmf_event.specs.Section.{Trace}
use Rattle.pmf_query.{specs.declared.refusal.EventFault.TheVariants.{NoSection}, proofs.NumberFoundLemmas.{read_so}}
use Rattle.pmf_device.{specs.Pages.{StopsIn}, proofs.PageLemmas.{stops_on}}
use Rattle.pmf_why.{specs.Why.{IsWhy, TellsAll, asked_sections}, proofs.SectionLemmas.{missing, named_there, refused_so}}
use Rattle.pmf_why.proofs.why.tell_why.Goals as goal

pub of_faultless-requires : goal.of_faultless-requires
of_faultless-requires g c = (read_so c.args.asked.run c.args.log.now c.in-Ok.read c.in-Ok.ensures).0

pub returns-then-not-has_asked-clause-answer : goal.returns-then-not-has_asked-clause-answer
returns-then-not-has_asked-clause-answer g c =
    let none = missing (λ s. s.value) c.args.asked.section c.sections.result.now (sym c.has_asked.ensures ∙ c.if-not-has_asked.true) in
    refused_so (λ done text. IsWhy c.args.asked c.args.log.now text) c.args.asked c.args.log.now g.W.Sink.held c.args.writer.now c.refused-then-not-has_asked.result NoSection c.refused-then-not-has_asked.ensures
    (c.in-Ok.read, c.in-Ok.ensures, (none.0, none.1, λ t found same. none.2 t (subst (λ (ts : List Trace). Contains ts t) (sym c.sections.ensures) found) same))

pub returns-in-Ok-tell_sections-clause-answer : goal.returns-in-Ok-tell_sections-clause-answer
returns-in-Ok-tell_sections-clause-answer g c =
    let asked = c.args.asked in
    let bytes = c.args.log.now in
    let named = subst (λ ts. (number : ℕ) → asked.section ≡ Some number → (t : Trace) × Contains ts t × (t.name.number ≡ number)) c.sections.ensures
    (named_there (λ s. s.value) asked.section c.sections.result.now (sym c.has_asked.ensures ∙ c.if-not-has_asked.false)) in
    let told = subst (λ ts. (text : List ℕ) × TellsAll asked bytes (asked_sections asked ts) text × Appends (g.W.Sink.held c.args.writer.now) (g.W.Sink.held c.tell_sections.new.writer) text)
    c.sections-2.ensures (c.in-Ok-tell_sections.ensures.text bytes c.in-Ok-of_faultless.ensures) in
    (told.0, (c.in-Ok.read, c.in-Ok.ensures, named, told.1), told.2)

pub returns-clause-answer : goal.returns-clause-answer
returns-clause-answer g c =
    let asked = c.args.asked in
    let bytes = c.args.log.now in
    let held = g.W.Sink.held c.args.writer.now in
    let holds = g.W.Sink.held c.tell_sections.new.writer in
    let named = subst (λ ts. (number : ℕ) → asked.section ≡ Some number → (t : Trace) × Contains ts t × (t.name.number ≡ number)) c.sections.ensures
    (named_there (λ s. s.value) asked.section c.sections.result.now (sym c.has_asked.ensures ∙ c.if-not-has_asked.false)) in
    let Tells = TellsAll asked bytes (asked_sections asked c.in-Ok.read.sections) in
    let stops = subst (λ ts. StopsIn (TellsAll asked bytes (asked_sections asked ts)) held holds c.in-Err-tell_sections.stop) c.sections-2.ensures (c.in-Err-tell_sections.ensures.text bytes c.in-Ok-of_faultless.ensures) in (
      tt,
      stops_on Tells (IsWhy asked bytes) held holds c.in-Err-tell_sections.stop
          (λ text tells. ([], subst (IsWhy asked bytes) (sym (append-nil text)) (c.in-Ok.read, c.in-Ok.ensures, named, tells))) stops,
    )
