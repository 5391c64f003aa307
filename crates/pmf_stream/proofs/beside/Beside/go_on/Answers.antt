use Rattle.std.proofs.Common.{[], refl, sym, ◌∙◌, ap}
use Rattle.pmf_event.specs.declared.name.Name.{Name}
use Rattle.pmf_stream.proofs.lemmas.BesideLemmas.{front_now}
use Rattle.pmf_stream.proofs.beside.Beside.go_on.Goals as goal

pub returns-else-len-lt-LEAST : goal.returns-else-len-lt-LEAST
returns-else-len-lt-LEAST c = λ run bytes only waiting.
    c.walk.ensures c.args.profile [] run bytes c.new.ensures (c.args.section.now.events, refl) only

pub returns-else-number-name : goal.returns-else-number-name
returns-else-number-name c = λ run bytes only going.
    let (es, has, front) = rw c.in-Going.is at going in
    c.walk-in-Going.ensures c.args.profile es run bytes has
    (front_now run bytes c.in-Going.number es c.args.section.now front only (sym (ap (λ (name : Name). name.number) c.name.ensures) ∙ sym c.if-number-name.false)) only
