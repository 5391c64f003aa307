use Rattle.std.proofs.Common.{sym, ◌∙◌, ap}
use Rattle.pmf_event.specs.Line.{line_of_byte}
use Rattle.pmf_places.specs.declared.places.Place.{Place}
use Rattle.pmf_cause.{specs.Cause.{write_back_after}, proofs.LaterLemmas.{write_back-last}}
use Rattle.pmf_cause.proofs.later.Later.new.Goals as goal

pub returns-clause-later : goal.returns-clause-later
returns-clause-later c = λ watch es last. record {
  each = λ b has. ap (λ (s : Place). s.of) (c.new.ensures.states b) ∙ sym (write_back-last es (line_of_byte b)) ∙ ap (write_back_after es (line_of_byte b)) (sym last);
}
