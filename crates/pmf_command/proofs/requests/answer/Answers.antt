use Rattle.std.proofs.Common.{◌≡◌, ◌⊎◌, inl, inr, sym, subst, ◌∙◌}
use Rattle.pmf_request.specs.declared.request.{Input.{Input}, Request.{Request}}
use Rattle.pmf_command.specs.{Answered.{IsAnswered, IsAnsweredFrom, IsSaidOf, IsUnopened, Streams, input_of}, declared.status.Status.{Status}}
use Rattle.pmf_command.proofs.requests.answer.Goals as goal

-- what is said of where the log is read from is said of the request
answered : (request : Request) (s : Streams) (status : Status) (from : Input) → from ≡ input_of request →
    (IsUnopened from status ⊎ IsSaidOf from s (λ left rest. IsAnsweredFrom request (record s { left = left; rest = rest }) status)) → IsAnswered request s status
answered request s status from is said =
    subst (λ i. IsUnopened i status ⊎ IsSaidOf i s (λ left rest. IsAnsweredFrom request (record s { left = left; rest = rest }) status)) is said

pub returns-in-Standard : goal.returns-in-Standard
returns-in-Standard g c = answered c.args.request.now _ _ _ (sym c.in-Standard.is ∙ c.input_of.ensures) (inr c.answer_from.ensures)

pub returns-in-Ok : goal.returns-in-Ok
returns-in-Ok g c =
    answered c.args.request.now _ _ _ (sym c.in-File.is ∙ c.input_of.ensures)
    (inr (_, _, c.in-Ok.ensures.known, c.answer_from-in-File.ensures))

pub returns-in-Err : goal.returns-in-Err
returns-in-Err g c = answered c.args.request.now _ _ _ (sym c.in-File.is ∙ c.input_of.ensures) (inl c.unread.ensures)
