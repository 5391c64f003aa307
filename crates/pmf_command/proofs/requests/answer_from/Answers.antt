use Rattle.std.proofs.Common.{◌≡◌, sym, subst}
use Rattle.pmf_request.specs.declared.request.Request.{Request}
use Rattle.pmf_command.specs.{Answered.{IsAnsweredFrom, Streams}, declared.status.Status.{Status}}
use Rattle.pmf_command.proofs.requests.answer_from.Goals as goal

-- what is said of the request that was found is said of the one that was handed in
found : (request made : Request) (s : Streams) (status : Status) → request ≡ made → IsAnsweredFrom made s status → IsAnsweredFrom request s status
found request made s status is said = subst (λ r. IsAnsweredFrom r s status) (sym is) said

pub returns-in-Why : goal.returns-in-Why
returns-in-Why g c =
    let told = c.recite_to-in-Why.ensures in
    found c.args.request.now _ _ c.recite_to-in-Why.result c.in-Why.is (told.0, told.1, told.2)

pub returns-in-Patch : goal.returns-in-Patch
returns-in-Patch g c =
    let made = c.answer_to-in-Patch.ensures in
    found c.args.request.now _ _ c.answer_to-in-Patch.result c.in-Patch.is (made.0, made.1, made.2)

pub returns-in-Lint : goal.returns-in-Lint
returns-in-Lint g c =
    let made = c.answer_to-in-Lint.ensures in
    found c.args.request.now _ _ c.answer_to-in-Lint.result c.in-Lint.is (made.0, made.1, made.2)

pub returns-in-Check : goal.returns-in-Check
returns-in-Check g c =
    let made = c.check_to.ensures in
    found c.args.request.now _ _ c.check_to.result c.in-Check.is (made.0, made.1, made.2)

pub returns-in-Join : goal.returns-in-Join
returns-in-Join g c = found c.args.request.now _ _ c.join_files.result c.in-Join.is c.join_files.ensures
