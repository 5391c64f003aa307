use Rattle.std.proofs.Common.{◌==◌, ◌&&◌, nat_lt, if◌then◌else◌, ◌∙◌, ap}
use Rattle.pmf_cause.proofs.MarksLemmas.{next}
use Rattle.pmf_cause.proofs.marks.Marks.after.Goals as goal

pub returns : goal.returns
returns c = λ es p here at_place marks.
    let old = c.args.self in
    next old _ es p marks (c.depth_after-depth.ensures es p here marks.depth)
    (c.place_if.ensures ∙ ap (λ k. if c.depth_after-depth.result == 0 then k else old.outside) at_place)
    (c.place_at_end.ensures ∙ ap (λ k. if nat_lt 0 old.depth && (c.depth_after-depth.result == 0) then k else old.ended) at_place)
    (c.scope_after-scope.ensures es p here at_place marks.scope)
    (c.place_at_end-2.ensures ∙ ap (λ k. if nat_lt 0 old.scope && (c.scope_after-scope.result == 0) then k else old.closed) at_place)
