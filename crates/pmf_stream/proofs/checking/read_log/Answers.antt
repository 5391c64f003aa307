use Rattle.std.proofs.Common.{◌≡◌, [], ◌++◌, ◌∙◌, ap, arith, length}
use Rattle.pmf_stream.{specs.{Checking.{most_in_piece}, Pieces.{StandsFor}, declared.checking.Watched.{Watched}}, proofs.lemmas.StreamLemmas.{IsLogOf-kept, IsLogFaultOf-shown, IsLogFaultOf-end, nothing-shown}, proofs.lemmas.BesideLemmas.{sections_read}}
use Rattle.pmf_stream.proofs.checking.read_log.Goals as goal

pub returns-in-Ok-Err-clause-faults : goal.returns-in-Ok-Err-clause-faults
returns-in-Ok-Err-clause-faults g c =
    IsLogFaultOf-shown (λ (w : Watched g.row.T.Denot). w.log) _ (λ a xs b takes. takes.0) c.args.settings.run _ _ _ _ c.in-Ok-Err.fault (let all : length c.deref_mut.result.now ≡ c.most_in_piece-most.result = omega (arith, ap length c.deref_mut.ensures.value, c.in_ok-piece.ensures.len, c.in_ok-piece.piece.ok.0) in
    let long : length c.deref_mut.result.now ≡ most_in_piece c.args.settings.workers = all ∙ c.most_in_piece-most.ensures.value in rw long at (rw c.in-Ok-Err.field-0-is at c.in-Ok-Err.ensures.taken)) c.new.ensures

pub returns-in-Ok-clause-ok : goal.returns-in-Ok-clause-ok
returns-in-Ok-clause-ok g c =
    let taken = rw c.in-Ok-Ok.field-0-is at c.in-Ok-Ok.ensures.taken in
    IsLogOf-kept c.args.settings.run _ _ c.new.result c.read_into.new.intake.log taken.0 c.in-Ok.log taken.1 taken.2.0 c.new.ensures (c.in-Ok.ensures.answers c.args.settings.run taken.0)
    c.args.settings.strict c.read_into.new.intake.kept.items (λ strict. taken.2.1.all strict ∙ ap (λ xs. xs ++ taken.0) c.new-2.ensures.items)

pub returns-clause-faults : goal.returns-clause-faults
returns-clause-faults g c =
    let taken = rw c.in-Ok-Ok.field-0-is at c.in-Ok-Ok.ensures.taken in
    IsLogFaultOf-end c.args.settings.run _ _ _ c.new.result c.read_into.new.intake.log taken.0 c.in-Err-finish.fault taken.1 taken.2.0 c.new.ensures
    (c.in-Err-finish.ensures.answers c.args.settings.run taken.0)

pub finish-known-requires : goal.finish-known-requires
finish-known-requires g c =
    let run = c.args.settings.run in
    let taken = rw c.in-Ok-Ok.field-0-is at c.in-Ok-Ok.ensures.taken in
    let fresh : StandsFor run [] c.new.result = (c.new.ensures, nothing-shown) in
    let read = c.in-Ok.ensures.answers run taken.0 (taken.2.0 run [] fresh).0 in
    (c.args.settings.profile, run, taken.0, taken.2.2.goes run [] fresh tt, c.sections.ensures ∙ sections_read run taken.0 c.in-Ok.log read)
