use Rattle.std.{proofs.Common.{◌≡◌, ◌<◌, ◌∷◌, [], ◌∙◌, List, ℕ, Option, IfSome, length, ap, sym, subst, arith}, proofs.lemmas.Grind.{common_steps}}
use Rattle.pmf_event.specs.declared.event.Event.{Event}
use Rattle.pmf_storelog.{specs.Quick.{SaysAlone}, proofs.TallyLemmas.{records_in-blank, records_in-filled}}
use Rattle.pmf_cut.proofs.cutter.Cutter.copy_part.Goals as goal

pub returns-in-Some : goal.returns-in-Some
returns-in-Some c = λ ends step records handed cuts parts.
    let says : SaysAlone c.args.part.now c.in-Some.event = subst (λ (o : Option Event). IfSome o (SaysAlone c.args.part.now)) c.in-Some.is c.requires in
    rw says.alone (c.in_ok-happen.ensures ends step records handed c.args.part.now (record { step_is = cuts.step_is; has = cuts.has }) (record { part = c.args.part.now; parts = parts; records_are = says.alone }) says.says)

pub returns-then-is_empty : goal.returns-then-is_empty
returns-then-is_empty c = λ ends step records handed cuts parts.
    let empty : length c.trim-record.result.now ≡ 0 = grind (arith, common_steps) in
    let none = records_in-blank c.args.part.now (ap length (sym c.trim-record.ensures) ∙ empty) in
    rw none (c.in_ok-pass.ensures ends step records handed [] cuts (record { part = c.args.part.now; parts = parts; records_are = none }) tt)

pub returns : goal.returns
returns c = λ ends step records handed cuts parts.
    let some : 0 < length c.trim-record.result.now = grind (arith, common_steps) in
    let is = records_in-filled c.args.part.now (subst (λ (text : List ℕ). 0 < length text) c.trim-record.ensures some) ∙ ap (λ text. text ∷ []) (sym c.trim-record.ensures) in
    rw is (c.in_ok-take_record.ensures ends step records handed (record { step_is = cuts.step_is; has = cuts.has }) (record { part = c.args.part.now; parts = parts; records_are = is }))
