use Rattle.std.proofs.Common.{length, get_or, sym, subst, ◌∙◌, ap, arith}
use Rattle.std.proofs.lemmas.List.{get_or_default, length-set}
use Rattle.pmf_images.specs.{declared.telling.Due.{Due}, Telling.{AreDue}}
use Rattle.pmf_images.proofs.TellingLemmas.{due_none, due-within, due-known, answered_more, answered_all}
use Rattle.pmf_images.proofs.telling.tell_all.Goals as goal

pub go_to-requires-clause-within : goal.go_to-requires-clause-within
go_to-requires-clause-within g c =
    let due : AreDue c.args.places.now c.args.asked.now c.deref-due-items.result.now = rw c.deref-due-items.ensures.value c.in_ok-dues.ensures in
    due-within (g.W.Walk.told c.args.events.now) c.args.places.now c.args.asked.now c.deref-due-items.result.now due (length c.args.events.now) c.loop-due.due-index due_none
    c.requires.alike c.requires.within c.loop-due-test.true

pub tell-requires-clause-knows : goal.tell-requires-clause-knows
tell-requires-clause-knows g c =
    let due : AreDue c.args.places.now c.args.asked.now c.deref-due-items.result.now = rw c.deref-due-items.ensures.value c.in_ok-dues.ensures in
    due-known (g.W.Walk.told c.args.events.now) c.args.places.now c.args.asked.now c.deref-due-items.result.now due (λ byte. g.W.Walk.Knows c.go_to.new.self.walk byte) c.loop-due.due-index due_none
    (λ k a less. c.in_ok-go_to.ensures.knows _ (c.loop-due.invariant.knows k a less)) c.loop-due-test.true

pub loop-due-preserved : goal.loop-due-preserved
loop-due-preserved g c =
    let es = c.args.events.now in
    let dues = c.deref-due-items.result.now in
    let due : AreDue c.args.places.now c.args.asked.now dues = rw c.deref-due-items.ensures.value c.in_ok-dues.ensures in
    let i = c.loop-due.due-index in
    let less = c.loop-due-test.true in
    let place = c.in_ok-go_to.ensures.place in
    let old = c.loop-due.invariant in
    record {
      sound = c.in_ok-go_to.ensures.sound;
      knows = λ k a within. c.in_ok-go_to.ensures.knows _ (old.knows k a within);
      keeps = subst (g.W.Walk.Keeps c.go_to.new.self.walk es) (sym place) c.in_ok-go_to.ensures.keeps;
      before = λ k d low within.
          let rise = due.rise i k d (omega arith) within in
          let same = ap (λ (o : Due). o.place) (get_or_default dues i due_none d less) in omega arith;
      long = length-set c.loop-due.told.items (get_or dues i due_none).index c.tell.result ∙ old.long;
      done = answered_more (g.W.Walk.told es) c.args.places.now c.args.asked.now dues due c.loop-due.told.items i c.tell.result due_none old.long less
          (c.tell.ensures es _ c.in_ok-go_to.ensures.keeps) old.done;
    }

pub returns : goal.returns
returns g c =
    let due : AreDue c.args.places.now c.args.asked.now c.deref-due-items.result.now = rw c.deref-due-items.ensures.value c.in_ok-dues.ensures in
    answered_all (g.W.Walk.told c.args.events.now) c.args.places.now c.args.asked.now c.deref-due-items.result.now due c.loop-due.told.items c.loop-due.due-index c.loop-due.invariant.long
    c.loop-due-test.false c.loop-due.invariant.done
