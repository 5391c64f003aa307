use Rattle.std.proofs.Common.{◌≡◌, ◌≤◌, ◌<◌, ℕ, length, get_or}
use Rattle.pmf_images.specs.declared.{showing.Asked.{Asked}, telling.Due.{Due}}
use Rattle.pmf_images.proofs.TellingLemmas.{Answered}
use Rattle.pmf_images.proofs.telling.tell_all.Given as goal

abbrev pub invariant-loop-due : goal.invariant-loop-due
invariant-loop-due g l = record {
  sound : g.W.Walk.IsSound l.course.walk;
  knows : (k : ℕ) (a : Asked) → k < length l.asked → g.W.Walk.Knows l.course.walk (get_or l.asked k a).byte;
  keeps : g.W.Walk.Keeps l.course.walk l.events l.course.place;
  before : (k : ℕ) (d : Due) → l.due-index ≤ k → k < length l.due-items → l.course.place ≤ (get_or l.due-items k d).place;
  long : length l.told.items ≡ length l.asked;
  done : Answered (g.W.Walk.told l.events) l.places l.asked l.due-items l.told.items l.due-index;
}
