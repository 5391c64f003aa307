-- A part of a whole goes on with it, and another one begins where it is cut.
use Rattle.std.proofs.Common.{◌≡◌, ℕ, zero, suc, ◌+◌, ◌-◌, true, false, List, [], ◌∷◌, length, drop, slice_get, refl, ◌∙◌, ap, subst, arith, Some}
use Rattle.pmf_event.{specs.declared.event.Event.{Event}, specs.Store.{event_at}, specs.LineBytes.{is_undurable}, proofs.EventLemmas.{last-none}, proofs.TransactionLemmas.{depth-start, scope-start, outside-from, unscoped-from}, proofs.PackedLemmas.{get-behind}}
use Rattle.pmf_shadow.proofs.SameLemmas.{slice_get-front}
use Rattle.pmf_cut.{specs.declared.part.Part.{Part}, specs.Alike.{IsCut}, specs.Parts.{Stands, Follows, BeginsWith, Renews, part_of, IsPartOf, GoesOnWith, BeginsAt}, proofs.StepLemmas.{undurable-stored_to}, proofs.BehindLemmas.{behind-cut, behind-step}, proofs.CutLemmas.{behind-there}}

get-dropped : {X : Type 0} (p : ℕ) (xs : List X) (k : ℕ) → slice_get (drop p xs) k ≡ slice_get xs (p + k)
get-dropped zero xs k = ap (slice_get xs) (omega arith)
get-dropped (suc p) [] k = refl
get-dropped (suc p) (x ∷ xs) k = get-dropped p xs k ∙ ap (slice_get (x ∷ xs)) (let more : suc (p + k) ≡ suc p + k = omega arith in more)

-- the events of the part behind its head are those of the whole behind the cut
pub part-event : (es : List Event) (p : ℕ) (head : List Event) (k : ℕ) → event_at (part_of es p head) (suc (length head + k)) ≡ event_at es (suc (p + k))
unfolding event_at
part-event es p head k = get-behind head (drop p es) k ∙ get-dropped p es k

part-begins : (es : List Event) (p : ℕ) (head : List Event) → BeginsWith (part_of es p head) head
unfolding event_at
part-begins es p head k within = slice_get-front head (drop p es) k within

whole-cut : (es : List Event) → IsCut es 0 es 0
whole-cut es = grind (arith, outside-from, depth-start, unscoped-from, scope-start, last-none)

pub part-first : (part : Part) → ((fs : List Event) → Stands part fs 0) → (es : List Event) → IsPartOf part es 0 [] 0
part-first part stands es = search (arith, whole-cut, behind-there, behind-cut)

pub part-next : (old new : Part) (e : Event) → Follows old new e → GoesOnWith old new e
part-next old new e follows es p head n here is =
    let within = is.within in
    let m = length head + (n - p) in
    let size : suc m ≡ length head + (suc n - p) = omega arith in
    let there : event_at (part_of es p head) (suc m) ≡ Some e = part-event es p head (n - p) ∙ ap (event_at es) (let same : suc (p + (n - p)) ≡ suc n = omega arith in same) ∙ here in record {
      cut = is.cut;
      within = omega arith;
      behind = behind-there es p (suc n) (suc n) (part_of es p head) (length head) (suc m) (length head + (suc n - p)) refl size
          (behind-step es (part_of es p head) n m e here there p (length head) within is.behind);
      stands = subst (Stands new (part_of es p head)) size (follows (part_of es p head) m there is.stands);
    }

pub part-cut : (old new : Part) (head : List Event) → Renews old new head → old.depth ≡ 0 → old.is_scoped ≡ false → BeginsAt old new head
part-cut old new head renews flat unscoped es p before n is =
    let fs = part_of es p before in
    let m = length before + (n - p) in
    let gs = part_of es n head in
    let q = length head in
    let begins = part-begins es n head in
    let alike = renews.alike fs m gs is.stands begins in
    let bytes = is.behind.bytes in
    let undurable_there = λ (b : ℕ) (open_there : is_undurable es n b ≡ true). bytes.undurable b ∙ open_there in
    let cut : IsCut es n gs q = record {
      alike = grind (arith, undurable-stored_to);
      fresh = renews.fresh fs m gs is.stands begins;
      whole = grind (arith, outside-from);
      part = renews.outside gs begins;
    } in record {
      cut = cut;
      within = omega arith;
      behind = behind-there es n n n gs q q (q + (n - n)) refl (omega arith) (behind-cut es n gs q cut);
      stands = subst (Stands new gs) (let none : q ≡ q + (n - n) = omega arith in none) (renews.stands gs begins);
    }
