-- Each kind of change of the board and of the views keeps the rule.
use Rattle.std.proofs.{Common.{◌≡◌, ℕ, zero, suc, ◌+◌, ◌<◌, ◌≤◌, ◌≢◌, Bool, true, false, cond, ◌&&◌, eqb, leb, ◌⊎◌, inl, inr, ⊎_elim, ◌↔◌, List, [], ◌∷◌, ◌++◌, length, set, count_by, sum_by, refl, sym, ◌∙◌, ap, subst, arith, eq-eqb, ne_eqb, get_or-set_same}, lemmas.Bool.{cases_eq, cases_lt, true≢false}, lemmas.Bool.Decides.{nat_tests}, lemmas.List.Sums.{sum_by-append}, lemmas.List.Elements.{Contains-append_cases}, lemmas.Grind.{common_steps}}
use Rattle.atomic_table.proofs.Lists.{at_set, at_snoc, set_else}
use Rattle.pmf_board.{specs.declared.entry.Entry.{Entry}, specs.declared.task.Task.{Task}, specs.declared.view.Sight.{Sight}, specs.declared.view.View.{View}, specs.Machine.{entry, entry_at, opening, untouched, handed_out, finished, hand_out, mark}, specs.Views.{task, sight, view, times, marks, dones, most_seen, HasSeenDone, HasMarked, seen, took, marked, kept, given, both, spent, first_view, is_hand_out, tells_done, IsFrozen}, specs.Rule.{Fits, IsKept, Agrees, due}, proofs.lemmas.TotalLemmas.{total-set, total-at, total-snoc, total-alone}, proofs.lemmas.WordLemmas.{opening-at}, proofs.lemmas.SightLemmas.{dones-more, dones-here, entry-set, most-le, most-of, dones-found, first-or_behind, none-in_none, most-append_le}}
use mathlib.Core.Option.{some, some-injective, some-ne-none}
use lib.ListN.{get_elem?}

abbrev pub bit : Bool → ℕ
bit b = cond b 1 0

-- the shares of a view
abbrev shares_of : View → ℕ
shares_of v = v.shares

-- what a step has to show of the board after it and of the view of the pass that made it
pub record Moves (board board' : List Entry) (v w : View) : Type 0 where
  pub up : (s : ℕ) → (entry_at board s).handouts ≤ (entry_at board' s).handouts
  pub stays : (s : ℕ) → (entry_at board s).done ≡ true → entry_at board' s ≡ entry_at board s
  pub few : (s : ℕ) → (entry_at board' s).handouts ≤ 8
  pub fits : Fits board' w
  pub shares_are : w.shares ≡ v.shares
  pub once : (s k : ℕ) → due board' s k + times s k v ≡ due board s k + times s k w
  pub more : (s : ℕ) → marks s v ≤ marks s w
  pub done : (s : ℕ) → (entry_at board' s).done ≡ true → ((entry_at board s).done ≡ true) ⊎ (0 < marks s w)
  pub back : (s : ℕ) → marks s v < marks s w → (entry_at board' s).done ≡ true

-- a view that fits still fits when the board rises
Fits-up : (board board' : List Entry) (v : View) → ((s : ℕ) → (entry_at board s).handouts ≤ (entry_at board' s).handouts) → ((s : ℕ) → (entry_at board s).done ≡ true → entry_at board' s ≡ entry_at board s) → Fits board v → Fits board' v
Fits-up board board' v up stays fits = record {
  most = λ s. omega (arith, up s, fits.most s);
  done = λ x found d. let same = fits.done x found d in stays x.section (ap (λ (e : Entry). e.done) same ∙ d) ∙ same;
  own = fits.own;
  idle = fits.idle;
}

-- it still fits with a sight more that isn't above what stands, and is what stands where it tells done
Fits-sight : (board : List Entry) (v : View) (ts : List Task) (ms : List ℕ) (s : ℕ) (e : Entry) → 0 < v.shares → e.handouts ≤ (entry_at board s).handouts → (e.done ≡ true → entry_at board s ≡ e)
    → ((t : ℕ) → HasMarked (view ts ms [] 0) t → HasMarked v t ⊎ ((s ≡ t) × (e.done ≡ true))) → Fits board v → Fits board (view ts ms (sight s e ∷ v.saw) v.shares)
Fits-sight board v ts ms s e holds le is own fits = record {
  most = λ t. most-le s t (entry_at board t).handouts e v.saw (λ same. subst (λ (k : ℕ). e.handouts ≤ (entry_at board k).handouts) same le) (fits.most t);
  done = λ x found d. elim (first-or_behind x (sight s e) v.saw found) [
    | inl first ↦ subst (λ (y : Sight). entry_at board y.section ≡ y.entry) (sym first) (is (ap (λ (y : Sight). y.entry.done) (sym first) ∙ d))
    | inr later ↦ fits.done x later d
  ];
  own = λ t m. elim (own t m) [
    | inl before ↦ omega (arith, fits.own t before, dones-more s e v.saw t)
    | inr now ↦ subst (λ (k : ℕ). 0 < count_by (tells_done k) (sight s e ∷ v.saw)) now.0 (dones-here s e v.saw now.1)
  ];
  idle = λ none. absurd (omega (arith, none, holds));
}

-- what a view saw done is done, and it saw all its hand-outs
pub Fits-done : (board : List Entry) (v : View) (s : ℕ) → Fits board v → HasSeenDone v s → ((entry_at board s).done ≡ true) × (most_seen s v ≡ (entry_at board s).handouts)
Fits-done board v s fits seen_done =
    let found = dones-found s v.saw seen_done in
    let same = fits.done found.0 found.1 found.3 in
    let handouts = ap (λ (e : Entry). e.handouts) same in
    subst (λ (k : ℕ). ((entry_at board k).done ≡ true) × (most_seen k v ≡ (entry_at board k).handouts)) found.2
    (ap (λ (e : Entry). e.done) same ∙ found.3, omega (arith, handouts, most-of found.0 v.saw found.1, fits.most found.0.section))

-- neither a hand-out of a section that isn't done nor a mark changes one that is done
pub hand_out-stays : (board : List Entry) (s : ℕ) → s < length board → (entry_at board s).done ≡ false → (t : ℕ) → (entry_at board t).done ≡ true → entry_at (hand_out board s) t ≡ entry_at board t
hand_out-stays board s within not_done = entry-set board s (handed_out (entry_at board s)) (λ k x. (entry_at board k).done ≡ true → x ≡ entry_at board k) within (λ d. absurd (true≢false (sym d ∙ not_done))) (λ k other d. refl)

pub mark-stays : (board : List Entry) (s : ℕ) → s < length board → (t : ℕ) → (entry_at board t).done ≡ true → entry_at (mark board s) t ≡ entry_at board t
mark-stays board s within = entry-set board s (finished (entry_at board s)) (λ k x. (entry_at board k).done ≡ true → x ≡ entry_at board k) within (λ d i. entry (entry_at board s).handouts (sym d i)) (λ k other d. refl)

-- such a step keeps the rule
pub IsKept-moves : (board board' : List Entry) (views : List View) (id : ℕ) (v w : View) → IsKept board views → get_elem? views id ≡ some v → Moves board board' v w → IsKept board' (set views id w)
IsKept-moves board board' views id v w is at m = record {
  few = m.few;
  shares_are = omega (arith, total-set shares_of views id v w at, is.shares_are, m.shares_are);
  fits = λ port u there. ⊎_elim
      (λ t. subst (Fits board') t.1 m.fits)
      (λ t. Fits-up board board' u m.up m.stays (is.fits port u t.1))
      (at_set views id port w u there);
  once = λ s k. omega (arith, total-set (times s k) views id v w at, is.once s k, m.once s k);
  done_is = λ s. (
    (λ d. ⊎_elim
        (λ was. omega (arith, total-set (marks s) views id v w at, (is.done_is s).0 was, m.more s))
        (λ now. omega (arith, total-set (marks s) views id v w at, total-at (marks s) views id v at, now))
        (m.done s d)),
    (λ some. by_marks s some (cases_eq (marks s v) (marks s w))),
  );
}
  where
    by_marks : (s : ℕ) → 0 < sum_by (marks s) (set views id w) → (marks s v ≡ marks s w) ⊎ (marks s v ≢ marks s w) → (entry_at board' s).done ≡ true
    by_marks s held (inl same) = let was = (is.done_is s).1 (omega (arith, total-set (marks s) views id v w at, held, same)) in ap (λ (e : Entry). e.done) (m.stays s was) ∙ was
    by_marks s held (inr other) = m.back s (omega (arith, m.more s, other))

-- a pass that saw a section
pub Moves-seen : (board : List Entry) (v : View) (s : ℕ) → ((t : ℕ) → (entry_at board t).handouts ≤ 8) → Fits board v → 0 < v.shares → Moves board board v (seen v s (entry_at board s))
Moves-seen board v s few fits holds = record {
  up = λ t. omega arith;
  stays = λ t d. refl;
  few = few;
  fits = Fits-sight board v v.took v.marked s (entry_at board s) holds (omega arith) (λ d. refl) (λ t m. inl m) fits;
  shares_are = refl;
  once = λ t k. omega arith;
  more = λ t. omega arith;
  done = λ t d. inl d;
  back = λ t less. absurd (omega (arith, less));
}

-- what a view saw and marked agrees with what stands
pub Agrees-at : (board : List Entry) (views : List View) (id : ℕ) (v : View) (s : ℕ) → IsKept board views → get_elem? views id ≡ some v → Agrees v s (entry_at board s)
Agrees-at board views id v s is at =
    let fits = is.fits id v at in
    record { few = is.few s; most = fits.most s; done = λ d. (Fits-done board v s fits d).0; marked = λ some. (is.done_is s).1 (omega (arith, total-at (marks s) views id v at, some)); frozen = λ d. (Fits-done board v s fits d).1 }

-- one hand-out more is due
due-more : (h k : ℕ) → cond (leb 1 k && leb k (h + 1)) 1 0 ≡ cond (leb 1 k && leb k h) 1 0 + cond (eqb (h + 1) k) 1 0
due-more h k = grind (arith, nat_tests)

-- how often a hand-out was taken after one more
pub times-took : (v : View) (s n t k : ℕ) → times t k (took v (task s n)) ≡ times t k v + cond (eqb s t && eqb n k) 1 0
times-took v s n t k = total-snoc (λ x. cond (is_hand_out t k x) 1 0) v.took (task s n)

-- a pass that took a section on offer
pub Moves-took : (board : List Entry) (v : View) (s : ℕ) → ((t : ℕ) → (entry_at board t).handouts ≤ 8) → Fits board v → 0 < v.shares → s < length board → (entry_at board s).handouts < 8 → (entry_at board s).done ≡ false
    → Moves board (hand_out board s) v (took v (task s ((entry_at board s).handouts + 1)))
Moves-took board v s few fits holds within less not_done = record {
  up = up;
  stays = hand_out-stays board s within not_done;
  few = λ t. entry-set board s (handed_out e) (λ k x. x.handouts ≤ 8) within (omega (arith, less)) (λ k other. few k) t;
  fits = Fits-sight (hand_out board s) v w.took w.marked s (entry (e.handouts + 1) false) holds (omega (arith, ap (λ (x : Entry). x.handouts) (get_or-set_same board s (handed_out e) untouched within))) (λ d. absurd (true≢false (sym d))) (λ t m. inl m)
      (Fits-up board (hand_out board s) v up (hand_out-stays board s within not_done) fits);
  shares_are = refl;
  once = λ t k. entry-set board s (handed_out e) (λ j x. cond (leb 1 k && leb k x.handouts) 1 0 + times j k v ≡ due board j k + times j k w) within
      (let one = ap (λ b. bit (b && eqb (e.handouts + 1) k)) (eq-eqb s s refl) in omega (arith, due-more e.handouts k, times-took v s (e.handouts + 1) s k, one))
      (λ j other. let none = ap (λ b. bit (b && eqb (e.handouts + 1) k)) (ne_eqb s j (λ same. other (sym same))) in omega (arith, times-took v s (e.handouts + 1) j k, none)) t;
  more = λ t. omega arith;
  done = λ t. entry-set board s (handed_out e) (λ k x. x.done ≡ true → ((entry_at board k).done ≡ true) ⊎ (0 < marks k w)) within (λ d. inl d) (λ k other d. inl d) t;
  back = λ t more. absurd (omega (arith, more));
}
  where
    e : Entry
    e = entry_at board s

    w : View
    w = took v (task s ((entry_at board s).handouts + 1))

    up : (t : ℕ) → (entry_at board t).handouts ≤ (entry_at (hand_out board s) t).handouts
    up = entry-set board s (handed_out e) (λ k x. (entry_at board k).handouts ≤ x.handouts) within (omega arith) (λ k other. omega arith)

-- how often a section was marked after one more mark
pub marks-marked : (v : View) (s h t : ℕ) → marks t (marked v s h) ≡ marks t v + bit (eqb s t)
marks-marked v s h t = total-snoc (λ m. cond (eqb m t) 1 0) v.marked s

-- a pass that marked a section
pub Moves-marked : (board : List Entry) (v : View) (s : ℕ) → ((t : ℕ) → (entry_at board t).handouts ≤ 8) → Fits board v → 0 < v.shares → s < length board
    → Moves board (mark board s) v (marked v s (entry_at board s).handouts)
Moves-marked board v s few fits holds within = record {
  up = up;
  stays = mark-stays board s within;
  few = λ t. entry-set board s (finished e) (λ k x. x.handouts ≤ 8) within (few s) (λ k other. few k) t;
  fits = Fits-sight (mark board s) v w.took w.marked s (finished e) holds (omega (arith, ap (λ (x : Entry). x.handouts) now)) (λ d. now) own (Fits-up board (mark board s) v up (mark-stays board s within) fits);
  shares_are = refl;
  once = λ t k. entry-set board s (finished e) (λ j x. cond (leb 1 k && leb k x.handouts) 1 0 + times j k v ≡ due board j k + times j k w) within refl (λ j other. refl) t;
  more = λ t. omega (arith, marks-marked v s e.handouts t);
  done = λ t. entry-set board s (finished e) (λ k x. x.done ≡ true → ((entry_at board k).done ≡ true) ⊎ (0 < marks k w)) within
      (λ d. let one = ap bit (eq-eqb s s refl) in inr (omega (arith, marks-marked v s e.handouts s, one)))
      (λ k other d. inl d) t;
  back = λ t. entry-set board s (finished e) (λ k x. marks k v < marks k w → x.done ≡ true) within
      (λ less. refl)
      (λ k other less. let none = ap bit (ne_eqb s k (λ same. other (sym same))) in absurd (omega (arith, marks-marked v s e.handouts k, less, none))) t;
}
  where
    e : Entry
    e = entry_at board s

    w : View
    w = marked v s (entry_at board s).handouts

    own : (t : ℕ) → HasMarked w t → HasMarked v t ⊎ ((s ≡ t) × true ≡ true)
    own t m = elim (cases_eq s t) [
      | inl same ↦ inr (same, refl)
      | inr other ↦ let none = ap bit (ne_eqb s t other) in inl (omega (arith, marks-marked v s e.handouts t, m, none))
    ]

    now : entry_at (mark board s) s ≡ finished e
    now = get_or-set_same board s (finished e) untouched within

    up : (t : ℕ) → (entry_at board t).handouts ≤ (entry_at (mark board s) t).handouts
    up = entry-set board s (finished e) (λ k x. (entry_at board k).handouts ≤ x.handouts) within (omega arith) (λ k other. omega arith)

-- a cut in two keeps the rule
pub IsKept-split : (board : List Entry) (views : List View) (id : ℕ) (v : View) → IsKept board views → get_elem? views id ≡ some v → 1 < v.shares → IsKept board (set views id (kept v) ++ given v ∷ [])
IsKept-split board views id v is at two = record {
  few = is.few;
  shares_are = omega (arith, total-set shares_of views id v (kept v) at, is.shares_are, total-snoc shares_of (set views id (kept v)) (given v), two);
  fits = λ port u there. ⊎_elim
      (λ before. ⊎_elim (λ t. subst (Fits board) t.1 left) (λ t. is.fits port u t.1) (at_set views id port (kept v) u before))
      (λ last. subst (Fits board) last right)
      (at_snoc (set views id (kept v)) (given v) u port there);
  once = λ s k. omega (arith, total-set (times s k) views id v (kept v) at, is.once s k, total-snoc (times s k) (set views id (kept v)) (given v));
  done_is = λ s.
      let same : sum_by (marks s) (set views id (kept v) ++ given v ∷ []) ≡ sum_by (marks s) views = omega (arith, total-set (marks s) views id v (kept v) at, total-snoc (marks s) (set views id (kept v)) (given v)) in
      ((λ d. omega (arith, same, (is.done_is s).0 d)), (λ m. (is.done_is s).1 (omega (arith, same, m))));
}
  where
    fit : Fits board v
    fit = is.fits id v at

    left : Fits board (kept v)
    left = record { most = fit.most; done = fit.done; own = fit.own; idle = λ none. absurd (omega (arith, none, two)) }

    right : Fits board (given v)
    right = record { most = fit.most; done = fit.done; own = λ s m. absurd (omega (arith, m)); idle = λ none. absurd (omega (arith, none)) }

-- the lists of two views in one
pub times-both : (v w : View) (s k : ℕ) → times s k (both v w) ≡ times s k v + times s k w
times-both v w s k = sum_by-append (λ x. cond (is_hand_out s k x) 1 0) v.took w.took

pub marks-both : (v w : View) (s : ℕ) → marks s (both v w) ≡ marks s v + marks s w
marks-both v w s = sum_by-append (λ m. cond (eqb m s) 1 0) v.marked w.marked

pub dones-both : (v w : View) (s : ℕ) → dones s (both v w) ≡ dones s v + dones s w
dones-both v w s = sum_by-append (λ x. cond (tells_done s x) 1 0) v.saw w.saw

-- two joined keep the rule
pub IsKept-join : (board : List Entry) (views : List View) (id other : ℕ) (v w : View) → IsKept board views → get_elem? views id ≡ some v → ¬ (other ≡ id)
    → get_elem? (set views id (both v w)) other ≡ some w → 0 < v.shares → IsKept board (set (set views id (both v w)) other spent)
IsKept-join board views id other v w is at apart there holds = record {
  few = is.few;
  shares_are = omega (arith, total-set shares_of views id v (both v w) at, is.shares_are, total-set shares_of (set views id (both v w)) other w spent there);
  fits = λ port u found. ⊎_elim
      (λ t. subst (Fits board) t.1 nothing)
      (λ t. ⊎_elim (λ h. subst (Fits board) h.1 joined) (λ h. is.fits port u h.1) (at_set views id port (both v w) u t.1))
      (at_set (set views id (both v w)) other port spent u found);
  once = λ s k. omega (arith, total-set (times s k) views id v (both v w) at, is.once s k, total-set (times s k) (set views id (both v w)) other w spent there, times-both v w s k);
  done_is = λ s.
      let same : sum_by (marks s) (set (set views id (both v w)) other spent) ≡ sum_by (marks s) views =
      omega (arith, total-set (marks s) views id v (both v w) at, total-set (marks s) (set views id (both v w)) other w spent there, marks-both v w s) in
      ((λ d. omega (arith, same, (is.done_is s).0 d)), (λ m. (is.done_is s).1 (omega (arith, same, m))));
}
  where
    fit : Fits board v
    fit = is.fits id v at

    fit' : Fits board w
    fit' = is.fits other w (sym (set_else views id other (both v w) apart) ∙ there)

    joined : Fits board (both v w)
    joined = record {
      most = λ s. most-append_le s v.saw w.saw (entry_at board s).handouts (fit.most s) (fit'.most s);
      done = λ x found d. elim (Contains-append_cases v.saw w.saw x found) [ inl mine ↦ fit.done x mine d | inr other ↦ fit'.done x other d ];
      own = λ s m. elim (cases_lt 0 (marks s v)) [
        | inl mine ↦ omega (arith, fit.own s mine, dones-both v w s)
        | inr none ↦ omega (arith, fit'.own s (omega (arith, m, none, marks-both v w s)), dones-both v w s)
      ];
      idle = λ none. absurd (omega (arith, none, holds));
    }

    nothing : Fits board spent
    nothing = record { most = λ s. omega arith; done = λ x found d. absurd (none-in_none x found); own = λ s m. absurd (omega (arith, m)); idle = λ none. refl }

-- at first the rule is kept
pub IsKept-first : (n : ℕ) → IsKept (opening n) (first_view ∷ [])
IsKept-first n = record {
  few = λ s. omega (arith, ap (λ e. e.handouts) (opening-at n s));
  shares_are = refl;
  fits = λ port v there. at_first port v there;
  once = λ s k. sym (ap (λ e. bit (leb 1 k && leb k e.handouts)) (opening-at n s) ∙ none k);
  done_is = λ s. ((λ d. absurd (true≢false (sym d ∙ ap (λ e. e.done) (opening-at n s)))), (λ m. absurd (omega (arith, m))));
}
  where
    none : (k : ℕ) → bit (leb 1 k && leb k 0) ≡ 0
    none k = grind (arith, nat_tests)

    first_fits : Fits (opening n) first_view
    first_fits = record { most = λ s. omega arith; done = λ x found d. absurd (none-in_none x found); own = λ s m. absurd (omega (arith, m)); idle = λ no. absurd (omega (arith, no)) }

    at_first : (port : ℕ) (v : View) → get_elem? (first_view ∷ []) port ≡ some v → Fits (opening n) v
    at_first zero v there = subst (Fits (opening n)) (some-injective first_view v there) first_fits
    at_first (suc port) v there = absurd (some-ne-none v (sym there))

-- no view has more than all shares, nor a hand-out twice
pub shares-le : (board : List Entry) (views : List View) (id : ℕ) (v : View) → IsKept board views → get_elem? views id ≡ some v → v.shares ≤ 65
shares-le board views id v is at = omega (arith, total-at shares_of views id v at, is.shares_are)

-- no view saw a section change that was done
pub frozen-at : (board : List Entry) (views : List View) (id : ℕ) (v : View) → IsKept board views → get_elem? views id ≡ some v → IsFrozen v
frozen-at board views id v is at x found d = let fits = is.fits id v at in omega (arith, fits.most x.section, ap (λ (e : Entry). e.handouts) (fits.done x found d))

due-le : (b : Bool) → bit b ≤ 1
due-le b = grind (arith, common_steps)

pub times-le : (board : List Entry) (views : List View) (id : ℕ) (v : View) → IsKept board views → get_elem? views id ≡ some v → (s k : ℕ) → times s k v ≤ 1
times-le board views id v is at s k = omega (arith, total-at (times s k) views id v at, is.once s k, due-le (leb 1 k && leb k (entry_at board s).handouts))

-- beside a view with all shares no other took or marked anything
module _ (board : List Entry) (views : List View) (id : ℕ) (v : View) (is : IsKept board views) (at : get_elem? views id ≡ some v) (all : v.shares ≡ 65) where
  pub alone-times : (s k : ℕ) → times s k v ≡ due board s k
  alone-times s k = sym (total-alone shares_of (times s k) views id v (λ i u there none. ap (times s k) ((is.fits i u there).idle none)) at (is.shares_are ∙ sym all)) ∙ is.once s k

  pub alone-done : (s : ℕ) → ((entry_at board s).done ≡ true) ↔ HasMarked v s
  alone-done s =
      let same = total-alone shares_of (marks s) views id v (λ i u there none. ap (marks s) ((is.fits i u there).idle none)) at (is.shares_are ∙ sym all) in
      ((λ d. omega (arith, same, (is.done_is s).0 d)), (λ m. (is.done_is s).1 (omega (arith, same, m))))
