-- The cause of a finding, from what is kept.
use Rattle.std.proofs.Common.{◌≡◌, ℕ, suc, ◌-◌, ◌≤◌, get_or, nat_lt, if◌then◌else◌, true, false, List, length, refl, sym, ap, ◌∙◌, arith, Some, None}
use Rattle.pmf_event.{specs.declared.event.Event.{Event}, specs.declared.finding.Finding.{Finding}, specs.declared.finding.Finding.TheVariants.{PersistPass, PersistEmpty, OrderedPass, OrderedEmpty, CheckPass, PersistFail, CheckFail, OrderedFail, OrderedSameLine}, specs.Line.{line_of_byte}, specs.Places.{least}, specs.Store.{last_store, stores}, specs.Interval.{first_write_back, writes_back}, proofs.WriteBackLemmas.{last-bound}}
use Rattle.pmf_verdict.specs.Outcome.{outcome_of}
use Rattle.pmf_cause.{specs.declared.need.Need.{Need}, specs.Cause.{cause_at, fence_after, lack_by, lack_of, need_at, of_need, write_back_after}, specs.Later.{AreFences, asked, asks_byte}, specs.Laws.{asks_why}, proofs.LaterLemmas.{write_back-bound, write_back-split}}

module _ (es : List Event) (p : ℕ) where
  -- the cause of what asks for something
  pub by_need : (f : Finding) (n : Need) → need_at es p f ≡ Some n → of_need es (Some n) ≡ cause_at es p f
  unfolding need_at cause_at
  by_need (PersistFail b) n is = ap (of_need es) (sym is)
  by_need (CheckFail b) n is = ap (of_need es) (sym is)
  by_need (OrderedFail b after crash) n is = ap (of_need es) (sym is)
  by_need (OrderedSameLine b after) n is = ap (of_need es) (sym is)
  by_need _ n is = let bad : None ≡ Some n = is in cc

  -- a row that counts neither as fail nor as a warning has none
  pub no_cause : (f : Finding) → asks_why (outcome_of f) ≡ false → None ≡ cause_at es p f
  unfolding need_at cause_at
  no_cause PersistPass is = refl
  no_cause PersistEmpty is = refl
  no_cause OrderedPass is = refl
  no_cause OrderedEmpty is = refl
  no_cause CheckPass is = refl
  no_cause _ is = let bad : true ≡ false = is in cc

  -- what asks for something asks for a byte
  pub need_byte : (f : Finding) (n : Need) → need_at es p f ≡ Some n → asks_byte f ≡ true
  unfolding need_at asks_byte
  need_byte (PersistFail b) n is = refl
  need_byte (CheckFail b) n is = refl
  need_byte (OrderedFail b after crash) n is = refl
  need_byte (OrderedSameLine b after) n is = refl
  need_byte _ n is = let bad : None ≡ Some n = is in cc

  -- it is the byte that is asked for, and its last store
  pub need_asks : (f : Finding) (n : Need) → need_at es p f ≡ Some n → (n.byte ≡ asked f) × (n.last ≡ last_store es p n.byte)
  unfolding need_at asked
  need_asks (PersistFail b) n is = let own : record { byte = b; last = last_store es p b; due = suc p } ≡ n = cc in (ap (λ (m : Need). m.byte) (sym own), ap (λ (m : Need). m.last) (sym own) ∙ ap (λ (m : Need). last_store es p m.byte) own)
  need_asks (CheckFail b) n is = let own : record { byte = b; last = last_store es p b; due = suc p } ≡ n = cc in (ap (λ (m : Need). m.byte) (sym own), ap (λ (m : Need). m.last) (sym own) ∙ ap (λ (m : Need). last_store es p m.byte) own)
  need_asks (OrderedFail b after crash) n is = let own : record { byte = b; last = last_store es p b; due = last_store es p after } ≡ n = cc in (ap (λ (m : Need). m.byte) (sym own), ap (λ (m : Need). m.last) (sym own) ∙ ap (λ (m : Need). last_store es p m.byte) own)
  need_asks (OrderedSameLine b after) n is = let own : record { byte = b; last = last_store es p b; due = last_store es p after } ≡ n = cc in (ap (λ (m : Need). m.byte) (sym own), ap (λ (m : Need). m.last) (sym own) ∙ ap (λ (m : Need). last_store es p m.byte) own)
  need_asks _ n is = let bad : None ≡ Some n = is in cc

  -- the first write-back behind the last store is the one that is kept, or else the first behind the place
  pub first_behind : (b w v : ℕ) → p ≤ length es → w ≡ first_write_back (stores b) (line_of_byte b) es p → v ≡ write_back_after es (line_of_byte b) p →
      (if nat_lt 0 w then w else v) ≡ write_back_after es (line_of_byte b) (last_store es p b)
  unfolding first_write_back
  first_behind b w v within kept later =
      let line = line_of_byte b in
      let l = last_store es p b in
      let first = least (writes_back es line l) p in
      ap (λ k. if nat_lt 0 k then k else v) kept
      ∙ ap (λ k. if nat_lt 0 first then first else k) later
      ∙ sym (write_back-split es line l p (last-bound (stores b) es p) within)

  pub by_is : (n : Need) (w v by : ℕ) → p ≤ length es → n.last ≡ last_store es p n.byte → by ≡ (if nat_lt 0 w then w else v) → w ≡ first_write_back (stores n.byte) (line_of_byte n.byte) es p →
      v ≡ write_back_after es (line_of_byte n.byte) p → by ≡ write_back_after es (line_of_byte n.byte) n.last
  by_is n w v by within last is kept later = is ∙ first_behind n.byte w v within kept later ∙ ap (write_back_after es (line_of_byte n.byte)) (sym last)

-- what is lacking, by the fences that are kept
pub lack_is : (es : List Event) (n : Need) (by : ℕ) (fences : List ℕ) → by ≡ write_back_after es (line_of_byte n.byte) n.last → AreFences es fences →
    lack_by n.last n.due by (get_or fences (length es - by) 0) ≡ lack_of es n
unfolding lack_of
lack_is es n by fences is kept =
    let bound = write_back-bound es (line_of_byte n.byte) n.last in
    ap (lack_by n.last n.due by) (kept.each by 0 (omega arith)) ∙ ap (λ k. lack_by n.last n.due k (fence_after es k)) is
