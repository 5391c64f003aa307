-- Stretches of alike bytes: between two borders all bytes are alike, and alike bytes answer alike.
use Rattle.std.{proofs.Common.{◌≡◌, ℕ, suc, ◌+◌, ◌-◌, ◌<◌, ◌≤◌, not, ◌&&◌, nat_lt, List, length, refl, sym, ◌∙◌, ap, arith, inl, inr, Option, Some, None, nat_eq, ◌⊎◌}, specs.Option.{option_eq}, proofs.lemmas.Bool.{cases_lt, cases_eq}, proofs.lemmas.Option.{slice_get_past}, proofs.Math.Path.{fun_ext}, proofs.lemmas.Grind.{common_steps}}
use Rattle.pmf_event.{specs.declared.event.Event.{Event}, specs.declared.event.Event.TheVariants.{Store, Flush, Exclude, Include}, specs.Span.{Extent, covers_byte}, specs.Line.{line_of_byte, meets_line}, specs.Places.{greatest, count, some_between}, specs.Store.{event_at, passes, at, stores, stores_line, flushes, is_fence, last, last_store}, specs.Exclusion.{excludes, marks, is_excluded, is_included}, specs.Persist.{is_checked}, specs.Transactions.{in_transaction, scope_at, in_scope, stores_inside, is_scoped}, proofs.EventLemmas.{at-is}}
use Rattle.pmf_image.{specs.declared.certificate.Certificate.{Certificate}, specs.declared.questions.Question.{Question}, specs.Image.{count_of, is_fenced, floor_of, reach_of, reaches, shows}, specs.Certificate.{image_of, cut_in, shows_in}, specs.Borders.{AlikeAt, Alike}, specs.Questions.{is_asked, answer_of}, proofs.ImageLemmas.{reach-untorn}, proofs.CertificateLemmas.{cut-is}}

-- ---- bytes that an event doesn't tell apart

-- the event, if there is one, covers both bytes or neither, and meets the lines of both or of neither
pub record AlikeTo (b x : ℕ) (o : Option Event) : Type 0 where
  pub stored : passes (stores b) o ≡ passes (stores x) o
  pub line_stored : passes (stores_line (line_of_byte b)) o ≡ passes (stores_line (line_of_byte x)) o
  pub flushed : passes (flushes (line_of_byte b)) o ≡ passes (flushes (line_of_byte x)) o
  pub excluded : passes (excludes b) o ≡ passes (excludes x) o
  pub marked : passes (marks b) o ≡ passes (marks x) o

module _ (s : Extent) (b x : ℕ) (bytes : covers_byte s b ≡ covers_byte s x) (lines : meets_line s (line_of_byte b) ≡ meets_line s (line_of_byte x)) where
  alike-span : (e : Event) → (e ≡ Store s) ⊎ ((e ≡ Flush s) ⊎ ((e ≡ Exclude s) ⊎ (e ≡ Include s))) → AlikeTo b x (Some e)
  unfolding stores stores_line flushes excludes marks
  alike-span e (inl store) = rw store (record { stored = bytes; line_stored = lines; flushed = refl; excluded = refl; marked = refl })
  alike-span e (inr (inl flush)) = rw flush (record { stored = refl; line_stored = refl; flushed = lines; excluded = refl; marked = refl })
  alike-span e (inr (inr (inl exclude))) = rw exclude (record { stored = refl; line_stored = refl; flushed = refl; excluded = bytes; marked = bytes })
  alike-span e (inr (inr (inr include))) = rw include (record { stored = refl; line_stored = refl; flushed = refl; excluded = refl; marked = bytes })

alike-other : (b x : ℕ) (e : Event) → ((s : Extent) → e ≡ Store s → ⊥) → ((s : Extent) → e ≡ Flush s → ⊥) → ((s : Extent) → e ≡ Exclude s → ⊥) →
    ((s : Extent) → e ≡ Include s → ⊥) → AlikeTo b x (Some e)
unfolding stores stores_line flushes excludes marks
alike-other b x (Store s) no_store no_flush no_exclude no_include = absurd (no_store s refl)
alike-other b x (Flush s) no_store no_flush no_exclude no_include = absurd (no_flush s refl)
alike-other b x (Exclude s) no_store no_flush no_exclude no_include = absurd (no_exclude s refl)
alike-other b x (Include s) no_store no_flush no_exclude no_include = absurd (no_include s refl)
alike-other b x _ no_store no_flush no_exclude no_include = record { stored = refl; line_stored = refl; flushed = refl; excluded = refl; marked = refl }

alike_at-from : (es : List Event) (b x k : ℕ) (o : Option Event) → event_at es k ≡ o → AlikeTo b x o → AlikeAt es b x k
alike_at-from es b x k o here alike = grind (arith, common_steps, at-is)

alike_at-none : (es : List Event) (b x k : ℕ) → event_at es k ≡ None → AlikeAt es b x k
alike_at-none es b x k here = alike_at-from es b x k None here (record { stored = refl; line_stored = refl; flushed = refl; excluded = refl; marked = refl })

-- the event at the next place, as a pass over all events reads it

event-none : (es : List Event) (k : ℕ) → length es < k → event_at es k ≡ None
unfolding event_at
event-none es k past = grind (arith, common_steps, slice_get_past)

event-zero : (es : List Event) → event_at es 0 ≡ None
unfolding event_at
event-zero es = refl

-- ---- a pass over the events, for the end of a stretch

-- up to this end all bytes from b on are alike to it, at the first i places
pub record StretchesTo (es : List Event) (c : Certificate) (b limit i end : ℕ) : Type 0 where
  pub above : b < end
  pub below : end ≤ limit
  pub full_line : (x : ℕ) → b ≤ x → x < end → option_eq nat_eq c.full_line (Some (line_of_byte b)) ≡ option_eq nat_eq c.full_line (Some (line_of_byte x))
  pub places : (x : ℕ) → b ≤ x → x < end → (k : ℕ) → k ≤ i → AlikeAt es b x k

module _ (es : List Event) (c : Certificate) (b limit : ℕ) where
  pub stretch-start : (end : ℕ) → b < end → end ≤ limit →
      ((x : ℕ) → b ≤ x → x < end → option_eq nat_eq c.full_line (Some (line_of_byte b)) ≡ option_eq nat_eq c.full_line (Some (line_of_byte x))) →
      StretchesTo es c b limit 0 end
  stretch-start end above below full = record {
    above = above;
    below = below;
    full_line = full;
    places = λ x from until k within. let same : k ≡ 0 = omega arith in alike_at-none es b x k (ap (event_at es) same ∙ event-zero es);
  }

  stretch-step : (i end next : ℕ) (e : Event) → StretchesTo es c b limit i end → event_at es (suc i) ≡ Some e → b < next → next ≤ end →
      ((x : ℕ) → b ≤ x → x < next → AlikeTo b x (Some e)) → StretchesTo es c b limit (suc i) next
  stretch-step i end next e before here above below alike = record {
    above = above;
    below = let limited = before.below in omega arith;
    full_line = λ x from until. before.full_line x from (omega arith);
    places = λ x from until k within. elim (cases_eq k (suc i)) [
      | inl same ↦ alike_at-from es b x k (Some e) (ap (event_at es) same ∙ here) (alike x from until)
      | inr other ↦ before.places x from (omega arith) k (omega arith)
    ];
  }

  pub stretch-other : (i end next : ℕ) (e : Event) → StretchesTo es c b limit i end → event_at es (suc i) ≡ Some e →
      ((s : Extent) → e ≡ Store s → ⊥) → ((s : Extent) → e ≡ Flush s → ⊥) → ((s : Extent) → e ≡ Exclude s → ⊥) → ((s : Extent) → e ≡ Include s → ⊥) →
      next ≡ end → StretchesTo es c b limit (suc i) next
  stretch-other i end next e before here no_store no_flush no_exclude no_include same =
      stretch-step i end next e before here (let above = before.above in omega arith) (omega arith) (λ x from until. alike-other b x e no_store no_flush no_exclude no_include)

  -- an event with a span
  pub stretch-span : (i end next : ℕ) (e : Event) (s : Extent) → StretchesTo es c b limit i end → event_at es (suc i) ≡ Some e →
      (e ≡ Store s) ⊎ ((e ≡ Flush s) ⊎ ((e ≡ Exclude s) ⊎ (e ≡ Include s))) → b < next → next ≤ end →
      ((x : ℕ) → b ≤ x → x < next → covers_byte s b ≡ covers_byte s x) →
      ((x : ℕ) → b ≤ x → x < next → meets_line s (line_of_byte b) ≡ meets_line s (line_of_byte x)) → StretchesTo es c b limit (suc i) next
  stretch-span i end next e s before here is above below bytes lines =
      stretch-step i end next e before here above below (λ x from until. alike-span s b x (bytes x from until) (lines x from until) e is)

  pub stretch-alike : (i end x : ℕ) → StretchesTo es c b limit i end → i ≡ length es → b ≤ x → x < end → Alike es c b x
  stretch-alike i end x reached all from until = record {
    places = λ k. elim (cases_lt (length es) k) [
      | inl past ↦ alike_at-none es b x k (event-none es k past)
      | inr within ↦ reached.places x from until k (omega arith)
    ];
    full_line = reached.full_line x from until;
  }

-- ---- alike bytes answer alike

module _ (es : List Event) (c : Certificate) (b x : ℕ) (alike : Alike es c b x) where
  stored : at (stores b) es ≡ at (stores x) es
  stored = fun_ext (λ k. (alike.places k).stored)

  line_stored : at (stores_line (line_of_byte b)) es ≡ at (stores_line (line_of_byte x)) es
  line_stored = fun_ext (λ k. (alike.places k).line_stored)

  excluded : at (excludes b) es ≡ at (excludes x) es
  excluded = fun_ext (λ k. (alike.places k).excluded)

  marked : at (marks b) es ≡ at (marks x) es
  marked = fun_ext (λ k. (alike.places k).marked)

  last_store-alike : (p : ℕ) → last_store es p b ≡ last_store es p x
  unfolding last
  last_store-alike p = ap (λ t. greatest t p) stored

  excluded-alike : (p : ℕ) → is_excluded es p b ≡ is_excluded es p x
  unfolding is_excluded last
  excluded-alike p = ap (λ t. at (excludes b) es (greatest t p)) marked ∙ ap (λ t. t (greatest (at (marks x) es) p)) excluded

  included-alike : (p : ℕ) → is_included es p b ≡ is_included es p x
  unfolding is_included
  included-alike p = ap not (excluded-alike p)

  checked-alike : (p : ℕ) → is_checked es p b ≡ is_checked es p x
  unfolding is_checked
  checked-alike p = ap (λ k. nat_lt 0 k && not (is_excluded es p b)) (last_store-alike p) ∙ ap (λ v. nat_lt 0 (last_store es p x) && not v) (excluded-alike p)

  inside-alike : stores_inside es b ≡ stores_inside es x
  unfolding stores_inside
  inside-alike = fun_ext (λ j. ap (λ v. v && in_transaction es j) (alike.places j).stored)

  scoped-alike : (p : ℕ) → is_scoped es p b ≡ is_scoped es p x
  unfolding is_scoped
  scoped-alike p = ap (λ t. in_scope es p && nat_lt (scope_at es p) (greatest t p)) inside-alike

  count-alike : (n : ℕ) → count_of es n (line_of_byte b) ≡ count_of es n (line_of_byte x)
  unfolding count_of
  count-alike n = ap (λ t. count t n) line_stored

  fenced-alike : (n : ℕ) → is_fenced es n (line_of_byte b) ≡ is_fenced es n (line_of_byte x)
  unfolding is_fenced
  fenced-alike n = fun_ext (λ k. ap (λ v. v && some_between (at is_fence es) k (n + 1)) (alike.places k).flushed)

  floor-alike : (n : ℕ) → floor_of es n (line_of_byte b) ≡ floor_of es n (line_of_byte x)
  unfolding floor_of
  floor-alike n = ap (λ t. count_of es (greatest t n - 1) (line_of_byte b)) (fenced-alike n) ∙ count-alike (greatest (is_fenced es n (line_of_byte x)) n - 1)

  cut-alike : cut_in es c (line_of_byte b) ≡ cut_in es c (line_of_byte x)
  cut-alike = rw (cut-is es c (line_of_byte b), cut-is es c (line_of_byte x), alike.full_line, count-alike c.crash, floor-alike c.crash) refl

  reach-alike : reach_of es c.crash (image_of es c) b ≡ reach_of es c.crash (image_of es c) x
  reach-alike = reach-untorn es c.crash b (image_of es c) refl ∙ cut-alike ∙ sym (reach-untorn es c.crash x (image_of es c) refl)

  reaches-alike : reaches es c.crash (image_of es c) b ≡ reaches es c.crash (image_of es c) x
  unfolding reaches
  reaches-alike = fun_ext (λ k. rw ((alike.places k).stored, count-alike k, reach-alike) refl)

  shows-alike : shows_in es c b ≡ shows_in es c x
  unfolding shows
  shows-alike = ap (λ t. greatest t c.crash) reaches-alike

  asked-alike : (q : Question) (p : ℕ) → is_asked q es p b ≡ is_asked q es p x
  unfolding is_asked
  asked-alike q p = grind (arith, common_steps, checked-alike, scoped-alike, included-alike)

  pub answer-alike : (q : Question) (p : ℕ) → answer_of q es p c b ≡ answer_of q es p c x
  unfolding answer_of
  answer-alike q p = rw (asked-alike q p, shows-alike, last_store-alike p) refl
