-- What the calls do to what a pass knows, of one step and of several.
use Rattle.std.proofs.{Common.{◌≡◌, ℕ, ◌+◌, ◌-◌, ◌%◌, ◌<◌, ◌≤◌, true, false, cond, ◌&&◌, eqb, count_by, ◌⊎◌, inl, inr, ⊎_elim, [], ◌∷◌, ◌++◌, refl, sym, ◌∙◌, ap, subst, arith, Option, Some, None, is_some, IfSome, IfNone, eq-eqb, le-leb}, lemmas.Bool.{lt-leb, cases_lt, true≢false}, lemmas.List.Elements.{Contains-append_left, Contains-append_right}, lemmas.Grind.{common_steps}}
use Rattle.pmf_board.{specs.declared.entry.Entry.{Entry}, specs.declared.task.Task.{Task}, specs.declared.view.View.{View}, specs.Machine.{entry}, specs.Views.{task, both, most_seen, seen, took, marked, HasSeenDone, HasSeenClosed, IsFrozen, NeverFalls}, specs.Rule.{Agrees, entry_of}, specs.Calls.{Marks, Stays, Takes, round_from}, proofs.lemmas.KeepLemmas.{bit, times-took, dones-both}, proofs.lemmas.SightLemmas.{most-le, most-of, dones-found, most-append_left, most-append_right, most-more, most-here, dones-more, dones-here, dones-cons}}

pub NeverFalls-step : (v w : View) (s : ℕ) (e : Entry) → (HasSeenDone v s → e.handouts ≤ most_seen s v) → w.saw ≡ (seen v s e).saw → NeverFalls v w
NeverFalls-step v w s e still is = subst (λ saw. NeverFalls v (record { took = w.took; marked = w.marked; saw = saw; shares = w.shares })) (sym is)
    (record {
      most = λ t. most-more s e v.saw t;
      done = λ t d. omega (arith, d, dones-more s e v.saw t);
      frozen = λ t d.
          let le = most-le s t (most_seen t v) e v.saw (λ same. subst (λ (k : ℕ). HasSeenDone v k → e.handouts ≤ most_seen k v) same still d) (omega arith) in
          omega (arith, le, most-more s e v.saw t);
    })

pub NeverFalls-both : (u v w : View) → NeverFalls u v → NeverFalls v w → NeverFalls u w
NeverFalls-both u v w a b = record { most = λ s. omega (arith, a.most s, b.most s); done = λ s d. b.done s (a.done s d); frozen = λ s d. b.frozen s (a.done s d) ∙ a.frozen s d }

pub Stays-seen : (v w : View) (s : ℕ) (e : Entry) → Agrees v s e → w ≡ seen v s e → Stays v w
Stays-seen v w s e agrees is = record { took = ap (λ u. u.took) is; marked = ap (λ u. u.marked) is; shares = ap (λ u. u.shares) is; never_falls = NeverFalls-step v w s e (λ d. omega (arith, agrees.frozen d)) (ap (λ u. u.saw) is) }

pub Marks-marked : (v w : View) (s : ℕ) (e : Entry) → Agrees v s e → w ≡ marked v s e.handouts → Marks v s w
Marks-marked v w s e agrees is = subst (Marks v s) (sym is) (record {
  took = refl;
  marked = refl;
  shares = refl;
  done = dones-here s (entry e.handouts true) v.saw refl;
  never_falls = NeverFalls-step v (marked v s e.handouts) s (entry e.handouts true) (λ d. omega (arith, agrees.frozen d)) refl;
})

pub Stays-both : (u v w : View) → Stays u v → Stays v w → Stays u w
Stays-both u v w a b = record { took = b.took ∙ a.took; marked = b.marked ∙ a.marked; shares = b.shares ∙ a.shares; never_falls = NeverFalls-both u v w a.never_falls b.never_falls }

-- a section that was seen done
pub seen-done : (v w : View) (s : ℕ) (e : Entry) → w ≡ seen v s e → e.done ≡ true → HasSeenDone w s
seen-done v w s e is d = subst (λ u. HasSeenDone u s) (sym is) (dones-here s e v.saw d)

-- a section that was seen with so many hand-outs
pub seen-most : (v w : View) (s : ℕ) (e : Entry) → w ≡ seen v s e → most_seen s v ≤ e.handouts → most_seen s w ≡ e.handouts
seen-most v w s e is le = ap (most_seen s) is ∙ most-here s e v.saw le

pub Takes-took : (limit : ℕ) (v w : View) (s : ℕ) (e : Entry) → Agrees v s e → e.done ≡ false → e.handouts < limit → w ≡ took v (task s (e.handouts + 1)) → Takes limit v (task s (e.handouts + 1)) w
Takes-took limit v w s e agrees not_done less is = subst (Takes limit v (task s (e.handouts + 1))) (sym is) (record {
  took = refl;
  marked = refl;
  shares = refl;
  has = let one : bit (eqb s s && eqb (e.handouts + 1) (e.handouts + 1)) ≡ 1 = (λ i. bit (eq-eqb s s refl i && eq-eqb (e.handouts + 1) (e.handouts + 1) refl i)) in omega (arith, times-took v s (e.handouts + 1) s (e.handouts + 1), one);
  number = (omega arith, omega (arith, less));
  above = omega (arith, agrees.most);
  open_before = ((λ d. true≢false (sym (agrees.done d) ∙ not_done)), (λ m. true≢false (sym (agrees.marked m) ∙ not_done)));
  seen = (most-here s (entry (e.handouts + 1) false) v.saw (omega (arith, agrees.most)), (λ d. ⊎_elim (λ h. true≢false (sym h.1)) (λ h. true≢false (sym (agrees.done h) ∙ not_done)) (dones-cons s (entry (e.handouts + 1) false) v.saw s d)));
  never_falls = NeverFalls-step v (took v (task s (e.handouts + 1))) s (entry (e.handouts + 1) false) (λ d. absurd (true≢false (sym (agrees.done d) ∙ not_done))) refl;
})

pub Takes-after : (limit : ℕ) (u v w : View) (t : Task) → Stays u v → Takes limit v t w → Takes limit u t w
Takes-after limit u v w t a b = record {
  took = b.took ∙ ap (λ ts. ts ++ t ∷ []) a.took;
  marked = b.marked ∙ a.marked;
  shares = b.shares ∙ a.shares;
  has = b.has;
  number = b.number;
  above = omega (arith, a.never_falls.most t.section, b.above);
  open_before = ((λ d. b.open_before.0 (a.never_falls.done t.section d)), (λ m. b.open_before.1 (subst (λ ms. 0 < count_by (λ k. eqb k t.section) ms) (sym a.marked) m)));
  seen = b.seen;
  never_falls = NeverFalls-both u v w a.never_falls b.never_falls;
}

pub closed-later : (limit : ℕ) (v w : View) (s : ℕ) → NeverFalls v w → HasSeenClosed limit v s → HasSeenClosed limit w s
closed-later limit v w s falls (inl d) = inl (falls.done s d)
closed-later limit v w s falls (inr m) = inr (omega (arith, falls.most s, m))

-- the word is not above what the pass saw of its section
pub record Known (v : View) (s word : ℕ) : Type 0 where
  pub most : word % 16 ≤ most_seen s v
  pub done : 16 ≤ word → HasSeenDone v s

pub Known-seen : (v w : View) (s word : ℕ) → w ≡ seen v s (entry_of word) → Agrees v s (entry_of word) → Known w s word
Known-seen v w s word is agrees = grind (arith, common_steps, seen-most, seen-done, le-leb)

-- a word that is not below the limit is of a section that isn't on offer
pub closed-known : (limit : ℕ) (v : View) (s word : ℕ) → limit ≤ 8 → Known v s word → limit ≤ word → HasSeenClosed limit v s
closed-known limit v s word few known high = by (cases_lt word 16)
  where
    by : (word < 16) ⊎ (16 ≤ word) → HasSeenClosed limit v s
    by (inl below) = let same : word % 16 ≡ word = omega (arith, below) in inr (omega (arith, known.most, same, high))
    by (inr done) = inl (known.done done)

-- a word below 8 is that of a section that isn't done
pub low-not_done : (word : ℕ) → word < 8 → (entry_of word).done ≡ false
low-not_done word low = lt-leb 16 word (omega (arith, low))

-- one step further
pub closed-more : (limit first section : ℕ) (v w : View) → NeverFalls v w → ((s : ℕ) → first ≤ s → s < section → HasSeenClosed limit v s) → HasSeenClosed limit w section
    → (s : ℕ) → first ≤ s → s < section + 1 → HasSeenClosed limit w s
closed-more limit first section v w falls before here s from below = by (cases_lt s section)
  where
    by : (s < section) ⊎ (section ≤ s) → HasSeenClosed limit w s
    by (inl less) = closed-later limit v w s falls (before s from less)
    by (inr more) = let same : section ≡ s = omega (arith, more, below) in subst (HasSeenClosed limit w) same here

pub round-round : (n first s : ℕ) → s < first → round_from n first s ≡ s + n - first
round-round n first s lt = ap (λ b. cond b (s - first) (s + n - first)) (lt-leb first s lt)

pub passes-round : (limit n first t : ℕ) (u v : View) → NeverFalls u v → t < first → ((s : ℕ) → first ≤ s → s < n → HasSeenClosed limit u s) → ((s : ℕ) → 0 ≤ s → s < t → HasSeenClosed limit v s)
    → (s : ℕ) → s < n → round_from n first s < round_from n first t → HasSeenClosed limit v s
passes-round limit n first t u v falls back up round s there before = by (cases_lt s first)
  where
    by : (s < first) ⊎ (first ≤ s) → HasSeenClosed limit v s
    by (inl less) = round s (omega arith) (omega (arith, before, round-round n first s less, round-round n first t back))
    by (inr more) = closed-later limit u v s falls (up s more there)

pub all-round : (limit n first : ℕ) (u v : View) → NeverFalls u v → ((s : ℕ) → first ≤ s → s < n → HasSeenClosed limit u s) → ((s : ℕ) → 0 ≤ s → s < first → HasSeenClosed limit v s)
    → (s : ℕ) → s < n → HasSeenClosed limit v s
all-round limit n first u v falls up round s there = by (cases_lt s first)
  where
    by : (s < first) ⊎ (first ≤ s) → HasSeenClosed limit v s
    by (inl less) = round s (omega arith) less
    by (inr more) = closed-later limit u v s falls (up s more there)

module _ {A P : Type 0} where
  pub IfNone-of : (r : Option A) → is_some r ≡ false → IfNone r P → P
  IfNone-of r none told = grind (arith, common_steps)

module _ {A P Q : Type 0} where
  pub IfNone-then : (r : Option A) → (P → Q) → IfNone r P → IfNone r Q
  IfNone-then r then told = grind (arith, common_steps)

module _ {A : Type 0} {P Q : A → Type 0} where
  pub IfSome-then : (r : Option A) → ((x : A) → P x → Q x) → IfSome r P → IfSome r Q
  IfSome-then r then told = grind (arith, common_steps)

-- what either of two joined passes saw never falls
pub NeverFalls-left : (v w : View) → IsFrozen (both v w) → NeverFalls v (both v w)
NeverFalls-left v w is = record {
  most = λ s. most-append_left s v.saw w.saw;
  done = λ s d. omega (arith, d, dones-both v w s);
  frozen = λ s d.
      let found = dones-found s v.saw d in
      let top = is found.0 (Contains-append_left v.saw w.saw found.0 found.1) found.3 in
      subst (λ (k : ℕ). most_seen k (both v w) ≡ most_seen k v) found.2 (omega (arith, top, most-of found.0 v.saw found.1, most-append_left found.0.section v.saw w.saw));
}

pub NeverFalls-right : (v w : View) → IsFrozen (both v w) → NeverFalls w (both v w)
NeverFalls-right v w is = record {
  most = λ s. most-append_right s v.saw w.saw;
  done = λ s d. omega (arith, d, dones-both v w s);
  frozen = λ s d.
      let found = dones-found s w.saw d in
      let top = is found.0 (Contains-append_right v.saw w.saw found.0 found.1) found.3 in
      subst (λ (k : ℕ). most_seen k (both v w) ≡ most_seen k w) found.2 (omega (arith, top, most-of found.0 w.saw found.1, most-append_right found.0.section v.saw w.saw));
}
