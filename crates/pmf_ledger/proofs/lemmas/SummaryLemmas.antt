-- What is written of sections part by part is their summary, where their names rise; and so are their report and their ledger text.
use Rattle.std.proofs.{Common.{◌≡◌, ◌≢◌, ℕ, ◌<◌, ◌≤◌, ◌==◌, true, false, not, List, [], ◌∷◌, ◌++◌, filter, flat_map, Contains, Option, Some, refl, sym, ◌∙◌, ap, subst, arith, inl, inr, append_assoc, append-nil}, lemmas.Bool.{cases_order, ne_eqb}, lemmas.Bool.Decides.{Decides-eqb}, lemmas.List.Elements.{Contains-append_left, Contains-append_right, Contains-push, Contains-push_cases, filter-append}, lemmas.Grind.{flat_map-append}}
use Rattle.pmf_verdict.specs.Checked.{Checked}
use Rattle.pmf_ledger.{specs.declared.form.Form.{Form}, specs.declared.form.Form.TheVariants.{Report, Summary, Ledger}, specs.LedgerValue.{LedgerValue}, specs.Names.{ComesBefore, Rises}, specs.Report.{text_of_totals, totals_of}, specs.Summary.{in_run, is_of_run, line_of_run, runs_of, text_of_run, text_of_summarized}, specs.Telling.{last_run, parts_after, run_named, text_before, text_behind, text_behind_run, text_told}, proofs.lemmas.MergingLemmas.{AllPairs-front, AllPairs-last, none_of_empty}, proofs.lemmas.TellingLemmas.{behind_some, between_other, between_same, is_of, is_other, last_run-other, last_run-same, named_push, parts_of_ledger, parts_of_report, parts_push, some-same}}

-- ---- the sections of a run

in_run-more : (run : ℕ) (xs : List Checked) (v : Checked) → v.section.name.run ≡ run → in_run run (xs ++ v ∷ []) ≡ in_run run xs ++ v ∷ []
in_run-more run xs v one = filter-append (is_of_run run) xs (v ∷ []) ∙ ap (λ ys. in_run run xs ++ ys) (rw (is_of run v one) refl)

in_run-other : (run : ℕ) (xs : List Checked) (v : Checked) → v.section.name.run ≢ run → in_run run (xs ++ v ∷ []) ≡ in_run run xs
in_run-other run xs v other = filter-append (is_of_run run) xs (v ∷ []) ∙ ap (λ ys. in_run run xs ++ ys) (rw (is_other run v other) refl) ∙ append-nil (in_run run xs)

in_run-none : (run : ℕ) (xs : List Checked) → ((c : Checked) → Contains xs c → c.section.name.run ≢ run) → in_run run xs ≡ []
in_run-none run [] none = refl
in_run-none run (s ∷ more) none =
    rw (is_other run s (none s (Contains-append_left (s ∷ []) more s (Contains-push [] s)))) (in_run-none run more (λ c found. none c (Contains-append_right (s ∷ []) more c found)))

-- ---- the runs

is_one : (a b : ℕ) → a ≡ b → (a == b) ≡ true
is_one a b one = (Decides-eqb a b).1 one

-- a section more of the last run
runs_same : (xs : List Checked) (l v : Checked) → l.section.name.run ≡ v.section.name.run → runs_of (xs ++ l ∷ v ∷ []) ≡ runs_of (xs ++ l ∷ [])
unfolding runs_of
runs_same [] l v one = rw (is_one v.section.name.run l.section.name.run (sym one)) refl
runs_same (s ∷ more) l v one = ap (λ runs. s.section.name.run ∷ filter (λ run. not (run == s.section.name.run)) runs) (runs_same more l v one)

-- a section of a later run
runs_new : (xs : List Checked) (v : Checked) → ((c : Checked) → Contains xs c → c.section.name.run < v.section.name.run) → runs_of (xs ++ v ∷ []) ≡ runs_of xs ++ v.section.name.run ∷ []
unfolding runs_of
runs_new [] v later = refl
runs_new (s ∷ more) v later =
    let run = s.section.name.run in let new = v.section.name.run in
    let less : run < new = later s (Contains-append_left (s ∷ []) more s (Contains-push [] s)) in
    let differ : (new == run) ≡ false = ne_eqb new run (λ one. omega (arith, less, one)) in
    ap (λ runs. run ∷ filter (λ r. not (r == run)) runs) (runs_new more v (λ c found. later c (Contains-append_right (s ∷ []) more c found)))
    ∙ ap (λ runs. run ∷ runs) (filter-append (λ r. not (r == run)) (runs_of more) (new ∷ []) ∙ ap (λ ys. filter (λ r. not (r == run)) (runs_of more) ++ ys) (rw differ refl))

-- ---- the texts of runs

abbrev run_of : List Checked → ℕ → List ℕ
run_of sections run = flat_map text_of_summarized sections ++ line_of_run run (totals_of sections)

text_is : (xs : List Checked) (run : ℕ) → text_of_run xs run ≡ run_of (in_run run xs) run
unfolding text_of_run
text_is xs run = refl

text_kept : (xs : List Checked) (v : Checked) (run : ℕ) → v.section.name.run ≢ run → text_of_run (xs ++ v ∷ []) run ≡ text_of_run xs run
text_kept xs v run other = text_is (xs ++ v ∷ []) run ∙ ap (λ ys. run_of ys run) (in_run-other run xs v other) ∙ sym (text_is xs run)

texts_kept : (xs : List Checked) (v : Checked) (front : List ℕ) → ((q : ℕ) → Contains front q → q < v.section.name.run) →
    flat_map (text_of_run (xs ++ v ∷ [])) front ≡ flat_map (text_of_run xs) front
texts_kept xs v [] less = refl
texts_kept xs v (q ∷ more) less =
    let before : q < v.section.name.run = less q (Contains-append_left (q ∷ []) more q (Contains-push [] q)) in
    ap (λ text. text ++ flat_map (text_of_run (xs ++ v ∷ [])) more) (text_kept xs v q (λ one. omega (arith, before, one)))
    ∙ ap (λ text. text_of_run xs q ++ text) (texts_kept xs v more (λ r found. less r (Contains-append_right (q ∷ []) more r found)))

summarized_more : (xs : List Checked) (v : Checked) → flat_map text_of_summarized (xs ++ v ∷ []) ≡ flat_map text_of_summarized xs ++ text_of_summarized v
summarized_more xs v = flat_map-append text_of_summarized xs (v ∷ []) ∙ ap (λ text. flat_map text_of_summarized xs ++ text) (append-nil (text_of_summarized v))

runs_more : (xs : List Checked) (front : List ℕ) (run : ℕ) → flat_map (text_of_run xs) (front ++ run ∷ []) ≡ flat_map (text_of_run xs) front ++ text_of_run xs run
runs_more xs front run = flat_map-append (text_of_run xs) front (run ∷ []) ∙ ap (λ text. flat_map (text_of_run xs) front ++ text) (append-nil (text_of_run xs run))

-- ---- what is written so far

differs : (named : Option ℕ) (run other : ℕ) → named ≡ Some run → named ≡ Some other → run < other → ⊥
differs named run other one two less = let same : run ≡ other = some-same run other (sym one ∙ two) in omega (arith, less, same)

-- the last of these sections is of the last run, and behind those of the runs before it stand its sections so far
record Stands (xs : List Checked) : Type 0 where
  front : List ℕ
  before : List Checked
  last : Checked
  whole : xs ≡ before ++ last ∷ []
  runs : runs_of xs ≡ front ++ last.section.name.run ∷ []
  less : (q : ℕ) → Contains front q → q < last.section.name.run
  greatest : (c : Checked) → Contains xs c → c.section.name.run ≤ last.section.name.run
  own : last_run xs ≡ in_run last.section.name.run xs
  named : run_named (last_run xs) ≡ Some last.section.name.run
  text : parts_after Summary [] xs ≡ flat_map (text_of_run xs) front ++ flat_map text_of_summarized (in_run last.section.name.run xs)

alone : (v : Checked) → in_run v.section.name.run (v ∷ []) ≡ v ∷ []
alone v = in_run-more v.section.name.run [] v refl

first : (v : Checked) → Stands (v ∷ [])
unfolding last_run runs_of
first v = record {
  front = [];
  before = [];
  last = v;
  whole = refl;
  runs = refl;
  less = λ q found. absurd (none_of_empty [] q refl found);
  greatest = λ c found. elim (Contains-push_cases [] v c found) [ inl earlier ↦ absurd (none_of_empty [] c refl earlier) | inr here ↦ subst (λ (d : Checked). d.section.name.run ≤ v.section.name.run) here (omega arith) ];
  own = sym (alone v);
  named = refl;
  text = ap (λ ys. flat_map text_of_summarized ys) (sym (alone v));
}

-- a name that comes before another is of no later run
not_later : (a b : Checked) → ComesBefore a b → a.section.name.run ≤ b.section.name.run
not_later a b (inl less) = omega (arith, less)
not_later a b (inr same) = let one = same.0 in omega (arith, one)

module _ (xs : List Checked) (v : Checked) (is : Stands xs) (rises : Rises (xs ++ v ∷ [])) where
  last_held : Contains xs is.last
  last_held = subst (λ ys. Contains ys is.last) (sym is.whole) (Contains-push is.before is.last)

  up_to : is.last.section.name.run ≤ v.section.name.run
  up_to = not_later is.last v (AllPairs-last ComesBefore xs v rises is.last last_held)

  greatest_more : (c : Checked) → Contains (xs ++ v ∷ []) c → c.section.name.run ≤ v.section.name.run
  greatest_more c found = elim (Contains-push_cases xs v c found) [
    | inl earlier ↦ let least = is.greatest c earlier in let more = up_to in omega (arith, least, more)
    | inr here ↦ subst (λ (d : Checked). d.section.name.run ≤ v.section.name.run) here (omega arith)
  ]

  next_same : is.last.section.name.run ≡ v.section.name.run → Stands (xs ++ v ∷ [])
  next_same one =
      let named : run_named (last_run xs) ≡ Some v.section.name.run = is.named ∙ ap Some one in
      let longer : last_run (xs ++ v ∷ []) ≡ last_run xs ++ v ∷ [] = last_run-same xs v named in
      let held : in_run v.section.name.run (xs ++ v ∷ []) ≡ in_run v.section.name.run xs ++ v ∷ [] = in_run-more v.section.name.run xs v refl in
      let less : (q : ℕ) → Contains is.front q → q < v.section.name.run = subst (λ run. (q : ℕ) → Contains is.front q → q < run) one is.less in
      let texts = flat_map (text_of_run xs) is.front in let so_far = flat_map text_of_summarized (in_run v.section.name.run xs) in
      record {
        front = is.front;
        before = xs;
        last = v;
        whole = refl;
        runs = ap (λ ys. runs_of (ys ++ v ∷ [])) is.whole ∙ ap runs_of (append_assoc is.before (is.last ∷ []) (v ∷ [])) ∙ runs_same is.before is.last v one ∙ ap runs_of (sym is.whole)
            ∙ is.runs ∙ ap (λ run. is.front ++ run ∷ []) one;
        less = less;
        greatest = greatest_more;
        own = longer ∙ ap (λ ys. ys ++ v ∷ []) (is.own ∙ ap (λ run. in_run run xs) one) ∙ sym held;
        named = ap run_named (longer ∙ ap (λ ys. ys ++ v ∷ []) (is.own ∙ ap (λ run. in_run run xs) one)) ∙ named_push (in_run v.section.name.run xs) v v.section.name.run (ap run_named (sym (is.own ∙ ap (λ run. in_run run xs) one)) ∙ named);
        text = parts_push Summary [] xs v ∙ ap (λ text. parts_after Summary [] xs ++ (text ++ text_of_summarized v)) (between_same (last_run xs) v named)
            ∙ ap (λ text. text ++ text_of_summarized v) (is.text ∙ ap (λ run. texts ++ flat_map text_of_summarized (in_run run xs)) one)
            ∙ append_assoc texts so_far (text_of_summarized v)
            ∙ ap (λ text. texts ++ text) (sym (ap (flat_map text_of_summarized) held ∙ summarized_more (in_run v.section.name.run xs) v))
            ∙ ap (λ text. text ++ flat_map text_of_summarized (in_run v.section.name.run (xs ++ v ∷ []))) (sym (texts_kept xs v is.front less));
      }

  next_other : is.last.section.name.run < v.section.name.run → Stands (xs ++ v ∷ [])
  next_other later =
      let run = is.last.section.name.run in
      let other : run_named (last_run xs) ≢ Some v.section.name.run = λ named. differs (run_named (last_run xs)) run v.section.name.run is.named named later in
      let shorter : last_run (xs ++ v ∷ []) ≡ v ∷ [] = last_run-other xs v other in
      let below : (c : Checked) → Contains xs c → c.section.name.run < v.section.name.run = λ c found. let least = is.greatest c found in omega (arith, least, later) in
      let held : in_run v.section.name.run (xs ++ v ∷ []) ≡ v ∷ [] =
      in_run-more v.section.name.run xs v refl ∙ ap (λ ys. ys ++ v ∷ []) (in_run-none v.section.name.run xs (λ c found one. let less = below c found in omega (arith, less, one))) in
      let less : (q : ℕ) → Contains (is.front ++ run ∷ []) q → q < v.section.name.run =
      λ q found. elim (Contains-push_cases is.front run q found) [ inl earlier ↦ (let least = is.less q earlier in omega (arith, least, later)) | inr here ↦ omega (arith, here, later) ] in
      let texts = flat_map (text_of_run xs) is.front in let so_far = flat_map text_of_summarized (in_run run xs) in
      let line = line_of_run run (totals_of (in_run run xs)) in
      record {
        front = is.front ++ run ∷ [];
        before = xs;
        last = v;
        whole = refl;
        runs = runs_new xs v below ∙ ap (λ runs. runs ++ v.section.name.run ∷ []) is.runs;
        less = less;
        greatest = greatest_more;
        own = shorter ∙ sym held;
        named = ap run_named shorter;
        text = parts_push Summary [] xs v
            ∙ ap (λ text. parts_after Summary [] xs ++ (text ++ text_of_summarized v)) (between_other (last_run xs) v other ∙ behind_some (last_run xs) run is.named ∙ ap (λ ys. line_of_run run (totals_of ys)) is.own)
            ∙ ap (λ text. text ++ (line ++ text_of_summarized v)) is.text
            ∙ append_assoc texts so_far (line ++ text_of_summarized v)
            ∙ ap (λ text. texts ++ text) (sym (append_assoc so_far line (text_of_summarized v)) ∙ ap (λ text. text ++ text_of_summarized v) (sym (text_is xs run)))
            ∙ sym (append_assoc texts (text_of_run xs run) (text_of_summarized v))
            ∙ ap (λ text. text ++ text_of_summarized v) (sym (runs_more xs is.front run) ∙ sym (texts_kept xs v (is.front ++ run ∷ []) less))
            ∙ ap (λ text. flat_map (text_of_run (xs ++ v ∷ [])) (is.front ++ run ∷ []) ++ text) (sym (append-nil (text_of_summarized v)) ∙ ap (flat_map text_of_summarized) (sym held));
      }

  next : Stands (xs ++ v ∷ [])
  next = elim (cases_order is.last.section.name.run v.section.name.run) [
    | inl one ↦ next_same one
    | inr (inl less) ↦ next_other less
    | inr (inr greater) ↦ let most = up_to in absurd (omega (arith, greater, most))
  ]

all_stand : (before more : List Checked) → Stands before → Rises (before ++ more) → Stands (before ++ more)
all_stand before [] is rises = subst Stands (sym (append-nil before)) is
all_stand before (s ∷ more) is rises =
    let whole : (before ++ s ∷ []) ++ more ≡ before ++ s ∷ more = append_assoc before (s ∷ []) more in
    let longer : Rises ((before ++ s ∷ []) ++ more) = subst Rises (sym whole) rises in
    subst Stands whole (all_stand (before ++ s ∷ []) more (next before s is (AllPairs-front ComesBefore (before ++ s ∷ []) more longer)) longer)

-- what is written part by part, and behind the last part
summarizes : (xs : List Checked) → Rises xs → parts_after Summary [] xs ++ text_behind_run (last_run xs) ≡ flat_map (text_of_run xs) (runs_of xs)
unfolding last_run runs_of
summarizes [] rises = refl
summarizes (s ∷ more) rises =
    let is = all_stand (s ∷ []) more (first s) rises in let xs = s ∷ more in let run = is.last.section.name.run in
    let texts = flat_map (text_of_run xs) is.front in let so_far = flat_map text_of_summarized (in_run run xs) in
    let line = line_of_run run (totals_of (in_run run xs)) in
    ap (λ text. text ++ text_behind_run (last_run xs)) is.text
    ∙ ap (λ text. (texts ++ so_far) ++ text) (behind_some (last_run xs) run is.named ∙ ap (λ ys. line_of_run run (totals_of ys)) is.own)
    ∙ append_assoc texts so_far line ∙ ap (λ text. texts ++ text) (sym (text_is xs run)) ∙ sym (runs_more xs is.front run) ∙ ap (flat_map (text_of_run xs)) (sym is.runs)

-- what is written part by part is the text of the ledger
pub told_whole : (form : Form) (ledger : LedgerValue) → Rises ledger.sections →
    text_before form ledger.profile ++ parts_after form [] ledger.sections ++ text_behind form ledger.sections ≡ text_told form ledger
told_whole Report ledger rises = ap (λ text. text ++ text_of_totals (totals_of ledger.sections)) (parts_of_report [] ledger.sections)
told_whole Summary ledger rises =
    sym (append_assoc (parts_after Summary [] ledger.sections) (text_behind_run (last_run ledger.sections)) (text_of_totals (totals_of ledger.sections)))
    ∙ ap (λ text. text ++ text_of_totals (totals_of ledger.sections)) (summarizes ledger.sections rises)
told_whole Ledger ledger rises =
    ap (λ text. (text_before Ledger ledger.profile ++ text) ++ text_behind Ledger ledger.sections) (parts_of_ledger [] ledger.sections)
