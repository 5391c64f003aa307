-- The record that a walk has come to, as the one that gave an event.
use Rattle.std.proofs.{Common.{◌≡◌, ℕ, ◌+◌, List, [], ◌∷◌, ◌++◌, Some, length, length-append, take, drop, refl, sym, ap, subst, ◌∙◌, arith, append_assoc, slice_get, take_at}, lemmas.Grind.{common_steps}}
use Rattle.pmf_storelog.{specs.Separators.{records_of}, specs.LogText.{current_of}, proofs.LogLemmas.{current_at-append, reading_at-append, reading_at-last}}
use Rattle.pmf_query.{specs.Walking.{IsNext}, specs.Passing.{GivesNext}, specs.Locating.{Gives, IsLocation}, proofs.CursorLemmas.{anew_all}}

pub slice_get-at : {A : Type 0} (xs : List A) (y : A) (ys : List A) → slice_get (xs ++ y ∷ ys) (length xs) ≡ Some y
slice_get-at [] y ys = refl
slice_get-at (x ∷ xs) y ys = slice_get-at xs y ys

module _ (before more : List (List ℕ)) (text : List ℕ) where
  -- the records, cut behind those before
  whole : (before ++ text ∷ []) ++ more ≡ before ++ text ∷ more
  whole = append_assoc before (text ∷ []) more

  longer : length ((before ++ text ∷ []) ++ more) ≡ length before + 1 + length more
  longer = omega (arith, length-append (before ++ text ∷ []) more, length-append before (text ∷ []))

  pub take_before : take (length before) ((before ++ text ∷ []) ++ more) ≡ before
  take_before = ap (take (length before)) whole ∙ take_at before (text ∷ more) (length before) refl

  pub gives_there : (section place : ℕ) (next : GivesNext before section place text) → Gives ((before ++ text ∷ []) ++ more) section place next.event (length before)
  unfolding current_of
  gives_there section place next = grind (arith, common_steps, longer, take_before, current_at-append, length-append, reading_at-append, reading_at-last)

module _ (bytes : List ℕ) (start offset : ℕ) (text : List ℕ) (next : ℕ) (found : IsNext bytes start offset text next) where
  all_records : (records_of (take start bytes) ++ text ∷ []) ++ records_of (drop next bytes) ≡ records_of bytes
  all_records = ap (λ records. records ++ records_of (drop next bytes)) (sym found.adds) ∙ sym (anew_all bytes next found.anew found.within)

  pub located : (section place number : ℕ) → GivesNext (records_of (take start bytes)) section place text → number ≡ length (records_of (take start bytes)) + 1 → IsLocation bytes section place number offset text
  located section place number gives is = record {
    index = length (records_of (take start bytes));
    numbered_so = is;
    event = gives.event;
    gives = subst (λ (records : List (List ℕ)). Gives records section place gives.event (length (records_of (take start bytes)))) all_records
        (gives_there (records_of (take start bytes)) (records_of (drop next bytes)) text section place gives);
    stands = record {
      is = subst (λ (records : List (List ℕ)). slice_get records (length (records_of (take start bytes))) ≡ Some text) all_records
          (ap (λ (records : List (List ℕ)). slice_get records (length (records_of (take start bytes)))) (whole (records_of (take start bytes)) (records_of (drop next bytes)) text)
          ∙ slice_get-at (records_of (take start bytes)) text (records_of (drop next bytes)));
      before = found.before ∙ subst (λ (records : List (List ℕ)). records_of (take start bytes) ≡ take (length (records_of (take start bytes))) records) all_records
          (sym (take_before (records_of (take start bytes)) (records_of (drop next bytes)) text));
      here = found.here;
    };
  }
