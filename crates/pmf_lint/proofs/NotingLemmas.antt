-- What records tell of a log, with one record more.
use Rattle.std.{proofs.Common.{◌≡◌, ℕ, Bool, false, not, ◌&&◌, ◌||◌, List, [], ◌∷◌, ◌++◌, codes, sym, ap, ◌∙◌, refl, arith, is_some, bytes_eq}, specs.List.{list_any}, proofs.lemmas.List.{map-append}, proofs.lemmas.List.Elements.{filter-append}, proofs.lemmas.List.Folds.{list_any-append}, proofs.lemmas.Grind.{common_steps}}
use Rattle.pmf_storelog.specs.LogText.{is_skipped}
use Rattle.pmf_query.specs.{Decimal.{asserts_decimal}, RecordNames.{name_of}, Ascii.{is_text}}
use Rattle.pmf_lint.specs.{declared.noting.Notes.{Notes}, Counting.{AreNotes}, Ending.{has_decimal, has_record}, Naming.{skipped_names}, Nearness.{has_near, has_strange, near_of}}

or_last : (b : Bool) → (b || false) ≡ b
or_last b = grind (arith, common_steps)

any_more : {A : Type 0} (test : A → Bool) (xs : List A) (x : A) → list_any test (xs ++ x ∷ []) ≡ (list_any test xs || test x)
any_more test xs x = list_any-append test xs (x ∷ []) ∙ ap (λ b. list_any test xs || b) (or_last (test x))

-- a test of the names of those that are skipped, with one record more
skipped_more : (test : List ℕ → Bool) (records : List (List ℕ)) (text : List ℕ) → list_any test (skipped_names (records ++ text ∷ [])) ≡ (list_any test (skipped_names records) || (is_skipped text && test (name_of text)))
unfolding skipped_names
skipped_more test records text = grind (arith, common_steps, filter-append, map-append, list_any-append, or_last)

pub notes_none : (notes : Notes) → notes.has_near ≡ false → notes.has_strange ≡ false → notes.starts ≡ false → notes.stops ≡ false → notes.has_decimal ≡ false → AreNotes notes []
unfolding has_near has_strange has_record has_decimal skipped_names
notes_none notes near strange starts stops decimal = record { near = near; strange = strange; started = starts; stopped = stops; decimal = decimal }

module _ (old new : Notes) (records : List (List ℕ)) (text name : List ℕ) (skipped near strange decimal : Bool) (notes : AreNotes old records) (named : name ≡ name_of text) (skipped_is : skipped ≡ is_skipped text) where
  tested_more : (test : List ℕ → Bool) (before here after : Bool) → before ≡ list_any test (skipped_names records) → here ≡ (skipped && test name) → after ≡ (before || here) → after ≡ list_any test (skipped_names (records ++ text ∷ []))
  tested_more test before here after so is more =
      more ∙ ap (λ b. b || here) so ∙ ap (λ b. list_any test (skipped_names records) || b) (is ∙ ap (λ b. b && test name) skipped_is ∙ ap (λ n. is_skipped text && test n) named) ∙ sym (skipped_more test records text)

  near_more : near ≡ (skipped && is_some (near_of name)) → new.has_near ≡ (old.has_near || near) → new.has_near ≡ has_near (skipped_names (records ++ text ∷ []))
  unfolding has_near
  near_more is more = tested_more (λ n. is_some (near_of n)) old.has_near near new.has_near notes.near is more

  strange_more : strange ≡ (skipped && not (is_text name)) → new.has_strange ≡ (old.has_strange || strange) → new.has_strange ≡ has_strange (skipped_names (records ++ text ∷ []))
  unfolding has_strange
  strange_more is more = tested_more (λ n. not (is_text n)) old.has_strange strange new.has_strange notes.strange is more

  record_more : (word : List ℕ) (before after here : Bool) → before ≡ has_record word records → here ≡ bytes_eq name word → after ≡ (before || here) → after ≡ has_record word (records ++ text ∷ [])
  unfolding has_record
  record_more word before after here so is more =
      more ∙ ap (λ b. b || here) so ∙ ap (λ b. has_record word records || b) (is ∙ ap (λ n. bytes_eq n word) named) ∙ sym (any_more (λ t. bytes_eq (name_of t) word) records text)

  decimal_more : decimal ≡ asserts_decimal text → new.has_decimal ≡ (old.has_decimal || decimal) → new.has_decimal ≡ has_decimal (records ++ text ∷ [])
  unfolding has_decimal
  decimal_more is more = more ∙ ap (λ b. b || decimal) notes.decimal ∙ ap (λ b. has_decimal records || b) is ∙ sym (any_more asserts_decimal records text)

  pub notes_more : near ≡ (skipped && is_some (near_of name)) → new.has_near ≡ (old.has_near || near) → strange ≡ (skipped && not (is_text name)) → new.has_strange ≡ (old.has_strange || strange) →
      new.starts ≡ (old.starts || bytes_eq name (codes "START")) → new.stops ≡ (old.stops || bytes_eq name (codes "STOP")) → decimal ≡ asserts_decimal text → new.has_decimal ≡ (old.has_decimal || decimal) → AreNotes new (records ++ text ∷ [])
  notes_more near_is nearer strange_is stranger starts stops decimal_is more = record {
    near = near_more near_is nearer;
    strange = strange_more strange_is stranger;
    started = record_more (codes "START") old.starts new.starts (bytes_eq name (codes "START")) notes.started refl starts;
    stopped = record_more (codes "STOP") old.stops new.stops (bytes_eq name (codes "STOP")) notes.stopped refl stops;
    decimal = decimal_more decimal_is more;
  }
