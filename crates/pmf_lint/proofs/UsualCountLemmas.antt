-- What is counted of a record whose name is known by how it begins.
use Rattle.std.{proofs.Common.{◌≡◌, ℕ, zero, suc, ◌+◌, ◌<◌, Bool, true, false, not, ◌&&◌, ◌||◌, cond, List, [], ◌∷◌, ◌++◌, length, map, bytes_eq, get_or, slice_set, Result, Ok, Err, refl, sym, ap, ◌∙◌, arith}, proofs.lemmas.Bool.{false≢true}, proofs.lemmas.Grind.{common_steps}}
use Rattle.pmf_storelog.specs.{declared.fault.Cause.{Cause}, declared.record.Saying.{Saying}, declared.record.Saying.TheVariants.{Happens, Enters, Skipped}, LogText.{is_skipped, says_nothing}, Records.{record_of}}
use Rattle.pmf_query.specs.{RecordNames.{known_names, name_of}, Usual.{IsUsual, says_event}}
use Rattle.pmf_lint.{specs.declared.naming.Named.{Named}, specs.declared.noting.Notes.{Notes}, specs.Counting.{AreNotes}, specs.Naming.{counting, names_in}, proofs.NotingLemmas.{notes_more}}

-- ---- one count

-- whether none of these is the name, and whether that of this index alone is
abbrev pub none_is : List ℕ → List (List ℕ) → Bool
none_is name [] = true
none_is name (n ∷ ns) = not (bytes_eq n name) && none_is name ns

abbrev pub only_is : List ℕ → ℕ → List (List ℕ) → Bool
only_is name index [] = true
only_is name zero (n ∷ ns) = bytes_eq n name && none_is name ns
only_is name (suc index) (n ∷ ns) = not (bytes_eq n name) && only_is name index ns

both_true : (a b : Bool) → (a && b) ≡ true → (a ≡ true) × (b ≡ true)
both_true a b is = grind (arith, common_steps)

not_true : (a : Bool) → not a ≡ true → a ≡ false
not_true a is = grind (arith, common_steps)

uncounted : (name : List ℕ) (c : Named) → bytes_eq c.name.now name ≡ false → counting name c ≡ c
uncounted name c apart = ap (λ b. record { name = c.name; records = c.records + cond b 1 0 }) apart ∙ (let same : c.records + 0 ≡ c.records = omega arith in ap (λ n. record { name = c.name; records = n }) same)

none_counted : (name : List ℕ) (counts : List Named) → none_is name (names_in counts) ≡ true → map (counting name) counts ≡ counts
none_counted name [] none = refl
none_counted name (c ∷ counts) none =
    let parts = both_true (not (bytes_eq c.name.now name)) (none_is name (names_in counts)) none in
    ap (λ k. k ∷ map (counting name) counts) (uncounted name c (not_true (bytes_eq c.name.now name) parts.0)) ∙ ap (λ ks. c ∷ ks) (none_counted name counts parts.1)

abbrev pub one_more : Named → Named
one_more c = record { name = c.name; records = c.records + 1 }

pub one_counted : (name : List ℕ) (index : ℕ) (counts : List Named) (d : Named) → only_is name index (names_in counts) ≡ true → index < length counts → slice_set counts index (one_more (get_or counts index d)) ≡ map (counting name) counts
one_counted name index [] d only within = absurd (omega arith)
one_counted name zero (c ∷ counts) d only within =
    let parts = both_true (bytes_eq c.name.now name) (none_is name (names_in counts)) only in
    ap (λ ks. one_more c ∷ ks) (sym (none_counted name counts parts.1)) ∙ ap (λ b. record { name = c.name; records = c.records + cond b 1 0 } ∷ map (counting name) counts) (sym parts.0)
one_counted name (suc index) (c ∷ counts) d only within =
    let parts = both_true (not (bytes_eq c.name.now name)) (only_is name index (names_in counts)) only in
    ap (λ ks. c ∷ ks) (one_counted name index counts d parts.1 (omega arith)) ∙ ap (λ k. k ∷ map (counting name) counts) (sym (uncounted name c (not_true (bytes_eq c.name.now name) parts.0)))

-- each known name stands once among them
pub known_once : (index : ℕ) → index < 13 → only_is (get_or known_names index []) index known_names ≡ true
known_once zero within = refl
known_once (suc zero) within = refl
known_once (suc (suc zero)) within = refl
known_once (suc (suc (suc zero))) within = refl
known_once (suc (suc (suc (suc zero)))) within = refl
known_once (suc (suc (suc (suc (suc zero))))) within = refl
known_once (suc (suc (suc (suc (suc (suc zero)))))) within = refl
known_once (suc (suc (suc (suc (suc (suc (suc zero))))))) within = refl
known_once (suc (suc (suc (suc (suc (suc (suc (suc zero)))))))) within = refl
known_once (suc (suc (suc (suc (suc (suc (suc (suc (suc zero))))))))) within = refl
known_once (suc (suc (suc (suc (suc (suc (suc (suc (suc (suc zero)))))))))) within = refl
known_once (suc (suc (suc (suc (suc (suc (suc (suc (suc (suc (suc zero))))))))))) within = refl
known_once (suc (suc (suc (suc (suc (suc (suc (suc (suc (suc (suc (suc zero)))))))))))) within = refl
known_once (suc (suc (suc (suc (suc (suc (suc (suc (suc (suc (suc (suc (suc index))))))))))))) within = absurd (omega arith)

says_something : (reading : Result Saying Cause) → says_event reading ≡ true → says_nothing reading ≡ false
says_something (Ok (Happens event)) is = refl
says_something (Ok (Enters number)) is = absurd (false≢true is)
says_something (Ok Skipped) is = absurd (false≢true is)
says_something (Err cause) is = refl

pub taken : (text : List ℕ) (index : ℕ) → IsUsual text index → is_skipped text ≡ false
unfolding is_skipped
taken text index usual = says_something (record_of text) usual.says

-- ---- what is told of one more

or_false : (a : Bool) → a ≡ (a || false)
or_false a = grind (arith, common_steps)

module _ (old : Notes) (records : List (List ℕ)) (text : List ℕ) (index : ℕ) (usual : IsUsual text index) where
  pub notes_same : AreNotes old records → AreNotes old (records ++ text ∷ [])
  notes_same notes = notes_more old old records text (name_of text) false false false false notes refl (sym (taken text index usual)) refl (or_false old.has_near) refl (or_false old.has_strange)
      (or_false old.starts ∙ ap (λ b. old.starts || b) (sym usual.starts)) (or_false old.stops ∙ ap (λ b. old.stops || b) (sym usual.stops)) (sym usual.decimal) (or_false old.has_decimal)
