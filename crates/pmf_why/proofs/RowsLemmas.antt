-- One row more, and one section more.
use Rattle.std.proofs.{Common.{◌≡◌, Bool, true, false, not, ◌&&◌, ◌||◌, nat_lt, if◌then◌else◌, List, [], ◌∷◌, ◌++◌, length, refl, sym, ap, subst, ◌∙◌, arith, inl, inr}, lemmas.Bool.{ltb-true, cases_lt, lt-ltb}}
use Rattle.std.specs.List.{AllZip, list_any}
use Rattle.pmf_request.specs.declared.settings.Reasons.{Reasons}
use Rattle.pmf_why.specs.{declared.kind.Kind.{Kind}, declared.taking.Told.{Told}, declared.taking.Telling.{Telling}, Kinds.{IsKindOf, is_one_kind}, Reasons.{Bad, are_alike, told_of}, Telling.{HasRows, IsToldAs, is_new_kind}}
use Rattle.pmf_why.proofs.{PairLemmas.{pair_length, pair_more}, FirstsLemmas.{told_again, told_full, told_new}, KindLemmas.{alike_passes, met_told}}

-- what follows where a row is to be told, and where it is not
new_so : (room all any : Bool) → (if room then all || not any else false) ≡ true → (room ≡ true) × ((not all && any) ≡ false)
new_so true true true is = (refl, refl)
new_so true true false is = (refl, refl)
new_so true false true is = absurd cc
new_so true false false is = (refl, refl)
new_so false all any is = absurd cc

old_so : (room all any : Bool) → (if room then all || not any else false) ≡ false → room ≡ true → (not all && any) ≡ true
old_so true true any is room = absurd cc
old_so true false true is room = refl
old_so true false false is room = absurd cc
old_so false all any is room = absurd cc

module _ (asked : Reasons) (rows : List Bad) (old : Telling) (has : HasRows asked rows old) (bad : Bad) (kind : Kind) (is : IsKindOf bad kind) where
  abbrev any : Bool
  any = list_any (λ (t : Told). is_one_kind t.kind kind) old.told.items

  met : list_any (λ x. are_alike asked x bad) (told_of asked rows) ≡ (not asked.all && any)
  met = met_told asked (told_of asked rows) old.told.items bad kind has.told is

  long : length (told_of asked rows) ≡ length old.told.items
  long = pair_length IsToldAs (told_of asked rows) old.told.items has.told

  new-is : is_new_kind old kind ≡ (if nat_lt (length old.told.items) asked.first then asked.all || not any else false)
  unfolding is_new_kind
  new-is = ap (λ (a : Reasons). if nat_lt (length old.told.items) a.first then a.all || not any else false) has.asked_is

  told-new : is_new_kind old kind ≡ true → told_of asked (rows ++ bad ∷ []) ≡ told_of asked rows ++ bad ∷ []
  unfolding told_of
  told-new new =
      let so = new_so (nat_lt (length old.told.items) asked.first) asked.all any (sym new-is ∙ new) in
      told_new (are_alike asked) (alike_passes asked) asked.first rows bad (met ∙ so.1) (omega (arith, long, ltb-true (length old.told.items) asked.first so.0))

  told-old : is_new_kind old kind ≡ false → told_of asked (rows ++ bad ∷ []) ≡ told_of asked rows
  unfolding told_of
  told-old none = elim (cases_lt (length old.told.items) asked.first) [
    | inl room ↦ told_again (are_alike asked) (alike_passes asked) asked.first rows bad
        (met ∙ old_so (nat_lt (length old.told.items) asked.first) asked.all any (sym new-is ∙ none) (lt-ltb (length old.told.items) asked.first room))
    | inr full ↦ told_full (are_alike asked) (alike_passes asked) asked.first rows bad (omega (arith, long, full))
  ]

  module _ (new : Telling) (asked_is : new.asked ≡ old.asked) (kinds : new.kinds.items ≡ old.kinds.items ++ kind ∷ []) where
    kinds-more : AllZip IsKindOf (rows ++ bad ∷ []) new.kinds.items
    kinds-more = subst (λ (ks : List Kind). AllZip IsKindOf (rows ++ bad ∷ []) ks) (sym kinds) (pair_more IsKindOf rows old.kinds.items bad kind has.kinds is)

    -- a row that is not told
    pub rows_old : is_new_kind old kind ≡ false → new.told.items ≡ old.told.items → HasRows asked (rows ++ bad ∷ []) new
    rows_old none same = record {
      asked_is = asked_is ∙ has.asked_is;
      kinds = kinds-more;
      told = subst (λ (ts : List Told). AllZip IsToldAs (told_of asked (rows ++ bad ∷ [])) ts) (sym same)
          (subst (λ (bads : List Bad). AllZip IsToldAs bads old.told.items) (sym (told-old none)) has.told);
    }

    -- a row that is
    pub rows_new : is_new_kind old kind ≡ true → (t : Told) → new.told.items ≡ old.told.items ++ t ∷ [] → IsToldAs bad t → HasRows asked (rows ++ bad ∷ []) new
    rows_new is_new t more told = record {
      asked_is = asked_is ∙ has.asked_is;
      kinds = kinds-more;
      told = subst (λ (ts : List Told). AllZip IsToldAs (told_of asked (rows ++ bad ∷ [])) ts) (sym more)
          (subst (λ (bads : List Bad). AllZip IsToldAs bads (old.told.items ++ t ∷ [])) (sym (told-new is_new))
          (pair_more IsToldAs (told_of asked rows) old.told.items bad t has.told told));
    }
