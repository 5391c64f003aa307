-- One section more, and the text of all.
use Rattle.std.proofs.{Common.{◌≡◌, ℕ, zero, suc, take, ◌-◌, ◌==◌, cond, None, Result, Ok, Err, List, [], ◌∷◌, ◌++◌, length, refl, sym, ap, subst, ◌∙◌, arith, map, flat_map, sum_by, string_bytes, append_assoc}, lemmas.List.{map-append}, lemmas.Grind.{common_steps}}
use Rattle.std.specs.{List.{AllZip}, Result.{OnOk}}
use Rattle.pmf_event.specs.Section.{Trace}
use Rattle.pmf_request.specs.declared.settings.Reasons.{Reasons}
use Rattle.pmf_cause.specs.Cure.{fails}
use Rattle.pmf_why.specs.{declared.kind.Kind.{Kind}, declared.taking.Told.{Told}, declared.plan.Counts.{Counts}, declared.taking.Telling.{Telling}, Kinds.{IsKindOf}, Ending.{counts_at_end, left_in, like_in, likes_in, missed_in, text_at_end}, Reasons.{Bad, Part, asked_rows, firsts, passes, rows_of_all, told_by, told_of, untold_of}, Telling.{HasParts, HasRows, IsToldAs, counts_of, told_text}, Why.{IsPart, Tells, TellsAll, count_with_all, missed_event, text_of_end, text_of_likes, text_of_none, text_of_numbers, text_of_sums}, WhyText.{text_of_more}}
use Rattle.pmf_why.proofs.{KindLemmas.{told_same}, PairLemmas.{pair_length, pair_more, same_sums}}

rows-more : (asked : Reasons) (parts : List Part) (part : Part) → rows_of_all asked (parts ++ part ∷ []) ≡ rows_of_all asked parts ++ asked_rows asked part
rows-more asked [] part = grind (arith, common_steps)
rows-more asked (p ∷ parts) part = ap (λ (bads : List Bad). asked_rows asked p ++ bads) (rows-more asked parts part) ∙ sym (append_assoc (asked_rows asked p) (rows_of_all asked parts) (asked_rows asked part))

take_none : (n : ℕ) (xs : List Bad) → xs ≡ [] → take n xs ≡ []
take_none zero xs none = refl
take_none (suc n) xs none = ap (take (suc n)) none

-- nothing yet
pub nothing_taken : (asked : Reasons) (bytes : List ℕ) (t : Telling) → t.asked ≡ asked → t.kinds.items ≡ [] → t.told.items ≡ [] → t.counts.items ≡ [] → HasParts asked bytes [] t
unfolding told_of firsts
nothing_taken asked bytes t is kinds told counts = record {
  parts = [];
  are = tt;
  rows = record {
    asked_is = is;
    kinds = subst (λ (ks : List Kind). AllZip IsKindOf [] ks) (sym kinds) tt;
    told = subst (λ (ts : List Told). AllZip IsToldAs (told_of asked []) ts) (sym told) (subst (λ (bads : List Bad). AllZip IsToldAs bads []) (sym (take_none asked.first [] refl)) tt);
  };
  counts = counts;
}

-- a section more
pub parts_more : (asked : Reasons) (bytes : List ℕ) (sections : List Trace) (old : Telling) (has : HasParts asked bytes sections old) (t : Trace) (part : Part) (new : Telling) →
    IsPart asked bytes t part → HasRows asked (rows_of_all asked has.parts ++ asked_rows asked part) new → new.counts.items ≡ old.counts.items ++ counts_of part ∷ [] →
    HasParts asked bytes (sections ++ t ∷ []) new
parts_more asked bytes sections old has t part new is rows counts = record {
  parts = has.parts ++ part ∷ [];
  are = pair_more (IsPart asked bytes) sections has.parts t part has.are is;
  rows = subst (λ (bads : List Bad). HasRows asked bads new) (sym (rows-more asked has.parts part)) rows;
  counts = counts ∙ ap (λ (cs : List Counts). cs ++ counts_of part ∷ []) has.counts ∙ sym (map-append (λ p. counts_of p) has.parts (part ∷ []));
}

-- the same, where a call went well
pub parts_on : (asked : Reasons) (bytes : List ℕ) (sections : List Trace) (old : Telling) (has : HasParts asked bytes sections old) (t : Trace) (part : Part) (new : Telling) →
    IsPart asked bytes t part → {E : Type 0} (r : Result (Unit {0}) E) → OnOk r (HasRows asked (rows_of_all asked has.parts ++ asked_rows asked part) new) →
    (counts : List Counts) → OnOk r (new.counts.items ≡ counts) → counts ≡ old.counts.items ++ counts_of part ∷ [] → OnOk r (HasParts asked bytes (sections ++ t ∷ []) new)
parts_on asked bytes sections old has t part new is (Ok u) rows counts same are = parts_more asked bytes sections old has t part new is rows (same ∙ are)
parts_on asked bytes sections old has t part new is (Err e) rows counts same are = rows

-- the texts of what is told
pub texts : (bads : List Bad) (told : List Told) → AllZip IsToldAs bads told → (ts : List (List ℕ)) × AllZip Tells bads ts × (told_text told ≡ flat_map (λ row. row) ts)
unfolding told_text
texts [] [] zip = ([], zip, refl)
texts [] (t ∷ told) zip = absurd zip
texts (b ∷ bads) [] zip = absurd zip
texts (b ∷ bads) (t ∷ told) zip =
    let rest = texts bads told zip.1 in (string_bytes t.text ∷ rest.0, (zip.0.tells, rest.1), ap (λ (bs : List ℕ). string_bytes t.text ++ bs) rest.2)

module _ (asked : Reasons) (rows : List Bad) (kinds : List Kind) (are : AllZip IsKindOf rows kinds) where
  -- for how many rows more each that is told stands
  likes : (bads : List Bad) (told : List Told) → AllZip IsToldAs bads told →
      likes_in asked.all kinds told ≡ flat_map (λ (bad : Bad). text_of_more bad.part.checked.section.name bad.row (told_by asked rows bad)) bads
  unfolding likes_in
  likes [] [] zip = refl
  likes [] (t ∷ told) zip = absurd zip
  likes (b ∷ bads) [] zip = absurd zip
  likes (b ∷ bads) (t ∷ told) zip =
      let is = zip.0 in
      let behind = flat_map (λ (t : Told). text_of_more t.name t.row (like_in asked.all kinds t)) told in
      ap (λ n. text_of_more n t.row (like_in asked.all kinds t) ++ behind) is.name
      ∙ ap (λ r. text_of_more b.part.checked.section.name r (like_in asked.all kinds t) ++ behind) is.row
      ∙ ap (λ n. text_of_more b.part.checked.section.name b.row n ++ behind) (sym (told_same asked rows kinds b t are is))
      ∙ ap (λ bs. text_of_more b.part.checked.section.name b.row (told_by asked rows b) ++ bs) (likes bads told zip.1)

  sums : (bads : List Bad) (told : List Told) → AllZip IsToldAs bads told → sum_by (told_by asked rows) bads ≡ sum_by (λ (t : Told). like_in asked.all kinds t) told
  sums bads told zip = same_sums IsToldAs (told_by asked rows) (λ (t : Told). like_in asked.all kinds t) (λ b t is. told_same asked rows kinds b t are is) bads told zip

pairs : (parts : List Part) → AllZip (λ p c. c ≡ counts_of p) parts (map (λ p. counts_of p) parts)
pairs [] = tt
pairs (p ∷ parts) = (refl, pairs parts)

sum_pass : (parts : List Part) → sum_by (count_with_all passes) parts ≡ sum_by (λ (c : Counts). c.pass) (map (λ p. counts_of p) parts)
unfolding count_with_all
sum_pass parts = same_sums (λ p c. c ≡ counts_of p) (count_with_all passes) (λ (c : Counts). c.pass) (λ p c is. sym (ap (λ (c : Counts). c.pass) is)) parts (map (λ p. counts_of p) parts) (pairs parts)

sum_fail : (parts : List Part) → sum_by (count_with_all fails) parts ≡ sum_by (λ (c : Counts). c.fail) (map (λ p. counts_of p) parts)
unfolding count_with_all
sum_fail parts = same_sums (λ p c. c ≡ counts_of p) (count_with_all fails) (λ (c : Counts). c.fail) (λ p c is. sym (ap (λ (c : Counts). c.fail) is)) parts (map (λ p. counts_of p) parts) (pairs parts)

module _ (asked : Reasons) (bytes : List ℕ) (sections : List Trace) (t : Telling) (has : HasParts asked bytes sections t) where
  abbrev rows : List Bad
  rows = rows_of_all asked has.parts

  left : left_in t.asked.all t.kinds.items t.told.items ≡ untold_of asked rows
  unfolding left_in untold_of
  left =
      ap (λ (a : Reasons). length t.kinds.items - sum_by (λ (x : Told). like_in a.all t.kinds.items x) t.told.items) has.rows.asked_is
      ∙ ap (λ n. n - sum_by (λ (x : Told). like_in asked.all t.kinds.items x) t.told.items) (sym (pair_length IsKindOf rows t.kinds.items has.rows.kinds))
      ∙ ap (λ n. length rows - n) (sym (sums asked rows t.kinds.items has.rows.kinds (told_of asked rows) t.told.items has.rows.told))

  many : length t.kinds.items ≡ length rows
  many = sym (pair_length IsKindOf rows t.kinds.items has.rows.kinds)

  front : text_of_numbers (length t.kinds.items) (length t.told.items) (left_in t.asked.all t.kinds.items t.told.items) ≡ text_of_numbers (length rows) (length (told_of asked rows)) (untold_of asked rows)
  front =
      let told : length t.told.items ≡ length (told_of asked rows) = sym (pair_length IsToldAs (told_of asked rows) t.told.items has.rows.told) in
      ap (λ n. text_of_numbers n (length t.told.items) (left_in t.asked.all t.kinds.items t.told.items)) many
      ∙ ap (λ n. text_of_numbers (length rows) n (left_in t.asked.all t.kinds.items t.told.items)) told
      ∙ ap (λ n. text_of_numbers (length rows) (length (told_of asked rows)) n) left

  behind : text_of_sums (sum_by (λ (c : Counts). c.pass) t.counts.items) (sum_by (λ (c : Counts). c.fail) t.counts.items) ≡ text_of_sums (sum_by (count_with_all passes) has.parts) (sum_by (count_with_all fails) has.parts)
  behind =
      let pass : sum_by (λ (c : Counts). c.pass) t.counts.items ≡ sum_by (count_with_all passes) has.parts = ap (λ (cs : List Counts). sum_by (λ (c : Counts). c.pass) cs) has.counts ∙ sym (sum_pass has.parts) in
      let fail : sum_by (λ (c : Counts). c.fail) t.counts.items ≡ sum_by (count_with_all fails) has.parts = ap (λ (cs : List Counts). sum_by (λ (c : Counts). c.fail) cs) has.counts ∙ sym (sum_fail has.parts) in
      ap (λ n. text_of_sums n (sum_by (λ (c : Counts). c.fail) t.counts.items)) pass ∙ ap (λ n. text_of_sums (sum_by (count_with_all passes) has.parts) n) fail

  counts : counts_at_end t ≡ text_of_numbers (length rows) (length (told_of asked rows)) (untold_of asked rows) ++ text_of_sums (sum_by (count_with_all passes) has.parts) (sum_by (count_with_all fails) has.parts)
  unfolding counts_at_end
  counts =
      ap (λ (bs : List ℕ). bs ++ text_of_sums (sum_by (λ (c : Counts). c.pass) t.counts.items) (sum_by (λ (c : Counts). c.fail) t.counts.items)) front
      ∙ ap (λ (bs : List ℕ). text_of_numbers (length rows) (length (told_of asked rows)) (untold_of asked rows) ++ bs) behind

  alike : likes_in t.asked.all t.kinds.items t.told.items ≡ text_of_likes asked rows
  unfolding text_of_likes
  alike = ap (λ (a : Reasons). likes_in a.all t.kinds.items t.told.items) has.rows.asked_is ∙ likes asked rows t.kinds.items has.rows.kinds (told_of asked rows) t.told.items has.rows.told

  pub end : text_at_end t ≡ text_of_end asked has.parts
  unfolding text_at_end text_of_end
  end =
      ap (λ (bs : List ℕ). bs ++ text_of_none (missed_in t.asked t.kinds.items) (counts_at_end t)) alike
      ∙ ap (λ (a : Reasons). text_of_likes asked rows ++ text_of_none (missed_in a t.kinds.items) (counts_at_end t)) has.rows.asked_is
      ∙ ap (λ (n : ℕ). text_of_likes asked rows ++ text_of_none (cond (n == 0) asked.event None) (counts_at_end t)) many
      ∙ ap (λ (bs : List ℕ). text_of_likes asked rows ++ text_of_none (missed_event asked rows) bs) counts

  -- the text of all that was met
  pub tells_all : (text : List ℕ) → text ≡ told_text t.told.items ++ text_at_end t → TellsAll asked bytes sections text
  tells_all text is =
      let them = texts (told_of asked rows) t.told.items has.rows.told in
      record {
        parts = has.parts;
        are = has.are;
        rows = them.0;
        tell = them.1;
        text_is = is ∙ ap (λ (bs : List ℕ). bs ++ text_at_end t) them.2 ∙ ap (λ (bs : List ℕ). flat_map (λ row. row) them.0 ++ bs) end;
      }
