-- What was told of the first sections goes on to what is told of all.
use Rattle.std.{proofs.Common.{◌≡◌, ℕ, ◌<◌, Bool, true, false, List, [], ◌∷◌, ◌++◌, length, flat_map, map, take, refl, sym, ap, subst, ◌∙◌, inl, inr, append-nil, append_assoc}, proofs.lemmas.Bool.{cases_lt}, proofs.lemmas.Grind.{flat_map-append}, proofs.lemmas.List.Elements.{filter-append}, specs.List.{AllZip}}
use Rattle.pmf_event.specs.Section.{Trace}
use Rattle.pmf_request.specs.declared.settings.Reasons.{Reasons}
use Rattle.pmf_query.specs.{declared.standing.Standing.{Standing}, Standing.{Stands, located_in}}
use Rattle.pmf_why.specs.{declared.cure.Way.TheVariants.{NotFound}, declared.taking.Telling.{Telling}, Reasons.{Bad, Part, are_alike, asked_rows, firsts, rows_of_all, told_of}, Telling.{HasParts, told_text}, Why.{IsPart, Tells, TellsAll, asked_sections, text_of_end}, WhyText.{text_of_reason}}
use Rattle.pmf_why.proofs.{FirstsLemmas.{is_met, told_again, told_full, told_new}, KindLemmas.{alike_passes}, PairLemmas.{pairs_append}, PartsLemmas.{texts}}

module _ (asked : Reasons) where
  -- more rows, and more of them that are told
  abbrev TellsMore : List Bad → List Bad → Type 0
  TellsMore rows all = (new : List Bad) × (told_of asked all ≡ told_of asked rows ++ new)

  by_met : (rows : List Bad) (y : Bad) (met : Bool) → is_met (are_alike asked) (alike_passes asked) (take asked.first (firsts (are_alike asked) rows)) y ≡ met →
      length (take asked.first (firsts (are_alike asked) rows)) < asked.first → TellsMore rows (rows ++ y ∷ [])
  unfolding told_of
  by_met rows y true met room = ([], told_again (are_alike asked) (alike_passes asked) asked.first rows y met ∙ sym (append-nil (told_of asked rows)))
  by_met rows y false met room = (y ∷ [], told_new (are_alike asked) (alike_passes asked) asked.first rows y met room)

  one_more : (rows : List Bad) (y : Bad) → TellsMore rows (rows ++ y ∷ [])
  unfolding told_of
  one_more rows y = elim (cases_lt (length (take asked.first (firsts (are_alike asked) rows))) asked.first) [
    | inl room ↦ by_met rows y (is_met (are_alike asked) (alike_passes asked) (take asked.first (firsts (are_alike asked) rows)) y) refl room
    | inr full ↦ ([], told_full (are_alike asked) (alike_passes asked) asked.first rows y full ∙ sym (append-nil (told_of asked rows)))
  ]

  tells_more : (rows more : List Bad) → TellsMore rows (rows ++ more)
  tells_more rows [] = ([], ap (told_of asked) (append-nil rows) ∙ sym (append-nil (told_of asked rows)))
  tells_more rows (y ∷ more) =
      let first = one_more rows y in
      let then = tells_more (rows ++ y ∷ []) more in
      (first.0 ++ then.0, ap (told_of asked) (sym (append_assoc rows (y ∷ []) more)) ∙ then.1 ∙ ap (λ front. front ++ then.0) first.1 ∙ append_assoc (told_of asked rows) first.0 then.0)

  rows-append : (parts more : List Part) → rows_of_all asked (parts ++ more) ≡ rows_of_all asked parts ++ rows_of_all asked more
  rows-append parts more = flat_map-append (asked_rows asked) parts more

-- a text of each row, which tells no cure
abbrev plain : Bad → List ℕ
plain bad = text_of_reason bad [] NotFound

plain_tells : (bads : List Bad) → AllZip Tells bads (map plain bads)
plain_tells [] = tt
plain_tells (bad ∷ bads) = (record { edits = []; way = NotFound; is = tt; says = refl }, plain_tells bads)

module _ (asked : Reasons) (bytes : List ℕ) (standing : Standing) (stands : Stands bytes standing) where
  -- a section that is told of without changes
  abbrev part_for : Trace → Part
  part_for t = record { checked = record { section = t; profile = asked.profile }; stands = located_in standing t.name.number; plan = [] }

  parts_for : (sections : List Trace) → AllZip (IsPart asked bytes) sections (map part_for sections)
  parts_for [] = tt
  parts_for (t ∷ sections) = (record { checked = refl; stands = stands t.name.number; spoils_nothing = inl refl }, parts_for sections)

  -- the rows of the first sections were told
  pub goes_on : (sections more all : List Trace) (t : Telling) → all ≡ sections ++ more → HasParts asked bytes (asked_sections asked sections) t →
      (rest : List ℕ) × TellsAll asked bytes (asked_sections asked all) (told_text t.told.items ++ rest)
  goes_on sections more all t is has =
      let others = asked_sections asked more in
      let parts = has.parts ++ map part_for others in
      let rows = rows_of_all asked has.parts in
      let then = tells_more asked rows (rows_of_all asked (map part_for others)) in
      let these = texts (told_of asked rows) t.told.items has.rows.told in
      let them = these.0 ++ map plain then.0 in
      let told_is : told_of asked (rows_of_all asked parts) ≡ told_of asked rows ++ then.0 = ap (told_of asked) (rows-append asked has.parts (map part_for others)) ∙ then.1 in
      let wanted : asked_sections asked all ≡ asked_sections asked sections ++ others = ap (asked_sections asked) is ∙ filter-append _ sections more in
      let rest = flat_map (λ row. row) (map plain then.0) ++ text_of_end asked parts in (
        rest,
        record {
          parts = parts;
          are = subst (λ ts. AllZip (IsPart asked bytes) ts parts) (sym wanted) (pairs_append (IsPart asked bytes) (asked_sections asked sections) has.parts others (map part_for others) has.are (parts_for others));
          rows = them;
          tell = subst (λ bads. AllZip Tells bads them) (sym told_is) (pairs_append Tells (told_of asked rows) these.0 then.0 (map plain then.0) these.1 (plain_tells then.0));
          text_is = ap (λ front. front ++ rest) these.2 ∙ sym (append_assoc (flat_map (λ row. row) these.0) (flat_map (λ row. row) (map plain then.0)) (text_of_end asked parts))
              ∙ ap (λ front. front ++ text_of_end asked parts) (sym (flat_map-append (λ row. row) these.0 (map plain then.0)));
        },
      )
