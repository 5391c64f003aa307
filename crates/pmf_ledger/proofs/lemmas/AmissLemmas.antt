-- The rows that fail or warn, with a row more.
use Rattle.std.proofs.{Common.{◌≡◌, ℕ, ◌+◌, ◌<◌, true, false, List, [], ◌∷◌, ◌++◌, length, take, filter, get_or, refl, sym, ◌∙◌, ap, append-nil}, lemmas.List.{take_more}, lemmas.List.Elements.{filter-append}, lemmas.Grind.{flat_map-append}}
use Rattle.pmf_event.specs.declared.row.Row.{Row}
use Rattle.pmf_verdict.specs.Text.{text_of_row, text_of_rows}
use Rattle.pmf_ledger.specs.Summary.{is_amiss}

module _ (rows : List Row) (index : ℕ) (row : Row) (within : index < length rows) (is : row ≡ get_or rows index row) where
  more : take (index + 1) rows ≡ take index rows ++ row ∷ []
  more = take_more rows index row within ∙ ap (λ r. take index rows ++ r ∷ []) (sym is)

  pub amiss_more : is_amiss row ≡ true → text_of_rows (filter is_amiss (take (index + 1) rows)) ≡ text_of_rows (filter is_amiss (take index rows)) ++ text_of_row row
  amiss_more failing =
      ap (λ rs. text_of_rows (filter is_amiss rs)) more ∙ ap text_of_rows (filter-append is_amiss (take index rows) (row ∷ []) ∙ ap (λ rs. filter is_amiss (take index rows) ++ rs) (rw failing refl))
      ∙ flat_map-append text_of_row (filter is_amiss (take index rows)) (row ∷ []) ∙ ap (λ text. text_of_rows (filter is_amiss (take index rows)) ++ text) (append-nil (text_of_row row))

  pub amiss_not : is_amiss row ≡ false → text_of_rows (filter is_amiss (take (index + 1) rows)) ≡ text_of_rows (filter is_amiss (take index rows))
  amiss_not passing =
      ap (λ rs. text_of_rows (filter is_amiss rs)) more ∙ ap text_of_rows (filter-append is_amiss (take index rows) (row ∷ []) ∙ ap (λ rs. filter is_amiss (take index rows) ++ rs) (rw passing refl) ∙ append-nil (filter is_amiss (take index rows)))
