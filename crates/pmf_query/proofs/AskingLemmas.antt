-- What is asked and shown for the rows of a section.
use Rattle.std.proofs.{Common.{◌≡◌, ℕ, ◌+◌, ◌<◌, List, ◌++◌, length, get_or, map, take, drop, flat_map, sym, ap, ◌∙◌}, lemmas.List.{at_drop_more, map-append, length-map, length-append, take_at, drop_at, take_more, flat_map_more}}
use Rattle.pmf_event.specs.declared.{finding.Finding.TheVariants.{PersistPass}, row.Row.{Row}}
use Rattle.pmf_images.specs.declared.showing.{Asked.{Asked}, Shown.{Shown}}
use Rattle.pmf_query.specs.Asking.{asked_of}

abbrev pub no_row : Row
no_row = record { place = 0; finding = PersistPass }

-- what is asked for the rows from an index on is what is asked for the one there, and for those behind it
module _ (rows : List Row) (i : ℕ) (d : Row) (less : i < length rows) where
  split : flat_map asked_of (drop i rows) ≡ asked_of (get_or rows i d) ++ flat_map asked_of (drop (i + 1) rows)
  split = at_drop_more (flat_map asked_of) rows i d less

  pub count_left : length (flat_map asked_of (drop i rows)) ≡ length (asked_of (get_or rows i d)) + length (flat_map asked_of (drop (i + 1) rows))
  count_left = ap length split ∙ length-append (asked_of (get_or rows i d)) (flat_map asked_of (drop (i + 1) rows))

  pub text_more : (g : Row → List ℕ) (head before after : List ℕ) → before ≡ head ++ flat_map g (take i rows) → after ≡ before ++ g (get_or rows i d) → after ≡ head ++ flat_map g (take (i + 1) rows)
  text_more g head before after was is =
      is ∙ ap (λ t. t ++ g (get_or rows i d)) was ∙ flat_map_more g head (take i rows) (get_or rows i d) ∙ ap (λ xs. head ++ flat_map g xs) (sym (take_more rows i d less))

  module _ (f : Asked → Shown) (rest : List Shown) (is : rest ≡ map f (flat_map asked_of (drop i rows))) where
    both : rest ≡ map f (asked_of (get_or rows i d)) ++ map f (flat_map asked_of (drop (i + 1) rows))
    both = is ∙ ap (map f) split ∙ map-append f (asked_of (get_or rows i d)) (flat_map asked_of (drop (i + 1) rows))

    pub own_part : (n : ℕ) → n ≡ length (asked_of (get_or rows i d)) → take n rest ≡ map f (asked_of (get_or rows i d))
    own_part n at =
        ap (take n) both ∙ take_at (map f (asked_of (get_or rows i d))) (map f (flat_map asked_of (drop (i + 1) rows))) n (length-map (asked_of (get_or rows i d)) f ∙ sym at)

    pub other_part : (n : ℕ) → n ≡ length (asked_of (get_or rows i d)) → drop n rest ≡ map f (flat_map asked_of (drop (i + 1) rows))
    other_part n at =
        ap (drop n) both ∙ drop_at (map f (asked_of (get_or rows i d))) (map f (flat_map asked_of (drop (i + 1) rows))) n (length-map (asked_of (get_or rows i d)) f ∙ sym at)
