-- A text of the rows at one place, row by row.
use Rattle.std.proofs.{Common.{◌≡◌, ℕ, ◌+◌, ◌<◌, Bool, cond, List, [], ◌∷◌, ◌++◌, length, take, get_or, sym, ◌∙◌, ap, flat_map, ne_eqb, append-nil, append_assoc}, lemmas.Bool.Decides.{Decides-eqb}, lemmas.Grind.{flat_map-append}, lemmas.List.Elements.{filter_more}}
use Rattle.pmf_event.specs.declared.row.Row.{Row}
use Rattle.pmf_verdict.specs.Text.{stands_at, rows_at}

-- a text of the rows at p, each row's by a function of it, behind another text
module _ (f : Row → List ℕ) (rows : List Row) (p i : ℕ) (row : Row) (within : i < length rows) where
  -- the text of the rows at p among some rows
  so_far : List Row → List ℕ
  so_far some = flat_map f (rows_at some p)

  -- what one more row adds to it
  added : Bool → List ℕ
  added here = flat_map f (cond here (get_or rows i row ∷ []) [])

  more : so_far (take (i + 1) rows) ≡ so_far (take i rows) ++ added (stands_at p (get_or rows i row))
  unfolding so_far added
  more = ap (flat_map f) (filter_more (stands_at p) rows i row within) ∙ flat_map-append f (rows_at (take i rows) p) (cond (stands_at p (get_or rows i row)) (get_or rows i row ∷ []) [])

  pub text-here : (first old new : List ℕ) → (get_or rows i row).place ≡ p → old ≡ first ++ flat_map f (rows_at (take i rows) p) → new ≡ old ++ f (get_or rows i row) →
      new ≡ first ++ flat_map f (rows_at (take (i + 1) rows) p)
  unfolding so_far added stands_at
  text-here first old new here before is =
      is ∙ ap (λ text. text ++ f (get_or rows i row)) before
      ∙ append_assoc first (so_far (take i rows)) (f (get_or rows i row))
      ∙ ap (λ text. first ++ (so_far (take i rows) ++ text)) (sym (append-nil (f (get_or rows i row))))
      ∙ ap (λ b. first ++ (so_far (take i rows) ++ added b)) (sym ((Decides-eqb (get_or rows i row).place p).1 here))
      ∙ ap (λ text. first ++ text) (sym more)

  pub text-elsewhere : (first text : List ℕ) → ((get_or rows i row).place ≡ p → ⊥) → text ≡ first ++ flat_map f (rows_at (take i rows) p) → text ≡ first ++ flat_map f (rows_at (take (i + 1) rows) p)
  unfolding so_far added stands_at
  text-elsewhere first text apart before =
      before
      ∙ ap (λ text. first ++ text) (sym (append-nil (so_far (take i rows))))
      ∙ ap (λ b. first ++ (so_far (take i rows) ++ added b)) (sym (ne_eqb (get_or rows i row).place p apart))
      ∙ ap (λ text. first ++ text) (sym more)
