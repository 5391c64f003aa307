-- The names of a list, text line by text line.
use Rattle.std.proofs.{Common.{◌≡◌, ℕ, ◌<◌, ◌+◌, true, List, [], ◌∷◌, ◌++◌, length, filter, get_or, take, drop, All, Contains, IsUtf8, refl, sym, ap, subst, ◌∙◌, arith, append-nil, take_all}, lemmas.List.{append_assoc, take-append-drop, take_more}, lemmas.List.Elements.{All-contains, All-nil, All-push, Contains-append_left, Contains-push, filter-append}}
use Rattle.std.specs.List.{slice_split}
use Rattle.pmf_command.specs.Answered.{is_filled, is_line_end, names_in}

-- the names so far are those of the words, and of so many text lines of the list, which are UTF-8
pub record AreNamed (words lines : List (List ℕ)) (count : ℕ) (names : List (List ℕ)) : Type 0 where
  pub texts : All IsUtf8 (filter is_filled (take count lines))
  pub named : names ≡ words ++ filter is_filled (take count lines)

pub AreNamed-start : (words lines : List (List ℕ)) → AreNamed words lines 0 words
AreNamed-start words lines = record { texts = All-nil IsUtf8; named = sym (append-nil words) }

one_more : (lines : List (List ℕ)) (count : ℕ) (line : List ℕ) → count < length lines → line ≡ get_or lines count line →
    filter is_filled (take (count + 1) lines) ≡ filter is_filled (take count lines) ++ filter is_filled (line ∷ [])
one_more lines count line within is =
    ap (filter is_filled) (take_more lines count line within ∙ ap (λ l. take count lines ++ l ∷ []) (sym is)) ∙ filter-append is_filled (take count lines) (line ∷ [])

module _ (words lines : List (List ℕ)) (count : ℕ) (names : List (List ℕ)) (are : AreNamed words lines count names) (line : List ℕ) (within : count < length lines) (is : line ≡ get_or lines count line) where
  -- an empty text line names nothing
  pub AreNamed-empty : length line ≡ 0 → AreNamed words lines (count + 1) names
  AreNamed-empty none =
      let same : filter is_filled (take (count + 1) lines) ≡ filter is_filled (take count lines) =
      one_more lines count line within is ∙ ap (λ ls. filter is_filled (take count lines) ++ ls) (rw none refl) ∙ append-nil _ in
      record {
        texts = subst (All IsUtf8) (sym same) are.texts;
        named = are.named ∙ ap (λ ns. words ++ ns) (sym same);
      }

  module _ (some : is_filled line ≡ true) where
    more : filter is_filled (take (count + 1) lines) ≡ filter is_filled (take count lines) ++ line ∷ []
    more = one_more lines count line within is ∙ ap (λ ls. filter is_filled (take count lines) ++ ls) (rw some refl)

    -- another one is a name, where it is UTF-8
    pub AreNamed-more : IsUtf8 line → AreNamed words lines (count + 1) (names ++ line ∷ [])
    AreNamed-more text = record {
      texts = subst (All IsUtf8) (sym more) (All-push IsUtf8 (filter is_filled (take count lines)) line are.texts text);
      named = ap (λ ns. ns ++ line ∷ []) are.named ∙ append_assoc words (filter is_filled (take count lines)) (line ∷ []) ∙ ap (λ ns. words ++ ns) (sym more);
    }

    -- and else not all are
    pub not_all : (IsUtf8 line → ⊥) → All IsUtf8 (filter is_filled lines) → ⊥
    not_all bad all =
        let rest = filter is_filled (drop (count + 1) lines) in
        let whole : filter is_filled lines ≡ (filter is_filled (take count lines) ++ line ∷ []) ++ rest =
        ap (filter is_filled) (sym (take-append-drop (count + 1) lines)) ∙ filter-append is_filled (take (count + 1) lines) (drop (count + 1) lines) ∙ ap (λ ns. ns ++ rest) more in
        let held = Contains-append_left (filter is_filled (take count lines) ++ line ∷ []) rest line (Contains-push (filter is_filled (take count lines)) line) in
        bad (All-contains IsUtf8 (filter is_filled lines) line all (subst (λ ns. Contains ns line) (sym whole) held))

-- where there are no more text lines, these are the names of the list
pub AreNamed-all : (words : List (List ℕ)) (list : List ℕ) (count : ℕ) (names : List (List ℕ)) → AreNamed words (slice_split is_line_end list) count names → count ≡ length (slice_split is_line_end list) →
    All IsUtf8 (names_in list) × (names ≡ words ++ names_in list)
unfolding names_in
AreNamed-all words list count names are all =
    let same = ap (filter is_filled) (take_all count (slice_split is_line_end list) (omega (arith, all))) in
    (subst (All IsUtf8) same are.texts, are.named ∙ ap (λ ns. words ++ ns) same)

pub not_all-names : (list : List ℕ) → (All IsUtf8 (filter is_filled (slice_split is_line_end list)) → ⊥) → All IsUtf8 (names_in list) → ⊥
unfolding names_in
not_all-names list bad all = bad all
