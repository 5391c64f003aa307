-- What the words say when a board is closed.
use Rattle.std.proofs.{Common.{◌≡◌, ℕ, zero, suc, ◌+◌, ◌<◌, ◌≤◌, List, [], ◌∷◌, ◌++◌, map, take, length, get_or, refl, sym, ◌∙◌, ap, subst}, lemmas.List.{take_more}}
use Rattle.atomic_table.specs.Table.{Final, Seen}
use Rattle.pmf_board.{specs.declared.entry.Entry.{Entry}, specs.declared.view.View.{View}, specs.Machine.{entry_at}, specs.Rule.{word_of, entry_of}, specs.Calls.{IsTallied}, proofs.lemmas.WordLemmas.{entry_of-word}, proofs.lemmas.KeepLemmas.{Fits-done, alone-times, alone-done}, proofs.lemmas.StepLemmas.{Holds}}
use mathlib.Core.List.{map-append}
use mathlib.Core.Option.{some, some-injective, some-ne-none}
use lib.ListN.{get_elem?}

get_or-at : (l : List ℕ) (i a d : ℕ) → get_elem? l i ≡ some a → get_or l i d ≡ a
get_or-at [] i a d e = absurd (some-ne-none a (sym e))
get_or-at (x ∷ xs) zero a d e = some-injective x a e
get_or-at (x ∷ xs) (suc i) a d e = get_or-at xs i a d e

-- one word more
pub read_more : (words : List ℕ) (i word : ℕ) (entries more : List Entry) → i < length words → get_elem? words i ≡ some word → entries ≡ map entry_of (take i words) → more ≡ entries ++ entry_of word ∷ []
    → more ≡ map entry_of (take (i + 1) words)
read_more words i word entries more within at so_far is =
    let last : get_or words i 0 ≡ word = get_or-at words i word 0 at in
    is ∙ (λ k. so_far k ++ entry_of (sym last k) ∷ []) ∙ sym (map-append entry_of (take i words) (get_or words i 0 ∷ [])) ∙ ap (map entry_of) (sym (take_more words i 0 within))

-- what the words of a board say is the board
pub read-board : (board : List Entry) → ((s : ℕ) → (entry_at board s).handouts ≤ 8) → map entry_of (map word_of board) ≡ board
read-board [] few = refl
read-board (e ∷ es) few = λ i. entry_of-word e (few 0) i ∷ read-board es (λ s. few (suc s)) i

module _ (sections id : ℕ) (v : View) (words : List ℕ) (slots : List (Unit {0})) (final : Final (Seen (Holds sections) id v) words slots) (all : v.shares ≡ 65) where
  pub closed-tallied : IsTallied v (map entry_of words)
  closed-tallied =
      let r = final.1.0 in
      let same : map entry_of words ≡ r.board = ap (map entry_of) (sym final.2 ∙ r.words_are) ∙ read-board r.board r.is_kept.few in
      let done = alone-done r.board final.0.views id v r.is_kept final.1.1 all in
      let fits = r.is_kept.fits id v final.1.1 in
      subst (IsTallied v) (sym same) (record { once = alone-times r.board final.0.views id v r.is_kept final.1.1 all; done = done; frozen = λ s d. (Fits-done r.board v s fits (fits.own s ((done s).0 d))).1 })
