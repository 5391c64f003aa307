-- Entries as numbers.
use Rattle.std.proofs.{Common.{◌≡◌, ℕ, zero, suc, ◌+◌, ◌%◌, ◌≤◌, ◌==◌, Bool, true, false, cond, leb, bit_or, List, [], ◌∷◌, map, get_or, replicate, refl, ap, arith, le-leb}, lemmas.Bool.{lt-leb, agree_below_at}, lemmas.Bool.Decides.{Decides-eqb}}
use Rattle.pmf_board.specs.{declared.entry.Entry.{Entry}, Machine.{entry, untouched, entry_at, opening, handed_out, finished}, Rule.{word_of, entry_of}}

entry-is : (h h' : ℕ) (d d' : Bool) → h ≡ h' → d ≡ d' → entry h d ≡ entry h' d'
entry-is h h' d d' p q = λ i. entry (p i) (q i)

by_done : (h : ℕ) (d : Bool) → h ≤ 8 → entry_of (h + cond d 16 0) ≡ entry h d
by_done h true few = entry-is ((h + 16) % 16) h (leb 16 (h + 16)) true (omega arith) (le-leb 16 (h + 16) (omega arith))
by_done h false few = entry-is ((h + 0) % 16) h (leb 16 (h + 0)) false (omega arith) (lt-leb 16 (h + 0) (omega arith))

-- the entry that a word was made of
pub entry_of-word : (e : Entry) → e.handouts ≤ 8 → entry_of (word_of e) ≡ e
entry_of-word e few = by_done e.handouts e.done few

-- one hand-out more is one more
pub word-handed_out : (e : Entry) → word_of (handed_out e) ≡ word_of e + 1
word-handed_out e = omega arith

or_16 : (h : ℕ) (d : Bool) → h ≤ 8 → bit_or (h + cond d 16 0) 16 ≡ h + 16
or_16 h true few = (Decides-eqb _ _).0 (agree_below_at (λ k. bit_or (k + 16) 16 == k + 16) (λ k. true) 9 h refl (omega arith))
or_16 h false few = (Decides-eqb _ _).0 (agree_below_at (λ k. bit_or (k + 0) 16 == k + 16) (λ k. true) 9 h refl (omega arith))

-- a mark sets one bit
pub word-finished : (e : Entry) → e.handouts ≤ 8 → bit_or (word_of e) 16 ≡ word_of (finished e)
word-finished e few = or_16 e.handouts e.done few

-- the word of a section
pub word-at : (board : List Entry) (s : ℕ) → get_or (map word_of board) s 0 ≡ word_of (entry_at board s)
word-at [] s = refl
word-at (x ∷ xs) zero = refl
word-at (x ∷ xs) (suc s) = word-at xs s

-- the words at first
pub words-opening : (n : ℕ) → replicate n 0 ≡ map word_of (opening n)
words-opening zero = refl
words-opening (suc n) = ap (λ ns. 0 ∷ ns) (words-opening n)

-- at first every entry is untouched
pub opening-at : (n s : ℕ) → entry_at (opening n) s ≡ untouched
opening-at zero s = refl
opening-at (suc n) zero = refl
opening-at (suc n) (suc s) = opening-at n s
