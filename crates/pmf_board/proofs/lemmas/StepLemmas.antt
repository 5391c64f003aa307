-- The five kinds of step, as the table asks for them.
use Rattle.std.proofs.{Common.{◌≡◌, ℕ, ◌+◌, ◌<◌, false, eqb, bit_or, [], length, get_or, set, replicate, refl, sym, ◌∙◌, ap, subst, arith, eq-eqb, ne_eqb, length-set}, lemmas.List.{map-set, set-get_or, length-replicate}}
use Rattle.atomic_table.{proofs.Lists.{set_again}, specs.Table.{State, step, keeps, Allows, Splits, Joins, opening}}
use Rattle.pmf_board.{specs.declared.view.View.{View}, specs.Machine.{entry_at, hand_out, mark, handed_out, finished}, specs.Views.{task, seen, took, marked, kept, given, both, spent, first_view}, specs.Rule.{Rules, IsKept, Agrees, word_of, entry_of}, specs.Steps.{Mine, looked, exchanged, raised, counted}, proofs.lemmas.WordLemmas.{entry_of-word, word-at, word-handed_out, word-finished, words-opening}, proofs.lemmas.KeepLemmas.{IsKept-moves, Moves-seen, Moves-took, Moves-marked, Agrees-at, IsKept-split, IsKept-join, IsKept-first, shares-le, times-le, frozen-at}}
use mathlib.Core.Logic.{dite}
use mathlib.Core.Option.{none, some}
use native.Mathlib.Decide.{ℕ_discrete}
use lib.ListN.{get_elem?}
use prog.Atomic.{either}
use Rattle.pmf_board.specs.Machine as machine

abbrev pub Table : Type 0
Table = State (Unit {0}) View

module _ (sections : ℕ) where
  abbrev pub Holds : Table → Type 0
  Holds s = Rules sections s.words s.views

  -- the entry of a word of the table
  entry-is : (s : Table) (r : Holds s) (i : ℕ) → entry_of (get_or s.words i 0) ≡ entry_at r.board i
  entry-is s r i = ap entry_of (ap (λ ws. get_or ws i 0) r.words_are ∙ word-at r.board i) ∙ entry_of-word (entry_at r.board i) (r.is_kept.few i)

  word-is : (s : Table) (r : Holds s) (i : ℕ) → get_or s.words i 0 ≡ word_of (entry_at r.board i)
  word-is s r i = ap (λ ws. get_or ws i 0) r.words_are ∙ word-at r.board i

  module _ (s : Table) (r : Holds s) (id i : ℕ) (v : View) (at : get_elem? s.views id ≡ some v) (holds : 0 < v.shares) where
    agrees : Agrees v i (entry_of (get_or s.words i 0))
    agrees = subst (Agrees v i) (sym (entry-is s r i)) (Agrees-at r.board s.views id v i r.is_kept at)

    -- the table after a look
    after-look : Rules sections (set s.words i (get_or s.words i 0)) (set s.views id (seen v i (entry_of (get_or s.words i 0))))
    after-look = record {
      board = r.board;
      words_are = set-get_or s.words i 0 ∙ r.words_are;
      as_many = r.as_many;
      is_kept = subst (λ e. IsKept r.board (set s.views id (seen v i e))) (sym (entry-is s r i))
          (IsKept-moves r.board r.board s.views id v (seen v i (entry_at r.board i)) r.is_kept at (Moves-seen r.board v i r.is_kept.few (r.is_kept.fits id v at) holds));
    }

    module _ (within : i < sections) where
      here : i < length r.board
      here = omega (arith, within, r.as_many)

      -- the table after a hand-out
      after-hand_out : (entry_of (get_or s.words i 0)).done ≡ false → (entry_of (get_or s.words i 0)).handouts < 8
          → Rules sections (set s.words i (get_or s.words i 0 + 1)) (set s.views id (took v (task i ((entry_of (get_or s.words i 0)).handouts + 1))))
      after-hand_out not_done less = record {
        board = hand_out r.board i;
        words_are = (λ j. set (r.words_are j) i ((ap (λ n. n + 1) (word-is s r i) ∙ sym (word-handed_out (entry_at r.board i))) j)) ∙ sym (map-set word_of r.board i (handed_out (entry_at r.board i)));
        as_many = length-set r.board i (handed_out (entry_at r.board i)) ∙ r.as_many;
        is_kept = subst (λ e. IsKept (hand_out r.board i) (set s.views id (took v (task i (e.handouts + 1))))) (sym (entry-is s r i))
            (IsKept-moves r.board (hand_out r.board i) s.views id v (took v (task i ((entry_at r.board i).handouts + 1))) r.is_kept at
            (Moves-took r.board v i r.is_kept.few (r.is_kept.fits id v at) holds here (subst (λ e. e.handouts < 8) (entry-is s r i) less) (subst (λ e. e.done ≡ false) (entry-is s r i) not_done)));
      }

      -- the table after a mark
      after-mark : Rules sections (set s.words i (bit_or (get_or s.words i 0) 16)) (set s.views id (marked v i (entry_of (get_or s.words i 0)).handouts))
      after-mark = record {
        board = mark r.board i;
        words_are = (λ j. set (r.words_are j) i ((ap (λ n. bit_or n 16) (word-is s r i) ∙ word-finished (entry_at r.board i) (r.is_kept.few i)) j)) ∙ sym (map-set word_of r.board i (finished (entry_at r.board i)));
        as_many = length-set r.board i (finished (entry_at r.board i)) ∙ r.as_many;
        is_kept = subst (λ e. IsKept (mark r.board i) (set s.views id (marked v i e.handouts))) (sym (entry-is s r i))
            (IsKept-moves r.board (mark r.board i) s.views id v (marked v i (entry_at r.board i).handouts) r.is_kept at (Moves-marked r.board v i r.is_kept.few (r.is_kept.fits id v at) holds here));
      }

  -- a load of a section's word
  pub looks : (slots id : ℕ) (me : Mine) (i : ℕ) → 0 < me.0.shares → Allows Holds slots id me i (λ n. n) (looked (step slots i 0 0 none) me)
  looks slots id me i holds s r _ at _ = (seen me.0 i (entry_of (get_or s.words i 0)), keeps, tt, after-look s r id i me.0 at holds, (agrees s r id i me.0 at holds, refl))

  -- a compare-exchange of a section's word to the next
  pub exchanges : (slots id : ℕ) (me : Mine) (i old : ℕ) → i < sections → 0 < me.0.shares → (entry_of old).done ≡ false → (entry_of old).handouts < 8
      → Allows Holds slots id me i (λ n. either (eqb n old) (old + 1) n) (exchanged (step slots i old (old + 1) none) me)
  exchanges slots id me i old within holds not_done less s r _ at _ = let n : ℕ = get_or s.words i 0 in dite (ℕ_discrete n old)
      (λ hit. let w : View = took me.0 (task i ((entry_of n).handouts + 1)) in (
        w,
        keeps,
        tt,
        subst (λ b. Rules sections (set s.words i (either b (old + 1) n)) (set s.views id w)) (sym (eq-eqb n old hit))
            (subst (λ k. Rules sections (set s.words i (k + 1)) (set s.views id w)) hit
            (after-hand_out s r id i me.0 at holds within (subst (λ k. (entry_of k).done ≡ false) (sym hit) not_done) (subst (λ k. (entry_of k).handouts < 8) (sym hit) less))),
        (agrees s r id i me.0 at holds, refl, (λ same. refl), (λ other. absurd (other hit))),
      ))
      (λ miss. let w : View = seen me.0 i (entry_of n) in (
        w,
        keeps,
        tt,
        subst (λ b. Rules sections (set s.words i (either b (old + 1) n)) (set s.views id w)) (sym (ne_eqb n old miss)) (after-look s r id i me.0 at holds),
        (agrees s r id i me.0 at holds, refl, (λ same. absurd (miss same)), (λ other. refl)),
      ))

  -- a fetch-or of a section's word
  pub raises : (slots id : ℕ) (me : Mine) (i : ℕ) → i < sections → 0 < me.0.shares → Allows Holds slots id me i (λ n. bit_or n 16) (raised (step slots i 16 0 none) me)
  raises slots id me i within holds s r _ at _ = (marked me.0 i (entry_of (get_or s.words i 0)).handouts, keeps, tt, after-mark s r id i me.0 at holds within, (agrees s r id i me.0 at holds, refl))

  -- a load that leaves everything as it is
  pub counts : (slots id : ℕ) (me : Mine) (i : ℕ) → Allows Holds slots id me i (λ n. n) (counted (step slots i 0 0 none) me)
  counts slots id me i s r _ at _ = (
    me.0,
    keeps,
    tt,
    record { board = r.board; words_are = set-get_or s.words i 0 ∙ r.words_are; as_many = r.as_many; is_kept = subst (IsKept r.board) (sym (set_again s.views id me.0 at)) r.is_kept },
    (refl, shares-le r.board s.views id me.0 r.is_kept at, times-le r.board s.views id me.0 r.is_kept at, frozen-at r.board s.views id me.0 r.is_kept at),
  )

  -- the split move
  pub splits : (id : ℕ) (v : View) → 1 < v.shares → Splits Holds id v (kept v) (given v)
  splits id v two s r at = record { board = r.board; words_are = r.words_are; as_many = r.as_many; is_kept = IsKept-split r.board s.views id v r.is_kept at two }

  -- the join move
  pub joins : (id other : ℕ) (v w : View) → 0 < v.shares → Joins Holds id v other w (both v w) spent
  joins id other v w holds s r at apart there = record { board = r.board; words_are = r.words_are; as_many = r.as_many; is_kept = IsKept-join r.board s.views id other v w r.is_kept at apart there holds }

  -- the table at first
  pub opens : Holds (opening (replicate sections 0) [] first_view)
  opens = record { board = machine.opening sections; words_are = words-opening sections; as_many = length-replicate sections _; is_kept = IsKept-first sections }
