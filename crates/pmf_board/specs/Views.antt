-- What a pass took, marked and saw, told by looking back over its lists. Defined here.
use Rattle.std.specs.Prelude.{ℕ, ◌+◌, ◌-◌, ◌<◌, ◌≤◌, max, Bool, true, false, cond, ◌&&◌, eqb, ◌⊎◌, ◌≡◌, List, [], ◌∷◌, ◌++◌, count_by, Contains}
use Rattle.pmf_board.specs.{declared.entry.Entry.{Entry}, declared.task.Task.{Task}, declared.view.Sight.{Sight}, declared.view.View.{View}, Machine.{entry}}

-- the task of the section with this number
abbrev pub task : ℕ → ℕ → Task
task s k = record { section = s; number = k }

-- the section as it was seen
abbrev pub sight : ℕ → Entry → Sight
sight s e = record { section = s; entry = e }

-- a view with these lists and shares
abbrev pub view : List Task → List ℕ → List Sight → ℕ → View
view took marked saw shares = record { took = took; marked = marked; saw = saw; shares = shares }

-- the view that took, marked and saw nothing, with the 65 shares of the first pass
abbrev pub first_view : View
first_view = view [] [] [] 65

-- the view that took, marked and saw nothing and has no share
abbrev pub spent : View
spent = view [] [] [] 0

-- the task is the hand-out of the section with this number
abbrev pub is_hand_out : ℕ → ℕ → Task → Bool
is_hand_out s k t = eqb t.section s && eqb t.number k

-- the sight tells that the section is done
abbrev pub tells_done : ℕ → Sight → Bool
tells_done s x = eqb x.section s && x.entry.done

-- how often the view took the hand-out of the section with this number
abbrev pub times : ℕ → ℕ → View → ℕ
times s k v = count_by (is_hand_out s k) v.took

-- how often the view marked the section
abbrev pub marks : ℕ → View → ℕ
marks s v = count_by (λ m. eqb m s) v.marked

-- how often the view saw the section done
abbrev pub dones : ℕ → View → ℕ
dones s v = count_by (tells_done s) v.saw

-- the most hand-outs of the section that stand in the sights
abbrev pub most_in : ℕ → List Sight → ℕ
most_in s [] = 0
most_in s (x ∷ xs) = max (cond (eqb x.section s) x.entry.handouts 0) (most_in s xs)

-- the most hand-outs of the section that the view saw
abbrev pub most_seen : ℕ → View → ℕ
most_seen s v = most_in s v.saw

-- the view took this task
abbrev pub HasTaken : View → Task → Type 0
HasTaken v t = 0 < times t.section t.number v

-- the view marked the section
abbrev pub HasMarked : View → ℕ → Type 0
HasMarked v s = 0 < marks s v

-- the view saw the section done
abbrev pub HasSeenDone : View → ℕ → Type 0
HasSeenDone v s = 0 < dones s v

-- the view saw the section done, or with as many hand-outs as the limit
abbrev pub HasSeenClosed : ℕ → View → ℕ → Type 0
HasSeenClosed limit v s = HasSeenDone v s ⊎ (limit ≤ most_seen s v)

-- of a section that was seen done, no sight has more hand-outs than that one
abbrev pub IsFrozen : View → Type 0
IsFrozen v = (x : Sight) → Contains v.saw x → x.entry.done ≡ true → most_seen x.section v ≤ x.entry.handouts

-- what was seen never falls, and of a section that was seen done no more hand-outs are ever seen
pub record NeverFalls (old new : View) : Type 0 where
  pub most : (s : ℕ) → most_seen s old ≤ most_seen s new
  pub done : (s : ℕ) → HasSeenDone old s → HasSeenDone new s
  pub frozen : (s : ℕ) → HasSeenDone old s → most_seen s new ≡ most_seen s old

-- the view after it saw the section so
abbrev pub seen : View → ℕ → Entry → View
seen v s e = view v.took v.marked (sight s e ∷ v.saw) v.shares

-- the view after it took the task
abbrev pub took : View → Task → View
took v t = view (v.took ++ t ∷ []) v.marked (sight t.section (entry t.number false) ∷ v.saw) v.shares

-- the view after it marked the section, which had so many hand-outs
abbrev pub marked : View → ℕ → ℕ → View
marked v s handouts = view v.took (v.marked ++ s ∷ []) (sight s (entry handouts true) ∷ v.saw) v.shares

-- what is left of a view that gave one share away
abbrev pub kept : View → View
kept v = view v.took v.marked v.saw (v.shares - 1)

-- what a new pass gets from it: what it saw, and one share
abbrev pub given : View → View
given v = view [] [] v.saw 1

-- both views in one
abbrev pub both : View → View → View
both v w = view (v.took ++ w.took) (v.marked ++ w.marked) (v.saw ++ w.saw) (v.shares + w.shares)
