-- Worked examples of ledgers and of gatherings, of one name with different events too, and of a ledger's text lines.
use Rattle.std.{specs.Fmt.{digits}, proofs.Common.{◌≡◌, ◌≢◌, [], ◌∷◌, length, codes, refl, sym, ◌∙◌, ap, subst, arith}, proofs.lemmas.{List.Elements.{All-cons}, List.Kept.{AllPairs-cons}, Grind.{common_steps}}}
use Rattle.pmf_event.specs.{declared.event.Event.TheVariants.{Fence}, declared.name.Name.{Name}, declared.profile.Profile.TheVariants.{One, Two}, Section.{Trace}}
use Rattle.pmf_verdict.specs.Checked.{checked_by}
use Rattle.pmf_ledger.{specs.Gathered.{ClashesAt, Holds, HoldsOther, IsLeastClash, IsLedgerOf}, specs.Gathering.{Begun, Gathering, Gives, IsBy, IsRefused, Joined, WithVerdict, set_of}, specs.LedgerText.{text_of_end, text_of_head, text_of_ledger}, specs.LedgerValue.{LedgerValue}, specs.Report.{text_of_counts, text_of_totals}, specs.Names.{IsBefore}, specs.Repeats.{IsLeastTwiceIn}, proofs.lemmas.AddingLemmas.{Contains-cons, Contains-cons_cases}, proofs.lemmas.GatheringLemmas.{by_one, gives_ledger}, proofs.lemmas.GivingLemmas.{gives_where_it_may}, proofs.lemmas.MergingLemmas.{none_of_empty}, proofs.lemmas.NameLemmas.{before-itself}, proofs.lemmas.RefusingLemmas.{gives_or_is_refused}, proofs.lemmas.UniqueLemmas.{Agrees-ledger, ledger_once}}

abbrev one : Name
one = record { run = 0; number = 1 }

abbrev fenced : Trace
fenced = record { name = one; events = Fence ∷ [] }

abbrev bare : Trace
bare = record { name = one; events = [] }

-- a ledger of one section
abbrev of : Trace → LedgerValue
of s = record { profile = Two; sections = checked_by Two s ∷ [] }

differ : fenced ≢ bare
differ same = let lengths = ap (λ (s : Trace). length s.events) same in omega (arith, lengths)

holds_one : (s t : Trace) → Holds (of t) s → s ≡ t
holds_one s t held = grind (arith, common_steps, Contains-cons_cases, none_of_empty)

-- one that holds a fence holds other events than none, and not others than the fence
held_otherwise : HoldsOther (of fenced) bare × (HoldsOther (of fenced) fenced → ⊥)
held_otherwise = ((fenced, (0, omega arith, refl), refl, differ), (λ other. other.3 (holds_one other.0 fenced other.1)))

-- the two clash at this name, and at no lesser one
least_clash : IsLeastClash (of fenced) (of bare) one
least_clash = (
  (fenced, bare, (0, omega arith, refl), (0, omega arith, refl), refl, refl, differ),
  (λ other clash before. before-itself one (subst (λ n. IsBefore n one) (sym clash.4 ∙ ap (λ (s : Trace). s.name) (holds_one clash.0 fenced clash.2)) before)),
)

-- a ledger clashes with itself at no name
no_clash : (name : Name) → ClashesAt (of fenced) (of fenced) name → ⊥
no_clash name clash = clash.6 (holds_one clash.0 fenced clash.2 ∙ sym (holds_one clash.1 fenced clash.3))

-- the text lines that are not rows, with a number of its own at each word
texts :
    (text_of_totals (record { sections = 5; pass = 1; fail = 2; warn = 3; empty = 4 }) ≡ codes "total sections=5 pass=1 fail=2 warn=3 empty=4\n")
    × (text_of_head (record { run = 7; number = 1 }) 20 3 ≡ codes "section 7.1 events=20 rows=3\n")
    × (text_of_end 16 ≡ codes "end verdicts=16\n")
    × (text_of_ledger (record { profile = One; sections = [] }) ≡ codes "PMFARM-LEDGER 1\nend verdicts=0\n")
unfolding digits text_of_counts text_of_totals text_of_head text_of_end
texts = (refl, refl, refl, refl)

-- ---- gatherings

abbrev second : Trace
second = record { name = record { run = 0; number = 2 }; events = [] }

-- the verdict of one section, alone
abbrev alone : Trace → Gathering
alone s = WithVerdict (Begun Two) (checked_by Two s)

-- the verdict of the later section, joined with those of both, so that one is a repeat
abbrev gathered : Gathering
gathered = Joined (alone second) (WithVerdict (alone fenced) (checked_by Two second))

abbrev both : LedgerValue
both = record { profile = Two; sections = checked_by Two fenced ∷ checked_by Two second ∷ [] }

-- both sections once, in the order of their names
is_both : IsLedgerOf Two (second ∷ second ∷ fenced ∷ []) both
is_both = grind (arith, common_steps, All-cons, AllPairs-cons, Contains-cons_cases, Contains-cons, none_of_empty)

by_two : IsBy Two gathered
unfolding IsBy
by_two = ((refl, refl), ((refl, refl), refl))

-- the gathering gives this ledger, and no other
gives_both : Gives gathered both × ((l : LedgerValue) → Gives gathered l → l ≡ both)
unfolding set_of
gives_both =
    let only : (l : LedgerValue) → Gives gathered l → l ≡ both = λ l gives.
    let of = gives_ledger gathered l gives in
    let by = by_one gathered l.profile Two of.2 by_two in
    let of_l : IsLedgerOf Two (set_of gathered) l = subst (λ p. IsLedgerOf p (set_of gathered) l) by of.0 in
    ledger_once Two (set_of gathered) (set_of gathered) l both of_l is_both (λ s. (λ has. has, λ has. has)) in
    let some = gives_where_it_may gathered Two (Agrees-ledger Two (set_of gathered) both is_both) by_two in
    (subst (Gives gathered) (only some.0 some.1) some.1, only)

-- one name with different events, and a verdict by another profile
abbrev clashing : Gathering
clashing = Joined (alone fenced) (alone bare)

abbrev mixed : Gathering
mixed = WithVerdict (Begun One) (checked_by Two fenced)

gives_none : ((l : LedgerValue) → Gives clashing l → ⊥) × ((l : LedgerValue) → Gives mixed l → ⊥)
unfolding set_of IsBy
gives_none = grind (arith, common_steps, gives_ledger, differ)

are_refused : IsRefused clashing × IsRefused mixed
are_refused = grind (arith, common_steps, gives_or_is_refused, gives_none)

-- of the names 0.2, 0.1, 0.1 and 0.2 both stand twice, and 0.1 is the least that does
least_twice : IsLeastTwiceIn (second.name ∷ one ∷ one ∷ second.name ∷ []) one
least_twice = (omega arith, (λ other twice before. grind (arith, twice, before)))
