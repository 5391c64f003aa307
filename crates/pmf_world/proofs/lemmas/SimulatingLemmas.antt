-- From a log and a schedule to the text of the simulation.
use Rattle.std.proofs.{Common.{◌≡◌, ◌≤◌, ◌<◌, ℕ, suc, ◌^◌, List, [], ◌∷◌, ◌++◌, length, take, subst, arith, Result, Ok, Err}, lemmas.List.{length-replicate}, lemmas.List.Splits.{length-slice_split}, lemmas.List.Sums.{count_by-le-length}, lemmas.Grind.{common_steps}}
use Rattle.pmf_event.specs.{declared.profile.Profile.TheVariants.{One}, Section.{Trace}}
use Rattle.pmf_storelog.specs.{LogText.{log_of}, LogValue.{LogValue}}
use Rattle.pmf_ledger.{specs.Repeats.{StandsTwice}, proofs.lemmas.OwnNamesLemmas.{own_names, few_sections}}
use Rattle.pmf_world.{specs.declared.fault.WorldNewFault.{WorldNewFault}, specs.declared.step.WorldStep.{WorldStep}, specs.Opening.{IsMade, IsNotMade, IsOpening}, specs.Worlds.{WorldValue}, specs.Lines.{text_of_ledgers}, specs.Playing.{PlaysAll}, specs.Schedule.{line_before, steps_of_lines, schedule_of}, specs.Simulation.{IsNumbersFault, IsSchedule, IsSimulation}, proofs.lemmas.LedgersLemmas.{after-sets}}
use Rattle.pmf_world.specs.declared.fault.WorldNewFault.TheVariants as new

-- what the rest tells is at most so many steps
abbrev AtMost : ℕ → Result (List WorldStep) ℕ → Type 0
AtMost k (Ok steps) = length steps ≤ k
AtMost k (Err n) = Unit {0}

more : (k : ℕ) (rest : Result (List WorldStep) ℕ) → AtMost k rest → AtMost (suc k) rest
more k rest most = grind (arith, common_steps)

line-most : (n k : ℕ) (text : List ℕ) (rest : Result (List WorldStep) ℕ) → AtMost k rest → AtMost (suc k) (line_before n text rest)
line-most n k text rest most = grind (arith, common_steps, more)

lines-most : (n : ℕ) (texts : List (List ℕ)) → AtMost (length texts) (steps_of_lines n texts)
unfolding steps_of_lines
lines-most n [] = omega arith
lines-most n (text ∷ texts) = line-most n (length texts) text (steps_of_lines (suc n) texts) (lines-most (suc n) texts)

-- a schedule has few steps
pub few_steps : (schedule : List ℕ) (steps : List WorldStep) → IsSchedule schedule steps → length steps < 2 ^ 32
unfolding schedule_of
few_steps schedule steps is = grind (arith, common_steps, length-slice_split, count_by-le-length, lines-most)

-- of a log a world refuses the numbers alone
pub refuses_numbers : (bytes : List ℕ) (log : LogValue) (sections : List Trace) (workers ledgers : ℕ) (f : WorldNewFault) → log_of 0 bytes ≡ Ok log → sections ≡ log.sections →
    IsNotMade sections workers ledgers f → IsNumbersFault workers ledgers f
refuses_numbers bytes log sections workers ledgers new.NoWorkers is same refused = refused
refuses_numbers bytes log sections workers ledgers new.TooManyWorkers is same refused = refused
refuses_numbers bytes log sections workers ledgers new.TooManySections is same refused = grind (arith, common_steps, few_sections)
refuses_numbers bytes log sections workers ledgers (new.TwiceNamed name) is same refused = own_names 0 bytes log is name (subst (λ ss. StandsTwice ss name) same refused.2.0)
refuses_numbers bytes log sections workers ledgers new.TooManyLedgers is same refused = (refused.0, refused.3)
refuses_numbers bytes log sections workers ledgers new.OutOfMemory is same refused = refused.0

pub simulated : (bytes schedule : List ℕ) (workers ledgers : ℕ) (steps : List WorldStep) (log : LogValue) (sections : List Trace) (opened world : WorldValue) (lines text : List ℕ) →
    IsSchedule schedule steps → log_of 0 bytes ≡ Ok log → sections ≡ log.sections →
    IsOpening One sections workers ledgers opened → IsMade sections workers ledgers → PlaysAll opened steps world lines →
    text ≡ lines ++ text_of_ledgers 0 (take ledgers world.ledgers) → IsSimulation bytes schedule workers ledgers text
simulated bytes schedule workers ledgers steps log sections opened world lines text scheduled faultless same opening made played is = grind (arith, common_steps, after-sets, length-replicate)
