-- What the floor of a world keeps, after each change of it.
use Rattle.std.proofs.{Common.{◌≡◌, ℕ, zero, suc, ◌<◌, ◌≤◌, List, [], ◌∷◌, ◌++◌, length, map, set, get_or, slice_get, refl, sym, ◌∙◌, ap, subst, Some, None, arith, replicate, length-set, length-append, rules}, lemmas.List.{get_or-map, get_or_default, map-set, length-map}, lemmas.List.Elements.{All-get_or, All-push, All-set}, lemmas.List.Sums.{sum_by-le, sum_by-set}, lemmas.Option.{get_or_from_slice_get, none-some, same_Some, slice_get-map, slice_get_within}, lemmas.Grind.{common_steps}}
use Rattle.pmf_event.specs.{declared.profile.Profile.{Profile}, Section.{Trace}}
use Rattle.pmf_verdict.specs.Checked.{Checked}
use Rattle.pmf_board.specs.{declared.entry.Entry.{Entry}, Machine.{entry_at, finished, opening, untouched}}
use Rattle.pmf_ledger.specs.Repeats.{no_section, section_at}
use Rattle.pmf_world.specs.{declared.doing.Doing.{Doing}, declared.floor.Message.{Message}, declared.floor.Worker.{Worker}, Turns.{FarmState}, Floors.{FloorValue, HasWhatItSays, IsFloor, IsSent, IsWorker, IsMessage, idle, in_hand, verdict_at, Becomes}}
use Rattle.pmf_world.specs.declared.doing.Doing.TheVariants as doing

-- the farm that a floor shows
abbrev pub shown : List Entry → List Worker → List Message → FarmState
shown board workers messages = record { board = board; workers = map (λ w. w.doing) workers; messages = map (λ m. m.section) messages }

-- a worker of the list, by what it is doing
pub worker-at : (workers : List Worker) (i : ℕ) (d : Doing) → slice_get (map (λ (w : Worker). w.doing) workers) i ≡ Some d → (w : Worker) × (slice_get workers i ≡ Some w) × (w.doing ≡ d)
worker-at workers i d is = grind (arith, common_steps, slice_get-map, none-some, same_Some)

-- a floor whose farm is changed
pub becomes : (old seen : FloorValue) (change : FarmState → FarmState) (farm : FarmState) → seen ≡ old → farm ≡ change seen.farm →
    Becomes old (change old.farm) (record { profile = seen.profile; sections = seen.sections; farm = farm })
becomes old seen change farm is same = grind (arith, common_steps)

-- what the workers are doing, where one of them does something else
pub doing_set : (workers : List Worker) (i : ℕ) (w : Worker) → map (λ (v : Worker). v.doing) (set workers i w) ≡ set (map (λ (v : Worker). v.doing) workers) i w.doing
doing_set workers i w = map-set (λ (v : Worker). v.doing) workers i w

-- farms that are alike in all parts
pub alike : (f : FarmState) (board : List Entry) (workers : List Doing) (messages : List ℕ) → board ≡ f.board → workers ≡ f.workers → messages ≡ f.messages →
    ◌≡◌ {A = FarmState} (record { board = board; workers = workers; messages = messages }) f
alike f board workers messages boards does sent = grind (arith, common_steps)

-- a worker of what the list shows is one of the list
pub worker_within : (workers : List Worker) (i : ℕ) (d : Doing) → slice_get (map (λ (w : Worker). w.doing) workers) i ≡ Some d → i < length workers
worker_within workers i d is = subst (λ n. i < n) (length-map workers (λ (w : Worker). w.doing)) (slice_get_within (map (λ (w : Worker). w.doing) workers) i d is)

-- the worker of this number is doing what the list shows
pub worker-does : (workers : List Worker) (i : ℕ) (d : Doing) (other : Worker) → slice_get (map (λ (w : Worker). w.doing) workers) i ≡ Some d → (get_or workers i other).doing ≡ d
worker-does workers i d other is = search (rules, worker-at, get_or_from_slice_get)

-- a worker does something else, and has no more hand-outs in its hand than before
pub IsFloor-worker : (profile : Profile) (sections : List Trace) (board : List Entry) (workers : List Worker) (messages : List Message) (i : ℕ) (w : Worker) → i < length workers →
    IsWorker profile sections w → in_hand w.doing ≤ in_hand (get_or workers i w).doing → IsFloor profile sections board workers messages → IsFloor profile sections board (set workers i w) messages
IsFloor-worker profile sections board workers messages i w there is fewer old = grind (arith, common_steps, sum_by-set, All-set)

-- what each worker says is so
pub is-worker : (profile : Profile) (sections : List Trace) (board : List Entry) (workers : List Worker) (messages : List Message) (i : ℕ) (d : Doing) → slice_get (map (λ (w : Worker). w.doing) workers) i ≡ Some d →
    IsFloor profile sections board workers messages → (w : Worker) × (slice_get workers i ≡ Some w) × HasWhatItSays profile sections w d
is-worker profile sections board workers messages i d is floor = search (rules, worker-at, worker_within, get_or_from_slice_get, All-get_or)

-- the section of a worker that sent its verdict is on the board
pub section_within : (profile : Profile) (sections : List Trace) (board : List Entry) (workers : List Worker) (messages : List Message) (i s : ℕ) →
    slice_get (map (λ (w : Worker). w.doing) workers) i ≡ Some (doing.HasSent s) → IsFloor profile sections board workers messages → s < length board
section_within profile sections board workers messages i s is floor = subst (λ n. s < n) (sym floor.as_many) (is-worker profile sections board workers messages i (doing.HasSent s) is floor).2

-- a worker that has a task is given its verdict
pub IsFloor-given : (profile : Profile) (sections : List Trace) (board : List Entry) (workers : List Worker) (messages : List Message) (i s : ℕ) (v : Checked) →
    slice_get (map (λ (w : Worker). w.doing) workers) i ≡ Some (doing.HasTask s) → v ≡ verdict_at profile sections s → IsFloor profile sections board workers messages →
    IsFloor profile sections board (set workers i (record { doing = doing.HasVerdict s; verdict = Some v })) messages
IsFloor-given profile sections board workers messages i s v is of floor =
    let w : Worker = record { doing = doing.HasVerdict s; verdict = Some v } in
    let had = worker-does workers i (doing.HasTask s) w is in
    IsFloor-worker profile sections board workers messages i w (worker_within workers i (doing.HasTask s) is)
    ((is-worker profile sections board workers messages i (doing.HasTask s) is floor).2, ap Some of) (omega (arith, ap in_hand had)) floor

-- so few messages that a number below 2^32 names each
pub few-messages : (profile : Profile) (sections : List Trace) (board : List Entry) (workers : List Worker) (messages : List Message) → IsFloor profile sections board workers messages → length messages ≤ 524288
few-messages profile sections board workers messages floor = omega (arith, sum_by-le (λ (e : Entry). e.handouts) 8 board floor.handed, floor.counted, floor.as_many, floor.few)

-- a message of the list was sent
pub is-sent : (profile : Profile) (sections : List Trace) (board : List Entry) (workers : List Worker) (messages : List Message) (k : ℕ) (m : Message) → slice_get messages k ≡ Some m →
    IsFloor profile sections board workers messages → IsSent profile sections (map (λ (n : Message). n.section) messages) k m.verdict
is-sent profile sections board workers messages k m at floor = search (rules, get_or_from_slice_get, All-get_or, slice_get_within, slice_get-map)

-- the worker's verdict becomes a message
pub IsFloor-posted : (profile : Profile) (sections : List Trace) (board : List Entry) (workers : List Worker) (messages : List Message) (i s : ℕ) (v : Checked) →
    slice_get (map (λ (w : Worker). w.doing) workers) i ≡ Some (doing.HasVerdict s) → v ≡ verdict_at profile sections s → IsFloor profile sections board workers messages →
    IsFloor profile sections board (set workers i (record { doing = doing.HasSent s; verdict = None })) (messages ++ record { section = s; verdict = v } ∷ [])
IsFloor-posted profile sections board workers messages i s v is of old =
    let w : Worker = record { doing = doing.HasSent s; verdict = None } in
    let m : Message = record { section = s; verdict = v } in
    let had = worker-does workers i (doing.HasVerdict s) w is in
    let there = worker_within workers i (doing.HasVerdict s) is in
    let here = (is-worker profile sections board workers messages i (doing.HasVerdict s) is old).2.0 in
    record {
      few = old.few;
      as_many = old.as_many;
      handed = old.handed;
      counted = omega (arith, sum_by-set (λ (x : Worker). in_hand x.doing) workers i w w there, ap in_hand had, length-append messages (m ∷ []), old.counted);
      workers_are = All-set (IsWorker profile sections) workers i w here old.workers_are;
      messages_are = All-push (IsMessage profile sections) messages m old.messages_are (here, of);
    }

-- an entry that was read is the one that stands there
pub entry_is : (board : List Entry) (s : ℕ) (e : Entry) → e ≡ get_or board s e → s < length board → e ≡ entry_at board s
entry_is board s e read here = read ∙ get_or_default board s e untouched here

-- the section is done, and the worker idle
pub IsFloor_marked : (profile : Profile) (sections : List Trace) (board : List Entry) (workers : List Worker) (messages : List Message) (s i : ℕ) (e : Entry) (w : Worker) → e ≡ get_or board s e → s < length board → i < length workers →
    w.doing ≡ doing.Idle → IsFloor profile sections board workers messages → IsFloor profile sections (set board s (finished e)) (set workers i w) messages
IsFloor_marked profile sections board workers messages s i e w read here there idle old =
    let total = sum_by-set (λ (x : Entry). x.handouts) board s (finished e) e here in
    let same : ◌≡◌ {A = ℕ} e.handouts (get_or board s e).handouts = ap (λ (x : Entry). x.handouts) read in
    let nothing : ◌≡◌ {A = ℕ} (in_hand w.doing) 0 = ap in_hand idle in
    let worked = IsFloor-worker profile sections board workers messages i w there (subst (HasWhatItSays profile sections w) (sym idle) tt) (omega (arith, nothing)) old in
    let few : e.handouts ≤ 8 = subst (λ (x : Entry). x.handouts ≤ 8) (sym read) (All-get_or (λ (x : Entry). x.handouts ≤ 8) board s e here old.handed) in
    record {
      few = old.few;
      as_many = length-set board s (finished e) ∙ old.as_many;
      handed = All-set (λ (x : Entry). x.handouts ≤ 8) board s (finished e) few old.handed;
      counted = omega (arith, total, same, worked.counted);
      workers_are = worked.workers_are;
      messages_are = old.messages_are;
    }

-- the worker has its verdict
pub has-verdict : (profile : Profile) (sections : List Trace) (board : List Entry) (workers : List Worker) (messages : List Message) (i s : ℕ) (w : Worker) → slice_get (map (λ (v : Worker). v.doing) workers) i ≡ Some (doing.HasVerdict s) →
    w ≡ get_or workers i w → IsFloor profile sections board workers messages → (s < length sections) × (w.verdict ≡ Some (verdict_at profile sections s))
has-verdict profile sections board workers messages i s w is read floor =
    let found = is-worker profile sections board workers messages i (doing.HasVerdict s) is floor in
    (found.2.0, ap (λ (v : Worker). v.verdict) (read ∙ get_or_from_slice_get workers i found.0 w found.1) ∙ found.2.1)

-- what the workers do that all do the same
pub doing-replicate : (n : ℕ) (w : Worker) → map (λ (v : Worker). v.doing) (replicate n w) ≡ replicate n w.doing
doing-replicate zero w = refl
doing-replicate (suc n) w = ap (λ ds. w.doing ∷ ds) (doing-replicate n w)

-- a floor on which nothing has happened
pub opened : (profile : Profile) (ss sections : List Trace) (n count : ℕ) (board : List Entry) (workers : List Worker) (messages : List Message) → ss ≡ sections → board ≡ opening n → workers ≡ replicate count idle → messages ≡ [] →
    ◌≡◌ {A = FloorValue} (record { profile = profile; sections = ss; farm = shown board workers messages })
    (record { profile = profile; sections = sections; farm = record { board = opening n; workers = replicate count doing.Idle; messages = [] } })
opened profile ss sections n count board workers messages same boards works none = grind (arith, common_steps, alike, doing-replicate)

-- a section that was read is the one of this number
pub section-is : {X : Type 0} (f : X → Trace) (xs : List X) (s : ℕ) (x : X) → x ≡ get_or xs s x → s < length xs → f x ≡ section_at (map f xs) s
section-is f xs s x read here = ap f read ∙ sym (get_or-map f xs s x no_section here)
