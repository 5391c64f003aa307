-- The different ones of some names, in the order in which they first stand, with one name more.
use Rattle.std.{proofs.Common.{◌≡◌, ℕ, zero, suc, ◌<◌, ◌≤◌, Bool, true, false, cond, List, [], ◌∷◌, ◌++◌, length, take, refl, sym, ap, subst, ◌∙◌, arith, length-append, length-take, take_all, not, ◌||◌, filter, bytes_eq, append-nil}, specs.List.{list_any}, proofs.lemmas.Slice.Eq.{bytes_eq-Decides}, proofs.lemmas.List.{take-append-le}, proofs.lemmas.List.Elements.{filter-append}, proofs.lemmas.Grind.{common_steps}}
use Rattle.pmf_lint.specs.{declared.naming.TheConstants.{LISTED}, Naming.{first_names, is_among}}

-- whether it is another name than this one
abbrev pub is_other : List ℕ → List ℕ → Bool
is_other name other = not (bytes_eq name other)

-- these names, and the name where it is none of them
abbrev pub with_one_more : List (List ℕ) → List ℕ → List (List ℕ)
with_one_more firsts name = cond (is_among firsts name) firsts (firsts ++ name ∷ [])

-- ---- what is among the names that are left when one is taken out

any_left : (test : List ℕ → Bool) (out : Bool) (n : List ℕ) (left names : List (List ℕ)) → (out ≡ true → test n ≡ false) → list_any test left ≡ list_any test names →
    list_any test (cond (not out) (n ∷ left) left) ≡ (test n || list_any test names)
any_left test out n left names none rest = grind (arith, common_steps)

same_test : (name n other : List ℕ) → bytes_eq name other ≡ false → bytes_eq name n ≡ true → bytes_eq n other ≡ false
same_test name n other apart same = subst (λ (m : List ℕ). bytes_eq m other ≡ false) ((bytes_eq-Decides name n).0 same) apart

pub among_others : (name other : List ℕ) → bytes_eq name other ≡ false → (names : List (List ℕ)) → is_among (filter (is_other name) names) other ≡ is_among names other
unfolding is_among
among_others name other apart [] = refl
among_others name other apart (n ∷ names) = grind (arith, common_steps, any_left, same_test, among_others name other apart names)

-- ---- one name more

filter_more : (name : List ℕ) (firsts : List (List ℕ)) (last : List ℕ) (among same : Bool) → bytes_eq name last ≡ same →
    filter (is_other name) (cond among firsts (firsts ++ last ∷ [])) ≡ cond (among || same) (filter (is_other name) firsts) (filter (is_other name) firsts ++ last ∷ [])
filter_more name firsts last among same is = grind (arith, common_steps, filter-append, append-nil)

push_so : (name last : List ℕ) (firsts : List (List ℕ)) → name ∷ filter (is_other name) (with_one_more firsts last) ≡ with_one_more (name ∷ filter (is_other name) firsts) last
unfolding is_among
push_so name last firsts = grind (arith, common_steps, filter_more, among_others)

pub first_names-push : (names : List (List ℕ)) (name : List ℕ) → first_names (names ++ name ∷ []) ≡ with_one_more (first_names names) name
unfolding first_names is_among
first_names-push [] name = refl
first_names-push (n ∷ names) name = ap (λ (ns : List (List ℕ)). n ∷ filter (is_other n) ns) (first_names-push names name) ∙ push_so n name (first_names names)

-- ---- the first so many of them

or_so : (a b c : Bool) → (b ≡ true → c ≡ true) → (a || b) ≡ true → (a || c) ≡ true
or_so a b c so is = grind (arith, common_steps)

among_first : (n : ℕ) (names : List (List ℕ)) (name : List ℕ) → is_among (take n names) name ≡ true → is_among names name ≡ true
unfolding is_among
among_first zero names name none = cc
among_first (suc n) [] name none = none
among_first (suc n) (m ∷ names) name is =
    or_so (bytes_eq m name) (list_any (λ other. bytes_eq other name) (take n names)) (list_any (λ other. bytes_eq other name) names) (among_first n names name) is

-- a name that is listed
pub first_again : (listed names : List (List ℕ)) (name : List ℕ) → listed ≡ take LISTED (first_names names) → is_among listed name ≡ true → listed ≡ take LISTED (first_names (names ++ name ∷ []))
first_again listed names name are among =
    let is : is_among (first_names names) name ≡ true = among_first LISTED (first_names names) name (subst (λ (ns : List (List ℕ)). is_among ns name ≡ true) are among) in
    are ∙ ap (take LISTED) (sym (first_names-push names name ∙ ap (λ b. cond b (first_names names) (first_names names ++ name ∷ [])) is))

-- all of them, where there is room
pub all_first : (listed names : List (List ℕ)) → listed ≡ take LISTED (first_names names) → length listed < LISTED → listed ≡ first_names names
all_first listed names are room = are ∙ take_all LISTED (first_names names) (omega (arith, ap length are, length-take LISTED (first_names names)))

-- a name that is listed now
pub first_new : (listed names : List (List ℕ)) (name : List ℕ) → listed ≡ take LISTED (first_names names) → is_among listed name ≡ false → length listed < LISTED →
    listed ++ name ∷ [] ≡ take LISTED (first_names (names ++ name ∷ []))
first_new listed names name are apart room =
    let all = all_first listed names are room in
    let more : listed ++ name ∷ [] ≡ first_names (names ++ name ∷ []) =
    ap (λ (ns : List (List ℕ)). ns ++ name ∷ []) all
    ∙ sym (first_names-push names name ∙ ap (λ b. cond b (first_names names) (first_names names ++ name ∷ [])) (subst (λ (ns : List (List ℕ)). is_among ns name ≡ false) all apart)) in
    more ∙ sym (take_all LISTED (first_names (names ++ name ∷ [])) (omega (arith, ap length more, length-append listed (name ∷ []))))

take_full : (among : Bool) (n : ℕ) (firsts : List (List ℕ)) (name : List ℕ) → n ≤ length firsts → take n (cond among firsts (firsts ++ name ∷ [])) ≡ take n firsts
take_full among n firsts name full = grind (arith, common_steps, take-append-le)

-- a name that is not, since the list is full
pub first_full : (listed names : List (List ℕ)) (name : List ℕ) → listed ≡ take LISTED (first_names names) → LISTED ≤ length listed → listed ≡ take LISTED (first_names (names ++ name ∷ []))
first_full listed names name are full =
    are ∙ sym (ap (take LISTED) (first_names-push names name)
    ∙ take_full (is_among (first_names names) name) LISTED (first_names names) name (omega (arith, ap length are, length-take LISTED (first_names names))))
