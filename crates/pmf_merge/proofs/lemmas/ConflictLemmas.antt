-- A section that is not told is a conflict, and the least one.
use Rattle.std.proofs.{Common.{◌≡◌, ℕ, suc, ◌<◌, List, [], ◌∷◌, ◌++◌, length, get_or, flat_map, Option, Some, None, Contains, refl, sym, ap, subst, arith, inl, inr}, lemmas.List.Elements.{Contains-push}}
use Rattle.pmf_event.specs.{declared.name.Name.{Name}, declared.profile.Profile.{Profile}, Section.{Trace}}
use Rattle.pmf_verdict.specs.Checked.{Checked, checked_by}
use Rattle.pmf_ledger.{specs.{Loading.{Reading}, Names.{IsBefore}}, proofs.lemmas.{NameLemmas.{before-itself, before-trans}, StandingLemmas.{held-once}}}
use Rattle.pmf_merge.{specs.{Heads.{IsLast, IsLeast, IsMerging, IsUpTo}, Merging.{AgreeBefore, AreRead, AreReadUpTo, IsMergeFaultOf, Reaches, blocks_in}, Refusing.{IsTellFault}, declared.feed.Feed.{Feed}, declared.fault.MergeFault.{MergeFault}}, proofs.lemmas.{OverLemmas.{all_read, in_each, list_of, of_each}, RefusalLemmas.{is_read, read_as}}}
use Rattle.pmf_merge.specs.declared.fault.MergeFault.TheVariants as fault

each_up_to : (name : Name) (starts : List (Option (List ℕ))) (f : ℕ → List ℕ) → ((i : ℕ) → i < length starts → AreRead (get_or starts i None) (f i) × Reaches (get_or starts i None) (f i) name) →
    AreReadUpTo name starts (list_of f (length starts))
each_up_to name [] f each = tt
each_up_to name (start ∷ starts) f each =
    let first = each 0 (omega arith) in (first.0, first.1, each_up_to name starts (λ j. f (suc j)) (λ i below. each (suc i) (omega (arith, below))))

not_before : (a b : Name) → IsUpTo a b → IsBefore b a → ⊥
not_before a b (inl same) before = before-itself b (subst (IsBefore b) same before)
not_before a b (inr less) before = before-itself b (before-trans b a b before less)

module _ (starts lefts : List (Option (List ℕ))) (feeds : List Feed) (heads : List (Option Checked)) (profile : Profile) (out : List Checked)
    (m : IsMerging (length starts) starts lefts feeds heads profile out) (index : ℕ) (v : Checked) (least : IsLeast heads index v) where
  abbrev read : List (List ℕ)
  read = list_of m.texts (length starts)

  blocks_are : (i : ℕ) → i < length starts → blocks_in (m.texts i) ≡ (m.readings i).blocks
  blocks_are i below = ap (λ (r : Reading). r.blocks) (read_as (length starts) starts lefts feeds heads profile out m i below)

  reaches : (i : ℕ) → i < length starts → Reaches (get_or starts i None) (m.texts i) v.section.name
  reaches i below = by_head (get_or heads i None) refl
    where
      by_head : (head : Option Checked) → get_or heads i None ≡ head → Reaches (get_or starts i None) (m.texts i) v.section.name
      by_head None none = let it = m.over i below none in inl (all_read (get_or starts i None) (get_or lefts i None) (m.texts i) it.whole it.ended, it.faultless)
      by_head (Some w) some = inr (w.section, subst (λ ss. Contains ss w.section) (sym (blocks_are i below)) (m.head i w below some).0, least.1 i w some)

  up_to_it : AreReadUpTo v.section.name starts read
  up_to_it = each_up_to v.section.name starts m.texts (λ i below. (is_read (length starts) starts lefts feeds heads profile out m i below, reaches i below))

  has : (i : ℕ) (s : Trace) → i < length starts → Contains (m.readings i).blocks s → Contains (flat_map blocks_in read) s
  has i s below found = of_each blocks_in m.texts (length starts) i s below (subst (λ ss. Contains ss s) (sym (blocks_are i below)) found)

  -- what was read and comes before it was told
  told_before : (s : Trace) → Contains (flat_map blocks_in read) s → IsBefore s.name v.section.name → Contains out (checked_by profile s)
  told_before s found before =
      let origin = in_each blocks_in m.texts (length starts) s found in
      elim (m.told origin.0 s origin.1 (subst (λ ss. Contains ss s) (blocks_are origin.0 origin.1) origin.2)) [
        | inl done ↦ done
        | inr waits ↦ absurd (not_before v.section.name s.name (least.1 origin.0 (checked_by profile s) waits) before)
      ]

  agree : AgreeBefore v.section.name (flat_map blocks_in read)
  agree s t has_s has_t same before =
      let one = held-once out m.rises (checked_by profile s) (checked_by profile t) (told_before s has_s before) (told_before t has_t (subst (λ n. IsBefore n v.section.name) same before)) same in
      ap (λ (c : Checked). c.section) one

  pub of_tell : (last : Option Checked) (found : MergeFault) → index < length starts → IsLast out last → IsTellFault last v found → IsMergeFaultOf starts found
  of_tell last (fault.Read of) below is refuses = absurd refuses
  of_tell last (fault.Text of found) below is refuses = absurd refuses
  of_tell last (fault.ProfileMismatch of) below is refuses = absurd refuses
  of_tell last (fault.Conflict name) below is (l, some, l_named, v_named, differ) =
      let at_end : (before : List Checked) × (out ≡ before ++ l ∷ []) = subst (IsLast out) some is in
      let origin = m.from l (subst (λ cs. Contains cs l) (sym at_end.1) (Contains-push at_end.0 l)) in
      record {
        read = read;
        are_read = subst (λ n. AreReadUpTo n starts read) v_named up_to_it;
        s = l.section;
        t = v.section;
        has_s = has origin.0 l.section origin.1 origin.2;
        has_t = has index v.section below (m.head index v below least.0).0;
        s_named = l_named;
        t_named = v_named;
        differ = differ;
        least = subst (λ n. AgreeBefore n (flat_map blocks_in read)) v_named agree;
      }
  of_tell last (fault.Write written) below is refuses = tt
  of_tell last fault.OutOfMemory below is refuses = tt
