-- Maps whose neighbouring runs differ, by their roots.
use Rattle.std.proofs.Common.{arith, ◌≡◌, refl, None, Some}
use Rattle.pmf_runs.{specs.declared.flagged.Flagged.{Flagged}, specs.declared.group.Group.{Group}, specs.declared.page.Page.{Page}, specs.declared.level.Level.{Level}, specs.declared.runs.RunMap.{RunMap}, specs.declared.state.State.{Ghosts}, specs.Joined.{Joined, AllJoined, JoinedBut}, specs.Flags.{FlaggedJoined}, specs.Pages.{pages_joined}, specs.Runs.{root_joined, IsJoined}, proofs.JoinedLemmas.{joined-plain, plain-joined}, proofs.JoinedLevelLemmas.{parts-all, all-parts-joined}}

some-same : {X : Type 0} (x y : X) → Some x ≡ Some y → x ≡ y
some-same x y is = cc is

module _ {S M : Type 0} {laws : Ghosts S M} where
  pages-plain : (level : Level (Flagged (Page S M laws))) → pages_joined level None None → AllJoined (λ page. Joined page.part.leaf) level
  pages-plain level whole = parts-all (FlaggedJoined (λ page. JoinedBut page.leaf)) (λ page. Joined page.part.leaf) level (λ page joined. joined-plain page.part.leaf joined.but) whole

  plain-pages : (level : Level (Flagged (Page S M laws))) → AllJoined (λ page. Joined page.part.leaf) level → pages_joined level None None
  plain-pages level all = all-parts-joined (FlaggedJoined (λ page. JoinedBut page.leaf)) (λ page. Joined page.part.leaf) level (λ page joined. record { but = plain-joined page.part.leaf joined; none = λ is. (refl, refl) }) all

  groups-plain : (level : Level (Flagged (Group S M laws))) → root_joined level None None → AllJoined (λ group. AllJoined (λ page. Joined page.part.leaf) group.part.level) level
  groups-plain level whole = parts-all (FlaggedJoined (λ group. pages_joined group.level)) (λ group. AllJoined (λ page. Joined page.part.leaf) group.part.level) level (λ group joined. pages-plain group.part.level joined.but) whole

  plain-groups : (level : Level (Flagged (Group S M laws))) → AllJoined (λ group. AllJoined (λ page. Joined page.part.leaf) group.part.level) level → root_joined level None None
  plain-groups level all = all-parts-joined (FlaggedJoined (λ group. pages_joined group.level)) (λ group. AllJoined (λ page. Joined page.part.leaf) group.part.level) level (λ group all. record { but = plain-pages group.part.level all; none = λ is. (refl, refl) }) all

  pub joined-root : (runs : RunMap S M laws) (root : Level (Flagged (Group S M laws))) → runs.root ≡ Some root → root_joined root None None → IsJoined runs
  joined-root runs root is whole = grind (arith, some-same, groups-plain)

  pub root-joined : (runs : RunMap S M laws) (root : Level (Flagged (Group S M laws))) → runs.root ≡ Some root → IsJoined runs → root_joined root None None
  root-joined runs root is joined = plain-groups root (joined.leaves root is)
