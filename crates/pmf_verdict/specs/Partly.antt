-- What a check has walked over whose section comes one part after another. Defined here.
use Rattle.std.specs.Prelude.{◌≡◌, List, ◌++◌}
use Rattle.pmf_event.specs.{declared.event.Event.{Event}, declared.profile.Profile.{Profile}}
use Rattle.pmf_verdict.specs.{declared.checking.Checker.{Checker}, Walks.{HasWalked}}

-- the events begin with these
abbrev pub IsFrontOf : List Event → List Event → Type 0
IsFrontOf front es = (more : List Event) × (es ≡ front ++ more)

-- the check has walked over these events, by the profile
pub record HasChecked (profile : Profile) (es : List Event) (checker : Checker) : Type 0 where
  pub walked : HasWalked checker.walk es checker.walked
  pub profile_is : checker.walk.profile ≡ profile
