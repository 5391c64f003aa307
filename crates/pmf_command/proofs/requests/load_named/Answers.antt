use Rattle.std.proofs.Common.{map, inl, inr}
use Rattle.pmf_command.proofs.requests.load_named.Goals as goal

pub returns-in-Err : goal.returns-in-Err
returns-in-Err g c = inl c.in-Err.ensures.unread

pub returns : goal.returns
returns g c =
    let joined = c.join_all.ensures in let read = rw (← c.deref.ensures.value) at c.in-Ok.ensures.read in inr (map (λ text. text.items) c.deref.result.now, read, (joined.0, joined.1, joined.2))
