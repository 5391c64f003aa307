-- What the loop of reading has read and handed on so far.
use Rattle.std.{proofs.Common.{◌≡◌, ℕ, ◌+◌, ◌-◌, ◌≤◌, List, ◌++◌, length, arith, length-append, Option}, specs.Io.KnownBytes.{Consumes}, proofs.KnownBytes.{Consumes-trans}}
use Rattle.pmf_stream.specs.Reading.{HasReadBytes}

-- the bytes that left the stream are those that were taken, and few enough
pub record Reading {I : Type 0} (Takes : I → List ℕ → I → Type 0) (limit : ℕ) (left rest : Option (List ℕ)) (fresh now : I) (total : ℕ) : Type 0 where
  pub bytes : List ℕ
  pub consumed : Consumes left rest bytes
  pub total_is : total ≡ length bytes
  pub few : total ≤ limit + 1
  pub taken : Takes fresh bytes now

pub Reading-more : {I : Type 0} (Takes : I → List ℕ → I → Type 0) (limit : ℕ) (left mid rest : Option (List ℕ)) (fresh before after : I) (total count : ℕ) (piece : List ℕ) →
    ((a b c : I) (xs ys : List ℕ) → Takes a xs b → Takes b ys c → Takes a (xs ++ ys) c) →
    Reading Takes limit left mid fresh before total → Consumes mid rest piece → count ≡ length piece → count ≤ limit + 1 - total → Takes before piece after →
    Reading Takes limit left rest fresh after (total + count)
Reading-more Takes limit left mid rest fresh before after total count piece more so_far consumed count_is small takes =
    let long = length-append so_far.bytes piece in
    let same = so_far.total_is in
    let bound = so_far.few in
    record {
      bytes = so_far.bytes ++ piece;
      consumed = Consumes-trans left mid rest so_far.bytes piece so_far.consumed consumed;
      total_is = omega arith;
      few = omega arith;
      taken = more fresh before after so_far.bytes piece so_far.taken takes;
    }

pub HasReadBytes-more : {I : Type 0} (Takes : I → List ℕ → I → Type 0) (limit : ℕ) (left mid rest : Option (List ℕ)) (fresh before : I) (total count : ℕ) (piece : List ℕ) →
    (so_far : Reading Takes limit left mid fresh before total) → Consumes mid rest piece → count ≡ length piece → count ≤ limit + 1 - total →
    HasReadBytes limit left rest (so_far.bytes ++ piece)
HasReadBytes-more Takes limit left mid rest fresh before total count piece so_far consumed count_is small =
    let long = length-append so_far.bytes piece in
    let same = so_far.total_is in
    let bound = so_far.few in
    record { consumed = Consumes-trans left mid rest so_far.bytes piece so_far.consumed consumed; few = omega arith }
