-- The bounds of two cover what either covers.
use Rattle.std.proofs.lemmas.Bool.Decides.{nat_tests}
use Rattle.std.proofs.{Common.{◌≡◌, Bool, true, arith, Option}, lemmas.Bool.{and_parts, and_from}}
use Rattle.pmf_shadow.specs.{declared.byte.ByteState.{ByteState}, declared.byte.Stored.{Stored}, declared.byte.bounds.Bounds.{Bounds}, States.{checked_store, stored_of}, Bounds.{covers, covers_checked, covers_mark, covers_store, joined}}

left-mark : (a b : Bounds) (out : Bool) → covers_mark a out ≡ true → covers_mark (joined a b) out ≡ true
left-mark a b out is = grind arith

left-store : (a b : Bounds) (o : Option Stored) → covers_store a o ≡ true → covers_store (joined a b) o ≡ true
left-store a b o is = grind (arith, nat_tests)

left-checked : (a b : Bounds) (o : Option Stored) → covers_checked a o ≡ true → covers_checked (joined a b) o ≡ true
left-checked a b o is = grind (arith, nat_tests)

pub joined-left : (a b : Bounds) (s : ByteState) → covers a s ≡ true → covers (joined a b) s ≡ true
joined-left a b s is =
    let parts = and_parts _ _ is in
    let of_stores = and_parts _ _ parts.1 in
    and_from _ _ (left-mark a b s.excluded parts.0) (and_from _ _ (left-store a b (stored_of s) of_stores.0) (left-checked a b (checked_store s) of_stores.1))

right-mark : (a b : Bounds) (out : Bool) → covers_mark b out ≡ true → covers_mark (joined a b) out ≡ true
right-mark a b out is = grind arith

right-store : (a b : Bounds) (o : Option Stored) → covers_store b o ≡ true → covers_store (joined a b) o ≡ true
right-store a b o is = grind (arith, nat_tests)

right-checked : (a b : Bounds) (o : Option Stored) → covers_checked b o ≡ true → covers_checked (joined a b) o ≡ true
right-checked a b o is = grind (arith, nat_tests)

pub joined-right : (a b : Bounds) (s : ByteState) → covers b s ≡ true → covers (joined a b) s ≡ true
joined-right a b s is =
    let parts = and_parts _ _ is in
    let of_stores = and_parts _ _ parts.1 in
    and_from _ _ (right-mark a b s.excluded parts.0) (and_from _ _ (right-store a b (stored_of s) of_stores.0) (right-checked a b (checked_store s) of_stores.1))
