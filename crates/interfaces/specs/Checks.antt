-- Checks in their order, and what a refusal leaves.
use Rattle.std.specs.Prelude.{ℕ, ◌-◌, ◌<◌, Bool, cond, List, ◌++◌, length, replicate, Some, None, Ok, Err, Option, Result, ◌==◌, nat_le}
use Rattle.std.specs.List.{AllByRecursion}
use Rattle.interfaces.specs.declared.code.Code.{Code}
use Rattle.interfaces.specs.declared.code.Code.TheVariants.{Size}

-- A byte string.
abbrev pub Bytes : List ℕ → Type 0
Bytes bs = AllByRecursion (λ b. b < 256) bs

-- The first refusal of two checks, in their order.
abbrev pub first : {A : Type 0} → Option A → Option A → Option A
first (Some c) later = Some c
first None later = later

-- A check: it passes, or refuses with its code.
abbrev pub unless : Bool → Code → Option Code
unless passes c = cond passes None (Some c)

-- The answer of a call, unless it is refused.
abbrev pub refused_with : {A : Type 0} → Option Code → A → Result A Code
refused_with None a = Ok a
refused_with (Some c) a = Err c

-- What something is after a call that may change it: a refusal leaves it as it was.
abbrev pub settled : {A : Type 0} → Option Code → A → A → A
settled None after before = after
settled (Some c) after before = before

-- Bytes that are to be written into a buffer of `room` bytes.
abbrev pub fitting : List ℕ → ℕ → Result (List ℕ) Code
fitting bs room = refused_with (unless (nat_le (length bs) room) Size) bs

-- The check of a buffer of `room` bytes that should have n.
abbrev pub length_flaw : ℕ → ℕ → Option Code
length_flaw n room = unless (room == n) Size

-- Bytes that should have a length.
abbrev pub of_length : ℕ → List ℕ → Result (List ℕ) Code
of_length n bs = refused_with (unless (length bs == n) Size) bs

-- What an answer of bytes means to a caller who reads only its length, or only that it came.
abbrev pub counted : Result (List ℕ) Code → Result ℕ Code
counted (Ok bs) = Ok (length bs)
counted (Err c) = Err c

abbrev pub done : Result (List ℕ) Code → Result (Unit {0}) Code
done (Ok bs) = Ok tt
done (Err c) = Err c

-- What a buffer of `room` bytes holds after such an answer: the bytes, then zeros; after a refusal
-- only zeros.
abbrev pub left_in : ℕ → Result (List ℕ) Code → List ℕ
left_in room (Ok bs) = bs ++ replicate (room - length bs) 0
left_in room (Err c) = replicate room 0

-- What an answer means, where its value means something.
abbrev pub meant : {A B E : Type 0} → (A → B) → Result A E → Result B E
meant f (Ok a) = Ok (f a)
meant f (Err e) = Err e
