-- What the answer of the checks of a reading tells of their flaw.
use Rattle.std.proofs.Common.{◌≡◌, ℕ, List, replicate, Some, None, Ok, Err, Option, refl, arith}
use Rattle.interfaces.specs.declared.code.Code.{Code}
use Rattle.interfaces.specs.Checks.{done, left_in, refused_with, settled}

pub flawless : (flaw : Option Code) → Ok tt ≡ refused_with {A = Unit {0}} flaw tt → flaw ≡ None
flawless None e = refl
flawless (Some d) e = absurd (let z : ◌≡◌ {A = ℕ} 0 1 = cc in omega arith)

-- after a refusal the answer is its code and the buffer is zeros, whatever would have been read
pub refused_answer : (flaw : Option Code) (code : Code) (bs : List ℕ) → Err code ≡ refused_with {A = Unit {0}} flaw tt → Err code ≡ done (refused_with flaw bs)
refused_answer None code bs e = absurd (let z : ◌≡◌ {A = ℕ} 0 1 = cc in omega arith)
refused_answer (Some d) code bs e = e

pub refused_left : (flaw : Option Code) (code : Code) (out bs : List ℕ) (room : ℕ) → Err code ≡ refused_with {A = Unit {0}} flaw tt → settled flaw out (replicate room 0) ≡ left_in room (refused_with flaw bs)
refused_left None code out bs room e = absurd (let z : ◌≡◌ {A = ℕ} 0 1 = cc in omega arith)
refused_left (Some d) code out bs room e = refl
