-- The padded message: its last block, and its length.
use Rattle.std.proofs.Common.{◌≡◌, ℕ, suc, ◌+◌, ◌-◌, ◌/◌, ◌%◌, ◌<◌, List, [], ◌∷◌, ◌++◌, length, drop, set, replicate, sym, refl, ap, ◌∙◌, inl, inr, arith}
use Rattle.std.proofs.lemmas.List.{append_assoc, length-append, length-replicate, drop-replicate, replicate_more, get_or_at, set_at}
use Rattle.std.proofs.lemmas.Bool.{eq-eqb, ne_eqb, cond-true, cond-false, cases_eq}
use Rattle.sha3.specs.Sha3.{padding, ended, pad}

padding_full : (n : ℕ) → n % 136 ≡ 135 → padding n ≡ 0x86 ∷ []
unfolding padding
padding_full n e = cond-true _ _ _ (eq-eqb (n % 136) 135 e)

padding-short : (n k : ℕ) → n % 136 + k ≡ 134 → padding n ≡ 0x06 ∷ (replicate k 0 ++ (0x80 ∷ []))
unfolding padding
padding-short n k e =
    let zeros : 134 - n % 136 ≡ k = omega arith in
    cond-false _ _ _ (ne_eqb (n % 136) 135 (λ h. omega arith)) ∙ rw zeros

-- The last byte of the padding, in a block that the suffix fills.
ended_full : (rest : List ℕ) → length rest ≡ 135 → ended (rest ++ (0x06 ∷ [])) ≡ rest ++ (0x86 ∷ [])
ended_full rest e = rw (get_or_at rest 0x06 [] 0 135 e) (set_at rest 0x06 [] 0x86 135 e)

-- And in any other.
ended-short : (rest : List ℕ) (k : ℕ) → length rest + k ≡ 134 → ended (rest ++ (0x06 ∷ replicate (k + 1) 0)) ≡ rest ++ (0x06 ∷ (replicate k 0 ++ (0x80 ∷ [])))
ended-short rest k e =
    let front = rest ++ (0x06 ∷ replicate k 0) in
    let long : length front ≡ 135 = length-append rest (0x06 ∷ replicate k 0) ∙ omega (arith, length-replicate {A = ℕ} k 0) in
    let whole : rest ++ (0x06 ∷ replicate (k + 1) 0) ≡ front ++ (0 ∷ []) =
    ap (λ zs. rest ++ (0x06 ∷ zs)) (sym (replicate_more k 0)) ∙ sym (append_assoc rest (0x06 ∷ replicate k 0) (0 ∷ [])) in
    rw (whole, get_or_at front 0 [] 0 135 long)
    (set_at front 0 [] 0x80 135 long ∙ append_assoc rest (0x06 ∷ replicate k 0) (0x80 ∷ []))

-- The zeros behind the rest, with the suffix written over the first of them.
suffixed : (rest : List ℕ) (k : ℕ) → length rest + k ≡ 135 → set (rest ++ drop (length rest) (replicate 136 0)) (length rest) 0x06 ≡ rest ++ (0x06 ∷ replicate k 0)
suffixed rest k e =
    let zeros : 136 - length rest ≡ suc k = omega arith in
    rw (drop-replicate {X = ℕ} (length rest) 136 0, zeros) (set_at rest 0 (replicate k 0) 0x06 (length rest) refl)

pub last_block : (rest front : List ℕ) → length rest < 136 → front ≡ rest → ended (set (front ++ drop (length rest) (replicate 136 0)) (length rest) 0x06) ≡ pad rest
unfolding pad
last_block rest front short same =
    elim (cases_eq (length rest) 135) [
      | inl e ↦
          let all = padding_full (length rest) (omega arith) in
          rw (same, suffixed rest 0 (omega arith), all) (ended_full rest e)
      | inr ne ↦
          let k = 134 - length rest in
          let one : length rest + (k + 1) ≡ 135 = omega (arith, ne) in
          let all = padding-short (length rest) k (omega (arith, ne)) in
          rw (same, suffixed rest (k + 1) one, all) (ended-short rest k (omega arith))
    ]

length-padding : (n : ℕ) → length (padding n) ≡ 136 - n % 136
length-padding n =
    elim (cases_eq (n % 136) 135) [
      | inl e ↦ ap length (padding_full n e) ∙ omega arith
      | inr ne ↦
          let k = 134 - n % 136 in
          let zeros : length {A = ℕ} (replicate k 0 ++ (0x80 ∷ [])) ≡ k + 1 =
          length-append (replicate k 0) (0x80 ∷ []) ∙ rw (length-replicate {A = ℕ} k 0) in
          ap length (padding-short n k (omega (arith, ne))) ∙ omega (arith, zeros, ne)
    ]

pub blocks_pad : (m : List ℕ) → length (pad m) / 136 ≡ length m / 136 + 1
unfolding pad
blocks_pad m = omega (arith, length-append m (padding (length m)), length-padding (length m))

pub same-padding : (n k : ℕ) → n % 136 ≡ k % 136 → padding n ≡ padding k
unfolding padding
same-padding n k e = rw e
