-- Laws of reading digit pairs.
use Rattle.std.proofs.Common.{◌≡◌, ℕ, zero, suc, ◌+◌, ◌*◌, ◌/◌, ◌%◌, ◌<◌, true, false, List, [], ◌∷◌, length, get_or, is_some, Some, None, Option, unwrap_or, sym, refl, ap, ◌∙◌, arith}
use Rattle.std.specs.Option.{option_map}
use Rattle.std.proofs.lemmas.List.{ext_get_or}
use Rattle.text.specs.Pairs.{hex_value, paired_with, unpaired}

pairs-none : (x y : Option ℕ) (bs : Option (List ℕ)) → bs ≡ None → paired_with x y bs ≡ None
pairs-none None y bs e = refl
pairs-none (Some x) None bs e = refl
pairs-none (Some x) (Some y) None e = refl
pairs-none (Some x) (Some y) (Some bs) e = absurd (let z : ◌≡◌ {A = ℕ} 0 1 = cc in omega arith)

second_none : (x y : Option ℕ) (bs : Option (List ℕ)) → y ≡ None → paired_with x y bs ≡ None
second_none None y bs e = refl
second_none (Some x) None bs e = refl
second_none (Some x) (Some y) bs e = absurd (let z : ◌≡◌ {A = ℕ} 0 1 = cc in omega arith)

first-none : (x y : Option ℕ) (bs : Option (List ℕ)) → x ≡ None → paired_with x y bs ≡ None
first-none None y bs e = refl
first-none (Some x) y bs e = absurd (let z : ◌≡◌ {A = ℕ} 0 1 = cc in omega arith)

-- an odd number of digits makes no pairs
pub odd_none : (s : List ℕ) → length s % 2 ≡ 1 → unpaired s ≡ None
odd_none [] e = absurd (omega arith)
odd_none (x ∷ []) e = refl
odd_none (x ∷ y ∷ cs) e = pairs-none (hex_value x) (hex_value y) (unpaired cs) (odd_none cs (omega arith))

-- nor do digits one of which is none
pub bad_none : (s : List ℕ) (i : ℕ) → i < length s → hex_value (get_or s i 0) ≡ None → unpaired s ≡ None
bad_none [] i h e = absurd (omega arith)
bad_none (x ∷ []) zero h e = refl
bad_none (x ∷ []) (suc i) h e = refl
bad_none (x ∷ y ∷ cs) zero h e = first-none (hex_value x) (hex_value y) (unpaired cs) e
bad_none (x ∷ y ∷ cs) (suc zero) h e = second_none (hex_value x) (hex_value y) (unpaired cs) e
bad_none (x ∷ y ∷ cs) (suc (suc i)) h e = pairs-none (hex_value x) (hex_value y) (unpaired cs) (bad_none cs i (omega arith) e)

pair_length : (x y : Option ℕ) (bs : Option (List ℕ)) (n : ℕ) → is_some x ≡ true → is_some y ≡ true → option_map length bs ≡ Some n → option_map length (paired_with x y bs) ≡ Some (suc n)
pair_length None y bs n a b e = absurd (let z : ◌≡◌ {A = ℕ} 0 1 = cc in omega arith)
pair_length (Some x) None bs n a b e = absurd (let z : ◌≡◌ {A = ℕ} 0 1 = cc in omega arith)
pair_length (Some x) (Some y) None n a b e = absurd (let z : ◌≡◌ {A = ℕ} 0 1 = cc in omega arith)
pair_length (Some x) (Some y) (Some bs) n a b e = let l : length bs ≡ n = cc in ap (λ k. Some (suc k)) l

-- every digit of s is a lower-case digit
abbrev pub Digits : List ℕ → ℕ → Type 0
Digits s n = (i : ℕ) → i < n → is_some (hex_value (get_or s i 0)) ≡ true

pub even_some : (s : List ℕ) → length s % 2 ≡ 0 → Digits s (length s) → option_map length (unpaired s) ≡ Some (length s / 2)
even_some [] e d = refl
even_some (x ∷ []) e d = absurd (omega arith)
even_some (x ∷ y ∷ cs) e d =
    let n : suc (length cs / 2) ≡ suc (suc (length cs)) / 2 = omega arith in
    pair_length (hex_value x) (hex_value y) (unpaired cs) (length cs / 2) (d 0 (omega arith)) (d 1 (omega arith)) (even_some cs (omega arith) (λ i h. d (suc (suc i)) (omega arith))) ∙ ap Some n

-- how the first two digits and the rest make a field's bytes
pub record First (x y : ℕ) (cs bs : List ℕ) : Type 0 where
  pub high : ℕ
  pub low : ℕ
  pub rest : List ℕ
  pub is_high : hex_value x ≡ Some high
  pub is_low : hex_value y ≡ Some low
  pub is_rest : unpaired cs ≡ Some rest
  pub is : bs ≡ (high * 16 + low) ∷ rest

pub first_pair : (x y : ℕ) (cs bs : List ℕ) → unpaired (x ∷ y ∷ cs) ≡ Some bs → First x y cs bs
first_pair x y cs bs e = go (hex_value x) (hex_value y) (unpaired cs) refl refl refl e
  where
    go : (p q : Option ℕ) (r : Option (List ℕ)) → hex_value x ≡ p → hex_value y ≡ q → unpaired cs ≡ r → paired_with p q r ≡ Some bs → First x y cs bs
    go None q r a b c f = absurd (let z : ◌≡◌ {A = ℕ} 0 1 = cc in omega arith)
    go (Some p) None r a b c f = absurd (let z : ◌≡◌ {A = ℕ} 0 1 = cc in omega arith)
    go (Some p) (Some q) None a b c f = absurd (let z : ◌≡◌ {A = ℕ} 0 1 = cc in omega arith)
    go (Some p) (Some q) (Some ds) a b c f = record { high = p; low = q; rest = ds; is_high = a; is_low = b; is_rest = c; is = cc }

-- the byte that the digits at j and after it make
abbrev pub byte_from : List ℕ → ℕ → ℕ
byte_from s j = unwrap_or (hex_value (get_or s j 0)) 0 * 16 + unwrap_or (hex_value (get_or s (j + 1) 0)) 0

-- the byte at i comes from the digits at 2 * i and after it
pub byte_at : (s bs : List ℕ) (i : ℕ) → unpaired s ≡ Some bs → i < length bs → get_or bs i 0 ≡ byte_from s (2 * i)
byte_at [] bs i e h = absurd (let z : [] ≡ bs = cc in omega (arith, ap length z))
byte_at (x ∷ []) bs i e h = absurd (let z : ◌≡◌ {A = ℕ} 0 1 = cc in omega arith)
byte_at (x ∷ y ∷ cs) bs zero e h =
    let f = first_pair x y cs bs e in
    ap (λ l. get_or l 0 0) f.is ∙ (λ i. unwrap_or (sym f.is_high i) 0 * 16 + unwrap_or (sym f.is_low i) 0)
byte_at (x ∷ y ∷ cs) bs (suc i) e h =
    let f = first_pair x y cs bs e in
    let two : 2 * suc i ≡ suc (suc (2 * i)) = omega arith in
    let three : 2 * suc i + 1 ≡ suc (suc (2 * i + 1)) = omega arith in
    ap (λ l. get_or l (suc i) 0) f.is ∙ byte_at cs f.rest i f.is_rest (omega (arith, ap length f.is)) ∙ (λ k. unwrap_or (hex_value (get_or (x ∷ y ∷ cs) (sym two k) 0)) 0 * 16 + unwrap_or (hex_value (get_or (x ∷ y ∷ cs) (sym three k) 0)) 0)

-- and there are twice as many digits as bytes
pub digits_twice : (s bs : List ℕ) → unpaired s ≡ Some bs → length s ≡ 2 * length bs
digits_twice [] bs e = let z : [] ≡ bs = cc in omega (arith, ap length z)
digits_twice (x ∷ []) bs e = absurd (let z : ◌≡◌ {A = ℕ} 0 1 = cc in omega arith)
digits_twice (x ∷ y ∷ cs) bs e = let f = first_pair x y cs bs e in omega (arith, ap length f.is, digits_twice cs f.rest f.is_rest)

-- a field that stands for n bytes has them
pub counted : (o : Option (List ℕ)) (n : ℕ) → option_map length o ≡ Some n → (bs : List ℕ) × (o ≡ Some bs) × (length bs ≡ n)
counted None n e = absurd (let z : ◌≡◌ {A = ℕ} 0 1 = cc in omega arith)
counted (Some bs) n e = (bs, refl, cc)

-- bytes that come from a field's digits are its bytes
pub filled : (s out : List ℕ) → option_map length (unpaired s) ≡ Some (length out) → ((k : ℕ) → k < length out → get_or out k 0 ≡ byte_from s (2 * k)) → unpaired s ≡ Some out
filled s out e h =
    let b = counted (unpaired s) (length out) e in
    b.1 ∙ ap Some (ext_get_or 0 b.0 out b.2 (λ i l. byte_at s b.0 i b.1 l ∙ sym (h i (omega (arith, b.2)))))

pub not_some : {A : Type 0} (o : Option A) → is_some o ≡ false → o ≡ None
not_some None e = refl
not_some (Some x) e = absurd (let z : ◌≡◌ {A = ℕ} 0 1 = cc in omega arith)

-- a field that stands for n bytes has 2 * n digits
pub digits_counted : (s : List ℕ) (n : ℕ) → option_map length (unpaired s) ≡ Some n → length s ≡ 2 * n
digits_counted s n e = let b = counted (unpaired s) n e in omega (arith, digits_twice s b.0 b.1, b.2)
