-- What it means that a line's fields were read, one by one.
use Rattle.std.proofs.Common.{◌≡◌, ℕ, ◌/◌, ◌%◌, ◌<◌, Bool, true, false, cond, eqb, List, [], ◌∷◌, length, get_or, Some, None, Option, sym, refl, ap, ◌∙◌, arith}
use Rattle.std.specs.Str.{bytes_eq}
use Rattle.std.proofs.lemmas.Slice.Eq.{bytes_eq-Decides}
use Rattle.std.proofs.lemmas.Bool.{eqb-true}
use Rattle.text.specs.Pairs.{of_length}
use Rattle.interfaces.specs.Checks.{Bytes}
use Rattle.policy.specs.Lines.{be4}
use Rattle.policy.specs.Reading.{thence, none, one, two, three, four, of4}

-- where something came of a value, there was one
pub thence_from : {A B : Type 0} (o : Option A) (f : A → Option B) (y : B) → thence o f ≡ Some y → (x : A) × (o ≡ Some x) × (f x ≡ Some y)
thence_from None f y e = absurd (let z : ◌≡◌ {A = ℕ} 0 1 = cc in omega arith)
thence_from (Some x) f y e = (x, refl, e)

-- a word is the one that is tested here, or is read by what comes later
pub word_from : {A : Type 0} {P : Type 0} (w v : List ℕ) (x y : Option A) (a : A) → (w ≡ v → x ≡ Some a → P) → (y ≡ Some a → P) → cond (bytes_eq w v) x y ≡ Some a → P
word_from {P} w v x y a here later e = go (bytes_eq w v) refl e
  where
    go : (b : Bool) → bytes_eq w v ≡ b → cond b x y ≡ Some a → P
    go true t f = here ((bytes_eq-Decides w v).0 t) f
    go false t f = later f

-- the same result holds the same value
pub some_from : {A : Type 0} (x y : A) → Some x ≡ Some y → x ≡ y
some_from x y e = cc

-- there are exactly so many fields
pub none_from : (fs : List (List ℕ)) (u : Unit {0}) → none fs ≡ Some u → fs ≡ []
none_from [] u e = refl
none_from (a ∷ fs) u e = absurd (let z : ◌≡◌ {A = ℕ} 0 1 = cc in omega arith)

pub one_from : (fs : List (List ℕ)) (p : List ℕ) → one fs ≡ Some p → fs ≡ p ∷ []
one_from [] p e = absurd (let z : ◌≡◌ {A = ℕ} 0 1 = cc in omega arith)
one_from (a ∷ fs) p e =
    let q = thence_from (none fs) _ p e in
    cc (none_from fs q.0 q.1, q.2)

pub two_from : (fs : List (List ℕ)) (p : List ℕ × List ℕ) → two fs ≡ Some p → fs ≡ p.0 ∷ p.1 ∷ []
two_from [] p e = absurd (let z : ◌≡◌ {A = ℕ} 0 1 = cc in omega arith)
two_from (a ∷ fs) p e =
    let q = thence_from (one fs) _ p e in
    ap (λ l. a ∷ l) (one_from fs q.0 q.1) ∙ ap (λ (r : List ℕ × List ℕ). r.0 ∷ r.1 ∷ []) (some_from _ p q.2)

pub three_from : (fs : List (List ℕ)) (p : List ℕ × List ℕ × List ℕ) → three fs ≡ Some p → fs ≡ p.0 ∷ p.1 ∷ p.2 ∷ []
three_from [] p e = absurd (let z : ◌≡◌ {A = ℕ} 0 1 = cc in omega arith)
three_from (a ∷ fs) p e =
    let q = thence_from (two fs) _ p e in
    ap (λ l. a ∷ l) (two_from fs q.0 q.1) ∙ ap (λ (r : List ℕ × List ℕ × List ℕ). r.0 ∷ r.1 ∷ r.2 ∷ []) (some_from _ p q.2)

pub four_from : (fs : List (List ℕ)) (p : List ℕ × List ℕ × List ℕ × List ℕ) → four fs ≡ Some p → fs ≡ p.0 ∷ p.1 ∷ p.2 ∷ p.3 ∷ []
four_from [] p e = absurd (let z : ◌≡◌ {A = ℕ} 0 1 = cc in omega arith)
four_from (a ∷ fs) p e =
    let q = thence_from (three fs) _ p e in
    ap (λ l. a ∷ l) (three_from fs q.0 q.1) ∙ ap (λ (r : List ℕ × List ℕ × List ℕ × List ℕ). r.0 ∷ r.1 ∷ r.2 ∷ r.3 ∷ []) (some_from _ p q.2)

-- bytes that pass for their length have it
pub length_from : (n : ℕ) (o : Option (List ℕ)) (bs : List ℕ) → of_length n o ≡ Some bs → (o ≡ Some bs) × (length bs ≡ n)
length_from n None bs e = absurd (let z : ◌≡◌ {A = ℕ} 0 1 = cc in omega arith)
length_from n (Some cs) bs e = go (eqb (length cs) n) refl e
  where
    go : (b : Bool) → eqb (length cs) n ≡ b → cond b (Some cs) None ≡ Some bs → (Some cs ≡ Some bs) × (length bs ≡ n)
    go true t f = let same : cs ≡ bs = cc in (f, ap length (sym same) ∙ eqb-true (length cs) n t)
    go false t f = absurd (let z : ◌≡◌ {A = ℕ} 0 1 = cc in omega arith)

-- a list of one element is that element
pub single : (s : List ℕ) → length s ≡ 1 → get_or s 0 0 ∷ [] ≡ s
single [] l = absurd (omega arith)
single (a ∷ []) l = refl
single (a ∷ b ∷ s) l = absurd (omega arith)

-- the four bytes of a number make it again
pub of4-be4 : (n : ℕ) → n < 4294967296 → of4 (be4 n) ≡ n
of4-be4 n h = omega arith

-- the number of four bytes has them again
pub be4-of4 : (s : List ℕ) → length s ≡ 4 → Bytes s → (be4 (of4 s) ≡ s) × (of4 s < 4294967296)
be4-of4 [] l h = absurd (omega arith)
be4-of4 (a ∷ []) l h = absurd (omega arith)
be4-of4 (a ∷ b ∷ []) l h = absurd (omega arith)
be4-of4 (a ∷ b ∷ c ∷ []) l h = absurd (omega arith)
be4-of4 (a ∷ b ∷ c ∷ d ∷ []) l h =
    let n = of4 (a ∷ b ∷ c ∷ d ∷ []) in
    let is_a : n / 65536 / 256 % 256 ≡ a = omega arith in
    let is_b : n / 65536 % 256 ≡ b = omega arith in
    let is_c : n % 65536 / 256 % 256 ≡ c = omega arith in
    let is_d : n % 65536 % 256 ≡ d = omega arith in
    (cc, omega arith)
be4-of4 (a ∷ b ∷ c ∷ d ∷ e ∷ s) l h = absurd (omega arith)
